use Rattle.std.proofs.Common.{◌≡◌, ℕ, ◌+◌, ◌-◌, ◌<◌, List, length, take, drop, unwrap_or, MatchOption, Some, None, Option, sym, ap, ◌∙◌, arith, rules, tests, length-take}
use Rattle.std.specs.List.{AllWithin, HoldsAt}
use Rattle.std.proofs.lemmas.List.{get_or-drop, get_or-take}
use Rattle.std.proofs.lemmas.Iterator.{IsFirst-from_position, YieldsList-from_slice}
use Rattle.model.specs.declared.reading.Reading.{Reading}
use Rattle.model.specs.Serving.{at, blank}
use Rattle.sheets.proofs.search.place_from.Goals as goal

abbrev Own : ℕ → Reading → Type 0
Own i r = r.parameter ≡ i

abbrev Other : ℕ → Reading → Type 0
Other i r = r.parameter ≡ i → ⊥

-- of the readings up to the first of the parameter none is of it
others : (xs : List Reading) (i : ℕ) (o : Option ℕ) → MatchOption o (AllWithin (Other i) xs 0 (length xs)) (λ k. (k < length xs) × HoldsAt (Own i) xs k × AllWithin (Other i) xs 0 k) →
    (j : ℕ) → j < unwrap_or o (length xs) → (j < length xs) × Other i (at xs j)
others xs i None h j l = (l, h j blank (omega arith) l)
others xs i (Some k) h j l = (omega (arith, h.0), h.2 j blank (omega arith) l)

pub returns-clause-none : goal.returns-clause-none
returns-clause-none c j h =
    let rs = c.args.readings.now in
    let from = c.args.from in
    let i = c.args.parameter in
    let rest : List Reading = c.iter.result.rest.now in
    let steps = c.position-steps.result in
    let found = IsFirst-from_position _ _ steps (Own i) (Other i) c.position-steps.ensures.ran (YieldsList-from_slice rest cc)
    (λ x q k. search (rules, tests)) (λ x q k. search (rules, tests)) in
    let many : length rest ≡ length (take (length rs - from) (drop from rs)) = ap length c.iter.ensures.rest in
    let e : c.unwrap_or.result ≡ unwrap_or steps (length rest) = c.unwrap_or.ensures ∙ ap (unwrap_or steps) (sym many) in
    let before = others rest i steps found (j - from) (omega (arith, h.0, h.1)) in
    let z : from + (j - from) ≡ j = omega (arith, h.0) in
    let same : at rest (j - from) ≡ at rs j =
    ap (λ xs. at xs (j - from)) c.iter.ensures.rest
    ∙ get_or-take (length rs - from) (drop from rs) (j - from) blank (omega (arith, before.0, length-take (length rs - from) (drop from rs)))
    ∙ get_or-drop from rs (j - from) blank ∙ ap (at rs) z in
    λ p. before.1 (ap (λ r. r.parameter) same ∙ p)
