-- Positions that rise in each parameter, with a reading more or less.
use Rattle.std.proofs.Common.{◌≡◌, ℕ, zero, suc, ◌+◌, ◌<◌, ◌≤◌, true, eqb, List, [], ◌∷◌, ◌++◌, length, Option, Some, None, sym, refl, ap, ◌∙◌, inl, inr, arith}
use Rattle.std.proofs.lemmas.List.{length_push, get_or_push, get_or_append_left}
use Rattle.std.proofs.lemmas.List.Edits.{length-remove, get_or-remove_below, get_or-remove_above}
use Rattle.std.proofs.lemmas.Bool.{cases_lt}
use Rattle.std.proofs.lemmas.Bool.Decides.{nat_tests}
use Rattle.std.specs.List.{remove}
use Rattle.model.specs.declared.reading.Reading.{Reading}
use Rattle.model.specs.Serving.{at, blank}
use Rattle.model.specs.Recorded.{Rising}
use Rattle.model.specs.Recording.{beyond, latest}
use Rattle.model.proofs.Latest.{latest_stands}

-- every reading of the parameter lies short of the first position beyond its last one
pub short_of_beyond : (rs : List Reading) (i j : ℕ) → Rising rs → j < length rs → (at rs j).parameter ≡ i → (at rs j).position < beyond rs i
short_of_beyond [] i j up l p = absurd (omega arith)
short_of_beyond (r ∷ rs) i zero up l p = by (latest rs i) refl
  where
    by : (o : Option Reading) → latest rs i ≡ o → r.position < beyond (r ∷ rs) i
    by None q = let t : eqb r.parameter i ≡ true = grind (arith, nat_tests) in rw (q, t) (omega arith)
    by (Some s) q =
        let h = latest_stands rs i s q in
        let same : (at rs h.0).position ≡ s.position = ap (λ x. x.position) h.2 in
        let less : r.position < (at rs h.0).position = up 0 (suc h.0) (omega arith, omega (arith, h.1), p ∙ sym (ap (λ x. x.parameter) h.2 ∙ h.3)) in
        rw q (omega arith)
short_of_beyond (r ∷ rs) i (suc j) up l p =
    by (latest rs i) refl (short_of_beyond rs i j (λ m k a. up (suc m) (suc k) (omega (arith, a.0), omega (arith, a.1), a.2)) (omega (arith, l)) p)
  where
    by : (o : Option Reading) → latest rs i ≡ o → (at rs j).position < beyond rs i → (at rs j).position < beyond (r ∷ rs) i
    by None q less = absurd (omega (arith, rw q at less))
    by (Some s) q less = rw q (rw q at less)

pub rising_push : (rs : List Reading) (r : Reading) → Rising rs → beyond rs r.parameter ≤ r.position → Rising (rs ++ r ∷ [])
rising_push rs r up h j k a =
    let n = length_push rs r in
    let lt : j < length rs = omega (arith, a.0, a.1) in
    let first : at (rs ++ r ∷ []) j ≡ at rs j = get_or_append_left rs (r ∷ []) blank j lt in
    elim (cases_lt k (length rs)) [
      | inl m ↦ (let second : at (rs ++ r ∷ []) k ≡ at rs k = get_or_append_left rs (r ∷ []) blank k m in
          let q : (at rs j).parameter ≡ (at rs k).parameter = ap (λ x. x.parameter) (sym first) ∙ a.2 ∙ ap (λ x. x.parameter) second in
          rw first (rw second (up j k (a.0, m, q))))
      | inr m ↦ (let second : at (rs ++ r ∷ []) k ≡ r = get_or_push rs r blank k (omega (arith, a.1)) in
          let q : (at rs j).parameter ≡ r.parameter = ap (λ x. x.parameter) (sym first) ∙ a.2 ∙ ap (λ x. x.parameter) second in
          rw first (rw second (omega (arith, short_of_beyond rs r.parameter j up lt q))))
    ]

-- where place j of the shortened list stood before place i was taken out
moved : (rs : List Reading) (i j : ℕ) → i < length rs → (m : ℕ) × (at (remove rs i) j ≡ at rs m) × (j ≤ m) × (m ≤ j + 1) × (j < i → m ≡ j) × (i ≤ j → m ≡ j + 1)
moved rs i j w = elim (cases_lt j i) [
  | inl l ↦ (j, get_or-remove_below rs i blank j l w, omega arith, omega arith, (λ _. refl), (λ h. absurd (omega arith)))
  | inr l ↦ (j + 1, get_or-remove_above rs i blank j l w, omega arith, omega arith, (λ h. absurd (omega arith)), (λ _. refl))
]

pub rising_removed : (rs : List Reading) (i : ℕ) → i < length rs → Rising rs → Rising (remove rs i)
rising_removed rs i w up j k a =
    let n = length-remove rs i w in
    let x = moved rs i j w in
    let y = moved rs i k w in
    let lt : x.0 < y.0 = elim (cases_lt j i) [
      | inl l ↦ omega (arith, x.4 l, y.2, a.0)
      | inr l ↦ (let m : i ≤ k = omega (arith, a.0) in omega (arith, x.5 l, y.5 m, a.0))
    ] in
    let q : (at rs x.0).parameter ≡ (at rs y.0).parameter = ap (λ r. r.parameter) (sym x.1) ∙ a.2 ∙ ap (λ r. r.parameter) y.1 in
    rw x.1 (rw y.1 (up x.0 y.0 (lt, omega (arith, y.3, a.1), q)))
