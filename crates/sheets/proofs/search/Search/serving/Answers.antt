use Rattle.std.proofs.Common.{◌≡◌, ℕ, ◌<◌, List, length, slice_get, Some, None, Option, Bor, refl, sym, ap, ◌∙◌, arith, rules}
use Rattle.std.proofs.lemmas.Bool.{ltb-true, ltb-false}
use Rattle.std.proofs.lemmas.Option.{slice_get-get_or, slice_get_past, slice_get_read, get_or_from_slice_get, slice_get_within}
use Rattle.std.specs.Option.{option_copied}
use Rattle.std.specs.Slice.{IsItemAt}
use Rattle.model.specs.declared.reading.Reading.{Reading}
use Rattle.model.specs.Serving.{at, blank}
use Rattle.sheets.proofs.Standing.{by_first, by_last, by_next}
use Rattle.sheets.proofs.search.Search.serving.Goals as goal

looked : (rs : List Reading) (i : ℕ) (o : Option (Bor Reading)) → IsItemAt rs i o → option_copied o ≡ slice_get rs i
looked rs i None h = sym (slice_get_past rs i (ltb-false _ _ (sym h.0)))
looked rs i (Some x) h = sym (slice_get_read rs (length rs) i x.now refl (ltb-true _ _ (sym h.0)) (search rules))

-- what was looked up at place i, where there was a reading
record Found (rs : List Reading) (i : ℕ) (r : Reading) : Type 0 where
  within : i < length rs
  is : at rs i ≡ r
  position : (at rs i).position ≡ r.position

found : (rs : List Reading) (i : ℕ) (o : Option (Bor Reading)) (r : Reading) → IsItemAt rs i o → option_copied o ≡ Some r → Found rs i r
found rs i o r h e =
    let some : slice_get rs i ≡ Some r = sym (looked rs i o h) ∙ e in
    let is : at rs i ≡ r = get_or_from_slice_get rs i r blank some in
    record { within = slice_get_within rs i r some; is = is; position = ap (λ x. x.position) is }

pub returns-in_default : goal.returns-in_default
returns-in_default c =
    c.copied-next.ensures ∙ looked _ _ _ c.get.ensures.lookup ∙ sym (by_first _ _ _ c.args.lane.now.rising c.requires c.in_default.is)

pub offset_bounds-lane-place : goal.offset_bounds-lane-place
offset_bounds-lane-place c = search (rules, c.requires.last c.in-Some.place c.in-Some.is)

pub bounds-lane-place : goal.bounds-lane-place
bounds-lane-place c = omega (arith, c.requires.within, c.requires.last c.in-Some.place c.in-Some.is)

pub returns-in-Some-next : goal.returns-in-Some-next
returns-in-Some-next c =
    let next = found _ _ _ c.in-Some-next.next c.get.ensures.lookup (sym c.copied-next.ensures ∙ c.in-Some-next.is) in
    sym (by_next _ _ _ c.in-Some.place c.args.lane.now.rising c.requires c.in-Some.is next.within
    (omega (arith, next.position, ltb-true _ _ (sym c.if-nearer.ensures))) ∙ ap Some next.is)

pub returns-in_default-next : goal.returns-in_default-next
returns-in_default-next c =
    let next = found _ _ _ c.in-Some-next.next c.get.ensures.lookup (sym c.copied-next.ensures ∙ c.in-Some-next.is) in
    sym (by_last _ _ _ c.in-Some.place c.args.lane.now.rising c.requires c.in-Some.is (λ w. omega (arith, next.position, ltb-false _ _ (sym c.if-nearer.ensures))))

pub returns-in_default-next-2 : goal.returns-in_default-next-2
returns-in_default-next-2 c =
    let rs : List Reading = c.args.lane.now.readings.now in
    let none : slice_get rs c.args.self.after ≡ None = sym (looked _ _ _ c.get.ensures.lookup) ∙ sym c.copied-next.ensures ∙ c.in_default-next.is in
    sym (by_last _ _ _ c.in-Some.place c.args.lane.now.rising c.requires c.in-Some.is (λ w.
    let some : slice_get rs c.args.self.after ≡ Some (at rs c.args.self.after) = slice_get-get_or rs c.args.self.after blank w in absurd cc))
