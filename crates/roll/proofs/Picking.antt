-- What `min_by_key` answers of a list of readings: the nearest, and the first of equally near ones.
use Rattle.std.proofs.Common.{◌≡◌, ℕ, eqb, ltb, cond, List, [], ◌∷◌, map, Option, Some, None, Bor, nat_cmp, refl, sym, ap, ◌∙◌, subst, arith}
use Rattle.std.proofs.lemmas.Bool.Decides.{nat_tests}
use Rattle.std.proofs.lemmas.Cmp.{ranked}
use Rattle.std.proofs.lemmas.Iterator.{YieldsList}
use Rattle.std.proofs.iter.Yields.{gives_Drains}
use Rattle.std.specs.Fn.{CalledAt}
use Rattle.std.specs.Iterator.{KeyTurn, PicksMinByKey}
use Rattle.std.specs.List.{FoldsTo, filter}
use Rattle.std.specs.Option.{option_map}
use Rattle.std.specs.Ordering.{min_by_ordering}
use Rattle.std.specs.declared.cmp.Ordering.{Ordering}
use Rattle.std.specs.declared.cmp.Ordering.TheVariants.{Less, Equal, Greater}
use denote.Param.Members.{Mut}
use Rattle.model.specs.declared.reading.Reading.{Reading}
use Rattle.model.specs.Serving.{away, serving}
use Rattle.model.proofs.Nearest.{nearest_of, serving_least, serving_bare}

nearer_one : (n : ℕ) (x z : Bor Reading) (o : Ordering) → nat_cmp (away n x.now) (away n z.now) ≡ o →
    (min_by_ordering o x z).now ≡ cond (ltb (away n z.now) (away n x.now)) z.now x.now
nearer_one n x z Less e = let l = ranked (away n x.now) (away n z.now) Less (sym e) in grind (arith, nat_tests)
nearer_one n x z Equal e = let l = ranked (away n x.now) (away n z.now) Equal (sym e) in grind (arith, nat_tests)
nearer_one n x z Greater e = let l = ranked (away n x.now) (away n z.now) Greater (sym e) in grind (arith, nat_tests)

key_of : (n : ℕ) (x z : Bor Reading) (o : Ordering) → min_by_ordering o (away n x.now) (away n z.now) ≡ away n (min_by_ordering o x z).now
key_of n x z Less = refl
key_of n x z Equal = refl
key_of n x z Greater = refl

module _ {F : Type 0} (g : Mut F (Bor (Bor Reading) × Unit {0}) ℕ) (f : F) (n : ℕ)
    (says : (x : Bor Reading) (k : ℕ) (q : F) → CalledAt g f x k q → (q ≡ f) × (k ≡ away n x.now)) where
  turns : (xs : List (Bor Reading)) (x : Bor Reading) (p q : (F × ℕ) × Bor Reading) → p ≡ ((f, away n x.now), x) →
      FoldsTo {P = (F × ℕ) × Bor Reading} (KeyTurn min_by_ordering min_by_ordering g nat_cmp) p xs q → q.1.now ≡ nearest_of n x.now (map (λ y. y.now) xs)
  turns [] x p q e h = ap (λ v. v.1.now) (sym h ∙ e)
  turns (z ∷ zs) x p q e h =
      let j = h.0 in
      let t = h.1 in
      let k = t.0 in
      let o : Ordering = t.1 in
      let s = says z k j.0.0 (subst (λ v. CalledAt g v z k j.0.0) (ap (λ v. v.0.0) e) t.2) in
      let w : Bor Reading = min_by_ordering o x z in
      let cmp : nat_cmp (away n x.now) (away n z.now) ≡ o = ap (λ v. nat_cmp v (away n z.now)) (sym (ap (λ v. v.0.1) e)) ∙ ap (nat_cmp p.0.1) (sym s.1) ∙ t.3 in
      let key : j.0.1 ≡ away n w.now = t.4 ∙ ap (λ v. min_by_ordering o v k) (ap (λ v. v.0.1) e) ∙ ap (min_by_ordering o (away n x.now)) s.1 ∙ key_of n x z o in
      let item : j.1 ≡ w = t.5 ∙ ap (λ v. min_by_ordering o v.1 z) e in
      turns zs w j q (λ i. ((s.0 i, key i), item i)) h.2 ∙ ap (λ r. nearest_of n r (map (λ y. y.now) zs)) (nearer_one n x z o cmp)

  pub picks : {S : Type 0} {steps : S → Option (Bor Reading) → S → Type 0} {s : S} (rs : List Reading) (i : ℕ) (r : Option (Bor Reading)) →
      PicksMinByKey steps g nat_cmp s f r → YieldsList steps (λ y. y.now) s (filter (λ x. eqb x.parameter i) rs) → option_map (λ y. y.now) r ≡ serving rs i n
  picks {steps = steps} {s} rs i None h road = serving_bare rs i n (gives_Drains steps (λ y. y.now) [] (filter (λ x. eqb x.parameter i) rs) s road.runs h)
  picks {steps = steps} {s} rs i (Some y) h road =
      let x = h.0 in
      let xs = h.1 in
      let t = says x h.2 h.3 h.6 in
      ap Some (turns xs x ((h.3, h.2), x) (h.4, y) (λ j. ((t.0 j, t.1 j), x)) h.7)
      ∙ serving_least rs i n x.now (map (λ y. y.now) xs) (gives_Drains steps (λ y. y.now) (x ∷ xs) (filter (λ x. eqb x.parameter i) rs) s road.runs h.5)
