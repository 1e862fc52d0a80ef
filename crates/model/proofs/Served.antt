-- The computed reading serves the cell, in the words of the rule.
use Rattle.std.proofs.Common.{◌≡◌, ℕ, zero, suc, ◌<◌, ◌≤◌, List, [], ◌∷◌, length, Option, Some, None, refl, sym, ◌∙◌, inl, inr, arith, suc-le-suc}
use Rattle.std.proofs.lemmas.Bool.Decides.{eqb_tells, leb_tells}
use Rattle.model.specs.declared.reading.Reading.{Reading}
use Rattle.model.specs.Recorded.{Rising}
use Rattle.model.specs.Serving.{away, nearer, serving, at, Serves, Answered}

-- what holds of the first reading and of each behind it
every : (P : Reading → Type 0) (r : Reading) (rs : List Reading) → P r → ((j : ℕ) → j < length rs → P (at rs j)) → (j : ℕ) → j < length (r ∷ rs) → P (at (r ∷ rs) j)
every P r rs h k zero l = h
every P r rs h k (suc j) l = k j (omega arith)

abbrev NoNearer : ℕ → ℕ → Reading → Reading → Type 0
NoNearer i n r x = x.parameter ≡ i → away n r ≤ away n x

abbrev NoEarlier : ℕ → ℕ → Reading → Reading → Type 0
NoEarlier i n r x = x.parameter ≡ i → away n x ≡ away n r → r.position ≤ x.position

-- the first serves
here : (r : Reading) (rs : List Reading) (i n : ℕ) → r.parameter ≡ i → ((j : ℕ) → j < length rs → NoNearer i n r (at rs j)) →
    ((j : ℕ) → j < length rs → NoEarlier i n r (at rs j)) → Serves (r ∷ rs) i n r
here r rs i n own near early = record {
  place = 0;
  within = omega arith;
  is = refl;
  own = own;
  nearest = every (NoNearer i n r) r rs (λ p. omega arith) near;
  earliest = every (NoEarlier i n r) r rs (λ p e. omega arith) early;
}

-- the one that serves among those behind the first serves among all
behind_first : (r : Reading) (rs : List Reading) (i n : ℕ) (s : Reading) → NoNearer i n s r → NoEarlier i n s r → Serves rs i n s → Serves (r ∷ rs) i n s
behind_first r rs i n s near early h = record {
  place = suc h.place;
  within = omega (arith, h.within);
  is = h.is;
  own = h.own;
  nearest = every (NoNearer i n s) r rs near h.nearest;
  earliest = every (NoEarlier i n s) r rs early h.earliest;
}

first_or : (r : Reading) (rs : List Reading) (i n : ℕ) → Rising (r ∷ rs) → r.parameter ≡ i → (o : Option Reading) → Answered rs i n o → Answered (r ∷ rs) i n (nearer n r o)
first_or r rs i n up own None h = here r rs i n own (λ j l p. absurd (h j l p)) (λ j l p e. absurd (h j l p))
first_or r rs i n up own (Some s) h = elim (leb_tells (away n r) (away n s)) [
  | inl t ↦ rw t.0 (here r rs i n own
      (λ j l p. let a : away n r ≤ away n s = t.1 in let b = h.nearest j l p in omega arith)
      (λ j l p e. let before : r.position < (at rs j).position = up 0 (suc j) (omega arith, suc-le-suc l, own ∙ sym p) in omega arith))
  | inr t ↦ (let less : away n s < away n r = t.1 in
      rw t.0 (behind_first r rs i n s (λ p. omega arith) (λ p e. absurd (omega arith)) h))
]

later_or : (r : Reading) (rs : List Reading) (i n : ℕ) → (r.parameter ≡ i → ⊥) → (o : Option Reading) → Answered rs i n o → Answered (r ∷ rs) i n o
later_or r rs i n other None h = every (λ x. x.parameter ≡ i → ⊥) r rs other h
later_or r rs i n other (Some s) h = behind_first r rs i n s (λ p. absurd (other p)) (λ p e. absurd (other p)) h

pub serving_answers : (rs : List Reading) (i n : ℕ) → Rising rs → Answered rs i n (serving rs i n)
serving_answers [] i n up = λ j l p. omega (arith, l)
serving_answers (r ∷ rs) i n up =
    let h : Answered rs i n (serving rs i n) = serving_answers rs i n (λ j k a. up (suc j) (suc k) (suc-le-suc a.0, suc-le-suc a.1, a.2)) in
    elim (eqb_tells r.parameter i) [
      | inl p ↦ rw p.0 (first_or r rs i n up p.1 (serving rs i n) h)
      | inr p ↦ rw p.0 (later_or r rs i n p.1 (serving rs i n) h)
    ]
