-- The reading that serves a cell, by its place in the list.
use Rattle.std.proofs.Common.{◌≡◌, ℕ, zero, suc, ◌<◌, ◌≤◌, Bool, true, false, cond, eqb, leb, ltb, List, [], ◌∷◌, length, Some, None, Option, sym, refl, ap, ◌∙◌, inl, inr, suc-le-suc, arith}
use Rattle.std.proofs.lemmas.Bool.Decides.{nat_tests, eqb_tells}
use Rattle.std.specs.List.{filter}
use Rattle.model.specs.declared.reading.Reading.{Reading}
use Rattle.model.specs.Recorded.{Bare, Rising}
use Rattle.model.specs.Serving.{away, nearer, serving, at}

-- none of parameter i: none serves
pub serving_none : (rs : List Reading) (i n : ℕ) → Bare rs i 0 (length rs) → serving rs i n ≡ None
serving_none [] i n h = refl
serving_none (r ∷ rs) i n h =
    let e : serving rs i n ≡ None = serving_none rs i n (λ j b. h (suc j) (omega arith, omega arith)) in
    let f : r.parameter ≡ i → ⊥ = h 0 (omega arith, omega arith) in
    grind (arith, nat_tests)

abbrev Behind : ℕ → ℕ → Option Reading → Type 0
Behind n d None = Unit {0}
Behind n d (Some s) = d ≤ away n s

abbrev NotBelow : List Reading → ℕ → ℕ → ℕ → Type 0
NotBelow rs i n d = (j : ℕ) → j < length rs → (at rs j).parameter ≡ i → d ≤ away n (at rs j)

behind_nearer : (n d : ℕ) (r : Reading) (o : Option Reading) → d ≤ away n r → Behind n d o → Behind n d (nearer n r o)
behind_nearer n d r None h k = h
behind_nearer n d r (Some s) h k =
    elim (leb (away n r) (away n s)) as (λ b. Behind n d (cond b (Some r) (Some s))) [ true ↦ h | false ↦ k ]

behind : (rs : List Reading) (i n d : ℕ) → NotBelow rs i n d → Behind n d (serving rs i n)
behind [] i n d h = tt
behind (r ∷ rs) i n d h =
    let k : Behind n d (serving rs i n) = behind rs i n d (λ j l e. h (suc j) (suc-le-suc l) e) in
    let Goal : Option Reading → Type 0 = Behind n d in
    elim (eqb_tells r.parameter i) as (λ _. Behind n d (serving (r ∷ rs) i n)) [
      | inl p ↦ rw p.0 (behind_nearer n d r (serving rs i n) (h 0 (omega arith) p.1) k)
      | inr p ↦ rw p.0 k
    ]

first_wins : (n : ℕ) (r : Reading) (o : Option Reading) → Behind n (away n r) o → nearer n r o ≡ Some r
first_wins n r None h = refl
first_wins n r (Some s) h = grind (arith, nat_tests)

pub record Nearest (rs : List Reading) (i n k : ℕ) : Type 0 where
  pub within : k < length rs
  pub own : (at rs k).parameter ≡ i
  pub before : (j : ℕ) → j < k → (at rs j).parameter ≡ i → away n (at rs k) < away n (at rs j)
  pub after : (j : ℕ) → k < j → j < length rs → (at rs j).parameter ≡ i → away n (at rs k) ≤ away n (at rs j)

pub serving_some : (rs : List Reading) (i n k : ℕ) → Nearest rs i n k → serving rs i n ≡ Some (at rs k)
serving_some [] i n k h = absurd (omega arith)
serving_some (r ∷ rs) i n zero h =
    let w : nearer n r (serving rs i n) ≡ Some r =
    first_wins n r (serving rs i n) (behind rs i n (away n r) (λ j l e. h.after (suc j) (omega arith) (suc-le-suc l) e)) in
    let own : r.parameter ≡ i = h.own in
    grind (arith, nat_tests)
serving_some (r ∷ rs) i n (suc k) h =
    let e : serving rs i n ≡ Some (at rs k) = serving_some rs i n k record {
      within = omega arith;
      own = h.own;
      before = λ j l e. h.before (suc j) (suc-le-suc l) e;
      after = λ j l m e. h.after (suc j) (suc-le-suc l) (suc-le-suc m) e;
    } in
    let b : r.parameter ≡ i → away n (at rs k) < away n r = h.before 0 (omega arith) in
    rw e (grind (arith, nat_tests))

pub not_past : (rs : List Reading) (i j k : ℕ) → Rising rs → (at rs j).parameter ≡ i → (at rs k).parameter ≡ i → j ≤ k → k < length rs →
    (at rs j).position ≤ (at rs k).position
not_past rs i j k up p q l m =
    elim (eqb_tells j k) [
      | inl e ↦ (let same : (at rs j).position ≡ (at rs k).position = ap (λ x. (at rs x).position) e.1 in omega arith)
      | inr e ↦ (let f : j ≡ k → ⊥ = e.1 in
          let less : (at rs j).position < (at rs k).position = up j k (grind arith, m, p ∙ sym q) in omega arith)
    ]

-- the nearest of r and those behind it, the first of equally near ones
abbrev pub nearest_of : ℕ → Reading → List Reading → Reading
nearest_of n r [] = r
nearest_of n r (s ∷ rs) = nearest_of n (cond (ltb (away n s) (away n r)) s r) rs

nearer_of : (n : ℕ) (r s : Reading) (o : Option Reading) → nearer n r (nearer n s o) ≡ nearer n (cond (ltb (away n s) (away n r)) s r) o
nearer_of n r s None = grind (arith, nat_tests)
nearer_of n r s (Some t) = grind (arith, nat_tests)

abbrev Own : ℕ → Reading → Bool
Own i r = eqb r.parameter i

-- the nearest of those of one parameter, from the last to the first
abbrev least : ℕ → List Reading → Option Reading
least n [] = None
least n (r ∷ rs) = nearer n r (least n rs)

least_of : (n : ℕ) (r : Reading) (rs : List Reading) → Some (nearest_of n r rs) ≡ least n (r ∷ rs)
least_of n r [] = refl
least_of n r (s ∷ rs) = least_of n (cond (ltb (away n s) (away n r)) s r) rs ∙ sym (nearer_of n r s (least n rs))

least_own : (rs : List Reading) (i n : ℕ) → serving rs i n ≡ least n (filter (Own i) rs)
least_own [] i n = refl
least_own (r ∷ rs) i n = rw (least_own rs i n) (elim (eqb r.parameter i) as (λ b. cond b (nearer n r (least n (filter (Own i) rs))) (least n (filter (Own i) rs)) ≡ least n (cond b (r ∷ filter (Own i) rs) (filter (Own i) rs))) [ true ↦ refl | false ↦ refl ])

-- the same of what passes through the filter of a parameter
pub serving_least : (rs : List Reading) (i n : ℕ) (r : Reading) (ss : List Reading) → r ∷ ss ≡ filter (λ s. eqb s.parameter i) rs → Some (nearest_of n r ss) ≡ serving rs i n
serving_least rs i n r ss e = least_of n r ss ∙ ap (least n) e ∙ sym (least_own rs i n)

pub serving_bare : (rs : List Reading) (i n : ℕ) → [] ≡ filter (λ s. eqb s.parameter i) rs → None ≡ serving rs i n
serving_bare rs i n e = ap (least n) e ∙ sym (least_own rs i n)
