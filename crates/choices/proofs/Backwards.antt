-- Choices written last end first: so they grow at one end, and so they are traced back.
use Rattle.std.proofs.Common.{◌≡◌, ℕ, ◌-◌, ◌<◌, ◌≤◌, Bool, true, ◌⊎◌, List, [], ◌∷◌, length, ap, inl, inr, arith}
use Rattle.std.proofs.lemmas.Bool.{cases_eq}
use Rattle.criteria.specs.Law.{Rules, Ordered, Adding}

-- what there is to choose from: which ends are good, how far apart neighbours lie, and the mark at each end
pub record Task (M T : Type 0) : Type 0 where
  pub rules : Rules M T
  pub good : ℕ → Bool
  pub spacing : ℕ
  pub mark : ℕ → M

-- neighbours lie apart, and no sheet ends at the start of the foil
pub record Sound {M T : Type 0} (k : Task M T) : Type 0 where
  pub apart : 1 ≤ k.spacing
  pub inside : (p : ℕ) → k.good p ≡ true → 1 ≤ p

pub record Lawful {M T : Type 0} (r : Rules M T) : Type 0 where
  pub order : Ordered r.rank
  pub adding : Adding r

-- a choice of ends up to j
abbrev pub Back : {M T : Type 0} → Task M T → ℕ → List ℕ → Type 0
Back k j [] = Unit {0}
Back k j (p ∷ ps) = (p ≤ j) × (k.good p ≡ true) × Back k (p - k.spacing) ps

abbrev pub sum : {M T : Type 0} → Task M T → List ℕ → T
sum k [] = k.rules.none
sum k (p ∷ ps) = k.rules.add (sum k ps) (k.mark p)

-- an earlier end at the first difference
abbrev pub Earlier : List ℕ → List ℕ → Type 0
Earlier [] ys = ⊥
Earlier (p ∷ ps) [] = ⊥
Earlier (p ∷ ps) (q ∷ qs) = (p < q) ⊎ ((p ≡ q) × Earlier ps qs)

pub earlier_trans : (a b c : List ℕ) → Earlier a b → Earlier b c → Earlier a c
earlier_trans [] b c h i = absurd h
earlier_trans (p ∷ ps) [] c h i = absurd h
earlier_trans (p ∷ ps) (q ∷ qs) [] h i = absurd i
earlier_trans (p ∷ ps) (q ∷ qs) (r ∷ rs) h i = grind (arith, earlier_trans ps qs rs)

pub earlier_never : (a : List ℕ) → Earlier a a → ⊥
earlier_never [] h = h
earlier_never (p ∷ ps) h = grind (arith, earlier_never ps)

module _ {M T : Type 0} (k : Task M T) where
  pub back_wider : (m n : ℕ) (c : List ℕ) → m ≤ n → Back k m c → Back k n c
  back_wider m n [] h i = tt
  back_wider m n (p ∷ ps) h i = grind arith

  -- a choice up to j stays below j, or its last end is j
  pub back_split : (j : ℕ) (d : List ℕ) → Back k j d → Back k (j - 1) d ⊎ ((e : List ℕ) × (d ≡ j ∷ e) × (k.good j ≡ true) × Back k (j - k.spacing) e)
  back_split j [] h = inl tt
  back_split j (p ∷ ps) h = elim (cases_eq p j) [
    | inl e ↦ inr (ps, ap (λ x. x ∷ ps) e, grind arith, grind arith)
    | inr n ↦ inl (grind arith)
  ]

  pub back_length : Sound k → (j : ℕ) (c : List ℕ) → Back k j c → length c ≤ j
  back_length s j [] h = omega arith
  back_length s j (p ∷ ps) h = omega (arith, back_length s (p - k.spacing) ps h.2, h.0, s.apart, s.inside p h.1)
