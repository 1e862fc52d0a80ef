-- Which of two choices leads: an order, and one that a common last end keeps.
use Rattle.std.proofs.Common.{◌≡◌, ℕ, ◌<◌, ◌⊎◌, List, ◌∷◌, length, Less, Equal, arith}
use Rattle.criteria.specs.Orders.{level}
use Rattle.choices.proofs.Backwards.{Task, Lawful, sum, Earlier, earlier_trans, earlier_never}

-- more sheets; or as many, and a lesser total, or an equal one and earlier ends
abbrev pub Leads : {M T : Type 0} → Task M T → List ℕ → List ℕ → Type 0
Leads k c d =
    (length d < length c)
    ⊎ ((length d ≡ length c) × ((k.rules.rank (sum k c) (sum k d) ≡ Less) ⊎ ((k.rules.rank (sum k c) (sum k d) ≡ Equal) × Earlier c d)))

module _ {M T : Type 0} (k : Task M T) (law : Lawful k.rules) where
  pub leads_trans : (a b c : List ℕ) → Leads k a b → Leads k b c → Leads k a c
  leads_trans a b c h i =
      let swap-ab = law.order.swap (sum k a) (sum k b) in
      let swap-bc = law.order.swap (sum k b) (sum k c) in
      let swap-ac = law.order.swap (sum k a) (sum k c) in
      let less = law.order.less (sum k a) (sum k b) (sum k c) in
      let from-a = level k.rules.rank law.order (sum k a) (sum k b) (sum k c) in
      let from-c = level k.rules.rank law.order (sum k c) (sum k b) (sum k a) in
      grind (arith, earlier_trans a b c)

  pub leads_never : (a : List ℕ) → Leads k a a → ⊥
  leads_never a h = let swap = law.order.swap (sum k a) (sum k a) in grind (arith, earlier_never a)

  pub leads_more : (p : ℕ) (c d : List ℕ) → Leads k c d → Leads k (p ∷ c) (p ∷ d)
  leads_more p c d h = let as_before = law.adding (sum k c) (sum k d) (k.mark p) in grind arith

  pub leads_fewer : (p : ℕ) (c d : List ℕ) → Leads k (p ∷ c) (p ∷ d) → Leads k c d
  leads_fewer p c d h = let as_before = law.adding (sum k c) (sum k d) (k.mark p) in grind arith
