-- Sums that are compared in order.
use Rattle.std.specs.Prelude.{ℕ, zero, suc, ◌+◌, cond, List, nat_lt, slice_index}
use Rattle.std.specs.declared.cmp.Ordering.TheVariants.{Less, Equal, Greater}
use Rattle.std.specs.declared.cmp.Ordering.{Ordering}
use Rattle.std.specs.Ordering.{ordering_then}

abbrev pub by_number : ℕ → ℕ → Ordering
by_number a b = cond (nat_lt a b) Less (cond (nat_lt b a) Greater Equal)

-- of the n sums from place i on the first that differ decide
abbrev pub by_sums : ℕ → ℕ → List ℕ → List ℕ → Ordering
by_sums i zero a b = Equal
by_sums i (suc n) a b = ordering_then (by_number (slice_index a i) (slice_index b i)) (by_sums (i + 1) n a b)
