-- Sums that are compared in order are compared as std compares lists.
use Rattle.std.proofs.Common.{◌≡◌, ℕ, zero, suc, ◌+◌, List, [], ◌∷◌, length, get_or, drop, ◌∙◌, arith}
use Rattle.std.proofs.lemmas.Bool.Decides.{nat_tests}
use Rattle.std.proofs.lemmas.List.{at_drop_all, at_drop_more}
use Rattle.std.specs.Cmp.Lexicographic.{slice_cmp}
use Rattle.std.specs.Ordering.{nat_cmp, ordering_then}
use Rattle.criteria.specs.Sums.{by_number, by_sums}

numbers : (a b : ℕ) → nat_cmp a b ≡ by_number a b
numbers a b = grind (arith, nat_tests)

from_place : (i n : ℕ) (a b : List ℕ) → length a ≡ i + n → length b ≡ i + n → slice_cmp nat_cmp (drop i a) (drop i b) ≡ by_sums i n a b
from_place i zero a b e f =
    at_drop_all (λ u. slice_cmp nat_cmp u (drop i b)) a i (omega arith) ∙ at_drop_all (slice_cmp nat_cmp []) b i (omega arith)
from_place i (suc n) a b e f =
    let behind = from_place (i + 1) n a b (omega arith) (omega arith) in
    at_drop_more (λ u. slice_cmp nat_cmp u (drop i b)) a i 0 (omega arith)
    ∙ at_drop_more (slice_cmp nat_cmp (get_or a i 0 ∷ drop (i + 1) a)) b i 0 (omega arith)
    ∙ (λ k. ordering_then (numbers (get_or a i 0) (get_or b i 0) k) (behind k))

pub compared : (a b : List ℕ) → length a ≡ length b → slice_cmp nat_cmp a b ≡ by_sums 0 (length a) a b
compared a b e = from_place 0 (length a) a b (omega arith) (omega arith)
