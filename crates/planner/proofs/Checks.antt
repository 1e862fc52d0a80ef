-- How plan is decided, by how the filling of its table was.
use Rattle.std.proofs.Common.{◌≡◌, ℕ, ◌≤◌, true, false, eqb, List, [], ◌∷◌, arith}
use Rattle.std.proofs.lemmas.Bool.Decides.{nat_tests}
use Rattle.model.specs.Log.{Log}
use Rattle.model.specs.Refusals.{accepted, refused, decide}
use Rattle.planner.specs.Planning.{fill_checks, plan_checks, room_check}

-- the table is filled: the places for ends decide
pub decided_by_ends : (log : Log) (works rooms n : ℕ) → accepted ≡ decide (fill_checks log works) → decide (room_check rooms n ∷ []) ≡ decide (plan_checks log works rooms n)
decided_by_ends log works rooms n e = grind (arith, nat_tests)

-- it is not: that decides
pub decided_by_table : (log : Log) (works rooms n i : ℕ) (is : List ℕ) → refused i is ≡ decide (fill_checks log works) → refused i is ≡ decide (plan_checks log works rooms n)
decided_by_table log works rooms n i is e = grind (arith, nat_tests)

-- a table that is not filled is never refused for the places for ends
pub not_for_ends : (log : Log) (works n : ℕ) (ts : List ℕ) → refused n ts ≡ decide (fill_checks log works) → eqb n 16 ≡ false
not_for_ends log works n ts e = grind (arith, nat_tests)

-- a refusal for the places for ends
pub for_ends : (rooms sheets n : ℕ) (ts : List ℕ) → refused n ts ≡ decide (room_check rooms sheets ∷ []) → eqb n 16 ≡ true
for_ends rooms sheets n ts e = grind (arith, nat_tests)

pub enough_room : (rooms sheets : ℕ) → accepted ≡ decide (room_check rooms sheets ∷ []) → sheets ≤ rooms
enough_room rooms sheets e = grind (arith, nat_tests)
