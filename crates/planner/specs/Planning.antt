-- Plan: its checks, and what it answers and leaves.
use Rattle.std.specs.Prelude.{◌≡◌, ℕ, ◌+◌, ◌≤◌, Bool, true, false, List, [], ◌∷◌, ◌++◌, length, take, drop, ◌==◌, nat_lt}
use Rattle.model.specs.Log.{Log}
use Rattle.model.specs.Choices.{Choice}
use Rattle.model.specs.Counting.{count_checks}
use Rattle.model.specs.Refusals.{Check, Decision, accepted, refused, decide, on}
use Rattle.criteria.specs.Law.{Rules}
use Rattle.choices.specs.declared.work.WorkPlace.{WorkPlace}
use Rattle.choices.specs.Best.{Best}
use Rattle.choices.specs.Table.{Filled}
use Rattle.choices.specs.Totals.{total}
use Rattle.planner.specs.declared.planning.Planned.{Planned}
use Rattle.planner.specs.declared.planning.Ticket.{Ticket}

-- the checks before the table is filled: a parameter without limits, and a table with too few places
abbrev pub fill_checks : Log → ℕ → List Check
fill_checks log works = count_checks log ++ (on 15 (nat_lt works (log.roll.cells + 1)) ∷ [])

-- too few places for the ends of so many sheets
abbrev pub room_check : ℕ → ℕ → Check
room_check rooms sheets = record { number = 16; holds = nat_lt rooms sheets; tells = sheets ∷ [] }

-- all checks, with a table and places for ends of these sizes, where the best choice has so many sheets
abbrev pub plan_checks : Log → ℕ → ℕ → ℕ → List Check
plan_checks log works rooms sheets = fill_checks log works ++ (room_check rooms sheets ∷ [])

-- the call is decided by its checks; the last goes by the sheets of the best choice
pub record Decided {M T : Type 0} (log : Log) (r : Rules M T) (works rooms : ℕ) (d : Decision) : Type 0 where
  pub chosen : List ℕ
  pub best : Best log r (Choice log) chosen
  pub by : d ≡ decide (plan_checks log works rooms (length chosen))

-- the ticket is of the roll and of a choice of so many sheets
pub record Issued (log : Log) (n : ℕ) (t : Ticket) : Type 0 where
  pub cells : t.cells ≡ log.roll.cells
  pub span : t.span ≡ log.roll.sheet
  pub sheets : t.sheets ≡ n

-- the first places for ends hold the best choice, whose sheets and total are answered, and the others are unchanged
pub record Answered {M T : Type 0} (log : Log) (r : Rules M T) (before after : List ℕ) (p : Planned T) : Type 0 where
  pub room : p.sheets ≤ length after
  pub best : Best log r (Choice log) (take p.sheets after)
  pub sum : p.total ≡ total log r (take p.sheets after)
  pub beyond : drop p.sheets after ≡ drop p.sheets before
  pub ticket : Issued log p.sheets p.ticket

-- the table is filled where the call is accepted, and where only the places for ends are too few
abbrev pub fills : Decision → Bool
fills accepted = true
fills (refused n ts) = n == 16

-- a table that is filled, and one that is not
abbrev pub TableAfter : {M T : Type 0} → Log → Rules M T → List (WorkPlace T) → List (WorkPlace T) → Bool → Type 0
TableAfter log r before after true = Filled log r before after
TableAfter log r before after false = after ≡ before
