-- How a call is decided: by the first of its checks that holds.
use Rattle.std.specs.Prelude.{ℕ, Bool, cond, ◌||◌, List, [], ◌∷◌, Ok, Err, Result, nat_lt}
use Rattle.model.specs.declared.refusal.Refusal.{Refusal}
use Rattle.model.specs.declared.refusal.Refusal.TheVariants.{ParametersOutOfRange, CellsOutOfRange, SheetOutOfRange, NoSuchParameter, PositionBeyondRoll, PositionNotBeyondLast, NoFreePlace, NothingToWithdraw, BarOutOfRange, TooManyBars, NoSuchEntry, LimitsOutOfOrder, ShareTooGreat, WithoutLimits, WorkTooShort, EndsTooShort}

abbrev pub number : Refusal → ℕ
number ParametersOutOfRange = 1
number CellsOutOfRange = 2
number SheetOutOfRange = 3
number NoSuchParameter = 4
number PositionBeyondRoll = 5
number PositionNotBeyondLast = 6
number NoFreePlace = 7
number NothingToWithdraw = 8
number BarOutOfRange = 9
number TooManyBars = 10
number NoSuchEntry = 11
number LimitsOutOfOrder = 12
number ShareTooGreat = 13
number (WithoutLimits i) = 14
number WorkTooShort = 15
number (EndsTooShort n) = 16

-- the values that a refusal tells beside its number
abbrev pub told : Refusal → List ℕ
told (WithoutLimits i) = i ∷ []
told (EndsTooShort n) = n ∷ []
told other = []

-- a call is accepted, or refused by a number with the values told
pub data Decision : Type 0 where
  accepted : Decision
  refused : ℕ → List ℕ → Decision

-- one check of a call: where it holds, the call is refused by its number
pub record Check : Type 0 where
  pub number : ℕ
  pub holds : Bool
  pub tells : List ℕ

abbrev pub on : ℕ → Bool → Check
on n b = record { number = n; holds = b; tells = [] }

-- the first check that holds decides
abbrev pub decide : List Check → Decision
decide [] = accepted
decide (c ∷ cs) = cond c.holds (refused c.number c.tells) (decide cs)

-- what a call answered
abbrev pub decision : {T : Type 0} → Result T Refusal → Decision
decision (Ok x) = accepted
decision (Err e) = refused (number e) (told e)

-- what stands after a call: the new where it is accepted, else the old
abbrev pub settle : {A : Type 0} → Decision → A → A → A
settle accepted new old = new
settle (refused n ts) new old = old

-- n is below low or above high
abbrev pub outside : ℕ → ℕ → ℕ → Bool
outside low high n = nat_lt n low || nat_lt high n
