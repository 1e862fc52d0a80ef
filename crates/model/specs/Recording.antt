-- The recording calls: the checks of each, and the log after it.
use Rattle.std.specs.Prelude.{ℕ, ◌+◌, min, cond, not, ◌||◌, List, [], ◌∷◌, ◌++◌, length, is_some, Some, None, Option, ◌==◌, nat_le, nat_lt, Float}
use Rattle.model.specs.declared.reading.Reading.{Reading}
use Rattle.model.specs.declared.bar.Bar.{Bar}
use Rattle.model.specs.Log.{RollLog}
use Rattle.model.specs.Refusals.{Check, on, decide, settle, outside}

-- an idle roll over so many places
abbrev pub idle : ℕ → RollLog
idle places = record { cells = 1; sheet = 1; parameters = 1; places = places; readings = []; bars = [] }

-- the latest reading of parameter i
abbrev pub latest : List Reading → ℕ → Option Reading
latest [] i = None
latest (r ∷ rs) i = elim (latest rs i) [ Some s ↦ Some s | None ↦ cond (r.parameter == i) (Some r) None ]

-- the readings without the latest of parameter i
abbrev pub withdrawn : List Reading → ℕ → List Reading
withdrawn [] i = []
withdrawn (r ∷ rs) i = cond (is_some (latest rs i)) (r ∷ withdrawn rs i) (cond (r.parameter == i) rs (r ∷ rs))

-- one past the position of a reading; 0 where there is none, so that every position is beyond it
abbrev pub past : Option Reading → ℕ
past None = 0
past (Some r) = r.position + 1

-- the first position beyond the last one of parameter i
abbrev pub beyond : List Reading → ℕ → ℕ
beyond rs i = past (latest rs i)

-- how many readings a roll takes: one a place, and 65,536 at most
abbrev pub room : RollLog → ℕ
room log = min log.places 65536

abbrev pub new_checks : ℕ → ℕ → ℕ → List Check
new_checks cells sheet parameters =
    on 1 (outside 1 8 parameters)
    ∷ on 2 (outside 1 32768 cells)
    ∷ on 3 (outside 1 4096 sheet)
    ∷ []

abbrev pub reading_checks : RollLog → ℕ → ℕ → List Check
reading_checks log i m =
    on 4 (outside 1 log.parameters i)
    ∷ on 5 (nat_lt log.cells m)
    ∷ on 6 (nat_lt m (beyond log.readings i))
    ∷ on 7 (nat_le (room log) (length log.readings))
    ∷ []

abbrev pub withdraw_checks : RollLog → ℕ → List Check
withdraw_checks log i =
    on 4 (outside 1 log.parameters i)
    ∷ on 8 (not (is_some (latest log.readings i)))
    ∷ []

abbrev pub bar_checks : RollLog → ℕ → ℕ → List Check
bar_checks log from to =
    on 9 (from == 0 || (nat_lt log.cells to || nat_lt to from))
    ∷ on 10 (nat_le 64 (length log.bars))
    ∷ []

abbrev pub with_readings : RollLog → List Reading → RollLog
with_readings log rs = record {
  cells = log.cells;
  sheet = log.sheet;
  parameters = log.parameters;
  places = log.places;
  readings = rs;
  bars = log.bars;
}

abbrev pub with_bars : RollLog → List Bar → RollLog
with_bars log bs = record {
  cells = log.cells;
  sheet = log.sheet;
  parameters = log.parameters;
  places = log.places;
  readings = log.readings;
  bars = bs;
}

-- new keeps the places alone
abbrev pub after_new : RollLog → ℕ → ℕ → ℕ → RollLog
after_new log cells sheet parameters =
    settle (decide (new_checks cells sheet parameters)) record {
      cells = cells;
      sheet = sheet;
      parameters = parameters;
      places = log.places;
      readings = [];
      bars = [];
    } log

abbrev pub after_reading : RollLog → ℕ → ℕ → Float → RollLog
after_reading log i m v =
    settle (decide (reading_checks log i m)) (with_readings log (log.readings ++ record { parameter = i; position = m; value = v } ∷ [])) log

abbrev pub after_withdraw : RollLog → ℕ → RollLog
after_withdraw log i = settle (decide (withdraw_checks log i)) (with_readings log (withdrawn log.readings i)) log

abbrev pub after_bar : RollLog → ℕ → ℕ → RollLog
after_bar log from to =
    settle (decide (bar_checks log from to)) (with_bars log (log.bars ++ record { from = from; to = to } ∷ [])) log
