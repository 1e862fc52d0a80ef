-- Where a search stands; cited by inner functions alone.
use Rattle.std.specs.Prelude.{◌≡◌, ℕ, ◌+◌, ◌<◌, ◌≤◌, List, length, Some, None, Option}
use Rattle.std.specs.Option.{ForSome}
use Rattle.model.specs.declared.reading.Reading.{Reading}
use Rattle.model.specs.Recorded.{Bare}
use Rattle.model.specs.Serving.{at}
use Rattle.sheets.specs.declared.lane.Lane.{Lane}
use Rattle.sheets.specs.declared.search.Search.{Search}

-- one past the place; 0 where there is none
abbrev pub past : Option ℕ → ℕ
past None = 0
past (Some k) = k + 1

-- of the readings of parameter i the last one short of the cell's middle stands at `before`, the next at `after`, and none between
pub record Stands (rs : List Reading) (i : ℕ) (s : Search) : Type 0 where
  pub within : s.after ≤ length rs
  pub last : ForSome s.before (λ k. (k < s.after) × ((at rs k).parameter ≡ i) × ((at rs k).position < s.cell))
  pub between : Bare rs i (past s.before) s.after
  pub next : s.after < length rs → ((at rs s.after).parameter ≡ i) × (s.cell ≤ (at rs s.after).position)

abbrev pub StandsIn : Lane → Search → Type 0
StandsIn lane s = Stands lane.readings.now lane.parameter s
