-- The reading that serves a cell: of its parameter's readings the nearest to the cell's middle, the earlier at a tie.
use Rattle.std.specs.Prelude.{◌≡◌, ℕ, ◌+◌, ◌-◌, ◌*◌, ◌<◌, ◌≤◌, cond, List, [], ◌∷◌, length, Some, None, Option, ◌==◌, ◌≢◌, nat_le, slice_index_or}
use Rattle.std.specs.Float.{nan}
use Rattle.model.specs.declared.reading.Reading.{Reading}
use Rattle.model.specs.Log.{RollLog}
use Rattle.model.specs.Refusals.{outside}

-- what stands where there is no reading; no parameter has the number 0
abbrev pub blank : Reading
blank = record { parameter = 0; position = 0; value = nan }

-- the reading at place k, from 0
abbrev pub at : List Reading → ℕ → Reading
at rs k = slice_index_or rs k blank

-- |2m - (2n - 1)|: how far position m lies from the middle of cell n, in half cells
abbrev pub away : ℕ → Reading → ℕ
away n r = (2 * r.position - (2 * n - 1)) + (2 * n - 1 - 2 * r.position)

-- the nearer to cell n; of two equally near the first recorded, which is at the earlier position, since positions of one parameter rise
abbrev pub nearer : ℕ → Reading → Option Reading → Option Reading
nearer n r None = Some r
nearer n r (Some s) = cond (nat_le (away n r) (away n s)) (Some r) (Some s)

-- of the readings of parameter i the nearest to cell n, computed
abbrev pub serving : List Reading → ℕ → ℕ → Option Reading
serving [] i n = None
serving (r ∷ rs) i n = cond (r.parameter == i) (nearer n r (serving rs i n)) (serving rs i n)

-- r is a recorded reading of parameter i, none is nearer to cell n, and of those equally near it has the earliest position
pub record Serves (rs : List Reading) (i n : ℕ) (r : Reading) : Type 0 where
  pub place : ℕ
  pub within : place < length rs
  pub is : at rs place ≡ r
  pub own : r.parameter ≡ i
  pub nearest : (j : ℕ) → j < length rs → (at rs j).parameter ≡ i → away n r ≤ away n (at rs j)
  pub earliest : (j : ℕ) → j < length rs → (at rs j).parameter ≡ i → away n (at rs j) ≡ away n r → r.position ≤ (at rs j).position

-- the rule of the reading that serves: none only where the parameter has none
abbrev pub Answered : List Reading → ℕ → ℕ → Option Reading → Type 0
Answered rs i n None = (j : ℕ) → j < length rs → (at rs j).parameter ≢ i
Answered rs i n (Some r) = Serves rs i n r

-- what is told of cell n of a roll: none where it has no such cell
abbrev pub serving_at : RollLog → ℕ → ℕ → Option Reading
serving_at log i n = cond (outside 1 log.cells n) None (serving log.readings i n)

-- what is told of a cell of a roll keeps the rule
abbrev pub ServedAt : RollLog → ℕ → ℕ → Option Reading → Type 0
ServedAt log i n r = 1 ≤ n → n ≤ log.cells → Answered log.readings i n r
