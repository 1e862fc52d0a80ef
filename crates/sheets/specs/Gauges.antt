-- What a gauge has counted; cited by inner functions alone.
use Rattle.std.specs.Prelude.{◌≡◌, ℕ, ◌+◌, ◌-◌, Bool, List}
use Rattle.model.specs.declared.reading.Reading.{Reading}
use Rattle.model.specs.declared.row.Row.{Row}
use Rattle.model.specs.Sheets.{outliers}
use Rattle.model.specs.Verdicts.{is_outlier, verdict_by}
use Rattle.recipe.specs.Entries.{plain}
use Rattle.sheets.specs.declared.gauge.Gauge.{Gauge}
use Rattle.sheets.specs.declared.lane.Lane.{Lane}
use Rattle.sheets.specs.Standing.{Stands}

-- whether cell n is an outlier in parameter i, by these readings and this row
abbrev pub outlier_by : List Reading → Row → ℕ → ℕ → Bool
outlier_by rs row i n = is_outlier (verdict_by rs row i n)

-- the outliers of parameter i are counted from the cell that leaves next up to the one that enters next
pub record Gauged (rs : List Reading) (row : Row) (i : ℕ) (g : Gauge) : Type 0 where
  pub entering : Stands rs i g.entering
  pub leaving : Stands rs i g.leaving
  pub count : g.outliers ≡ outliers (outlier_by rs row i) g.leaving.cell (g.entering.cell - g.leaving.cell)

abbrev pub GaugedIn : Lane → Gauge → Type 0
GaugedIn lane g = Gauged lane.readings.now (plain lane.limits) lane.parameter g

-- so many cells have left, and so many entered
pub record Shifted (g h : Gauge) (left entered : ℕ) : Type 0 where
  pub first : h.leaving.cell ≡ g.leaving.cell + left
  pub next : h.entering.cell ≡ g.entering.cell + entered
