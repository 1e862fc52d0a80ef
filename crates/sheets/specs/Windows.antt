-- What the gauges of a window count; cited by inner functions alone.
use Rattle.std.specs.Prelude.{◌≡◌, ℕ, ◌+◌, ◌<◌, ◌≤◌, List, length, slice_index_or}
use Rattle.model.specs.Log.{Log}
use Rattle.model.specs.Counting.{Complete}
use Rattle.model.specs.Recipes.{row_of}
use Rattle.sheets.specs.declared.gauge.Gauge.{Gauge}
use Rattle.sheets.specs.Gauges.{Gauged}

-- the gauge of parameter i is over the sheet that ends at `end`
pub record Spans (log : Log) (end i : ℕ) (g : Gauge) : Type 0 where
  pub gauged : Gauged log.roll.readings (row_of log.recipe.rows i) i g
  pub first : g.leaving.cell + log.roll.sheet ≡ end + 1
  pub next : g.entering.cell ≡ end + 1

-- the gauges are over the sheet that ends at `end`, those beyond the roll's parameters at rest (d is what a list answers past its end)
pub record Over (log : Log) (end : ℕ) (gauges : List Gauge) : Type 0 where
  pub complete : Complete log
  pub low : log.roll.sheet ≤ end
  pub eight : length gauges ≡ 8
  pub spans : (i : ℕ) (d : Gauge) → i < log.roll.parameters → Spans log end (i + 1) (slice_index_or gauges i d)
  pub rest : (i : ℕ) (d : Gauge) → log.roll.parameters ≤ i → i < 8 → (slice_index_or gauges i d).outliers ≡ 0
