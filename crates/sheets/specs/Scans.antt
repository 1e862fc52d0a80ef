-- What a scan sees.
use Rattle.std.specs.Prelude.{◌≡◌, ℕ}
use Rattle.model.specs.Log.{Log}
use Rattle.sheets.specs.declared.scan.Scan.{Scan}
use Rattle.sheets.specs.Seen.{seen}

-- the log with so many places
abbrev pub placed : Log → ℕ → Log
placed log n = record {
  roll = record {
    cells = log.roll.cells;
    sheet = log.roll.sheet;
    parameters = log.roll.parameters;
    places = n;
    readings = log.roll.readings;
    bars = log.roll.bars;
  };
  recipe = log.recipe;
}

-- the scan is along the roll and by the recipe of this log; of the places it knows nothing
abbrev pub Sees : Scan → Log → Type 0
Sees s log = placed (seen s.window) log.roll.places ≡ log
