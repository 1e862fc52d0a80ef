-- A roll's part of the log.
use Rattle.std.specs.Prelude.{length}
use Rattle.model.specs.Log.{RollLog}
use Rattle.roll.specs.declared.held.Roll.{Roll}
use Rattle.roll.specs.Lent.{recorded}

abbrev pub roll_log : Roll → RollLog
roll_log r = record {
  cells = r.size.cells;
  sheet = r.size.sheet;
  parameters = r.size.parameters;
  places = length r.places.all.now;
  readings = recorded r.places;
  bars = r.bars;
}
