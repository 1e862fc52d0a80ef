use Rattle.sheets.specs.Logs.{log_of}
use Rattle.sheets.proofs.Gauges.{At, Resting, Split}
use Rattle.sheets.proofs.window.Window.new.Given as goal

abbrev pub invariant-loop-i : goal.invariant-loop-i
invariant-loop-i l = Split (At (log_of l.roll l.recipe) l.size.sheet) Resting l.gauges l.i
