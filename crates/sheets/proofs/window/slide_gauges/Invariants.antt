use Rattle.std.proofs.Common.{◌+◌}
use Rattle.sheets.specs.Logs.{log_of}
use Rattle.sheets.proofs.Gauges.{At, Split, Unmoved}
use Rattle.sheets.proofs.window.slide_gauges.Given as goal

abbrev pub invariant-loop-i : goal.invariant-loop-i
invariant-loop-i l = Split (At (log_of l.roll l.recipe) (l.end + l.n)) (Unmoved (log_of l.roll l.recipe) l.end) l.gauges l.i
