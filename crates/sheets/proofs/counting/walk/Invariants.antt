use Rattle.std.proofs.Common.{◌≡◌, ◌+◌, ◌-◌}
use Rattle.model.proofs.Walks.{Walked}
use Rattle.sheets.specs.Logs.{log_of}
use Rattle.sheets.specs.Seen.{seen}
use Rattle.sheets.proofs.counting.walk.Given as goal

abbrev pub invariant-loop-window : goal.invariant-loop-window
invariant-loop-window l = record {
  sees : seen l.window ≡ log_of l.roll l.recipe;
  walked : Walked (log_of l.roll l.recipe) l.window.end l.sheets l.looks;
}

abbrev pub decreases-loop-window : goal.decreases-loop-window
decreases-loop-window l = l.cells + 1 - l.window.end
