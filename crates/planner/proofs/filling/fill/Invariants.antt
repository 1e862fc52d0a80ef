use Rattle.std.proofs.Common.{◌≡◌, ◌+◌}
use Rattle.sheets.specs.Logs.{log_of}
use Rattle.sheets.specs.Scans.{Sees}
use Rattle.planner.proofs.Tables.{Below}
use Rattle.planner.proofs.filling.fill.Given as goal

abbrev pub invariant-loop-j : goal.invariant-loop-j
invariant-loop-j g l =
    Sees l.scan (log_of l.roll l.recipe) × (l.scan.position + 1 ≡ l.j)
    × Below (log_of l.roll l.recipe) (g.C.Criterion.rules l.criterion) (g.C.Criterion.held l.criterion) l.initial.work l.work l.j
