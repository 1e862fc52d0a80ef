use Rattle.choices.proofs.Tracing.{Trace}
use Rattle.sheets.specs.Logs.{log_of}
use Rattle.planner.proofs.planning.plan.Given as goal

abbrev pub invariant-loop-left : goal.invariant-loop-left
invariant-loop-left g l = Trace (log_of l.roll l.recipe) (g.C.Criterion.rules l.criterion) l.initial.ends l.ends l.best l.at l.left
