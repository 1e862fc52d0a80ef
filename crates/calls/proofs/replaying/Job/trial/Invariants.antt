use Rattle.std.proofs.Common.{◌≡◌, ◌∷◌, map, take, vec_items}
use Rattle.calls.specs.Courses.{course_of}
use Rattle.calls.specs.Events.{begins, made}
use Rattle.calls.specs.Replay.{Ran}
use Rattle.calls.proofs.replaying.Job.trial.Given as goal

abbrev pub invariant-loop-call : goal.invariant-loop-call
invariant-loop-call g l =
    (l.trial.recipe.ghost_name ≡ l.initial.trial.recipe.ghost_name)
    × Ran g.C.Criterion.rules (course_of l.fn.self.roll l.fn.self.recipe) (course_of l.roll l.trial.recipe.now) (begins ∷ map made (take l.call-index l.calls)) (vec_items l.fn.self.replies)
    (vec_items l.replies)
