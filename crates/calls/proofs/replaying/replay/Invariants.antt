use Rattle.std.proofs.Common.{[], take, vec_items}
use Rattle.calls.specs.Courses.{course_of}
use Rattle.calls.specs.Events.{events}
use Rattle.calls.specs.Replay.{Ran}
use Rattle.calls.proofs.replaying.replay.Given as goal

abbrev pub invariant-loop-step : goal.invariant-loop-step
invariant-loop-step g l =
    Ran g.C.Criterion.rules (course_of l.initial.job.roll l.initial.job.recipe) (course_of l.job.roll l.job.recipe) (events (take l.step-index l.steps)) [] (vec_items l.job.replies)
