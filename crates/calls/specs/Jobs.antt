-- Jobs under way; cited by inner functions alone.
use Rattle.std.specs.Prelude.{List}
use Rattle.criteria.specs.Law.{Rules}
use Rattle.calls.specs.declared.replaying.Job.{Job}
use Rattle.calls.specs.Courses.{course_of}
use Rattle.calls.specs.Events.{Event}
use Rattle.calls.specs.Replay.{Ran}

-- these events have led the job from one state to the other, each with its reply
abbrev pub Led : {C M T : Type 0} → (C → Rules M T) → Job C M T → Job C M T → List (Event C) → Type 0
Led rules old new es = Ran rules (course_of old.roll old.recipe) (course_of new.roll new.recipe) es old.replies.items new.replies.items
