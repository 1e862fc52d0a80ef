-- What replaying promises: every answer is right by the log before its call.
use Rattle.std.specs.Prelude.{◌≡◌, ℕ, ◌<◌, List, ◌++◌, length, take, Ok, slice_index_or}
use Rattle.model.specs.Log.{Log}
use Rattle.model.specs.Recording.{new_checks}
use Rattle.model.specs.Refusals.{accepted, refused, decide, number, told}
use Rattle.criteria.specs.Law.{Rules}
use Rattle.calls.specs.declared.answer.Answer.TheVariants.{Accepted}
use Rattle.calls.specs.declared.unplayed.Unplayed.{Unplayed}
use Rattle.calls.specs.declared.unplayed.Unplayed.TheVariants.{NewRefused, OutOfMemory}
use Rattle.calls.specs.Answers.{Answers, Reply}
use Rattle.calls.specs.Events.{Course, Event, begins, made, finishes, course, started}

-- a trial's beginning and its end are accepted
abbrev pub Right : {C M T : Type 0} → (C → Rules M T) → Log → Event C → Reply T → Type 0
Right rules log begins a = a ≡ Ok Accepted
Right rules log (made c) a = Answers rules log c a
Right rules log finishes a = a ≡ Ok Accepted

-- an answer for each event, right by the log that the events before it have made
pub record Replayed {C M T : Type 0} (rules : C → Rules M T) (from : Course) (es : List (Event C)) (xs : List (Reply T)) : Type 0 where
  pub many : length xs ≡ length es
  pub each : (k : ℕ) → k < length es → Right rules (course from (take k es)).log (slice_index_or es k begins) (slice_index_or xs k (Ok Accepted))

-- these events lead from one course to the other, and their answers stand behind those before
pub record Ran {C M T : Type 0} (rules : C → Rules M T) (from to : Course) (es : List (Event C)) (before after : List (Reply T)) : Type 0 where
  pub answers : List (Reply T)
  pub behind : after ≡ before ++ answers
  pub right : Replayed rules from es answers
  pub leads : course from es ≡ to

-- a replay that did not come to its end: new was refused, or memory was wanting
abbrev pub Stopped : ℕ → ℕ → ℕ → Unplayed → Type 0
Stopped cells sheet parameters (NewRefused e) = refused (number e) (told e) ≡ decide (new_checks cells sheet parameters)
Stopped cells sheet parameters OutOfMemory = Unit {0}

-- new was accepted, and each answer is right by the log that new and the events before it have made
pub record Whole {C M T : Type 0} (rules : C → Rules M T) (places cells sheet parameters : ℕ) (es : List (Event C)) (xs : List (Reply T)) : Type 0 where
  pub new : accepted ≡ decide (new_checks cells sheet parameters)
  pub replayed : Replayed rules (started places cells sheet parameters) es xs
