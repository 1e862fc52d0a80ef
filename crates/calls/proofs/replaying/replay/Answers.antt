use Rattle.std.proofs.Common.{◌≡◌, ◌+◌, List, [], ◌∷◌, ◌++◌, length, take, vec_items, sym, ap, ◌∙◌, subst, arith}
use Rattle.std.proofs.lemmas.List.{take_all, take_more}
use Rattle.model.specs.Recording.{after_new, idle}
use Rattle.roll.specs.Rolls.{roll_log}
use Rattle.calls.specs.Courses.{course_of}
use Rattle.calls.specs.Events.{Course, Event, events, events_of, started}
use Rattle.calls.specs.Replay.{Ran, Replayed}
use Rattle.calls.proofs.Runs.{events_more, ran_join}
use Rattle.calls.proofs.replaying.replay.Goals as goal

pub loop-step-preserved : goal.loop-step-preserved
loop-step-preserved g c =
    let rules = g.C.Criterion.rules in
    let from : Course = course_of c.new.new.self c.fresh.result in
    let mid : Course = course_of c.loop-step.job.roll c.loop-step.job.recipe in
    let to : Course = course_of c.step.new.self.roll c.step.new.self.recipe in
    let i = c.loop-step.step-index in
    let steps = c.args.steps.now in
    let x = c.step-item.result in
    let more = ran_join rules from mid to (events (take i steps)) (events_of x) [] (vec_items c.loop-step.job.replies) (vec_items c.step.new.self.replies) c.loop-step.invariant c.in_ok-step.ensures in
    let last : events (take (i + 1) steps) ≡ events (take i steps) ++ events_of x = ap events (take_more steps i x (omega arith) ∙ ap (λ y. take i steps ++ y ∷ []) (sym c.step-item.is)) ∙ events_more (take i steps) x in
    let Of : List (Event _) → Type 0 = λ es. Ran rules from to es [] (vec_items c.step.new.self.replies) in
    subst Of (sym last) more

pub returns : goal.returns
returns g c =
    let rules = g.C.Criterion.rules in
    let from : Course = course_of c.new.new.self c.fresh.result in
    let run = c.loop-step.invariant in
    let many : length c.deref_mut.result.now ≡ c.args.places = omega (arith, c.deref_mut.ensures.len, c.in_ok-readings.ensures.len) in
    let roll : roll_log c.new.new.self ≡ after_new (idle c.args.places) c.args.cells c.args.sheet c.args.parameters =
    c.new.ensures.after ∙ ap (λ log. after_new log c.args.cells c.args.sheet c.args.parameters) (c.idle-roll.ensures.value ∙ ap idle many) in
    let Start : Course → Type 0 = λ k. Replayed rules k (events c.args.steps.now) (vec_items c.loop-step.job.replies) in
    let first : from ≡ started c.args.places c.args.cells c.args.sheet c.args.parameters =
    grind (arith, roll, c.fresh.ensures.value, c.fresh.ensures.laid) in
    let Answers : List _ → Type 0 = Replayed rules from (events c.args.steps.now) in
    let Ss : List _ → Type 0 = λ ss. Replayed rules from (events ss) run.answers in
    record {
      new = c.in_ok-new.ensures.answer;
      replayed = subst Start first (subst Answers (sym run.behind) (subst Ss (take_all c.loop-step.step-index c.args.steps.now (omega arith)) run.right));
    }
