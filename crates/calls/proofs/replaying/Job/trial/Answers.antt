use Rattle.std.proofs.Common.{◌≡◌, ◌+◌, List, [], ◌∷◌, ◌++◌, map, take, vec_items, Ok, sym, refl, ap, ◌∙◌, subst, arith}
use Rattle.std.proofs.lemmas.List.{map_more, take_all}
use Rattle.calls.specs.declared.answer.Answer.TheVariants.{Accepted}
use Rattle.calls.specs.Courses.{course_of}
use Rattle.calls.specs.Events.{Course, Event, begins, finishes, made}
use Rattle.calls.specs.Replay.{Ran}
use Rattle.calls.proofs.Runs.{ran_next, ran_one}
use Rattle.calls.proofs.replaying.Job.trial.Goals as goal

pub loop-call-init : goal.loop-call-init
loop-call-init g c =
    let from : Course = course_of c.args.self.now.roll c.args.self.now.recipe in (
      refl,
      ran_one g.C.Criterion.rules from _ begins (Ok Accepted) (vec_items c.args.self.now.replies) (vec_items c.push.new.self) refl
          (grind (arith, c.trial-trial.ensures.same, c.trial-trial.ensures.laid)) c.in_ok-push.ensures.items,
    )

pub loop-call-preserved : goal.loop-call-preserved
loop-call-preserved g c =
    let rules = g.C.Criterion.rules in
    let from : Course = course_of c.args.self.now.roll c.args.self.now.recipe in
    let mid : Course = course_of c.loop-call.roll c.loop-call.trial.recipe.now in
    let to : Course = course_of c.make_in_trial.new.roll c.make_in_trial.new.trial.recipe.now in
    let calls = c.args.calls.now in
    let i = c.loop-call.call-index in
    let x = c.call-item.result in
    let last : map made (take (i + 1) calls) ≡ map made (take i calls) ++ made x ∷ [] =
    map_more made calls i x (omega arith) ∙ ap (λ y. map made (take i calls) ++ made y ∷ []) (sym c.call-item.is) in
    let Of : List (Event _) → Type 0 = λ es. Ran rules from to (begins ∷ es) (vec_items c.args.self.now.replies) (vec_items c.push-in-loop-call.new.self) in (
      c.make_in_trial.ensures.lent ∙ c.loop-call.invariant.0,
      subst Of (sym last) (ran_next rules from mid to (begins ∷ map made (take i calls)) (made x) c.in_ok-make_in_trial.field-0 (vec_items c.args.self.now.replies) (vec_items c.loop-call.replies)
          (vec_items c.push-in-loop-call.new.self) c.loop-call.invariant.1 c.in_ok-make_in_trial.ensures.answer (grind (arith, c.in_ok-make_in_trial.ensures.after, c.make_in_trial.ensures.laid)) c.in_ok-push-2.ensures.items),
    )

pub returns : goal.returns
returns g c =
    let rules = g.C.Criterion.rules in
    let from : Course = course_of c.args.self.now.roll c.args.self.now.recipe in
    let last : Course = course_of c.loop-call.roll c.loop-call.trial.recipe.now in
    let to : Course = course_of c.loop-call.roll c.drop-trial-2.new.self.0 in
    let calls = c.args.calls.now in
    let i = c.loop-call.call-index in
    let all : map made (take i calls) ≡ map made calls = ap (map made) (take_all i calls (omega arith)) in
    let Of : List (Event _) → Type 0 = λ es. Ran rules from last (begins ∷ es) (vec_items c.args.self.now.replies) (vec_items c.loop-call.replies) in
    ran_next rules from last to (begins ∷ map made calls) finishes (Ok Accepted) (vec_items c.args.self.now.replies) (vec_items c.loop-call.replies) (vec_items c.push-2.new.self)
    (subst Of all c.loop-call.invariant.1) refl (grind (arith, c.drop-trial-2.ensures.back, c.drop-trial-2.ensures.laid)) c.in_ok-push-3.ensures.items
