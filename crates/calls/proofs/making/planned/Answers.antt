use Rattle.std.proofs.Common.{length, take, ap, ◌∙◌, arith}
use Rattle.std.proofs.lemmas.List.{with_items_is}
use Rattle.sheets.specs.Logs.{log_of}
use Rattle.calls.proofs.Planned.{plans_accepted}
use Rattle.calls.proofs.making.planned.Goals as goal

pub returns : goal.returns
returns g c =
    let p = c.in_ok-plan.plan in
    let after = c.plan.new.ends in
    let ends = c.truncate.ensures.items ∙ ap (take p.sheets) (with_items_is c.args.ends after (omega (arith, c.plan.auto.ends, c.deref_mut.ensures.len))) in
    plans_accepted (log_of c.args.roll.now c.args.recipe.now) (g.C.Criterion.rules c.args.criterion.now) (length c.args.work.now) (length c.args.ends.items) c.deref_mut.result.now after p
    c.truncate.new.self (rw c.deref_mut.ensures.value at c.in_ok-plan.ensures.answer) c.in_ok-plan.ensures.value ends
