-- A plan's answer, from what plan promises.
use Rattle.std.proofs.Common.{◌≡◌, ℕ, List, length, take, Ok, vec_items, Vec, sym, ap, ◌∙◌}
use Rattle.std.proofs.lemmas.List.{length-take-le}
use Rattle.std.specs.declared.alloc.Global.{Global}
use Rattle.model.specs.Log.{Log}
use Rattle.model.specs.Refusals.{accepted, decide}
use Rattle.criteria.specs.Law.{Rules}
use Rattle.choices.proofs.Bests.{best_greatest, greatest_once}
use Rattle.planner.specs.declared.planning.Planned.{Planned}
use Rattle.planner.specs.Planning.{Answered, Decided, plan_checks}
use Rattle.calls.specs.declared.answer.Answer.TheVariants as answer
use Rattle.calls.specs.Answers.{Plans}

-- best choices have equally many sheets, so that the one answered decides as the one that plan went by
pub plans_accepted : {M T : Type 0} (log : Log) (r : Rules M T) (work ends : ℕ) (before after : List ℕ) (p : Planned T) (v : Vec ℕ Global) →
    Decided log r work ends accepted → Answered log r before after p → vec_items v ≡ take p.sheets after → Plans log r work ends (Ok (answer.Planned p v))
plans_accepted log r work ends before after p v d a e =
    let xs = take p.sheets after in
    let n : length xs ≡ p.sheets = length-take-le p.sheets after a.room in
    let same : length d.chosen ≡ length xs = greatest_once log (length d.chosen) (length xs) (best_greatest log r d.chosen d.best) (best_greatest log r xs a.best) in
    record {
      chosen = xs;
      best = a.best;
      answer = (d.by ∙ ap (λ k. decide (plan_checks log work ends k)) same, (e, sym n, a.sum, a.ticket));
    }
