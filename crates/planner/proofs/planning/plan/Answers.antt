use Rattle.std.proofs.Common.{◌≡◌, ℕ, ◌-◌, Bool, List, [], ◌∷◌, length, get_or, take, set, sym, refl, ap, ◌∙◌, subst, arith}
use Rattle.std.proofs.lemmas.List.{get_or_default, length-take-le}
use Rattle.std.proofs.lemmas.Result.{err_from_is_err_and}
use Rattle.model.specs.Choices.{Choice, Greatest}
use Rattle.model.specs.Log.{Log}
use Rattle.model.specs.Refusals.{accepted, refused, decide, number, told}
use Rattle.choices.specs.declared.work.WorkPlace.{WorkPlace}
use Rattle.choices.specs.Best.{Best}
use Rattle.choices.specs.Table.{Tells, blank}
use Rattle.choices.proofs.Backwards.{Lawful}
use Rattle.choices.proofs.Bests.{best_greatest, best_of_all, best_some, greatest_once, sound}
use Rattle.choices.proofs.Tracing.{Trace, trace_all, trace_more, trace_none}
use Rattle.sheets.specs.Logs.{log_of}
use Rattle.planner.specs.Planning.{TableAfter, plan_checks, room_check}
use Rattle.planner.proofs.Checks.{decided_by_ends, decided_by_table, enough_room, for_ends, not_for_ends}
use Rattle.planner.proofs.Tables.{read_last}
use Rattle.planner.proofs.planning.plan.Goals as goal

pub returns-in_err-fill : goal.returns-in_err-fill
returns-in_err-fill g c =
    let log : Log = log_of c.args.roll.now c.args.recipe.now in
    let r = g.C.Criterion.rules c.args.criterion.now in
    let s = c.args.criterion.now in
    let law : Lawful r = record { order = g.met.C.Criterion.order s; adding = g.met.C.Criterion.adding s } in
    let best = best_some log r (sound log r c.args.roll.now.piece.0) law in
    let works = length c.args.work.now in
    let rooms = length c.args.ends.now in
    let e = c.in_err-fill.field-0.0 in
    let refusal = c.in_err-fill.ensures.answer in
    let After : Bool → Type 0 = TableAfter log r c.args.work.now c.fill.new.work in
    let p = err_from_is_err_and c.from_residual.result c.from_residual.ensures.1 in
    rw (p.1, p.2) (record {
      answer = record { chosen = best.0; best = best.1; by = decided_by_table log works rooms (length best.0) (number e) (told e) refusal };
      value = refl;
      table = subst After (sym (not_for_ends log works (number e) (told e) refusal)) c.in_err-fill.ensures.table;
      counted = tt;
    })

pub returns-in_err-room : goal.returns-in_err-room
returns-in_err-room g c =
    let log : Log = log_of c.args.roll.now c.args.recipe.now in
    let r = g.C.Criterion.rules c.args.criterion.now in
    let x = c.index-work-size.result in
    let table = c.in_ok-fill.ensures.table in
    let told-last = read_last log r c.args.work.now c.fill.new.work c.size-size.result.cells x table c.size-size.ensures.cells c.index-work-size.is in
    let rooms = length c.args.ends.now in
    let works = length c.args.work.now in
    let e = c.in_err-room.field-0.0 in
    let refusal : refused (number e) (told e) ≡ decide (room_check rooms x.sheets ∷ []) = c.in_err-room.ensures in
    let By : ℕ → Type 0 = λ k. refused (number e) (told e) ≡ decide (plan_checks log works rooms k) in
    let After : Bool → Type 0 = TableAfter log r c.args.work.now c.fill.new.work in
    let p = err_from_is_err_and c.from_residual-in_err-room.result c.from_residual-in_err-room.ensures.1 in
    rw (p.1, p.2) (record {
      answer = record {
        chosen = told-last.ends;
        best = best_of_all log r told-last.ends told-last.best;
        by = subst By told-last.sheets (refusal ∙ decided_by_ends log works rooms x.sheets c.in_ok-fill.ensures.answer);
      };
      value = refl;
      table = subst After (sym (for_ends rooms x.sheets (number e) (told e) refusal)) table;
      counted = tt;
    })

pub loop-left-init : goal.loop-left-init
loop-left-init g c =
    let log : Log = log_of c.args.roll.now c.args.recipe.now in
    let r = g.C.Criterion.rules c.args.criterion.now in
    let x = c.index-work-size.result in
    let cells = c.size-size.ensures.cells in
    let told = read_last log r c.args.work.now c.fill.new.work c.size-size.result.cells x c.in_ok-fill.ensures.table cells c.index-work-size.is in
    let From : ℕ → Type 0 = λ n. Trace log r c.args.ends.now c.args.ends.now x n x.sheets in
    subst From (sym cells) (trace_none log r c.args.ends.now x told (enough_room (length c.args.ends.now) x.sheets c.in_ok-room.ensures))

pub loop-left-preserved : goal.loop-left-preserved
loop-left-preserved g c =
    let log : Log = log_of c.args.roll.now c.args.recipe.now in
    let s = c.args.criterion.now in
    let r = g.C.Criterion.rules s in
    let law : Lawful r = record { order = g.met.C.Criterion.order s; adding = g.met.C.Criterion.adding s } in
    let table = c.in_ok-fill.ensures.table in
    let within = c.loop-left.invariant.traced.within in
    let w = get_or c.fill.new.work c.loop-left.at c.index-work-at.result in
    let At : WorkPlace _ → Type 0 = Tells log r c.loop-left.at in
    let told_here : Tells log r c.loop-left.at w = subst At (get_or_default c.fill.new.work c.loop-left.at (blank r) c.index-work-at.result (omega (arith, table.room))) (table.places c.loop-left.at within) in
    let ends = set c.loop-left.ends (c.loop-left.left - 1) w.last in
    let v = c.index-work-size.result in
    let back : w.last - log.roll.sheet ≡ c.behind-at.result = ap (λ n. w.last - n) (sym c.size-size.ensures.sheet) ∙ sym c.behind-at.ensures in
    let From : ℕ → Type 0 = λ n. Trace log r c.args.ends.now ends v n (c.loop-left.left - 1) in
    let Into : List ℕ → Type 0 = λ xs. Trace log r c.args.ends.now xs v c.behind-at.result (c.loop-left.left - 1) in
    subst Into (sym c.put.ensures)
    (subst From back
    (trace_more log r c.args.ends.now v c.loop-left.ends c.loop-left.at c.loop-left.left w
    (sound log r c.args.roll.now.piece.0) law c.loop-left.invariant (omega arith) told_here))

pub returns : goal.returns
returns g c =
    let log : Log = log_of c.args.roll.now c.args.recipe.now in
    let r = g.C.Criterion.rules c.args.criterion.now in
    let x = c.index-work-size.result in
    let ends = c.loop-left.ends in
    let rooms = length c.args.ends.now in
    let works = length c.args.work.now in
    let all = trace_all log r c.args.ends.now x ends c.loop-left.at c.loop-left.left c.loop-left-test.false c.loop-left.invariant in
    let best : Best log r (Choice log) (take x.sheets ends) = best_of_all log r (take x.sheets ends) all.0 in
    let n : length (take x.sheets ends) ≡ x.sheets = length-take-le x.sheets ends all.3 in
    let By : ℕ → Type 0 = λ k. accepted ≡ decide (plan_checks log works rooms k) in
    let Great : ℕ → Type 0 = Greatest log in
    record {
      answer = record {
        chosen = take x.sheets ends;
        best = best;
        by = subst By (sym n) (c.in_ok-room.ensures ∙ decided_by_ends log works rooms x.sheets c.in_ok-fill.ensures.answer);
      };
      value = record {
        room = all.3;
        best = best;
        sum = all.1;
        beyond = all.2;
        ticket = record {
          cells = ap (λ t. t.cells) c.issued.ensures ∙ c.size-size.ensures.cells;
          span = ap (λ t. t.span) c.issued.ensures ∙ c.size-size.ensures.sheet;
          sheets = ap (λ t. t.sheets) c.issued.ensures;
        };
      };
      table = c.in_ok-fill.ensures.table;
      counted = λ sheets looks h. greatest_once log x.sheets sheets (subst Great n (best_greatest log r (take x.sheets ends) best)) h.greatest;
    }
