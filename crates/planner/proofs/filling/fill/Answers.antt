use Rattle.std.proofs.Common.{◌≡◌, ℕ, ◌+◌, ◌-◌, ◌<◌, ◌≤◌, true, false, length, set, is_some, None, sym, refl, ap, ◌∙◌, subst, arith, length-set}
use Rattle.std.proofs.lemmas.Bool.{both_ways}
use Rattle.std.proofs.lemmas.Bool.Decides.{nat_tests}
use Rattle.model.specs.Counting.{lacking}
use Rattle.model.specs.Log.{Log}
use Rattle.model.specs.Sheets.{counts, good}
use Rattle.model.proofs.Lacking.{none_refused}
use Rattle.criteria.specs.Law.{Marked}
use Rattle.choices.specs.declared.work.WorkPlace.{WorkPlace}
use Rattle.choices.specs.Totals.{mark_of}
use Rattle.choices.proofs.Backwards.{Lawful, Sound}
use Rattle.choices.proofs.Bests.{sound}
use Rattle.choices.proofs.Forwards.{task}
use Rattle.choices.proofs.Marks.{asked}
use Rattle.choices.proofs.Tables.{tells_few}
use Rattle.sheets.specs.Answers.{sheet_at}
use Rattle.sheets.specs.Logs.{log_of}
use Rattle.sheets.proofs.Telling.{told_none, told_sheet}
use Rattle.planner.proofs.Tables.{Below, Held, below_next, below_one, filled, held_none, held_skip, held_step, read_held}
use Rattle.planner.proofs.filling.fill.Goals as goal
use Rattle.planner.proofs.filling.fill.Goals.{in-Some, in_default, in_default-2}

pub loop-j-init : goal.loop-j-init
loop-j-init g c =
    let s = c.args.criterion.now in
    let log : Log = log_of c.args.roll.now c.args.recipe.now in
    let r = g.C.Criterion.rules s in
    let H = g.C.Criterion.held s in
    let law : Lawful r = record { order = g.met.C.Criterion.order s; adding = g.met.C.Criterion.adding s } in
    let start = c.blank.result in
    let known = held_none log r (sound log r c.args.roll.now.piece.0) law H c.none.result start c.blank.ensures c.none.ensures.value c.none.ensures.held in
    (c.in_ok-scan.ensures.sees, omega (arith, c.in_ok-scan.ensures.start), below_one log r H c.args.work.now start (omega arith) known)

pub extended-taken-requires : goal.extended-taken-requires
extended-taken-requires g c =
    let s = c.args.criterion.now in
    let log : Log = log_of c.args.roll.now c.args.recipe.now in
    let r = g.C.Criterion.rules s in
    let H = g.C.Criterion.held s in
    let start = c.blank.result in
    let long : length c.loop-j.work ≡ length c.args.work.now = c.loop-j.invariant.2.many ∙ length-set c.args.work.now 0 start in
    let some : 1 ≤ c.args.roll.now.size.sheet = c.args.roll.now.piece.0 in
    let back : c.behind.result < c.loop-j.j = omega (arith, c.behind.ensures, c.size-size.ensures.sheet) in
    let before = read_held log r H (set c.args.work.now 0 start) c.loop-j.work c.loop-j.j c.behind.result c.index-work-behind.result
    c.loop-j.invariant.2 back (omega arith) c.index-work-behind.is in
    omega (arith, tells_few log r (sound log r some) c.behind.result c.index-work-behind.result before.tells, c.args.roll.now.foil.1, c.size-size.ensures.cells, c.needed-places.ensures)

pub loop-j-preserved : goal.loop-j-preserved
loop-j-preserved g c =
    let s = c.args.criterion.now in
    let log : Log = log_of c.args.roll.now c.args.recipe.now in
    let r = g.C.Criterion.rules s in
    let H = g.C.Criterion.held s in
    let law : Lawful r = record { order = g.met.C.Criterion.order s; adding = g.met.C.Criterion.adding s } in
    let start = c.blank.result in
    let was = set c.args.work.now 0 start in
    let work = c.loop-j.work in
    let j = c.loop-j.j in
    let back = c.behind.result in
    let v = c.index-work-j.result in
    let u = c.index-work-behind.result in
    let foil = c.args.roll.now.size in
    let sees = c.loop-j.invariant.0 in
    let here : c.loop-j.scan.position + 1 ≡ j = c.loop-j.invariant.1 in
    let below : Below log r H was work j = c.loop-j.invariant.2 in
    let long : length work ≡ length c.args.work.now = below.many ∙ length-set c.args.work.now 0 start in
    let some : 1 ≤ foil.sheet = c.args.roll.now.piece.0 in
    let sure : Sound (task log r) = sound log r some in
    let nothing : lacking log ≡ None = none_refused log c.in_ok-scan.ensures.answer in
    let on : j ≤ foil.cells = omega (arith, c.size-size.ensures.cells, c.needed-places.ensures) in
    let one : 1 ≤ j = c.loop-j.auto.j in
    let far : back ≡ j - foil.sheet = omega (arith, c.behind.ensures, c.size-size.ensures.sheet) in
    let last : Held log r H (j - 1) v = read_held log r H was work j (j - 1) v below (omega arith) (omega arith) c.index-work-j.is in
    let At : ℕ → Type 0 = λ n. Held log r H n u in
    let before : Held log r H (j - foil.sheet) u = subst At far (read_held log r H was work j back u below (omega arith) (omega arith) c.index-work-behind.is) in
    let Place : WorkPlace _ → Type 0 = Held log r H j in
    let held : Held log r H j c.match-next_end.work = elim c.match-next_end.branch [
      | in-Some w ↦ (let told = told_sheet log j w.in-Some.sheet (w.in-Some.ensures.value log sees ∙ ap (sheet_at log) here) in
          let fine : good log j ≡ true = sym told.1 ∙ w.if-sheet.true in
          let l : c.size-size.result.sheet ≡ log.roll.sheet = c.size-size.ensures.sheet in
          let mark : w.mark-mark.result ≡ mark_of log r j = w.mark-mark.ensures ∙ ap (λ n. r.mark n w.in-Some.sheet.counts) l ∙ ap (r.mark log.roll.sheet) told.0 in
          let marked : Marked r w.mark-mark.result = (log.roll.sheet, counts log j, asked log j c.args.roll.now.piece.1, mark) in
          let sum = w.extended-taken.ensures.sum before.held marked ∙ ap (r.add u.total) mark in
          subst Place (sym w.work-is)
          (held_step log r sure law H j v u w.extended-taken.result w.better.result one fine last before w.extended-taken.ensures.sheets sum w.extended-taken.ensures.last
          (w.extended-taken.ensures.held before.held marked) w.better.ensures))
      | in_default-2 w ↦ (let told = told_sheet log j w.in-Some.sheet (w.in-Some.ensures.value log sees ∙ ap (sheet_at log) here) in
          subst Place (sym w.work-is) (held_skip log r sure law H j v (λ q. both_ways _ (sym q ∙ sym told.1 ∙ w.if-sheet.false) refl) last))
      | in_default w ↦ subst Place (sym w.work-is) (held_skip log r sure law H j v (told_none log j nothing (w.in_default.ensures.value log sees ∙ ap (sheet_at log) here)) last)
    ] in
    (c.next_end.ensures.sees log sees, omega (arith, c.next_end.ensures.moved log sees), below_next log r H was work j c.match-next_end.work below (omega arith) held)

pub returns : goal.returns
returns g c =
    let s = c.args.criterion.now in
    let log : Log = log_of c.args.roll.now c.args.recipe.now in
    let none : lacking log ≡ None = none_refused log c.in_ok-scan.ensures.answer in
    let all : is_some (lacking log) ≡ false = ap is_some none in
    let start = c.blank.result in
    record {
      answer = grind (arith, nat_tests);
      table = filled log (g.C.Criterion.rules s) (g.C.Criterion.held s) c.args.work.now c.loop-j.work start c.loop-j.j
          (omega (arith, c.size-size.ensures.cells, c.needed-places.ensures)) (omega (arith, c.size-size.ensures.cells, c.needed-places.ensures, c.loop-j.auto.j-end (omega arith))) c.loop-j.invariant.2;
    }
