use Rattle.std.proofs.Common.{◌≡◌, ℕ, ◌+◌, sym, ap, ◌∙◌, subst, arith}
use Rattle.model.specs.Counting.{stride}
use Rattle.model.specs.Sheets.{bit, good}
use Rattle.model.proofs.Greedy.{stride_few}
use Rattle.model.proofs.Walks.{Walked, walked_start, walked_look, walked_all}
use Rattle.sheets.specs.Logs.{log_of}
use Rattle.sheets.specs.Seen.{seen}
use Rattle.sheets.proofs.counting.walk.Goals as goal
use Rattle.sheets.proofs.counting.walk.Goals.{then-look, else-look}

pub loop-window-init : goal.loop-window-init
loop-window-init c =
    let log = log_of c.args.roll.now c.args.recipe.now in
    let w = c.new-window.ensures in
    let At : ℕ → Type 0 = λ p. Walked log p 0 0 in
    record { sees = w.sees; walked = subst At (sym w.end) (walked_start log) }

pub slide-requires : goal.slide-requires
slide-requires c =
    let w = c.loop-window.window in
    let few = stride_few (seen w) w.end w.roll.now.piece.0 in
    omega (arith, c.look-look.ensures.stride, w.roll.now.foil, w.roll.now.piece)

pub loop-window-preserved : goal.loop-window-preserved
loop-window-preserved c =
    let log = log_of c.args.roll.now c.args.recipe.now in
    let w = c.loop-window.window in
    let sees = c.loop-window.invariant.sees in
    let step : c.look-look.result.stride ≡ stride log w.end = c.look-look.ensures.stride ∙ ap (λ g. stride g w.end) sees in
    let found : c.look-look.result.good ≡ good log w.end = c.look-look.ensures.good ∙ ap (λ g. good g w.end) sees in
    let more = walked_look log w.end c.loop-window.sheets c.loop-window.looks c.args.roll.now.piece.0 (omega (arith, c.size-cells.ensures.cells)) c.loop-window.invariant.walked in
    let end : w.end + stride log w.end ≡ c.slide.new.self.end = omega (arith, c.slide.ensures.moved) in
    let taken : c.loop-window.sheets + bit (good log w.end) ≡ c.if-look.sheets = elim c.if-look.branch [
      | then-look v ↦ (let g : bit (good log w.end) ≡ 1 = ap bit (sym found ∙ v.if-look.true) in omega (arith, v.sheets-is))
      | else-look v ↦ (let g : bit (good log w.end) ≡ 0 = ap bit (sym found ∙ v.if-look.false) in omega (arith, v.sheets-is))
    ] in
    let At : ℕ → Type 0 = λ p. Walked log p (c.loop-window.sheets + bit (good log w.end)) (c.loop-window.looks + 1) in
    let With : ℕ → Type 0 = λ n. Walked log c.slide.new.self.end n (c.loop-window.looks + 1) in
    record { sees = c.slide.ensures.same ∙ sees; walked = subst With taken (subst At end more) }

pub returns : goal.returns
returns c =
    walked_all (log_of c.args.roll.now c.args.recipe.now) c.loop-window.window.end c.loop-window.sheets c.loop-window.looks
    (omega (arith, c.size-cells.ensures.cells)) c.loop-window.invariant.walked
