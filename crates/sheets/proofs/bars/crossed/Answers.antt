use Rattle.std.proofs.Common.{◌∙◌, rules, tests}
use Rattle.std.proofs.lemmas.Iterator.{YieldsList-from_slice}
use Rattle.std.proofs.lemmas.Iterator.Search.{any_from_yields_List}
use Rattle.sheets.proofs.Crossing.{crossed_is, meets}
use Rattle.sheets.proofs.bars.crossed.Goals as goal

pub returns : goal.returns
returns c =
    let bs = c.args.bars.now in
    any_from_yields_List (λ x. meets x c.args.first c.args.last) _ _ c.any.result c.any.ensures.ran (YieldsList-from_slice bs cc) (λ x b q k. search (rules, tests))
    ∙ crossed_is bs 32768 c.args.first c.args.last c.requires.order c.requires.barring
