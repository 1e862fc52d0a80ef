use Rattle.std.proofs.Common.{◌∙◌, eqb, rules}
use borrow.Author.Tests.{tests}
use Rattle.std.proofs.lemmas.Iterator.{YieldsList-from_slice}
use Rattle.std.proofs.lemmas.Iterator.Consumers.{YieldsList-from_filter}
use Rattle.roll.proofs.Picking.{picks}
use Rattle.roll.proofs.queries.nearest.Goals as goal

pub returns : goal.returns
returns c =
    c.copied.ensures
    ∙ picks _ _ c.args.cell (λ x k q h. search (rules, tests)) c.args.readings.now c.args.parameter c.min_by_key.result c.min_by_key.ensures.ran
    (YieldsList-from_filter _ (λ r. eqb r.parameter c.args.parameter) (YieldsList-from_slice c.args.readings.now cc) c.filter.ensures.closure (λ x b q h. search (rules, tests)))
