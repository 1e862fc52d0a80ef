-- A look at the window's sheet.
use Rattle.std.proofs.Common.{◌≡◌, ℕ, ◌+◌, ◌-◌, ◌≤◌, true, ◌&&◌, eqb, ap, ◌∙◌, arith}
use Rattle.std.proofs.lemmas.Bool.Decides.{nat_tests}
use Rattle.std.proofs.Math.Bool.{and_comm}
use Rattle.model.specs.Counting.{excess}
use Rattle.model.specs.Log.{Log}
use Rattle.model.specs.Sheets.{clear, within_shares, fits, good}
use Rattle.model.proofs.Shares.{within_shares_is}

-- the sheet is good where nothing is in excess and its cells are clear of bars
pub good_is : (log : Log) (p : ℕ) → log.roll.sheet ≤ p → p ≤ log.roll.cells →
    good log p ≡ (eqb (excess log p log.roll.parameters) 0 && clear log.roll.bars (p + 1 - log.roll.sheet) log.roll.sheet)
good_is log p low high =
    let free = clear log.roll.bars (p + 1 - log.roll.sheet) log.roll.sheet in
    let on : fits log p ≡ true = grind (arith, nat_tests) in
    ap (λ t. t && (free && within_shares log p log.roll.parameters)) on
    ∙ ap (λ t. free && t) (within_shares_is log p log.roll.parameters)
    ∙ and_comm free (eqb (excess log p log.roll.parameters) 0)
