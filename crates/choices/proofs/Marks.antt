-- The sheets that planning asks a criterion about.
use Rattle.std.proofs.Common.{ℕ, ◌≤◌, refl}
use Rattle.model.specs.Log.{Log}
use Rattle.model.specs.Sheets.{b, counts}
use Rattle.model.proofs.Listed.{listed_few}
use Rattle.model.proofs.Shares.{b_few}
use Rattle.criteria.specs.Law.{Asked}

pub asked : (log : Log) (p : ℕ) → log.roll.sheet ≤ 4096 → Asked log.roll.sheet (counts log p)
asked log p h = record { short = h; eight = refl; few = listed_few (b log p) 1 8 log.roll.sheet (b_few log p) }
