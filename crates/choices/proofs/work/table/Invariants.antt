use Rattle.std.proofs.Common.{◌≡◌, replicate, vec_items}
use Rattle.choices.specs.Table.{empty}
use Rattle.choices.proofs.work.table.Given as goal

abbrev pub invariant-loop : goal.invariant-loop
invariant-loop g l = vec_items l.table ≡ replicate l.counter (empty l.none)
