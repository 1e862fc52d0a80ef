use Rattle.std.proofs.Common.{◌≡◌}
use Rattle.model.specs.Counting.{excess}
use Rattle.sheets.specs.Seen.{seen}
use Rattle.sheets.proofs.window.Window.excess.Given as goal

abbrev pub invariant-loop-i : goal.invariant-loop-i
invariant-loop-i l = l.most ≡ excess (seen l.self) l.self.end l.i
