use Rattle.std.proofs.Common.{arith}
use Rattle.sheets.proofs.Standing.{stays}
use Rattle.sheets.proofs.search.Search.advance.Goals as goal
use Rattle.sheets.proofs.search.Search.advance.Goals.{else-self-lane-via-then-self-lane+else-lane-self, else-self-lane-via-else-self-lane}

pub returns-else-self-lane-clause-stands : goal.returns-else-self-lane-clause-stands
returns-else-self-lane-clause-stands c = stays _ _ _ c.requires.stands (λ w.
    elim c.else-self-lane.branch [
      | else-self-lane-via-then-self-lane+else-lane-self v ↦ v.if-lane-self.false
      | else-self-lane-via-else-self-lane v ↦ absurd (omega (arith, v.if-self-lane.false))
    ])
