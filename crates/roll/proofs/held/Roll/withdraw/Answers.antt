use Rattle.std.proofs.Common.{◌≡◌, ℕ, true, List, Option, Some, take, is_some, ap, ◌∙◌, subst, arith, rules}
use Rattle.std.proofs.lemmas.Grind.{common_steps}
use Rattle.model.specs.declared.reading.Reading.{Reading}
use Rattle.model.specs.Recording.{beyond, latest}
use Rattle.model.specs.Recorded.{Last, OnRoll}
use Rattle.model.specs.Serving.{blank}
use Rattle.model.proofs.Each.{each_removed}
use Rattle.model.proofs.Latest.{latest_last, withdrawn_last}
use Rattle.model.proofs.Rising.{rising_removed}
use Rattle.roll.specs.Lent.{LatestAt, recorded}
use Rattle.roll.proofs.Nexts.{nexts_removed}
use Rattle.roll.proofs.held.Roll.withdraw.Goals as goal
use Rattle.roll.proofs.held.Roll.withdraw.Goals.{After-remove}

last : (c : After-remove) → Last (recorded c.args.self.now.places) c.args.parameter c.in_ok-place.place
last c =
    let is : c.latest.result ≡ Some c.in_ok-place.place = search rules in
    let At : Option ℕ → Type 0 = LatestAt (recorded c.args.self.now.places) c.args.parameter in
    subst At is (rw c.readings-readings.ensures at c.latest.ensures)

pub invariant_of-self : goal.invariant_of-self
invariant_of-self c =
    let s = c.args.self.now in
    let rs : List Reading = recorded s.places in
    let k = c.in_ok-place.place in
    let found = c.in_ok-lane.ensures.found in
    let next : c.beyond-next.result ≡ beyond (take k rs) c.args.parameter = c.beyond-next.ensures ∙ ap (λ xs. beyond (take k xs) c.args.parameter) c.readings-readings.ensures in
    record {
      foil = s.foil;
      piece = s.piece;
      kinds = s.kinds;
      placed = rw c.remove.ensures.after (each_removed blank (OnRoll s.size.cells s.size.parameters) rs k (last c).within s.placed);
      rising = rw c.remove.ensures.after (rising_removed rs k (last c).within s.rising);
      latest = rw (c.remove.ensures.after, next) (nexts_removed s.next rs c.args.parameter c.in_ok-lane.lane k (found.0, omega (arith, found, s.kinds.1)) s.latest (last c));
      few = s.few;
      barring = s.barring;
    }

some : (c : After-remove) → is_some (latest (recorded c.args.self.now.places) c.args.parameter) ≡ true
some c = ap is_some (latest_last _ _ _ (last c))

pub returns-clause-answer : goal.returns-clause-answer
returns-clause-answer c = let is = some c.before in grind (arith, common_steps)

pub returns-clause-after : goal.returns-clause-after
returns-clause-after c = let is = some c.before in grind (arith, common_steps, withdrawn_last _ _ _ (last c.before))
