use Rattle.std.proofs.Common.{◌≡◌, ◌+◌, ◌≤◌, List, ap, arith}
use Rattle.std.proofs.lemmas.Grind.{elements}
use Rattle.model.specs.declared.reading.Reading.{Reading}
use Rattle.model.specs.Recording.{beyond}
use Rattle.model.proofs.Rising.{rising_push}
use Rattle.roll.specs.Lent.{recorded}
use Rattle.roll.proofs.Nexts.{nexts_push}
use Rattle.roll.proofs.held.Roll.reading.Goals as goal

pub invariant_of-self : goal.invariant_of-self
invariant_of-self c =
    let s = c.args.self.now in
    let rs : List Reading = recorded s.places in
    let r : Reading = record { parameter = c.args.parameter; position = c.args.position; value = c.args.value } in
    let lane = c.in_ok-lane.lane in
    let found : (lane + 1 ≡ r.parameter) × (r.parameter ≤ s.size.parameters) = c.in_ok-lane.ensures.found in
    let last : beyond rs r.parameter ≤ r.position =
    omega (arith, c.if-position-self-2.false, s.latest.1 lane (omega (arith, s.kinds.1)), ap (beyond rs) found.0) in
    record {
      foil = s.foil;
      piece = s.piece;
      kinds = s.kinds;
      placed = rw c.push.ensures.after (grind (arith, elements));
      rising = rw c.push.ensures.after (rising_push rs r s.rising last);
      latest = rw c.push.ensures.after (nexts_push s.next rs r lane (found.0, omega (arith, s.kinds.1)) s.latest);
      few = s.few;
      barring = s.barring;
    }
