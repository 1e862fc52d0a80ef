use Rattle.sheets.specs.Gauges.{GaugedIn, Shifted}
use Rattle.sheets.proofs.gauge.Gauge.widen.Given as goal

abbrev pub invariant-loop-i : goal.invariant-loop-i
invariant-loop-i l = record { gauged : GaugedIn l.lane l.self; cells : Shifted l.initial.self l.self 0 l._i }
