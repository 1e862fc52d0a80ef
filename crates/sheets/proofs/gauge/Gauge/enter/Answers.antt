use Rattle.std.proofs.Common.{◌≡◌, ℕ, ◌-◌, Bool, arith}
use Rattle.model.specs.Sheets.{bit}
use Rattle.recipe.specs.Entries.{plain}
use Rattle.sheets.specs.Gauges.{outlier_by}
use Rattle.model.proofs.Outliers.{bit_small, outliers_few, enters}
use Rattle.sheets.proofs.gauge.Gauge.enter.Goals as goal

pub overflow_add-self : goal.overflow_add-self
overflow_add-self c =
    let s = c.args.self.now in
    let f : ℕ → Bool = outlier_by c.args.lane.now.readings.now (plain c.args.lane.now.limits) c.args.lane.now.parameter in
    let m : c.weight.result ≡ bit (f s.entering.cell) = cc in
    omega (arith, c.requires.gauged.count, bit_small (f s.entering.cell), outliers_few f s.leaving.cell (s.entering.cell - s.leaving.cell))

pub returns-clause-gauged : goal.returns-clause-gauged
returns-clause-gauged c =
    let s = c.args.self.now in
    let h = c.requires.gauged in
    let f : ℕ → Bool = outlier_by c.args.lane.now.readings.now (plain c.args.lane.now.limits) c.args.lane.now.parameter in
    let m : c.weight.result ≡ bit (f s.entering.cell) = cc in
    let k = h.count in
    let e = enters f s.leaving.cell s.entering.cell s.order in
    record { entering = c.advance.ensures.stands; leaving = h.leaving; count = cc }
