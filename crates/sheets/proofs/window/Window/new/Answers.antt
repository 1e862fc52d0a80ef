use Rattle.std.proofs.Common.{◌∙◌, arith}
use Rattle.sheets.specs.Logs.{log_of}
use Rattle.sheets.proofs.Gauges.{At, Resting, spans_by, split_more}
use Rattle.sheets.proofs.window.Window.new.Goals as goal

pub loop-i-preserved : goal.loop-i-preserved
loop-i-preserved c =
    let log = log_of c.args.roll.now c.args.recipe.now in
    let sheet = c.size-size.result.sheet in
    let i = c.loop-i.i in
    let gauge = c.over.result in
    let lane = c.lane.ensures in
    let cells = c.over.ensures.cells in
    split_more (At log sheet) Resting c.loop-i.gauges i gauge (omega arith) c.loop-i.invariant
    (spans_by log sheet i c.lane.result gauge (lane.readings ∙ c.readings-readings.ensures) lane.parameter lane.limits c.over.ensures.gauged
    (omega (arith, cells.0)) (omega (arith, cells.1)))
