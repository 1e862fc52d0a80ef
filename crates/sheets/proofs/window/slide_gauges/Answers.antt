use Rattle.std.proofs.Common.{◌+◌, ◌∙◌, arith}
use Rattle.sheets.specs.Logs.{log_of}
use Rattle.sheets.proofs.Gauges.{At, Unmoved, spans_by, split_more}
use Rattle.sheets.proofs.window.slide_gauges.Goals as goal

pub loop-i-preserved : goal.loop-i-preserved
loop-i-preserved c =
    let log = log_of c.args.roll.now c.args.recipe.now in
    let end = c.args.end + c.args.n in
    let i = c.loop-i.i in
    let gauge = c.slide.new.self in
    let lane = c.lane.ensures in
    let was = (c.loop-i.invariant.rest i c.index-gauges-i.result (omega arith) (omega arith)).spans (omega arith) in
    let moved = c.slide.ensures.cells in
    split_more (At log end) (Unmoved log c.args.end) c.loop-i.gauges i gauge (omega arith) c.loop-i.invariant
    (spans_by log end i c.lane.result gauge (lane.readings ∙ c.readings-readings.ensures) lane.parameter lane.limits c.slide.ensures.gauged
    (omega (arith, moved.first, was.first)) (omega (arith, moved.next, was.next)))
