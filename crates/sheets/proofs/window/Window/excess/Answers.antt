use Rattle.std.proofs.Common.{◌≡◌, suc, ◌+◌, ◌-◌, ◌*◌, ◌/◌, ap, ◌∙◌, add-one, arith}
use Rattle.model.specs.Sheets.{b, share}
use Rattle.sheets.specs.Seen.{seen}
use Rattle.sheets.proofs.Gauges.{gauge_counts}
use Rattle.sheets.proofs.window.Window.excess.Goals as goal

pub loop-i-preserved : goal.loop-i-preserved
loop-i-preserved c =
    let w = c.args.self.now in
    let log = seen w in
    let i = c.loop-i.i in
    let z : i + 1 ≡ suc i = omega arith in
    let gauge = c.index-self-i.result in
    let count = gauge_counts log w.end i w.gauges gauge w.over (omega arith) ∙ ap (b log w.end) z in
    let part : c.from-share.result.share ≡ share log (suc i) = ap (λ r. r.share) (c.from-share.ensures ∙ c.entry.ensures) ∙ ap (share log) z in
    let over : c.over.result ≡ b log w.end (suc i) - share log (suc i) * log.roll.sheet / 1000 =
    c.over.ensures ∙ ap (λ x. x - c.from-share.result.share * c.size-size.result.sheet / 1000) count
    ∙ ap (λ x. b log w.end (suc i) - x * c.size-size.result.sheet / 1000) part
    ∙ ap (λ x. b log w.end (suc i) - share log (suc i) * x / 1000) c.size-size.ensures.sheet in
    rw add-one (omega (arith, c.max-most.ensures, over, c.loop-i.invariant))
