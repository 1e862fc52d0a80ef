use Rattle.std.proofs.Common.{◌≡◌, get_or, ◌∙◌, rules}
use Rattle.model.specs.Sheets.{b}
use Rattle.model.proofs.Listed.{listed_is}
use Rattle.sheets.specs.Seen.{seen}
use Rattle.sheets.proofs.Gauges.{gauge_counts, some_gauge}
use Rattle.sheets.proofs.window.Window.counts.Goals as goal

pub returns : goal.returns
returns c =
    let w = c.args.self.now in
    let items = c.map.ensures.items in
    listed_is (b (seen w) w.end) 1 8 c.map.result items.long (λ j l.
    let read = items.at j some_gauge 0 l in
    let e : get_or c.map.result j 0 ≡ (get_or w.gauges j some_gauge).outliers = search (rules, read) in
    e ∙ gauge_counts (seen w) w.end j w.gauges some_gauge w.over l)
