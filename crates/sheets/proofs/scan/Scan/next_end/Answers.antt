use Rattle.std.proofs.Common.{◌≡◌, ◌+◌, ◌≤◌, true, false, is_some, ap, ◌∙◌, subst, arith}
use Rattle.std.proofs.lemmas.Bool.Decides.{nat_tests}
use Rattle.model.specs.Counting.{Complete, lacking}
use Rattle.model.specs.Log.{Log}
use Rattle.model.proofs.Lacking.{none_lacking}
use Rattle.sheets.specs.Answers.{judgeable}
use Rattle.sheets.specs.Scans.{placed}
use Rattle.sheets.specs.Seen.{seen}
use Rattle.sheets.proofs.Telling.{sheet_told}
use Rattle.sheets.proofs.scan.Scan.next_end.Goals as goal

pub returns-clause-value : goal.returns-clause-value
returns-clause-value c log h =
    let s = c.args.self.now in
    let w = c.slide.new.self in
    let p = s.position + 1 in
    let cells : s.window.roll.now.size.cells ≡ log.roll.cells = ap (λ g. g.roll.cells) h in
    let sheet : s.window.roll.now.size.sheet ≡ log.roll.sheet = ap (λ g. g.roll.sheet) h in
    let low : log.roll.sheet ≤ p = omega (arith, c.size-size.ensures.sheet) in
    let high : p ≤ log.roll.cells = omega (arith, c.size-size.ensures.cells) in
    let All : Log → Type 0 = Complete in
    let all : is_some (lacking log) ≡ false = ap is_some (none_lacking log (subst All h s.window.over.complete)) in
    let on : judgeable log p ≡ true = grind (arith, nat_tests) in
    let end : w.end ≡ p = omega (arith, c.slide.ensures.moved, s.end, c.size-size.ensures.sheet) in
    sheet_told log (placed (seen w) log.roll.places) p w.end c.sheet.result (ap (λ g. placed g log.roll.places) c.slide.ensures.same ∙ h) end on c.sheet.ensures.counts c.sheet.ensures.good
