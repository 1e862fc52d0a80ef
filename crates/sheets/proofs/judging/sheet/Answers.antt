use Rattle.std.proofs.Common.{◌≡◌, true, false, is_some, ap, ◌∙◌, arith, rules}
use Rattle.std.proofs.lemmas.Bool.Decides.{nat_tests}
use Rattle.model.specs.Counting.{Complete, lacking}
use Rattle.model.proofs.Lacking.{none_lacking}
use Rattle.sheets.specs.Answers.{judgeable}
use Rattle.sheets.specs.Logs.{log_of}
use Rattle.sheets.specs.Seen.{seen}
use Rattle.sheets.proofs.Telling.{sheet_told}
use Rattle.sheets.proofs.judging.sheet.Goals as goal

pub returns : goal.returns
returns c =
    let log = log_of c.args.roll.now c.args.recipe.now in
    let p = c.args.end in
    let w = c.slide.new.self in
    let complete : Complete log = search rules in
    let all : is_some (lacking log) ≡ false = ap is_some (none_lacking log complete) in
    let on : judgeable log p ≡ true = grind (arith, nat_tests) in
    let end : w.end ≡ p = grind (arith, nat_tests, c.slide.ensures.moved, c.new-window.ensures.end, c.size-size.ensures.sheet) in
    sheet_told log (seen w) p w.end c.sheet.result (c.slide.ensures.same ∙ c.new-window.ensures.sees) end on c.sheet.ensures.counts c.sheet.ensures.good
