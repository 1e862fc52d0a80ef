use Rattle.std.proofs.Common.{◌≡◌, ℕ, ◌+◌, ◌-◌, max, Bool, true, false, cond, not, ◌&&◌, eqb, sym, ap, ◌∙◌, arith}
use Rattle.std.proofs.lemmas.Bool.{eq-eqb, ne_eqb}
use Rattle.model.specs.Counting.{excess}
use Rattle.model.specs.Sheets.{clear, good}
use Rattle.sheets.specs.Seen.{seen}
use Rattle.sheets.proofs.Crossing.{twice}
use Rattle.sheets.proofs.Looking.{good_is}
use Rattle.sheets.proofs.window.Window.look.Goals as goal
use Rattle.sheets.proofs.window.Window.look.Goals.{Joined-excess-eq0, at-returns, then-excess-eq0, else-excess-eq0}

found : (c : Joined-excess-eq0) → c.if-excess-eq0.good ≡ good (seen c.args.self.now) c.args.self.now.end
found c =
    let w = c.args.self.now in
    let log = seen w in
    let free : ℕ → Bool = clear log.roll.bars (w.end + 1 - log.roll.sheet) in
    let e : c.excess-excess.result ≡ excess log w.end log.roll.parameters = c.excess-excess.ensures in
    let rule = good_is log w.end w.over.low c.requires in
    elim c.if-excess-eq0.branch [
      | then-excess-eq0 v ↦ (let z : eqb (excess log w.end log.roll.parameters) 0 ≡ true = eq-eqb _ 0 (sym e ∙ v.if-excess-eq0.true) in
          let first = w.end + 1 - c.size-sheet.result.sheet in
          let many : w.end + 1 - first ≡ log.roll.sheet = omega (arith, c.size-sheet.ensures.sheet, w.over.low) in
          let clears : clear v.bars.result.now first (w.end + 1 - first) ≡ free log.roll.sheet =
          ap (λ bs. clear bs first (w.end + 1 - first)) v.bars.ensures ∙ ap (clear log.roll.bars first) many
          ∙ ap (λ s. clear log.roll.bars (w.end + 1 - s) log.roll.sheet) c.size-sheet.ensures.sheet in
          v.good-is ∙ ap not v.crossed.ensures ∙ twice _ ∙ clears ∙ sym (rule ∙ ap (λ t. t && free log.roll.sheet) z))
      | else-excess-eq0 v ↦ (let z : eqb (excess log w.end log.roll.parameters) 0 ≡ false = ne_eqb _ 0 (λ q. v.if-excess-eq0.false (e ∙ q)) in
          v.good-is ∙ ne_eqb c.excess-excess.result 0 v.if-excess-eq0.false ∙ sym (rule ∙ ap (λ t. t && free log.roll.sheet) z))
    ]

pub returns : goal.returns
returns c =
    let w = c.args.self.now in
    let log = seen w in
    let f = found (at-returns c).Joined-excess-eq0 in
    let z : c.size-sheet.result.sheet ≡ log.roll.sheet = c.size-sheet.ensures.sheet in
    record {
      good = f;
      stride =
          c.onward-stride.ensures ∙ ap (λ s. cond c.if-excess-eq0.good s (max 1 c.excess-excess.result)) z
          ∙ ap (λ x. cond c.if-excess-eq0.good log.roll.sheet (max 1 x)) c.excess-excess.ensures
          ∙ ap (λ t. cond t log.roll.sheet (max 1 (excess log w.end log.roll.parameters))) f;
    }
