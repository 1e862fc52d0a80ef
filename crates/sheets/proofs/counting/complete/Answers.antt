use Rattle.std.proofs.Common.{◌≡◌, ℕ, zero, suc, ◌+◌, ◌<◌, ◌≤◌, true, false, cond, List, [], ◌∷◌, is_some, Some, None, Option, sym, ap, ◌∙◌, inl, inr, arith}
use Rattle.std.proofs.lemmas.Bool.{cases_eq, cond-true, cond-false}
use Rattle.std.proofs.lemmas.Grind.{common_steps}
use Rattle.model.specs.declared.row.Row.{Row}
use Rattle.model.specs.Counting.{Complete}
use Rattle.model.specs.Recipes.{first_without, has_limits, row_of}
use Rattle.model.specs.Refusals.{Decision, accepted, refused}
use Rattle.model.proofs.Lacking.{none_lacking}
use Rattle.recipe.specs.Tables.{recipe_log}
use Rattle.sheets.specs.Logs.{log_of}
use Rattle.sheets.proofs.counting.complete.Goals as goal

-- the first without limits is the one that all before it have them
first_is : (rows : List Row) (i n p : ℕ) → i ≤ p → p < i + n → ((k : ℕ) → i ≤ k → k < p → has_limits (row_of rows k) ≡ true) →
    has_limits (row_of rows p) ≡ false → first_without rows i n ≡ Some p
first_is rows i zero p l m before here = absurd (omega arith)
first_is rows i (suc n) p l m before here = elim (cases_eq i p) [
  | inl e ↦ (let f : has_limits (row_of rows i) ≡ false = ap (λ k. has_limits (row_of rows k)) e ∙ here in
      cond-false (has_limits (row_of rows i)) (first_without rows (i + 1) n) (Some i) f ∙ ap Some e)
  | inr e ↦ (let ne : i ≡ p → ⊥ = e in
      cond-true (has_limits (row_of rows i)) (first_without rows (i + 1) n) (Some i) (before i (omega arith) (grind arith))
      ∙ first_is rows (i + 1) n p (grind arith) (omega arith) (λ k a b. before k (omega arith) b) here)
]

abbrev answer : Option ℕ → Decision
answer o = cond (is_some o) (refused 14 (elim o [ None ↦ [] | Some i ↦ i ∷ [] ])) accepted

pub returns-then-is_none-clause-answer : goal.returns-then-is_none-clause-answer
returns-then-is_none-clause-answer c =
    let rows = (recipe_log c.args.recipe.now).rows in
    let p = c.loop-parameter.parameter in
    let here : has_limits (row_of rows p) ≡ false = grind (arith, common_steps) in
    sym (ap answer (first_is rows 1 c.args.roll.now.size.parameters p (omega arith) (omega arith) c.loop-parameter.invariant here))

pub returns-else-is_none-clause-answer : goal.returns-else-is_none-clause-answer
returns-else-is_none-clause-answer c =
    let log = log_of c.args.roll.now c.args.recipe.now in
    let all : Complete log = grind (arith, common_steps) in
    sym (ap answer (none_lacking log all))
