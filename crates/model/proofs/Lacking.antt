-- The first parameter without limits.
use Rattle.std.proofs.Common.{◌≡◌, ℕ, zero, suc, ◌+◌, ◌<◌, ◌≤◌, true, List, is_some, Some, None, Option, sym, refl, ap, ◌∙◌, inl, inr, arith}
use Rattle.std.proofs.lemmas.Bool.{cases_Bool, cases_eq, cond-true, cond-false}
use Rattle.model.specs.declared.row.Row.{Row}
use Rattle.model.specs.Counting.{Complete, count_checks, lacking}
use Rattle.model.specs.Log.{Log}
use Rattle.model.specs.Recipes.{first_without, has_limits, row_of}
use Rattle.model.specs.Refusals.{accepted, decide}

pub complete_from : (rows : List Row) (i n : ℕ) → first_without rows i n ≡ None → (j : ℕ) → i ≤ j → j < i + n → has_limits (row_of rows j) ≡ true
complete_from rows i zero e j l m = absurd (omega arith)
complete_from rows i (suc n) e j l m = elim (cases_Bool (has_limits (row_of rows i))) [
  | inl t ↦ (elim (cases_eq i j) [
    | inl q ↦ ap (λ k. has_limits (row_of rows k)) (sym q) ∙ t
    | inr q ↦ (let ne : i ≡ j → ⊥ = q in
        complete_from rows (i + 1) n (sym (cond-true (has_limits (row_of rows i)) (first_without rows (i + 1) n) (Some i) t) ∙ e) j (grind arith) (omega arith))
  ])
  | inr f ↦ (let bad : Some i ≡ None = sym (cond-false (has_limits (row_of rows i)) (first_without rows (i + 1) n) (Some i) f) ∙ e in absurd (grind arith))
]

pub complete : (log : Log) → lacking log ≡ None → Complete log
complete log e i l m = complete_from log.recipe.rows 1 log.roll.parameters e i l (omega arith)

none_without : (rows : List Row) (i n : ℕ) → ((j : ℕ) → i ≤ j → j < i + n → has_limits (row_of rows j) ≡ true) → first_without rows i n ≡ None
none_without rows i zero h = refl
none_without rows i (suc n) h =
    cond-true (has_limits (row_of rows i)) (first_without rows (i + 1) n) (Some i) (h i (omega arith) (omega arith))
    ∙ none_without rows (i + 1) n (λ j l m. h j (omega arith) (omega arith))

pub none_lacking : (log : Log) → Complete log → lacking log ≡ None
none_lacking log h = none_without log.recipe.rows 1 log.roll.parameters (λ j l m. h j l (omega arith))

-- what count does not refuse has limits for each parameter
pub none_refused : (log : Log) → accepted ≡ decide (count_checks log) → lacking log ≡ None
none_refused log e = by (lacking log) refl e
  where
    by : (o : Option ℕ) → lacking log ≡ o → accepted ≡ decide (count_checks log) → lacking log ≡ None
    by None p q = p
    by (Some i) p q = let holds : is_some (lacking log) ≡ true = ap is_some p in absurd (grind arith)
