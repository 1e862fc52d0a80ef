use Rattle.std.proofs.Common.{◌≡◌, ℕ, ◌<◌, ◌≤◌, true}
use Rattle.model.specs.Recipes.{has_limits, row_of}
use Rattle.recipe.specs.Tables.{recipe_log}
use Rattle.sheets.proofs.counting.complete.Given as goal

abbrev pub invariant-loop-parameter : goal.invariant-loop-parameter
invariant-loop-parameter l = (k : ℕ) → 1 ≤ k → k < l.parameter → has_limits (row_of (recipe_log l.recipe).rows k) ≡ true
