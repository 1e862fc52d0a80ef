-- What the queries answer.
use Rattle.std.specs.Prelude.{ℕ, Bool, cond, not, ◌&&◌, is_some, Some, None, Option}
use Rattle.model.specs.declared.verdict.Verdict.{Verdict}
use Rattle.model.specs.Log.{Log}
use Rattle.model.specs.Counting.{lacking}
use Rattle.model.specs.Recipes.{has_limits, row_of}
use Rattle.model.specs.Refusals.{outside}
use Rattle.model.specs.Sheets.{counts, fits, good}
use Rattle.model.specs.Verdicts.{verdict}
use Rattle.sheets.specs.declared.judged.Sheet.{Sheet}

-- the roll has the cell and the parameter, and the parameter has limits
abbrev pub judges : Log → ℕ → ℕ → Bool
judges log i n =
    not (outside 1 log.roll.cells n) && (not (outside 1 log.roll.parameters i) && has_limits (row_of log.recipe.rows i))

-- the verdict of parameter i on cell n, and none where there is nothing to judge
abbrev pub verdict_at : Log → ℕ → ℕ → Option Verdict
verdict_at log i n = cond (judges log i n) (Some (verdict log i n)) None

-- a sheet ends at p, and each parameter of the roll has limits
abbrev pub judgeable : Log → ℕ → Bool
judgeable log p = fits log p && not (is_some (lacking log))

-- the sheet that ends at p, and none where there is nothing to judge
abbrev pub sheet_at : Log → ℕ → Option Sheet
sheet_at log p = cond (judgeable log p) (Some (record { counts = counts log p; good = good log p })) None
