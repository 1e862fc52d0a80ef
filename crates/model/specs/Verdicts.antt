-- The verdict of a cell.
use Rattle.std.specs.Prelude.{ℕ, Bool, true, false, cond, ◌||◌, List, Some, None, Option, is_nan, Float}
use Rattle.std.specs.Float.Ieee.{lt}
use Rattle.model.specs.declared.reading.Reading.{Reading}
use Rattle.model.specs.declared.row.Row.{Row}
use Rattle.model.specs.declared.verdict.Verdict.{Verdict}
use Rattle.model.specs.declared.verdict.Verdict.TheVariants.{Within, Outlier}
use Rattle.model.specs.Log.{Log}
use Rattle.model.specs.Recipes.{row_of}
use Rattle.model.specs.Serving.{serving}

-- the value is not a number, below the low limit or above the high one
abbrev pub outlying : Float → Float → Float → Bool
outlying low high v = is_nan v || (lt v low || lt high v)

-- a row's verdict on the reading that serves a cell, where the row gives limits; a missing reading makes an outlier
abbrev pub judged : Row → Option Reading → Verdict
judged row None = Outlier
judged row (Some r) = cond (outlying row.low row.high r.value) Outlier Within

abbrev pub is_outlier : Verdict → Bool
is_outlier Within = false
is_outlier Outlier = true

-- the verdict of parameter i on cell n, by these readings and this row
abbrev pub verdict_by : List Reading → Row → ℕ → ℕ → Verdict
verdict_by rs row i n = judged row (serving rs i n)

-- the verdict of parameter i on cell n
abbrev pub verdict : Log → ℕ → ℕ → Verdict
verdict log i n = verdict_by log.roll.readings (row_of log.recipe.rows i) i n

-- whether cell n is an outlier in parameter i
abbrev pub outlier : Log → ℕ → ℕ → Bool
outlier log i n = is_outlier (verdict log i n)
