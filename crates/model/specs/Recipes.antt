-- The recipe: which of its rows give limits, the checks of the call that sets them, and the log after it.
use Rattle.std.specs.Prelude.{ℕ, zero, suc, ◌+◌, ◌-◌, Bool, cond, not, ◌&&◌, List, [], ◌∷◌, replicate, Some, None, Option, nat_le, nat_lt, slice_index_or, slice_set, Float}
use Rattle.std.specs.Float.Ieee.{le}
use Rattle.std.specs.Float.{float_is_finite, nan}
use Rattle.model.specs.declared.row.Row.{Row}
use Rattle.model.specs.Log.{RecipeLog}
use Rattle.model.specs.Refusals.{Check, on, decide, settle, outside}

-- both limits are finite, and low is not above high
abbrev pub ordered : Float → Float → Bool
ordered low high = float_is_finite low && (float_is_finite high && le low high)

-- the row gives limits: they are ordered, and the share is at most a thousand thousandths
abbrev pub has_limits : Row → Bool
has_limits r = ordered r.low r.high && nat_le r.share 1000

-- a row that gives none
abbrev pub unset : Row
unset = record { low = nan; high = nan; share = 0 }

-- no entry has limits
abbrev pub fresh : RecipeLog
fresh = record { rows = replicate 8 unset }

-- the row of parameter i; parameters count from 1
abbrev pub row_of : List Row → ℕ → Row
row_of rows i = slice_index_or rows (i - 1) unset

-- there is such a parameter, and its row gives limits
abbrev pub has_entry : List Row → ℕ → Bool
has_entry rows i = not (outside 1 8 i) && has_limits (row_of rows i)

-- the first of the n parameters from i on that has no limits
abbrev pub first_without : List Row → ℕ → ℕ → Option ℕ
first_without rows i zero = None
first_without rows i (suc n) = cond (has_limits (row_of rows i)) (first_without rows (i + 1) n) (Some i)

abbrev pub limits_checks : ℕ → Float → Float → ℕ → List Check
limits_checks i low high share =
    on 11 (outside 1 8 i)
    ∷ on 12 (not (ordered low high))
    ∷ on 13 (nat_lt 1000 share)
    ∷ []

abbrev pub after_limits : RecipeLog → ℕ → Float → Float → ℕ → RecipeLog
after_limits log i low high share =
    settle (decide (limits_checks i low high share)) record { rows = slice_set log.rows (i - 1) (record { low = low; high = high; share = share }) } log
