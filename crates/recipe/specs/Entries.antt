-- Entries with limits, as rows.
use Rattle.std.specs.Prelude.{◌≡◌, Result, is_ok, IfOk}
use Rattle.model.specs.Recipes.{has_limits, limits_checks}
use Rattle.model.specs.Refusals.{decide, decision}
use Rattle.model.specs.declared.refusal.Refusal.{Refusal}
use Rattle.model.specs.declared.row.Row.{Row}
use Rattle.recipe.specs.declared.held.Limits.{Limits}

-- the row that an entry was made from
abbrev pub plain : Limits → Row
plain l = record { low = l.low; high = l.high; share = l.share }

-- an entry is made from a row exactly where the row gives limits; else the refusal is that of the call that would set them,
-- for whichever parameter
pub record Makes (row : Row) (r : Result Limits Refusal) : Type 0 where
  pub test : is_ok r ≡ has_limits row
  pub answer : decision r ≡ decide (limits_checks 1 row.low row.high row.share)
  pub value : IfOk r (λ l. plain l ≡ row)
