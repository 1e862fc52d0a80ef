-- The log: what a list of calls has recorded, by their arguments and the number of places alone.
use Rattle.std.specs.Prelude.{ℕ, List}
use Rattle.model.specs.declared.reading.Reading.{Reading}
use Rattle.model.specs.declared.bar.Bar.{Bar}
use Rattle.model.specs.declared.row.Row.{Row}

-- a roll's part of the log; readings and bars stand in recorded order
pub record RollLog : Type 0 where
  pub cells : ℕ
  pub sheet : ℕ
  pub parameters : ℕ
  pub places : ℕ
  pub readings : List Reading
  pub bars : List Bar

-- a recipe's part of the log: the row of parameter i is the i-th
pub record RecipeLog : Type 0 where
  pub rows : List Row

pub record Log : Type 0 where
  pub roll : RollLog
  pub recipe : RecipeLog
