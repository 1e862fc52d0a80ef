-- A recipe's part of the log.
use Rattle.model.specs.Log.{RecipeLog}
use Rattle.recipe.specs.declared.table.Recipe.{Recipe}

abbrev pub recipe_log : Recipe → RecipeLog
recipe_log r = record { rows = r.rows }

-- the copy of the rows that a trial lays aside and brings back
abbrev pub aside_log : Recipe → RecipeLog
aside_log r = record { rows = r.aside }
