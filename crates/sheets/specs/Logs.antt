-- The log of a roll and a recipe.
use Rattle.model.specs.Log.{Log}
use Rattle.recipe.specs.declared.table.Recipe.{Recipe}
use Rattle.recipe.specs.Tables.{recipe_log}
use Rattle.roll.specs.declared.held.Roll.{Roll}
use Rattle.roll.specs.Rolls.{roll_log}

abbrev pub log_of : Roll → Recipe → Log
log_of roll recipe = record { roll = roll_log roll; recipe = recipe_log recipe }
