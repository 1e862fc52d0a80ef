-- How a roll and a recipe stand.
use Rattle.recipe.specs.declared.table.Recipe.{Recipe}
use Rattle.recipe.specs.Tables.{aside_log}
use Rattle.roll.specs.declared.held.Roll.{Roll}
use Rattle.sheets.specs.Logs.{log_of}
use Rattle.calls.specs.Events.{Course}

abbrev pub course_of : Roll → Recipe → Course
course_of roll recipe = record { log = log_of roll recipe; aside = aside_log recipe }
