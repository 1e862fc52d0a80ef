-- What a window sees.
use Rattle.model.specs.Log.{Log}
use Rattle.sheets.specs.declared.window.Window.{Window}
use Rattle.sheets.specs.Logs.{log_of}

-- the log of the roll and the recipe that the window is over
abbrev pub seen : Window → Log
seen w = log_of w.roll.now w.recipe.now
