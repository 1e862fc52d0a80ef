-- A list of steps as events, and the log after each.
use Rattle.std.specs.Prelude.{ℕ, List, [], ◌∷◌, ◌++◌, map, vec_items}
use Rattle.model.specs.Log.{Log, RecipeLog, RollLog}
use Rattle.model.specs.Recipes.{after_limits, fresh}
use Rattle.model.specs.Recording.{after_bar, after_new, after_reading, after_withdraw, idle}
use Rattle.calls.specs.declared.call.Call.{Call}
use Rattle.calls.specs.declared.call.Call.TheVariants.{Record, Limits, Count, Plan}
use Rattle.calls.specs.declared.call.Recording.{Recording}
use Rattle.calls.specs.declared.call.Recording.TheVariants.{Reading, Withdraw, Bar}
use Rattle.calls.specs.declared.call.Step.{Step}
use Rattle.calls.specs.declared.call.Step.TheVariants as step

-- a call, or the beginning or the end of a trial
pub data Event (C : Type 0) : Type 0 where
  begins : Event C
  made : Call C → Event C
  finishes : Event C

-- a trial with these calls
abbrev pub trial_events : {C : Type 0} → List (Call C) → List (Event C)
trial_events cs = begins ∷ (map made cs ++ (finishes ∷ []))

-- what happens in a step
abbrev pub events_of : {C : Type 0} → Step C → List (Event C)
events_of (step.Call c) = made c ∷ []
events_of (step.Trial cs) = trial_events (vec_items cs)

abbrev pub events : {C : Type 0} → List (Step C) → List (Event C)
events [] = []
events (s ∷ ss) = events_of s ++ events ss

abbrev pub with_roll : Log → RollLog → Log
with_roll log roll = record { roll = roll; recipe = log.recipe }

abbrev pub with_recipe : Log → RecipeLog → Log
with_recipe log recipe = record { roll = log.roll; recipe = recipe }

abbrev pub recorded : RollLog → Recording → RollLog
recorded log (Reading i m v) = after_reading log i m v
recorded log (Withdraw i) = after_withdraw log i
recorded log (Bar from to) = after_bar log from to

-- count and plan leave the log as it is, and so does a refused call
abbrev pub after_call : {C : Type 0} → Log → Call C → Log
after_call log (Record x) = with_roll log (recorded log.roll x)
after_call log (Limits i low high share) = with_recipe log (after_limits log.recipe i low high share)
after_call log Count = log
after_call log (Plan c work rooms) = log

-- the log, and the copy of the recipe that was laid aside last
pub record Course : Type 0 where
  pub log : Log
  pub aside : RecipeLog

-- a trial's beginning lays a copy of the recipe aside, and its end brings that copy back
abbrev pub after : {C : Type 0} → Course → Event C → Course
after k begins = record { log = k.log; aside = k.log.recipe }
after k (made c) = record { log = after_call k.log c; aside = k.aside }
after k finishes = record { log = with_recipe k.log k.aside; aside = k.aside }

-- how they stand after a list of events
abbrev pub course : {C : Type 0} → Course → List (Event C) → Course
course k [] = k
course k (e ∷ es) = course (after k e) es

-- at the start the roll is set by new, and the recipe is fresh
abbrev pub started : ℕ → ℕ → ℕ → ℕ → Course
started places cells sheet parameters = record {
  log = record { roll = after_new (idle places) cells sheet parameters; recipe = fresh };
  aside = fresh;
}
