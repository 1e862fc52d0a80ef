-- Which answer of a call is right, by the log before it.
use Rattle.std.specs.Prelude.{◌≡◌, ℕ, List, length, vec_items, Result, IfOk}
use Rattle.model.specs.Choices.{Choice}
use Rattle.model.specs.Counting as counting
use Rattle.model.specs.Counting.{count_checks}
use Rattle.model.specs.Log.{Log, RollLog}
use Rattle.model.specs.Recipes.{limits_checks}
use Rattle.model.specs.Recording.{bar_checks, reading_checks, withdraw_checks}
use Rattle.model.specs.Refusals.{Check, Decision, decide, decision}
use Rattle.model.specs.declared.refusal.Refusal.{Refusal}
use Rattle.criteria.specs.Law.{Rules}
use Rattle.choices.specs.Best.{Best}
use Rattle.choices.specs.Totals.{total}
use Rattle.planner.specs.Planning.{Issued, plan_checks}
use Rattle.calls.specs.declared.answer.Answer.{Answer}
use Rattle.calls.specs.declared.answer.Answer.TheVariants.{Accepted, Counted, Planned}
use Rattle.calls.specs.declared.call.Call.{Call}
use Rattle.calls.specs.declared.call.Call.TheVariants.{Record, Limits, Count, Plan}
use Rattle.calls.specs.declared.call.Recording.{Recording}
use Rattle.calls.specs.declared.call.Recording.TheVariants.{Reading, Withdraw, Bar}

-- what a call gets: its answer, or why it is refused
abbrev pub Reply : Type 0 → Type 0
Reply T = Result (Answer T) Refusal

-- the call is decided so, and where it is accepted, the answer is as Good says
abbrev pub By : {T : Type 0} → Decision → (Answer T → Type 0) → Reply T → Type 0
By d Good r = (decision r ≡ d) × IfOk r Good

-- accepted, with no more to say
abbrev pub Bare : {T : Type 0} → Decision → Reply T → Type 0
Bare d r = By d (λ a. a ≡ Accepted) r

-- the greatest number of sheets of any choice, and the looks of the rule
abbrev pub Counts : {T : Type 0} → Log → Answer T → Type 0
Counts log (Counted sheets looks) = counting.Counted log sheets looks
Counts log _ = ⊥

-- these ends, with their number, their total, and a ticket for them
abbrev pub Names : {M T : Type 0} → Log → Rules M T → List ℕ → Answer T → Type 0
Names log r xs (Planned plan ends) = (vec_items ends ≡ xs) × (plan.sheets ≡ length xs) × (plan.total ≡ total log r xs) × Issued log plan.sheets plan.ticket
Names log r xs _ = ⊥

-- xs is the best choice: it decides whether the places suffice, and is what is answered
pub record Plans {M T : Type 0} (log : Log) (r : Rules M T) (work ends : ℕ) (a : Reply T) : Type 0 where
  pub chosen : List ℕ
  pub best : Best log r (Choice log) chosen
  pub answer : By (decide (plan_checks log work ends (length chosen))) (Names log r chosen) a

abbrev pub recording_checks : RollLog → Recording → List Check
recording_checks log (Reading i m v) = reading_checks log i m
recording_checks log (Withdraw i) = withdraw_checks log i
recording_checks log (Bar from to) = bar_checks log from to

-- the answer of a call is right; a plan's criterion means what rules says of it
abbrev pub Answers : {C M T : Type 0} → (C → Rules M T) → Log → Call C → Reply T → Type 0
Answers rules log (Record x) a = Bare (decide (recording_checks log.roll x)) a
Answers rules log (Limits i low high share) a = Bare (decide (limits_checks i low high share)) a
Answers rules log Count a = By (decide (count_checks log)) (Counts log) a
Answers rules log (Plan c work ends) a = Plans log (rules c) work ends a
