-- Count: the walk over the ends, and what it answers.
use Rattle.std.specs.Prelude.{◌≡◌, ℕ, zero, suc, ◌+◌, ◌-◌, ◌*◌, ◌/◌, ◌≤◌, max, Bool, true, cond, ◌&&◌, List, [], ◌∷◌, is_some, Some, None, Option, nat_le, nat_lt}
use Rattle.model.specs.Log.{Log}
use Rattle.model.specs.Choices.{spacing, Greatest}
use Rattle.model.specs.Recipes.{first_without, has_limits, row_of}
use Rattle.model.specs.Refusals.{Check}
use Rattle.model.specs.Sheets.{b, good, share, bit}

-- the greatest excess b(i) - ⌊share(i) · l / 1000⌋ of the first n parameters on the sheet that ends at p; 0 where none exceeds
abbrev pub excess : Log → ℕ → ℕ → ℕ
excess log p zero = 0
excess log p (suc n) = max (excess log p n) (b log p (suc n) - share log (suc n) * log.roll.sheet / 1000)

-- how far the walk goes on from p: by the spacing past a good sheet, else by the greatest excess, and by one at least
abbrev pub stride : Log → ℕ → ℕ
stride log p = cond (good log p) (spacing log) (max 1 (excess log p log.roll.parameters))

-- the walk from p on looks at n ends and then stands above the last cell
abbrev pub takes_looks : Log → ℕ → ℕ → Bool
takes_looks log p zero = nat_lt log.roll.cells p
takes_looks log p (suc n) = nat_le p log.roll.cells && takes_looks log (p + stride log p) n

-- how many of the n ends that the walk looks at from p on are of good sheets
abbrev pub taken : Log → ℕ → ℕ → ℕ
taken log p zero = 0
taken log p (suc n) = bit (good log p) + taken log (p + stride log p) n

-- the smallest parameter of the roll without limits
abbrev pub lacking : Log → Option ℕ
lacking log = first_without log.recipe.rows 1 log.roll.parameters

-- each parameter of the roll has limits
abbrev pub Complete : Log → Type 0
Complete log = (i : ℕ) → 1 ≤ i → i ≤ log.roll.parameters → has_limits (row_of log.recipe.rows i) ≡ true

abbrev tells : Option ℕ → List ℕ
tells None = []
tells (Some i) = i ∷ []

abbrev pub count_checks : Log → List Check
count_checks log = record { number = 14; holds = is_some (lacking log); tells = tells (lacking log) } ∷ []

-- what count promises of its two numbers
pub record Counted (log : Log) (sheets looked : ℕ) : Type 0 where
  pub greatest : Greatest log sheets
  pub walked : takes_looks log log.roll.sheet looked ≡ true
  pub counted : sheets ≡ taken log log.roll.sheet looked
  pub few : looked ≤ log.roll.cells + 1 - log.roll.sheet
