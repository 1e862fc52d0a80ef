-- The worked examples, as tests that compute over the rules.
use Rattle.std.specs.Prelude.{ℕ, zero, suc, ◌+◌, Bool, true, false, cond, not, ◌&&◌, List, [], ◌∷◌, ◌==◌, from_bits, Float}
use Rattle.std.specs.Float.{binary32}
use Rattle.model.specs.Log.{Log, RollLog}
use Rattle.model.specs.Counting.{takes_looks, taken, stride}
use Rattle.model.specs.Recipes.{after_limits, fresh}
use Rattle.model.specs.Recording.{after_new, after_reading, idle}
use Rattle.model.specs.Serving.{at, away}
use Rattle.model.specs.Sheets.{b, good}
use Rattle.model.specs.Verdicts.{outlier}

abbrev pub one : Float
one = from_bits binary32 0x3F80_0000

abbrev pub one_and_a_half : Float
one_and_a_half = from_bits binary32 0x3FC0_0000

abbrev pub two : Float
two = from_bits binary32 0x4000_0000

abbrev pub three : Float
three = from_bits binary32 0x4040_0000

-- the readings of parameter 1 at these positions, recorded one after the other
abbrev read : RollLog → List (ℕ × Float) → RollLog
read log [] = log
read log (x ∷ xs) = read (after_reading log 1 x.0 x.1) xs

-- a roll of one parameter with limits 1.0 to 2.0, as the calls record it
abbrev sample : ℕ → ℕ → ℕ → List (ℕ × Float) → Log
sample cells sheet share xs = record {
  roll = read (after_new (idle 3) cells sheet 1) xs;
  recipe = after_limits fresh 1 one two share;
}

-- ten cells, sheets of three, share 400
abbrev pub R : Log
R = sample 10 3 400 ((0, one_and_a_half) ∷ (4, three) ∷ (7, one_and_a_half) ∷ [])

-- one outlier, in cell 1
abbrev spot : ℕ → ℕ → Log
spot sheet share = sample sheet sheet share ((0, three) ∷ (2, one_and_a_half) ∷ [])

-- sheets of three cells, without outliers
abbrev pub plain : ℕ → Log
plain cells = sample cells 3 0 ((0, one) ∷ [])

-- the numbers from m to m + n - 1 that pass the test
abbrev pub passing : (ℕ → Bool) → ℕ → ℕ → List ℕ
passing f m zero = []
passing f m (suc n) = cond (f m) (m ∷ passing f (m + 1) n) (passing f (m + 1) n)

-- the ends that count looks at
abbrev looked : Log → ℕ → ℕ → List ℕ
looked log p zero = []
looked log p (suc n) = p ∷ looked log (p + stride log p) n

abbrev pub same : List ℕ → List ℕ → Bool
same [] [] = true
same [] (y ∷ ys) = false
same (x ∷ xs) [] = false
same (x ∷ xs) (y ∷ ys) = x == y && same xs ys

-- count answers so many sheets and looks
abbrev answers : Log → ℕ → ℕ → Bool
answers log sheets n = takes_looks log log.roll.sheet n && taken log log.roll.sheet n == sheets

abbrev pub holds : List Bool → Bool
holds [] = true
holds (t ∷ ts) = t && holds ts

abbrev pub examples : List Bool
examples =
    -- the outlier cells of R
    same (passing (outlier R 1) 1 10) (3 ∷ 4 ∷ 5 ∷ 6 ∷ [])
    -- cell 6 is a tie between its second and its third reading
    ∷ (away 6 (at R.roll.readings 1) == away 6 (at R.roll.readings 2))
    -- its good ends, and their counts
    ∷ same (passing (good R) 0 12) (3 ∷ 8 ∷ 9 ∷ 10 ∷ [])
    ∷ same (b R 3 1 ∷ b R 8 1 ∷ b R 9 1 ∷ b R 10 1 ∷ []) (1 ∷ 1 ∷ 0 ∷ 0 ∷ [])
    -- count answers 2 sheets and 3 looks, at 3, 6 and 8
    ∷ answers R 2 3
    ∷ same (looked R 3 3) (3 ∷ 6 ∷ 8 ∷ [])
    -- share 50: one outlier is good at length 20 and not at 19, nor there with share 52
    ∷ (b (spot 20 50) 20 1 == 1)
    ∷ good (spot 20 50) 20
    ∷ not (good (spot 19 50) 19)
    ∷ not (good (spot 19 52) 19)
    -- three cells without outliers are one sheet of three, ending at 3
    ∷ same (passing (good (plain 3)) 0 5) (3 ∷ [])
    ∷ answers (plain 3) 1 1
    -- two cells are none, with no look
    ∷ answers (plain 2) 0 0
    ∷ []
