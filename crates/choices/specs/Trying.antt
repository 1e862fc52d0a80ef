-- The best choice found by trying: each list of good ends is compared with it. For the worked examples.
use Rattle.std.specs.Prelude.{ℕ, ◌+◌, Bool, true, false, not, ◌&&◌, ◌||◌, List, [], ◌∷◌, length, ◌==◌, nat_le, nat_lt}
use Rattle.std.specs.Ordering.{is_eq, is_lt}
use Rattle.model.specs.Choices.{spacing}
use Rattle.model.specs.Examples.{passing, same}
use Rattle.model.specs.Log.{Log}
use Rattle.model.specs.Sheets.{good}
use Rattle.criteria.specs.Law.{Rules}
use Rattle.choices.specs.Totals.{total}

-- the test holds of each part of the list, in its order
abbrev pub every_part : (List ℕ → Bool) → List ℕ → Bool
every_part f [] = f []
every_part f (x ∷ xs) = every_part f xs && every_part (λ ys. f (x ∷ ys)) xs

-- the first at `from` or later, each other at least s past the one before
abbrev pub apart : ℕ → ℕ → List ℕ → Bool
apart s from [] = true
apart s from (p ∷ ps) = nat_le from p && apart s (p + s) ps

abbrev pub all_good : Log → List ℕ → Bool
all_good log [] = true
all_good log (p ∷ ps) = good log p && all_good log ps

-- from the last end backwards, an earlier end at the first difference
abbrev pub sooner : List ℕ → List ℕ → Bool
sooner [] ys = false
sooner (x ∷ xs) [] = false
sooner (x ∷ xs) (y ∷ ys) = sooner xs ys || (same xs ys && nat_lt x y)

-- more sheets; or as many, and a lesser total, or an equal one and the earlier end
abbrev pub precedes : {M T : Type 0} → Log → Rules M T → List ℕ → List ℕ → Bool
precedes log r xs ys =
    nat_lt (length ys) (length xs)
    || (length ys == length xs
    && (is_lt (r.rank (total log r xs) (total log r ys)) || (is_eq (r.rank (total log r xs) (total log r ys)) && sooner xs ys)))

-- xs is a choice and precedes every other
abbrev pub tried : {M T : Type 0} → Log → Rules M T → List ℕ → Bool
tried log r xs =
    (all_good log xs && apart (spacing log) 0 xs)
    && every_part (λ ys. not (apart (spacing log) 0 ys) || (same ys xs || precedes log r xs ys)) (passing (good log) 0 (log.roll.cells + 1))
