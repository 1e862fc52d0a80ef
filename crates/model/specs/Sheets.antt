-- Sheets: what they cover, their outlier counts, and which are good.
use Rattle.std.specs.Prelude.{ℕ, zero, suc, ◌+◌, ◌-◌, ◌*◌, Bool, true, false, cond, not, ◌&&◌, ◌||◌, List, [], ◌∷◌, nat_le}
use Rattle.model.specs.declared.bar.Bar.{Bar}
use Rattle.model.specs.Log.{Log}
use Rattle.model.specs.Recipes.{row_of}
use Rattle.model.specs.Refusals.{outside}
use Rattle.model.specs.Verdicts.{outlier}

abbrev pub bit : Bool → ℕ
bit true = 1
bit false = 0

-- how many of the k cells from cell m on are outliers, where f tells which cells are
abbrev pub outliers : (ℕ → Bool) → ℕ → ℕ → ℕ
outliers f m zero = 0
outliers f m (suc k) = bit (f m) + outliers f (m + 1) k

-- the first cell of the sheet that ends at p
abbrev pub first_cell : Log → ℕ → ℕ
first_cell log p = p + 1 - log.roll.sheet

-- b(i): the outlier count in parameter i of the sheet that ends at p, and 0 for a parameter that the roll does not have
abbrev pub b : Log → ℕ → ℕ → ℕ
b log p i = cond (outside 1 log.roll.parameters i) 0 (outliers (outlier log i) (first_cell log p) log.roll.sheet)

-- f i, f (i + 1), .. : n values
abbrev pub listed : (ℕ → ℕ) → ℕ → ℕ → List ℕ
listed f i zero = []
listed f i (suc n) = f i ∷ listed f (i + 1) n

-- the eight outlier counts of the sheet that ends at p
abbrev pub counts : Log → ℕ → List ℕ
counts log p = listed (b log p) 1 8

-- a bar stands on cell n
abbrev pub barred : List Bar → ℕ → Bool
barred [] n = false
barred (x ∷ xs) n = (nat_le x.from n && nat_le n x.to) || barred xs n

-- none of the k cells from cell m on is barred
abbrev pub clear : List Bar → ℕ → ℕ → Bool
clear bars m zero = true
clear bars m (suc k) = not (barred bars m) && clear bars (m + 1) k

-- how many of a thousand cells may be outliers in parameter i
abbrev pub share : Log → ℕ → ℕ
share log i = (row_of log.recipe.rows i).share

-- 1000 · b(i) ≤ share(i) · l for each of the first n parameters, on the sheet that ends at p
abbrev pub within_shares : Log → ℕ → ℕ → Bool
within_shares log p zero = true
within_shares log p (suc n) = nat_le (1000 * b log p (suc n)) (share log (suc n) * log.roll.sheet) && within_shares log p n

-- a sheet may end at p
abbrev pub fits : Log → ℕ → Bool
fits log p = nat_le log.roll.sheet p && nat_le p log.roll.cells

-- the sheet that ends at p is good; asked where each parameter of the roll has limits
abbrev pub good : Log → ℕ → Bool
good log p = fits log p && (clear log.roll.bars (first_cell log p) log.roll.sheet && within_shares log p log.roll.parameters)
