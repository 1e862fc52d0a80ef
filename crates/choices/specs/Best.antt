-- The best choice: the most sheets, of these the least total, of these the earliest ends.
use Rattle.std.specs.Prelude.{◌≡◌, ℕ, ◌+◌, ◌<◌, ◌≤◌, ◌⊎◌, List, [], ◌∷◌, length, drop, slice_index, slice_index_or}
use Rattle.std.specs.declared.cmp.Ordering.TheVariants.{Less, Equal}
use Rattle.model.specs.Log.{Log}
use Rattle.model.specs.Choices.{Choice}
use Rattle.criteria.specs.Law.{Rules}
use Rattle.choices.specs.Totals.{total}

-- no end lies beyond j
abbrev pub UpTo : ℕ → List ℕ → Type 0
UpTo j [] = Unit {0}
UpTo j (p ∷ ps) = (p ≤ j) × UpTo j ps

-- a choice of ends up to j
abbrev pub ChoiceTo : Log → ℕ → List ℕ → Type 0
ChoiceTo log j ps = Choice log ps × UpTo j ps

-- compared from the last end backwards, ys has the later end at the first difference
pub record Sooner (xs ys : List ℕ) : Type 0 where
  pub at : ℕ
  pub within : at < length xs
  pub earlier : slice_index_or xs at 0 < slice_index ys at
  pub behind : drop (at + 1) xs ≡ drop (at + 1) ys

-- of two choices with as many sheets ys has the greater total, or an equal one and the later end
abbrev pub Before : {M T : Type 0} → Log → Rules M T → List ℕ → List ℕ → Type 0
Before log r xs ys = (r.rank (total log r xs) (total log r ys) ≡ Less) ⊎ ((r.rank (total log r xs) (total log r ys) ≡ Equal) × Sooner xs ys)

-- xs is one of the choices that are Of interest, none has more sheets, and every other with as many comes after it
pub record Best {M T : Type 0} (log : Log) (r : Rules M T) (Of : List ℕ → Type 0) (xs : List ℕ) : Type 0 where
  pub one : Of xs
  pub most : (ys : List ℕ) → Of ys → length ys ≤ length xs
  pub cheapest : (ys : List ℕ) → Of ys → length ys ≡ length xs → (ys ≡ xs) ⊎ Before log r xs ys
