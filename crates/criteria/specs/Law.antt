-- What a criterion is, and the laws that it keeps.
use Rattle.std.specs.Prelude.{◌≡◌, ℕ, ◌≤◌, List, length, slice_index}
use Rattle.std.specs.declared.cmp.Ordering.TheVariants.{Less, Equal}
use Rattle.std.specs.declared.cmp.Ordering.{Ordering}
use Rattle.std.specs.Ordering.{ordering_reverse}

-- the meaning of a criterion with marks M and totals T
pub record Rules (M T : Type 0) : Type 0 where
  -- of a sheet, by its length in cells and its eight outlier counts
  pub mark : ℕ → List ℕ → M
  -- the total of no sheets
  pub none : T
  pub add : T → M → T
  -- exactly one of less, equal and greater
  pub rank : T → T → Ordering

-- the laws of order: exchanging two totals swaps less and greater and keeps equal; less and equal are each transitive
pub record Ordered {T : Type 0} (rank : T → T → Ordering) : Type 0 where
  pub swap : (a b : T) → rank b a ≡ ordering_reverse (rank a b)
  pub less : (a b c : T) → rank a b ≡ Less → rank b c ≡ Less → rank a c ≡ Less
  pub equal : (a b c : T) → rank a b ≡ Equal → rank b c ≡ Equal → rank a c ≡ Equal

-- the law of adding: the same mark added to two totals leaves them less, equal or greater as they were
abbrev pub Adding : {M T : Type 0} → Rules M T → Type 0
Adding {M} {T} r = (a b : T) (m : M) → r.rank (r.add a m) (r.add b m) ≡ r.rank a b

-- the sheets that planning asks about: of at most 4,096 cells, with eight outlier counts of at most as many
pub record Asked (l : ℕ) (b : List ℕ) : Type 0 where
  pub short : l ≤ 4096
  pub eight : length b ≡ 8
  pub few : (i : ℕ) → slice_index b i ≤ l

-- the mark of such a sheet
abbrev pub Marked : {M T : Type 0} → Rules M T → M → Type 0
Marked r m = (l : ℕ) × (b : List ℕ) × Asked l b × (m ≡ r.mark l b)

-- how many marks a total can hold
abbrev pub most_marks : ℕ
most_marks = 32768
