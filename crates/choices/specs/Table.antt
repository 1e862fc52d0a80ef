-- The work table: what its places tell.
use Rattle.std.specs.Prelude.{◌≡◌, ℕ, ◌+◌, ◌-◌, ◌<◌, ◌≤◌, ◌⊎◌, List, length, drop, slice_index, slice_index_or}
use Rattle.std.specs.declared.cmp.Ordering.TheVariants.{Less}
use Rattle.std.specs.declared.cmp.Ordering.{Ordering}
use Rattle.model.specs.Log.{Log}
use Rattle.criteria.specs.Law.{Rules}
use Rattle.choices.specs.declared.work.WorkPlace.{WorkPlace}
use Rattle.choices.specs.Best.{Best, ChoiceTo}
use Rattle.choices.specs.Totals.{total}

-- 0 where there is none
abbrev pub last_end : List ℕ → ℕ
last_end ps = slice_index ps (length ps - 1)

-- the place tells the best of the choices of ends up to j
pub record Tells {M T : Type 0} (log : Log) (r : Rules M T) (j : ℕ) (w : WorkPlace T) : Type 0 where
  pub ends : List ℕ
  pub best : Best log r (ChoiceTo log j) ends
  pub sheets : w.sheets ≡ length ends
  pub sum : w.total ≡ total log r ends
  pub last : w.last ≡ last_end ends

-- more sheets, or as many at a lesser total
abbrev pub Beats : {T : Type 0} → (T → T → Ordering) → WorkPlace T → WorkPlace T → Type 0
Beats rank w v = (v.sheets < w.sheets) ⊎ ((v.sheets ≡ w.sheets) × (rank w.total v.total ≡ Less))

-- the place of no sheet, whose total is this
abbrev pub empty : {T : Type 0} → T → WorkPlace T
empty none = record { sheets = 0; total = none; last = 0 }

abbrev pub blank : {M T : Type 0} → Rules M T → WorkPlace T
blank r = empty r.none

-- each place from 0 to the last cell tells the best choice up to there, and later places are unchanged
pub record Filled {M T : Type 0} (log : Log) (r : Rules M T) (before after : List (WorkPlace T)) : Type 0 where
  pub many : length after ≡ length before
  pub room : log.roll.cells < length after
  pub places : (j : ℕ) → j ≤ log.roll.cells → Tells log r j (slice_index_or after j (blank r))
  pub beyond : drop (log.roll.cells + 1) after ≡ drop (log.roll.cells + 1) before
