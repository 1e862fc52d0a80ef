-- Recorded readings and bars: what always holds of them, and where the latest of a parameter stands.
use Rattle.std.specs.Prelude.{◌≡◌, ℕ, ◌+◌, ◌<◌, ◌≤◌, List, length, ◌≢◌, slice_index_or}
use Rattle.model.specs.declared.reading.Reading.{Reading}
use Rattle.model.specs.declared.bar.Bar.{Bar}
use Rattle.model.specs.Serving.{at}

-- for each parameter the positions rise
abbrev pub Rising : List Reading → Type 0
Rising rs = (j k : ℕ) → (j < k) × (k < length rs) × ((at rs j).parameter ≡ (at rs k).parameter) → (at rs j).position < (at rs k).position

-- the reading is of one of the parameters, at a position of the roll
abbrev pub OnRoll : ℕ → ℕ → Reading → Type 0
OnRoll cells parameters r = (1 ≤ r.parameter) × (r.parameter ≤ parameters) × (r.position ≤ cells)

abbrev pub Placed : ℕ → ℕ → List Reading → Type 0
Placed cells parameters rs = (k : ℕ) → k < length rs → OnRoll cells parameters (at rs k)

-- the bar is on cells of the roll
abbrev pub OnCells : ℕ → Bar → Type 0
OnCells cells x = (1 ≤ x.from) × (x.from ≤ x.to) × (x.to ≤ cells)

-- what stands where there is no bar
abbrev pub no_bar : Bar
no_bar = record { from = 0; to = 0 }

abbrev pub Barring : ℕ → List Bar → Type 0
Barring cells bs = (k : ℕ) → k < length bs → OnCells cells (slice_index_or bs k no_bar)

-- of the places from `from` up to `to` none has a reading of parameter i
abbrev pub Bare : List Reading → ℕ → ℕ → ℕ → Type 0
Bare rs i from to = (j : ℕ) → (from ≤ j) × (j < to) → (at rs j).parameter ≢ i

-- the latest reading of parameter i stands at place k
pub record Last (rs : List Reading) (i k : ℕ) : Type 0 where
  pub within : k < length rs
  pub own : (at rs k).parameter ≡ i
  pub after : Bare rs i (k + 1) (length rs)
