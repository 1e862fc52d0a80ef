-- The gauges of a window, as they are moved one after the other.
use Rattle.std.proofs.Common.{◌≡◌, ℕ, ◌+◌, ◌-◌, ◌<◌, ◌≤◌, Bool, true, false, List, length, get_or, set, None, sym, refl, ap, ◌∙◌, subst, inl, inr, arith, length-set}
use Rattle.std.proofs.lemmas.Bool.{cases_eq, cases_lt}
use Rattle.std.proofs.lemmas.Bool.Decides.{nat_tests}
use Rattle.std.proofs.lemmas.List.{get_or-set_same, get_or-set_other}
use Rattle.model.specs.declared.reading.Reading.{Reading}
use Rattle.model.specs.declared.row.Row.{Row}
use Rattle.model.specs.Log.{Log}
use Rattle.model.specs.Recipes.{row_of}
use Rattle.model.specs.Refusals.{outside}
use Rattle.model.specs.Sheets.{b, outliers}
use Rattle.recipe.specs.Entries.{plain}
use Rattle.sheets.specs.declared.gauge.Gauge.{Gauge}
use Rattle.sheets.specs.declared.lane.Lane.{Lane}
use Rattle.sheets.specs.declared.search.Search.{Search}
use Rattle.sheets.specs.Gauges.{Gauged, GaugedIn, outlier_by}
use Rattle.sheets.specs.Windows.{Over, Spans}

-- some gauge
abbrev pub some_gauge : Gauge
some_gauge =
    let search : Search = record { cell = 0; before = None; after = 0 } in
    record { entering = search; leaving = search; outliers = 0; order = omega arith }

-- a loop that moves gauge after gauge: P holds of each below place i, Q of each from i on
pub record Split (P Q : ℕ → Gauge → Type 0) (gs : List Gauge) (i : ℕ) : Type 0 where
  pub eight : length gs ≡ 8
  pub done : (j : ℕ) (d : Gauge) → j < i → P j (get_or gs j d)
  pub rest : (j : ℕ) (d : Gauge) → i ≤ j → j < 8 → Q j (get_or gs j d)

pub split_more : (P Q : ℕ → Gauge → Type 0) (gs : List Gauge) (i : ℕ) (g : Gauge) → i < 8 → Split P Q gs i → P i g → Split P Q (set gs i g) (i + 1)
split_more P Q gs i g l h p = record {
  eight = length-set gs i g ∙ h.eight;
  done = λ j d m. elim (cases_eq j i) [
    | inl e ↦ (let At : ℕ → Type 0 = λ k. P k (get_or (set gs i g) k d) in
        subst At (sym e) (subst (P i) (sym (get_or-set_same gs i g d (omega (arith, h.eight)))) p))
    | inr e ↦ (let ne : j ≡ i → ⊥ = e in subst (P j) (sym (get_or-set_other gs i j g d ne)) (h.done j d (grind arith)))
  ];
  rest = λ j d m n. let ne : j ≡ i → ⊥ = omega arith in subst (Q j) (sym (get_or-set_other gs i j g d ne)) (h.rest j d (omega arith) n);
}

-- the gauge at place j is over the sheet that ends at `end`
abbrev pub At : Log → ℕ → ℕ → Gauge → Type 0
At log end j g = Spans log end (j + 1) g

abbrev pub Resting : ℕ → Gauge → Type 0
Resting j g = g.outliers ≡ 0

-- before it is moved: over the sheet, or at rest beyond the parameters
pub record Unmoved (log : Log) (end j : ℕ) (g : Gauge) : Type 0 where
  pub spans : j < log.roll.parameters → At log end j g
  pub resting : log.roll.parameters ≤ j → Resting j g

-- by what was looked up for its parameter
pub spans_by : (log : Log) (end j : ℕ) (lane : Lane) (g : Gauge) → lane.readings.now ≡ log.roll.readings → lane.parameter ≡ j + 1 →
    plain lane.limits ≡ row_of log.recipe.rows (j + 1) → GaugedIn lane g → g.leaving.cell + log.roll.sheet ≡ end + 1 → g.entering.cell ≡ end + 1 → At log end j g
spans_by log end j lane g readings parameter limits h first next =
    let Along : List Reading → Type 0 = λ rs. Gauged rs (plain lane.limits) lane.parameter g in
    let Of : ℕ → Type 0 = λ i. Gauged log.roll.readings (plain lane.limits) i g in
    let By : Row → Type 0 = λ row. Gauged log.roll.readings row (j + 1) g in
    record { gauged = subst By limits (subst Of parameter (subst Along readings h)); first = first; next = next }

-- each gauge's count is that of the rule, where it is at rest too
pub gauge_counts : (log : Log) (end i : ℕ) (gs : List Gauge) (d : Gauge) → Over log end gs → i < 8 → (get_or gs i d).outliers ≡ b log end (i + 1)
gauge_counts log end i gs d h few =
    let g = get_or gs i d in
    let f : ℕ → Bool = outlier_by log.roll.readings (row_of log.recipe.rows (i + 1)) (i + 1) in
    elim (cases_lt i log.roll.parameters) [
      | inl l ↦ (let s = h.spans i d l in
          let first : g.leaving.cell ≡ end + 1 - log.roll.sheet = omega (arith, s.first) in
          let many : g.entering.cell - g.leaving.cell ≡ log.roll.sheet = omega (arith, s.first, s.next) in
          let own : outside 1 log.roll.parameters (i + 1) ≡ false = grind (arith, nat_tests) in
          s.gauged.count ∙ ap (λ m. outliers f m (g.entering.cell - g.leaving.cell)) first
          ∙ ap (outliers f (end + 1 - log.roll.sheet)) many ∙ rw own refl)
      | inr l ↦ (let other : outside 1 log.roll.parameters (i + 1) ≡ true = grind (arith, nat_tests) in
          h.rest i d l few ∙ rw other refl)
    ]
