-- The sheet under a window, as the queries tell it.
use Rattle.std.proofs.Common.{◌≡◌, ℕ, Bool, true, not, ◌&&◌, List, is_some, Some, None, Option, sym, ap, ◌∙◌, inl, inr}
use Rattle.std.proofs.lemmas.Bool.{and_from, and_parts, cases_Bool, cond-true, cond-false}
use Rattle.model.specs.Counting.{lacking}
use Rattle.model.specs.Log.{Log}
use Rattle.model.specs.Sheets.{clear, counts, first_cell, fits, good, within_shares}
use Rattle.sheets.specs.declared.judged.Sheet.{Sheet}
use Rattle.sheets.specs.Answers.{judgeable, sheet_at}
use Rattle.sheets.specs.Seen.{seen}

pub sheet_told : (log seen : Log) (p end : ℕ) (s : Sheet) → seen ≡ log → end ≡ p → judgeable log p ≡ true →
    s.counts ≡ counts seen end → s.good ≡ good seen end → Some s ≡ sheet_at log p
sheet_told log seen p end s sees at on counted judged =
    let many : s.counts ≡ counts log p = counted ∙ ap (λ g. counts g end) sees ∙ ap (counts log) at in
    let well : s.good ≡ good log p = judged ∙ ap (λ g. good g end) sees ∙ ap (good log) at in
    let of : List ℕ → Bool → Option Sheet = λ xs t. Some (record { counts = xs; good = t }) in
    ap (λ xs. of xs s.good) many ∙ ap (of (counts log p)) well ∙ sym (cond-true (judgeable log p) (of (counts log p) (good log p)) None on)

-- a sheet that is told is the rules' sheet
pub told_sheet : (log : Log) (p : ℕ) (s : Sheet) → Some s ≡ sheet_at log p → (s.counts ≡ counts log p) × (s.good ≡ good log p)
told_sheet log p s e = elim (cases_Bool (judgeable log p)) [
  | inl t ↦ (let same : Some s ≡ Some (record { counts = counts log p; good = good log p }) = e ∙ cond-true (judgeable log p) (Some (record { counts = counts log p; good = good log p })) None t in
      let is : s ≡ record { counts = counts log p; good = good log p } = cc in
      (ap (λ x. x.counts) is, ap (λ x. x.good) is))
  | inr t ↦ (let none : Some s ≡ None = e ∙ cond-false (judgeable log p) (Some (record { counts = counts log p; good = good log p })) None t in absurd cc)
]

none_some : (o : Option Sheet) (s : Sheet) → None ≡ o → o ≡ Some s → ⊥
none_some o s e f = cc

-- where none is told though each parameter has limits, none is good
pub told_none : (log : Log) (p : ℕ) → lacking log ≡ None → None ≡ sheet_at log p → good log p ≡ true → ⊥
told_none log p l e g =
    let on : fits log p ≡ true = (and_parts (fits log p) (clear log.roll.bars (first_cell log p) log.roll.sheet && within_shares log p log.roll.parameters) g).0 in
    let all : not (is_some (lacking log)) ≡ true = ap (λ o. not (is_some o)) l in
    let t : judgeable log p ≡ true = and_from (fits log p) (not (is_some (lacking log))) on all in
    none_some (sheet_at log p) (record { counts = counts log p; good = good log p }) e
    (cond-true (judgeable log p) (Some (record { counts = counts log p; good = good log p })) None t)
