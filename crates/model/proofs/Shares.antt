-- Where a sheet passes its shares, by how much, and so for how many ends.
use Rattle.std.proofs.Common.{◌≡◌, ℕ, zero, suc, ◌+◌, ◌-◌, ◌*◌, ◌/◌, ◌<◌, ◌≤◌, max, Bool, true, false, cond, eqb, leb, sym, refl, ap, ◌∙◌, inl, inr, arith}
use Rattle.std.proofs.lemmas.Bool.Decides.{nat_tests, leb_tells}
use Rattle.model.specs.Log.{Log}
use Rattle.model.specs.Counting.{excess}
use Rattle.model.specs.Sheets.{b, within_shares, outliers, share}
use Rattle.model.specs.Refusals.{outside}
use Rattle.model.specs.Verdicts.{outlier}
use Rattle.model.proofs.Outliers.{bit_small, outliers_few, outliers_more}

within : (x s : ℕ) → x ≤ s / 1000 → 1000 * x ≤ s
within x s h = omega arith

past : (x s : ℕ) → s / 1000 < x → 1000 * x ≤ s → ⊥
past x s h k = omega arith

-- a sheet is fair where nothing is in excess
pub within_shares_is : (log : Log) (p n : ℕ) → within_shares log p n ≡ eqb (excess log p n) 0
within_shares_is log p zero = refl
within_shares_is log p (suc i) =
    let s = share log (suc i) * log.roll.sheet in
    let x = b log p (suc i) in
    let e : within_shares log p i ≡ eqb (excess log p i) 0 = within_shares_is log p i in
    elim (leb_tells x (s / 1000)) [
      | inl t ↦ (let h : 1000 * x ≤ s = within x s t.1 in
          let m : max (excess log p i) (x - s / 1000) ≡ excess log p i = omega (arith, t.1) in
          let l : leb (1000 * x) s ≡ true = grind (arith, nat_tests) in
          rw l (e ∙ ap (λ y. eqb y 0) (sym m)))
      | inr t ↦ (let h : s / 1000 < x = t.1 in
          let l : leb (1000 * x) s ≡ false = elim (leb_tells (1000 * x) s) [ inl q ↦ absurd (past x s h q.1) | inr q ↦ q.0 ] in
          let m : 0 < max (excess log p i) (x - s / 1000) = omega arith in
          let z : eqb (max (excess log p i) (x - s / 1000)) 0 ≡ false = grind (arith, nat_tests) in
          rw l (sym z))
    ]

-- one cell further a parameter has at most one outlier less
fewer : (f : ℕ → Bool) (m l : ℕ) → outliers f m l ≤ outliers f (m + 1) l + 1
fewer f m l = omega (arith, outliers_more f m l, bit_small (f m), bit_small (f (m + l)))

fewer_by : (f : ℕ → Bool) (m l k : ℕ) → outliers f m l ≤ outliers f (m + k) l + k
fewer_by f m l zero =
    let e : outliers f m l ≡ outliers f (m + 0) l = ap (λ x. outliers f x l) (let z : m ≡ m + 0 = omega arith in z) in
    omega arith
fewer_by f m l (suc k) =
    let z : m + k + 1 ≡ m + suc k = omega arith in
    let e : outliers f (m + k + 1) l ≡ outliers f (m + suc k) l = ap (λ x. outliers f x l) z in
    omega (arith, fewer_by f m l k, fewer f (m + k) l)

b_fewer : (log : Log) (p k i : ℕ) → log.roll.sheet ≤ p → b log p i ≤ b log (p + k) i + k
b_fewer log p k i h =
    let l = log.roll.sheet in
    let f : ℕ → Bool = outlier log i in
    let z : p + 1 - l + k ≡ p + k + 1 - l = omega arith in
    let e : outliers f (p + 1 - l + k) l ≡ outliers f (p + k + 1 - l) l = ap (λ x. outliers f x l) z in
    let less : outliers f (p + 1 - l) l ≤ outliers f (p + k + 1 - l) l + k = omega (arith, fewer_by f (p + 1 - l) l k) in
    elim (outside 1 log.roll.parameters i) as (λ t. cond t 0 (outliers f (p + 1 - l) l) ≤ cond t 0 (outliers f (p + k + 1 - l) l) + k) [ true ↦ omega arith | false ↦ less ]

-- of the ends from p on, as many as the sheet at p is in excess are not fair
pub skipped : (log : Log) (p k n : ℕ) → log.roll.sheet ≤ p → k < excess log p n → within_shares log (p + k) n ≡ true → ⊥
skipped log p k zero h m r = omega arith
skipped log p k (suc i) h m r =
    let s = share log (suc i) * log.roll.sheet in
    elim (leb_tells (excess log p i) k) [
      | inl t ↦ (let u : excess log p i ≤ k = t.1 in
          let v : 1000 * b log (p + k) (suc i) ≤ s = grind (arith, nat_tests) in
          past (b log (p + k) (suc i)) s (omega (arith, b_fewer log p k (suc i) h)) v)
      | inr t ↦ (let q : within_shares log (p + k) i ≡ true = grind (arith, nat_tests) in skipped log p k i h t.1 q)
    ]

pub b_few : (log : Log) (p i : ℕ) → b log p i ≤ log.roll.sheet
b_few log p i =
    let l = log.roll.sheet in
    elim (outside 1 log.roll.parameters i) as (λ t. cond t 0 (outliers (outlier log i) (p + 1 - l) l) ≤ l) [
      | true ↦ omega arith
      | false ↦ outliers_few (outlier log i) (p + 1 - l) l
    ]

pub excess_few : (log : Log) (p n : ℕ) → excess log p n ≤ log.roll.sheet
excess_few log p zero = omega arith
excess_few log p (suc n) = omega (arith, excess_few log p n, b_few log p (suc n))
