-- The outliers among cells that follow one another, as one enters and one leaves.
use Rattle.std.proofs.Common.{◌≡◌, ℕ, zero, suc, ◌+◌, ◌-◌, ◌<◌, ◌≤◌, Bool, true, false, ap, arith}
use Rattle.model.specs.Sheets.{bit, outliers}

pub bit_small : (b : Bool) → bit b ≤ 1
bit_small true = omega arith
bit_small false = omega arith

pub outliers_few : (f : ℕ → Bool) (m k : ℕ) → outliers f m k ≤ k
outliers_few f m zero = omega arith
outliers_few f m (suc k) = omega (arith, bit_small (f m), outliers_few f (m + 1) k)

pub outliers_more : (f : ℕ → Bool) (m k : ℕ) → outliers f m (suc k) ≡ outliers f m k + bit (f (m + k))
outliers_more f m zero =
    let g : bit (f m) ≡ bit (f (m + 0)) = ap (λ x. bit (f x)) (omega arith) in
    omega arith
outliers_more f m (suc k) =
    let e : outliers f (m + 1) (suc k) ≡ outliers f (m + 1) k + bit (f (m + 1 + k)) = outliers_more f (m + 1) k in
    let g : bit (f (m + 1 + k)) ≡ bit (f (m + suc k)) = ap (λ x. bit (f x)) (omega arith) in
    omega arith

-- cell e enters those from l up to it
pub enters : (f : ℕ → Bool) (l e : ℕ) → l ≤ e → outliers f l (e + 1 - l) ≡ outliers f l (e - l) + bit (f e)
enters f l e h =
    let k : e + 1 - l ≡ suc (e - l) = omega arith in
    let a : outliers f l (e + 1 - l) ≡ outliers f l (suc (e - l)) = ap (outliers f l) k in
    let b : bit (f (l + (e - l))) ≡ bit (f e) = ap (λ x. bit (f x)) (omega arith) in
    omega (arith, outliers_more f l (e - l))
