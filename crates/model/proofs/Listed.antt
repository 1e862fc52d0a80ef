-- Values one after the other, as a list.
use Rattle.std.proofs.Common.{◌≡◌, ℕ, zero, suc, ◌+◌, ◌<◌, ◌≤◌, List, [], ◌∷◌, length, get_or, refl, ap, ◌∙◌, arith}
use Rattle.model.specs.Sheets.{listed}

pub listed_is : (f : ℕ → ℕ) (m n : ℕ) (xs : List ℕ) → length xs ≡ n → ((j : ℕ) → j < n → get_or xs j 0 ≡ f (j + m)) → xs ≡ listed f m n
listed_is f m zero [] e h = refl
listed_is f m (suc n) [] e h = absurd (omega arith)
listed_is f m zero (x ∷ xs) e h = absurd (omega arith)
listed_is f m (suc n) (x ∷ xs) e h =
    let here : x ≡ f m = h 0 (omega arith) ∙ ap f (let z : 0 + m ≡ m = omega arith in z) in
    let rest : xs ≡ listed f (m + 1) n =
    listed_is f (m + 1) n xs (omega arith) (λ j l. h (suc j) (omega arith) ∙ ap f (let z : suc j + m ≡ j + (m + 1) = omega arith in z)) in
    cc

pub listed_few : (f : ℕ → ℕ) (m n k : ℕ) → ((i : ℕ) → f i ≤ k) → (i : ℕ) → get_or (listed f m n) i 0 ≤ k
listed_few f m zero k h i = omega arith
listed_few f m (suc n) k h zero = h m
listed_few f m (suc n) k h (suc i) = listed_few f (m + 1) n k h i
