-- What trying finds best is the best of all choices.
use Rattle.std.proofs.Common.{◌≡◌, ℕ, zero, suc, ◌+◌, ◌≤◌, Bool, true, not, ◌&&◌, ◌||◌, ltb, ◌⊎◌, List, [], ◌∷◌, length, drop, sym, refl, ap, ◌∙◌, subst, inl, inr, arith}
use Rattle.std.proofs.lemmas.Bool.{and_parts, cases_eq, ltb-true, or_cases}
use Rattle.std.proofs.lemmas.Bool.Decides.{nat_tests}
use Rattle.model.specs.Choices.{From, Choice, spacing}
use Rattle.model.specs.Examples.{passing, same}
use Rattle.model.specs.Log.{Log}
use Rattle.model.specs.Sheets.{good}
use Rattle.model.proofs.Greedy.{good_fits}
use Rattle.criteria.specs.Law.{Rules}
use Rattle.choices.specs.Best.{Best, Before, Sooner}
use Rattle.choices.specs.Trying.{all_good, apart, every_part, precedes, sooner, tried}

same_is : (xs ys : List ℕ) → same xs ys ≡ true → xs ≡ ys
same_is [] [] e = refl
same_is [] (y ∷ ys) e = absurd (grind arith)
same_is (x ∷ xs) [] e = absurd (grind arith)
same_is (x ∷ xs) (y ∷ ys) e = grind (arith, nat_tests, same_is xs ys)

module _ (g : ℕ → Bool) (f : List ℕ → Bool) (m n : ℕ) (e : every_part f (passing g m (suc n)) ≡ true) where
  without : every_part f (passing g (m + 1) n) ≡ true
  without = grind (arith, nat_tests)

  with_it : g m ≡ true → every_part (λ ys. f (m ∷ ys)) (passing g (m + 1) n) ≡ true
  with_it t = grind (arith, nat_tests)

-- what holds of each part of the good ends from m on holds of each choice from there on
tries : (log : Log) → 1 ≤ spacing log → (f : List ℕ → Bool) (m n from : ℕ) → m + n ≡ log.roll.cells + 1 → m ≤ from →
    every_part f (passing (good log) m n) ≡ true → (ys : List ℕ) → From log from ys → f ys ≡ true
tries log s f m zero from z l e [] c = e
tries log s f m zero from z l e (y ∷ ys) c = absurd (omega (arith, c.0, (good_fits log y c.1).1))
tries log s f m (suc n) from z l e [] c = tries log s f (m + 1) n (m + 1) (omega arith) (omega arith) (without (good log) f m n e) [] tt
tries log s f m (suc n) from z l e (y ∷ ys) c = elim (cases_eq m y) [
  | inl q ↦ (let Good : ℕ → Type 0 = λ p. good log p ≡ true in
      let here : good log m ≡ true = subst Good (sym q) c.1 in
      let all : f (m ∷ ys) ≡ true = tries log s (λ zs. f (m ∷ zs)) (m + 1) n (y + spacing log) (omega arith) (omega arith) (with_it (good log) f m n e here) ys c.2 in
      ap (λ p. f (p ∷ ys)) (sym q) ∙ all)
  | inr q ↦ (let ne : m ≡ y → ⊥ = q in
      let low : m ≤ y = omega (arith, c.0) in
      let lower : m + 1 ≤ y = grind arith in
      tries log s f (m + 1) n (m + 1) (omega arith) (omega arith) (without (good log) f m n e) (y ∷ ys) (lower, c.1, c.2))
]

from_apart : (log : Log) (from : ℕ) (ys : List ℕ) → From log from ys → apart (spacing log) from ys ≡ true
from_apart log from [] c = refl
from_apart log from (y ∷ ys) c = grind (arith, nat_tests, from_apart log (y + spacing log) ys)

from_tests : (log : Log) (from : ℕ) (xs : List ℕ) → all_good log xs ≡ true → apart (spacing log) from xs ≡ true → From log from xs
from_tests log from [] a b = tt
from_tests log from (x ∷ xs) a b = grind (arith, nat_tests, from_tests log (x + spacing log) xs)

sooner_is : (xs ys : List ℕ) → sooner xs ys ≡ true → Sooner xs ys
sooner_is [] ys e = absurd (grind arith)
sooner_is (x ∷ xs) [] e = absurd (grind arith)
sooner_is (x ∷ xs) (y ∷ ys) e = elim (or_cases (sooner xs ys) (same xs ys && ltb x y) e) [
  | inl t ↦ (let s = sooner_is xs ys t in
      let z : suc s.at + 1 ≡ suc (s.at + 1) = omega arith in
      record {
        at = suc s.at;
        within = omega (arith, s.within);
        earlier = s.earlier;
        behind = ap (λ n. drop n (x ∷ xs)) z ∙ s.behind ∙ sym (ap (λ n. drop n (y ∷ ys)) z);
      })
  | inr t ↦ (let p = and_parts (same xs ys) (ltb x y) t in
      record { at = 0; within = omega arith; earlier = ltb-true x y p.1; behind = same_is xs ys p.0 })
]

module _ {M T : Type 0} (log : Log) (r : Rules M T) (xs : List ℕ) where
  precedes_is : (ys : List ℕ) → precedes log r xs ys ≡ true → (length ys ≤ length xs) × (length ys ≡ length xs → Before log r xs ys)
  precedes_is ys e = grind (arith, nat_tests, sooner_is xs ys)

  pub tried_best : 1 ≤ spacing log → tried log r xs ≡ true → Best log r (Choice log) xs
  tried_best s e = record {
    one = from_tests log 0 xs chosen.0 chosen.1;
    most = λ ys c. grind (arith, compared ys c);
    cheapest = λ ys c n. grind (arith, compared ys c);
  }
    where
      parts : ((all_good log xs && apart (spacing log) 0 xs) ≡ true) × (every_part (λ ys. not (apart (spacing log) 0 ys) || (same ys xs || precedes log r xs ys)) (passing (good log) 0 (log.roll.cells + 1)) ≡ true)
      parts = and_parts _ _ e

      chosen : (all_good log xs ≡ true) × (apart (spacing log) 0 xs ≡ true)
      chosen = and_parts (all_good log xs) (apart (spacing log) 0 xs) parts.0

      compared : (ys : List ℕ) → Choice log ys → (ys ≡ xs) ⊎ ((length ys ≤ length xs) × (length ys ≡ length xs → Before log r xs ys))
      compared ys c =
          let t : (not (apart (spacing log) 0 ys) || (same ys xs || precedes log r xs ys)) ≡ true =
          tries log s (λ zs. not (apart (spacing log) 0 zs) || (same zs xs || precedes log r xs zs)) 0 (log.roll.cells + 1) 0 (omega arith) (omega arith) parts.1 ys c in
          grind (arith, nat_tests, t, from_apart log 0 ys c, same_is ys xs, precedes_is ys)
