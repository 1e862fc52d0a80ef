-- The best choice: that there is one alone, what it is without its last end, and among all choices.
use Rattle.std.proofs.Common.{◌≡◌, ℕ, ◌+◌, ◌-◌, ◌≤◌, true, List, [], ◌∷◌, ◌++◌, reverse, length, sym, refl, ap, ◌∙◌, subst, arith}
use Rattle.std.proofs.lemmas.List.{reverse-reverse, reverse-append, length-reverse}
use Rattle.model.specs.Log.{Log}
use Rattle.model.specs.Choices.{From, Choice, Greatest, spacing}
use Rattle.model.specs.Sheets.{good}
use Rattle.model.proofs.Greedy.{good_fits}
use Rattle.criteria.specs.Law.{Rules}
use Rattle.choices.specs.Best.{Best, ChoiceTo, UpTo}
use Rattle.choices.proofs.Backwards.{Sound, Lawful, Back, back_length}
use Rattle.choices.proofs.Forwards.{backwards, best_to, task, top_to}
use Rattle.choices.proofs.Growing.{Top, top_once, top_rest, top_some}

pub sound : {M T : Type 0} (log : Log) (r : Rules M T) → 1 ≤ log.roll.sheet → Sound (task log r)
sound log r h = record { apart = h; inside = λ p g. omega (arith, (good_fits log p g).0) }

-- every choice is one of ends up to the last cell
up_to_cells : (log : Log) (from : ℕ) (xs : List ℕ) → From log from xs → UpTo log.roll.cells xs
up_to_cells log from [] c = tt
up_to_cells log from (x ∷ xs) c = ((good_fits log x c.1).1, up_to_cells log (x + spacing log) xs c.2)

pub best_of_all : {M T : Type 0} (log : Log) (r : Rules M T) (xs : List ℕ) → Best log r (ChoiceTo log log.roll.cells) xs → Best log r (Choice log) xs
best_of_all log r xs b = record {
  one = b.one.0;
  most = λ ys c. b.most ys (c, up_to_cells log 0 ys c);
  cheapest = λ ys c e. b.cheapest ys (c, up_to_cells log 0 ys c) e;
}

pub best_greatest : {M T : Type 0} (log : Log) (r : Rules M T) (xs : List ℕ) → Best log r (Choice log) xs → Greatest log (length xs)
best_greatest log r xs b = record { some = (xs, b.one, refl); most = b.most }

pub greatest_once : (log : Log) (m n : ℕ) → Greatest log m → Greatest log n → m ≡ n
greatest_once log m n a b = grind (arith, a.most b.some.0 b.some.1, b.most a.some.0 a.some.1)

module _ {M T : Type 0} (log : Log) (r : Rules M T) (s : Sound (task log r)) where
  pub choice_few : (j : ℕ) (xs : List ℕ) → ChoiceTo log j xs → length xs ≤ j
  choice_few j xs c =
      let To : List ℕ → Type 0 = ChoiceTo log j in
      let b = backwards log r s j (reverse xs) (subst To (sym (reverse-reverse xs)) c) in
      omega (arith, back_length (task log r) s j (reverse xs) b, length-reverse xs)

module _ {M T : Type 0} (log : Log) (r : Rules M T) (s : Sound (task log r)) (law : Lawful r) where
  top : (j : ℕ) (xs : List ℕ) → Best log r (ChoiceTo log j) xs → Top (task log r) j (reverse xs)
  top j xs b =
      let Of : List ℕ → Type 0 = Best log r (ChoiceTo log j) in
      top_to log r s j (reverse xs) (subst Of (sym (reverse-reverse xs)) b)

  pub best_once : (j : ℕ) (xs ys : List ℕ) → Best log r (ChoiceTo log j) xs → Best log r (ChoiceTo log j) ys → xs ≡ ys
  best_once j xs ys a b =
      sym (reverse-reverse xs) ∙ ap reverse (top_once (task log r) law j (reverse xs) (reverse ys) (top j xs a) (top j ys b)) ∙ reverse-reverse ys

  -- without its last end it is the best that leaves that end the spacing
  pub best_init : (j p : ℕ) (xs : List ℕ) → Best log r (ChoiceTo log j) (xs ++ (p ∷ [])) → Best log r (ChoiceTo log (p - spacing log)) xs
  best_init j p xs b =
      let e : reverse (xs ++ (p ∷ [])) ≡ p ∷ reverse xs = reverse-append xs (p ∷ []) in
      let At : List ℕ → Type 0 = Top (task log r) j in
      let Of : List ℕ → Type 0 = Best log r (ChoiceTo log (p - spacing log)) in
      subst Of (reverse-reverse xs)
      (best_to log r s (p - spacing log) (reverse xs) (top_rest (task log r) law j p (reverse xs) (subst At e (top j (xs ++ (p ∷ [])) b))))

  pub last_fits : (j p : ℕ) (xs : List ℕ) → Best log r (ChoiceTo log j) (xs ++ (p ∷ [])) → (good log p ≡ true) × (p ≤ j)
  last_fits j p xs b =
      let e : reverse (xs ++ (p ∷ [])) ≡ p ∷ reverse xs = reverse-append xs (p ∷ []) in
      let At : List ℕ → Type 0 = Back (task log r) j in
      let c : Back (task log r) j (p ∷ reverse xs) = subst At e (top j (xs ++ (p ∷ [])) b).choice in
      (c.1, c.0)

  -- there is a best choice
  pub best_some : (xs : List ℕ) × Best log r (Choice log) xs
  best_some =
      let n = log.roll.cells in
      let t = top_some (task log r) law s n n (omega arith) in
      (reverse t.0, best_of_all log r (reverse t.0) (best_to log r s n t.0 t.1))
