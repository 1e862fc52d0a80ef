-- What holds of each element of a list, with one element less.
use Rattle.std.proofs.Common.{ℕ, ◌+◌, ◌<◌, List, length, get_or, sym, subst, inl, inr, arith}
use Rattle.std.proofs.lemmas.List.Edits.{length-remove, get_or-remove_below, get_or-remove_above}
use Rattle.std.proofs.lemmas.Bool.{cases_lt}
use Rattle.std.specs.List.{remove}

abbrev pub Each : {X : Type 0} → X → (X → Type 0) → List X → Type 0
Each d P xs = (k : ℕ) → k < length xs → P (get_or xs k d)

pub each_removed : {X : Type 0} (d : X) (P : X → Type 0) (xs : List X) (i : ℕ) → i < length xs → Each d P xs → Each d P (remove xs i)
each_removed d P xs i w h k l = elim (cases_lt k i) [
  | inl m ↦ subst P (sym (get_or-remove_below xs i d k m w)) (h k (omega arith))
  | inr m ↦ subst P (sym (get_or-remove_above xs i d k m w)) (h (k + 1) (omega (arith, length-remove xs i w)))
]
