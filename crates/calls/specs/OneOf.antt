-- One of two criteria.
use Rattle.std.specs.Prelude.{ℕ}
use Rattle.std.specs.declared.cmp.Ordering.TheVariants.{Less, Equal, Greater}
use Rattle.std.specs.declared.cmp.Ordering.{Ordering}
use Rattle.criteria.specs.Law.{Rules}
use Rattle.calls.specs.declared.one_of.OneOf.{OneOf}
use Rattle.calls.specs.declared.one_of.OneOf.TheVariants.{First, Second}

-- totals of the first come before those of the second, which no plan compares
abbrev pub sorted : {T U : Type 0} → (T → T → Ordering) → (U → U → Ordering) → OneOf T U → OneOf T U → Ordering
sorted r s (First t) (First u) = r t u
sorted r s (First t) (Second u) = Less
sorted r s (Second t) (First u) = Greater
sorted r s (Second t) (Second u) = s t u

-- a mark of the other choice adds nothing
abbrev pub added : {T U M N : Type 0} → (T → M → T) → (U → N → U) → OneOf T U → OneOf M N → OneOf T U
added f g (First t) (First m) = First (f t m)
added f g (First t) (Second n) = First t
added f g (Second u) (First m) = Second u
added f g (Second u) (Second n) = Second (g u n)

-- the criterion that was chosen
abbrev pub one_of : {A B M N T U : Type 0} → (A → Rules M T) → (B → Rules N U) → OneOf A B → Rules (OneOf M N) (OneOf T U)
one_of r s (First a) = record {
  mark = λ l b. First ((r a).mark l b);
  none = First (r a).none;
  add = added (r a).add (λ u n. u);
  rank = sorted (r a).rank (λ t u. Equal);
}
one_of r s (Second c) = record {
  mark = λ l b. Second ((s c).mark l b);
  none = Second (s c).none;
  add = added (λ t m. t) (s c).add;
  rank = sorted (λ t u. Equal) (s c).rank;
}

-- a total of the criterion that was chosen
abbrev pub held_by : {A B T U : Type 0} → (A → ℕ → T → Type 0) → (B → ℕ → U → Type 0) → OneOf A B → ℕ → OneOf T U → Type 0
held_by h k (First a) n (First t) = h a n t
held_by h k (Second b) n (Second u) = k b n u
held_by h k _ n _ = ⊥
