-- The criteria delivered.
use Rattle.std.specs.Prelude.{ℕ, ◌+◌, ◌-◌, ◌*◌, ◌<◌, ◌≤◌, max, cond, List, [], ◌∷◌, replicate, ◌==◌, nat_le, slice_index}
use Rattle.std.specs.Ordering.{ordering_then}
use Rattle.model.specs.Refusals.{outside}
use Rattle.model.specs.Sheets.{listed}
use Rattle.criteria.specs.declared.tally.Class.{Class}
use Rattle.criteria.specs.declared.tally.Class.TheVariants.{A, B, C, D}
use Rattle.criteria.specs.declared.tally.Classes.{Classes}
use Rattle.criteria.specs.Law.{Rules}
use Rattle.criteria.specs.Sums.{by_sums}

-- one parameter's outlier counts, summed; a number that is not 1 to 8 means parameter 1
abbrev pub single : ℕ → Rules ℕ ℕ
single k = record {
  mark = λ l b. slice_index b (cond (outside 1 8 k) 1 k - 1);
  none = 0;
  add = λ t m. t + m;
  rank = λ t u. by_sums 0 1 (t ∷ []) (u ∷ []);
}

-- eight sums, compared from parameter 1 on
abbrev pub ladder : Rules (List ℕ) (List ℕ)
ladder = record {
  mark = λ l b. b;
  none = replicate 8 0;
  add = λ t m. listed (λ i. slice_index t i + slice_index m i) 0 8;
  rank = by_sums 0 8;
}

-- eight sums of n outlier counts of at most 4,096
abbrev pub SumsOf : ℕ → List ℕ → Type 0
SumsOf n t = (i : ℕ) → i < 8 → slice_index t i ≤ n * 4096

abbrev pub greatest : List ℕ → ℕ
greatest [] = 0
greatest (x ∷ xs) = max x (greatest xs)

-- the class of a sheet of l cells whose greatest outlier count is w
abbrev pub class_of : ℕ → ℕ → Class
class_of w l = cond (w == 0) A (cond (nat_le (1000 * w) (20 * l)) B (cond (nat_le (1000 * w) (50 * l)) C D))

-- one sheet more of the class
abbrev pub counted : Classes → Class → Classes
counted t A = record { a = t.a + 1; b = t.b; c = t.c; d = t.d }
counted t B = record { a = t.a; b = t.b + 1; c = t.c; d = t.d }
counted t C = record { a = t.a; b = t.b; c = t.c + 1; d = t.d }
counted t D = record { a = t.a; b = t.b; c = t.c; d = t.d + 1 }

-- D first
abbrev pub worst_first : Classes → List ℕ
worst_first t = t.d ∷ t.c ∷ t.b ∷ t.a ∷ []

-- sheets counted by class
abbrev pub tally : Rules Class Classes
tally = record {
  mark = λ l b. class_of (greatest b) l;
  none = record { a = 0; b = 0; c = 0; d = 0 };
  add = counted;
  rank = λ t u. by_sums 0 4 (worst_first t) (worst_first u);
}

-- two criteria as one: the second is looked at only where the first finds equal
abbrev pub ranked : {M T N U : Type 0} → Rules M T → Rules N U → Rules (M × N) (T × U)
ranked r s = record {
  mark = λ l b. (r.mark l b, s.mark l b);
  none = (r.none, s.none);
  add = λ t m. (r.add t.0 m.0, s.add t.1 m.1);
  rank = λ t u. ordering_then (r.rank t.0 u.0) (s.rank t.1 u.1);
}
