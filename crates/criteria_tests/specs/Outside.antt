-- Criteria from outside the library.
use Rattle.std.specs.Prelude.{ℕ, ◌+◌, ◌*◌, max, List, sum_by, slice_index}
use Rattle.std.specs.declared.cmp.Ordering.TheVariants.{Equal}
use Rattle.criteria.specs.Law.{Rules}
use Rattle.criteria.specs.Sums.{by_number}

-- all totals are equal
abbrev pub indifferent : Rules ℕ ℕ
indifferent = record { mark = λ l b. 1; none = 0; add = λ t m. t + 1; rank = λ t u. Equal }

abbrev pub squares : List ℕ → ℕ
squares xs = sum_by (λ x. x * x) xs

abbrev pub by_squares : Rules ℕ ℕ
by_squares = record { mark = λ l b. squares b; none = 0; add = λ t m. t + m; rank = by_number }

-- by the worst sheet in parameter 1; it keeps the laws of order, and not the law of adding
abbrev pub worst : Rules ℕ ℕ
worst = record { mark = λ l b. slice_index b 0; none = 0; add = max; rank = by_number }
