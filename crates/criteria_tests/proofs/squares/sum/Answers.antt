use Rattle.std.proofs.Common.{◌≡◌, ℕ, ◌*◌, ◌≤◌, length, get_or, mul-le-mul, arith}
use Rattle.std.proofs.lemmas.List.Elements.{All-from_get_or}
use Rattle.std.proofs.lemmas.List.Sums.{sum_by-le}
use Rattle.criteria.specs.Law.{Marked}
use Rattle.criteria_tests.specs.Outside.{by_squares, squares}
use Rattle.criteria_tests.proofs.squares.sum.Goals as goal

small : (m : ℕ) → Marked by_squares m → m ≤ 134217728
small m h =
    let b = h.1 in
    let e : m ≡ squares b = h.3 in
    let few : squares b ≤ length b * (4096 * 4096) = sum_by-le (λ x. x * x) (4096 * 4096) b
    (All-from_get_or (λ x. x * x ≤ 4096 * 4096) b 0 (λ i l.
    let less : get_or b i 0 ≤ 4096 = omega (arith, h.2.few i, h.2.short) in
    mul-le-mul less less)) in
    omega (arith, h.2.eight)

pub returns : goal.returns
returns c = record {
  value = λ n few h m. omega (arith, c.saturating_add.ensures, small c.args.mark m);
  held = λ n few h m. omega (arith, c.saturating_add.ensures, small c.args.mark m);
}
