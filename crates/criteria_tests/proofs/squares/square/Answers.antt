use Rattle.std.proofs.Common.{◌*◌, ◌≤◌, mul-le-mul, arith}
use Rattle.criteria_tests.proofs.squares.square.Goals as goal

pub overflow_mul-result : goal.overflow_mul-result
overflow_mul-result c =
    let small : c.args.count ≤ 65535 = omega arith in
    let few : c.args.count * c.args.count ≤ 65535 * 65535 = mul-le-mul small small in
    omega arith
