-- The worked examples, computed.
use Rattle.std.proofs.Common.{◌≡◌, true, refl}
use lib.Ieee.{lt, le, eq, is_nan, of_bits, of_fields}
use Rattle.std.specs.Float.{float_is_finite}
use Rattle.criteria.specs.Examples.{examples}
use Rattle.model.specs.Examples.{holds}

pub all_hold : holds examples ≡ true
unfolding lt le eq is_nan of_bits of_fields float_is_finite
all_hold = refl
