-- The worked examples, computed.
use Rattle.std.proofs.Common.{◌≡◌, true, refl, lit≤}
use lib.Ieee.{lt, le, eq, is_nan, of_bits, of_fields}
use Rattle.std.specs.Float.{float_is_finite}
use Rattle.model.specs.Examples.{holds}
use Rattle.choices.specs.Examples.{Plans, examples}
use Rattle.choices.proofs.Trials.{tried_best}

pub all_hold : holds examples ≡ true
unfolding lt le eq is_nan of_bits of_fields float_is_finite
all_hold = refl

pub plans_are_best : Plans
unfolding lt le eq is_nan of_bits of_fields float_is_finite
plans_are_best = record {
  sample = tried_best _ _ _ (lit≤ tt) refl;
  barred = tried_best _ _ _ (lit≤ tt) refl;
  by_ladder = tried_best _ _ _ (lit≤ tt) refl;
  by_tally = tried_best _ _ _ (lit≤ tt) refl;
  by_both = tried_best _ _ _ (lit≤ tt) refl;
  one_sheet = tried_best _ _ _ (lit≤ tt) refl;
  no_sheet = tried_best _ _ _ (lit≤ tt) refl;
}
