-- The literal that stands for no number.
use Rattle.std.proofs.Common.{◌≡◌, refl}
use Rattle.std.specs.Float.{binary32, nan}
use lib.Ieee.{of_bits, of_fields}

pub nan_is : of_bits binary32 0x7FC0_0000 ≡ nan
unfolding of_bits of_fields
nan_is = refl
