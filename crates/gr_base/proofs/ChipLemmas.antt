-- Tiles by coordinates.
use Rattle.std.proofs.Common.{◌≡◌, ℕ, ℤ, pos, negsuc, ◌-ℤ◌, ◌≤ℤ◌, ◌<ℤ◌, Some, None, refl, ap, arith}
use Rattle.std.proofs.lemmas.Int.{ints}
use Rattle.std.specs.Prelude.{option_and_then, unsigned_abs}
use Rattle.gr_base.specs.Designs.{above, tile_within, tile_of}

pub above-pos : (z : ℤ) → pos 0 ≤ℤ z → above z ≡ Some (unsigned_abs z)
above-pos (pos n) h = refl
above-pos (negsuc n) h = absurd (omega (arith, ints))

pub above-neg : (z : ℤ) → z <ℤ pos 0 → above z ≡ None
above-neg (pos n) h = absurd (omega (arith, ints))
above-neg (negsuc n) h = refl

pub tile_of-above : (lower at : ℤ) (size count : ℕ) → lower ≤ℤ at → tile_of lower size count at ≡ tile_within size count (unsigned_abs (at -ℤ lower))
tile_of-above lower at size count h = ap (option_and_then (tile_within size count)) (above-pos (at -ℤ lower) (omega (arith, ints)))

pub tile_of-below : (lower at : ℤ) (size count : ℕ) → at <ℤ lower → tile_of lower size count at ≡ None
tile_of-below lower at size count h = ap (option_and_then (tile_within size count)) (above-neg (at -ℤ lower) (omega (arith, ints)))
