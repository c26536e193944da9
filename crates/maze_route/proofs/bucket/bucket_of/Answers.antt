use Rattle.std.proofs.Common.{◌+◌, ◌-◌, ◌/◌, refl, arith}
use Rattle.std.specs.Int.{w64, leading_zeros}
use Rattle.std.specs.Int.Bits.{bit_xor}
use Rattle.maze_route.proofs.BucketNumbers.{block-bits, near-is, far-is}
use Rattle.maze_route.proofs.bucket.bucket_of.Goals as goal

pub returns-then-bits-eq0 : goal.returns-then-bits-eq0
returns-then-bits-eq0 c =
    let bits = 64 - leading_zeros w64 (bit_xor (c.args.last / 1024) (c.args.key / 1024)) in
    let found = block-bits c.args.last c.args.key bits c.ranges.last.fits c.ranges.key.fits refl in
    let h = c.own_bucket.ensures.few in
    record {
      bucket = near-is c.args.last c.args.key bits c.own_bucket.result found.0 c.if-bits-eq0.true c.own_bucket.ensures.own;
      few = omega arith;
    }

pub returns-else-bits-eq0 : goal.returns-else-bits-eq0
returns-else-bits-eq0 c =
    let bits = 64 - leading_zeros w64 (bit_xor (c.args.last / 1024) (c.args.key / 1024)) in
    let found = block-bits c.args.last c.args.key bits c.ranges.last.fits c.ranges.key.fits refl in
    let few = found.1 in
    record {
      bucket = far-is c.args.last c.args.key bits (1023 + bits) found.0 (omega (arith, c.if-bits-eq0.false)) refl;
      few = omega arith;
    }
