use Rattle.std.proofs.Common.{refl}
use Rattle.round_core.proofs.FirstFields.{made-keeps}
use Rattle.round_core.proofs.world.World.new.Goals as goal

pub invariant_of-result : goal.invariant_of-result
invariant_of-result g c =
    made-keeps _ c.args.workers (record {
      book_is = c.in_ok-new.ensures;
      overflow_is = refl;
      round_is = refl;
      over_is = refl;
      left_is = c.in_ok-nets.ensures.nets;
      phases_are = c.in_ok-vec.ensures.items_if_clones_equal (λ y e. e);
      since_are = c.in_ok-vec-2.ensures.items_if_clones_equal (λ y e. e);
      few = c.requires.workers;
      rounds = c.requires.rounds;
      nets = c.routed_nets.ensures.few;
    })
