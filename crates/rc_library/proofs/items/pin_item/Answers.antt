use Rattle.std.proofs.Common.{sym, subst}
use Rattle.rc_library.specs.Libraries.{Sizes, HasPin}
use Rattle.rc_library.proofs.LibraryLemmas.{pin-at}
use Rattle.rc_library.proofs.items.pin_item.Goals as goal

pub set_sink_of-requires-clause-pin : goal.set_sink_of-requires-clause-pin
set_sink_of-requires-clause-pin g c =
    subst (λ (sizes : Sizes). HasPin sizes c.in_ok-net.net c.in_ok-pin.pin) (sym c.requires.of.sizes)
    (pin-at c.args.design.now c.in_ok-net.net c.in_ok-pin.pin c.in_ok-pin.ensures.below)
