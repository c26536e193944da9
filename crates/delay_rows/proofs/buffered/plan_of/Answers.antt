use Rattle.std.proofs.Common.{◌≡◌, ◌<◌, List, [], ◌∷◌, length, Some, slice_get, refl, arith}
use Rattle.gr_base.specs.declared.frame.Net.{Net}
use Rattle.delay_rows.proofs.buffered.plan_of.Goals as goal

first : (nets : List Net) → 0 < length nets → (net : Net) × (slice_get nets 0 ≡ Some net)
first [] some = absurd (omega arith)
first (net ∷ nets) some = (net, refl)

pub returns : goal.returns
returns c =
    let net = first c.args.design.now.nets c.requires.net in
    record {
      shape = (c.requires.tree net.0 net.1).shape;
      nodes = c.in_ok-placement.ensures.nodes;
      kinds = c.in_ok-placement.ensures.kinds;
    }
