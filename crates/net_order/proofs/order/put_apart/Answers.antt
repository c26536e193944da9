use Rattle.std.proofs.Common.{List, ℕ, map, refl, sym, subst, arith}
use Rattle.gr_base.specs.Designs.{AreRouted}
use Rattle.net_order.specs.Orders.{net_in}
use Rattle.net_order.proofs.RegionLemmas.{parts-taken, parts-none, routed-parts}
use Rattle.net_order.proofs.order.put_apart.Goals as goal

pub returns-then-size-eq0-clause-parts : goal.returns-then-size-eq0-clause-parts
returns-then-size-eq0-clause-parts c = parts-none _ _ _ _ c.if-size-eq0.true refl c.new.ensures.items

pub behind_turns-requires : goal.behind_turns-requires
behind_turns-requires c =
    (routed-parts c.args.survey.now.design.now _ _ _ _ _ c.deref_mut.ensures.value c.select_nth_unstable-others.ensures.permutation c.requires.routed).1

pub returns-clause-parts : goal.returns-clause-parts
returns-clause-parts c =
    let long = c.len.ensures in
    let ok = c.args.placed.ok.0 in
    let enough = c.requires.enough in
    parts-taken _ _ _ _ _ _ _ _ _ c.deref_mut.ensures.value c.select_nth_unstable-others.ensures.permutation c.select_nth_unstable-others.ensures.front_len
    (omega (arith, long, ok, enough)) c.in_ok-others.ensures.items c.in_ok-keys.ensures.nets

pub returns-clause-routed : goal.returns-clause-routed
returns-clause-routed c =
    subst (λ (l : List ℕ). AreRouted c.args.survey.now.design.now (map net_in l)) (sym c.in_ok-others.ensures.items)
    (routed-parts c.args.survey.now.design.now _ _ _ _ _ c.deref_mut.ensures.value c.select_nth_unstable-others.ensures.permutation c.requires.routed).0
