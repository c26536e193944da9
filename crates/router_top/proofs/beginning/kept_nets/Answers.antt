use Rattle.std.proofs.Common.{◌≡◌, ℕ, true, false, Option, is_some, sym, ap, ◌∙◌, arith}
use Rattle.std.specs.Option.{option_copied}
use Rattle.gr_base.specs.Trees.{TreeView, tree_at}
use Rattle.router_top.proofs.BeginningLemmas.{counted-next}
use Rattle.router_top.proofs.beginning.kept_nets.Goals as goal

pub loop-net-preserved : goal.loop-net-preserved
loop-net-preserved c =
    let net : ℕ = c.loop-net.net in
    let has : is_some (tree_at c.args.given.now net) ≡ true =
    ap (λ (o : Option TreeView). is_some o) (sym c.get.ensures ∙ ap option_copied c.in-Some.is) in
    record {
      count = counted-next (λ n. is_some (tree_at c.args.given.now n)) net c.loop-net.kept true has c.loop-net.invariant.count;
      few = omega (arith, c.loop-net.invariant.few);
    }

pub loop-net-preserved-in_default : goal.loop-net-preserved-in_default
loop-net-preserved-in_default c =
    let net : ℕ = c.loop-net.net in
    let none : is_some (tree_at c.args.given.now net) ≡ false =
    ap (λ (o : Option TreeView). is_some o) (sym c.get.ensures ∙ ap option_copied c.in_default.is) in
    let next = counted-next (λ n. is_some (tree_at c.args.given.now n)) net c.loop-net.kept false none c.loop-net.invariant.count in
    record {
      count = omega (arith, next);
      few = omega (arith, c.loop-net.invariant.few);
    }
