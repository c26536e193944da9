use Rattle.std.proofs.Common.{◌≡◌, ℕ, refl, ap, subst, arith}
use Rattle.gr_base.specs.Grid.{cells_of}
use Rattle.gr_base.specs.declared.frame.Frame.{Frame}
use Rattle.text_commands.specs.Placing.{IsTold}
use Rattle.text_commands.proofs.PlacingLemmas.{told-none}
use Rattle.text_commands.proofs.placing.told_of.Goals as goal

pub loop-net-init : goal.loop-net-init
loop-net-init g c = record {
  low = omega arith;
  index = omega (arith, c.in_ok-index.ensures, c.cells.ensures.cells, ap (λ (f : Frame). cells_of f.shape) c.frame.ensures.frame);
  told = told-none g.P.NetPlanner.rule c.args.nets.now.design.now c.args.nets.now.library.now c.args.nets.now.routes.now c.args.first (record { lines = c.new-2.result; buffers = 0 })
      c.new-2.ensures refl;
}

pub tell-requires-clause-few : goal.tell-requires-clause-few
tell-requires-clause-few g c = omega (arith, c.loop-net.invariant.told.few)

pub loop-net-preserved : goal.loop-net-preserved
loop-net-preserved g c = record {
  low = omega (arith, c.loop-net.invariant.low);
  index = omega (arith, c.in_ok-tell.ensures.index, c.loop-net.invariant.index);
  told = c.in_ok-tell.ensures.told c.args.first c.loop-net.invariant.low c.loop-net.invariant.told;
}

pub returns : goal.returns
returns g c =
    let end : c.loop-net.net ≡ c.args.last = omega (arith, c.loop-net-test.false, c.loop-net.auto.net-end, c.requires.first) in
    subst (λ (last : ℕ). IsTold g.P.NetPlanner.rule c.args.nets.now.design.now c.args.nets.now.library.now c.args.nets.now.routes.now c.args.first last c.loop-net.told) end
    c.loop-net.invariant.told
