use Rattle.std.proofs.Common.{◌≡◌, ◌<◌, ℕ, inl, inr, true, false, not, length, ap, ◌∙◌, arith}
use Rattle.gr_base.specs.Grid.{is_wire, is_wire_way}
use Rattle.route_evaluator.proofs.NetCountLemmas.{is_up, edge-counts}
use Rattle.route_evaluator.proofs.net_count.count_ways.Goals as goal
use Rattle.route_evaluator.proofs.net_count.count_ways.Goals.{in-East, in-Up}

pub loop-node-preserved : goal.loop-node-preserved
loop-node-preserved c =
    let t = c.args.tree.now in
    let k : ℕ = c.loop-node.node in
    let before = c.loop-node.invariant in
    let below : k < length t.nodes = omega (arith, c.len-node-end.ensures.len, c.loop-node-test.true) in
    let of = c.edge_to_parent.ensures.edge in
    elim c.match-edge.branch [
      | in-East w ↦
          let wire : is_wire c.in-Some.edge ≡ true = elim w.in-East.is [ inl east ↦ ap is_wire_way east | inr north ↦ ap is_wire_way north ] in
          record {
            wires = edge-counts is_wire t k c.edge_to_parent.result c.in-Some.edge true c.loop-node.wires c.match-edge.wires below of c.in-Some.is wire before.wires w.wires-is;
            vias = edge-counts is_up t k c.edge_to_parent.result c.in-Some.edge false c.loop-node.vias c.match-edge.vias below of c.in-Some.is (ap not wire) before.vias (w.vias-is ∙ omega arith);
            few = omega (arith, w.wires-is, w.vias-is, before.few);
          }
      | in-Up w ↦
          let via : is_wire c.in-Some.edge ≡ false = ap is_wire_way w.in-Up.is in
          record {
            wires = edge-counts is_wire t k c.edge_to_parent.result c.in-Some.edge false c.loop-node.wires c.match-edge.wires below of c.in-Some.is via before.wires (w.wires-is ∙ omega arith);
            vias = edge-counts is_up t k c.edge_to_parent.result c.in-Some.edge true c.loop-node.vias c.match-edge.vias below of c.in-Some.is (ap not via) before.vias w.vias-is;
            few = omega (arith, w.wires-is, w.vias-is, before.few);
          }
    ]
