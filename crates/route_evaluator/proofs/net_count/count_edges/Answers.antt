use Rattle.std.proofs.Common.{◌≡◌, ◌-◌, ◌≤◌, ℕ, List, length, count_by, subst, ap, ◌∙◌, arith}
use Rattle.gr_base.specs.Sums.{wire_edges}
use Rattle.route_evaluator.specs.EdgeNumbers.{edges_numbered, is_via_number}
use Rattle.route_evaluator.proofs.CountLemmas.{times, vias-count, wires-count}
use Rattle.route_evaluator.proofs.net_count.count_edges.Goals as goal

pub returns-clause-count : goal.returns-clause-count
returns-clause-count c =
    let g = c.args.shape in
    let numbers : List ℕ = c.args.edges.now.numbers in
    let once = subst (λ (xs : List ℕ). (n : ℕ) → times xs n ≤ 1) c.numbers.ensures.numbers c.numbers.ensures.once in
    let via : c.count_vias-vias.result ≡ count_by is_via_number numbers = c.count_vias-vias.ensures ∙ ap (count_by is_via_number) c.numbers.ensures.numbers in
    let long : length c.numbers-2.result.now ≡ length numbers = ap (λ (xs : List ℕ). length xs) c.numbers-2.ensures.numbers in
    let whole = wires-count g numbers c.requires.grid once in
    record {
      wires = let e : length c.numbers-2.result.now - c.count_vias-vias.result ≡ count_by (edges_numbered numbers) (wire_edges g) = omega (arith, whole, via, long) in e;
      vias = via ∙ vias-count g numbers c.requires.grid once;
      joined = c.in_ok-joined.ensures.joined;
    }
