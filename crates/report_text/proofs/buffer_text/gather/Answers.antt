use Rattle.std.proofs.Common.{List, rules, subst}
use Rattle.std.specs.List.Sorted.{IsPermutation}
use Rattle.std.proofs.lemmas.List.Sorted.{IsNonDecreasingBy-from_sort_by_key}
use Rattle.report_text.specs.declared.buffer_text.Buffered.{Buffered}
use Rattle.report_text.proofs.PlacedLemmas.{sorted-are}
use Rattle.report_text.proofs.buffer_text.gather.Goals as goal

pub returns : goal.returns
returns c =
    let moved = subst (λ (bs : List Buffered). IsPermutation bs c.sort_unstable_by_key.new.self.items) c.in_ok-gather_by_nodes.ensures.found c.sort_unstable_by_key.ensures.permutation in
    let up = IsNonDecreasingBy-from_sort_by_key (λ (b : Buffered). b.cell) c.sort_unstable_by_key.new.self.items c.sort_unstable_by_key.ensures.sorted (λ a r q k. search rules) in
    sorted-are c.args.tree.now c.args.placement.now c.in_ok-gather_by_nodes.ensures.tree c.sort_unstable_by_key.new.self.items moved up
