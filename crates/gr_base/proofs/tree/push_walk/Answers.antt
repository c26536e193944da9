use Rattle.std.proofs.Common.{◌≡◌, ◌-◌, ◌<◌, List, length, get_or, refl, ap, sym, ◌∙◌, arith}
use Rattle.std.proofs.lemmas.List.{length-append}
use Rattle.std.proofs.lemmas.Option.{slice_get-get_or}
use Rattle.gr_base.specs.Trees.{TreeView, grown}
use Rattle.gr_base.specs.declared.tree.Node.{Node}
use Rattle.gr_base.proofs.TreeLemmas.{cell-only}
use Rattle.gr_base.proofs.TreeGrowth.{attach-start, attach-turn, attach-done}
use Rattle.gr_base.proofs.tree.push_walk.Goals as goal

pub loop-at-init : goal.loop-at-init
loop-at-init c =
    let walk = c.args.walk.now in
    let last = slice_get-get_or walk (length walk - 1) 0 (omega (arith, c.requires.walk)) in
    let long : length c.reserve.new.self.items ≡ length c.args.nodes.now.items = ap (λ (ns : List Node). length ns) c.reserve.ensures.items in
    record {
      so_far = λ t tree same leads parent.
          let found = cell-only t.shape t.nodes c.args.parent (get_or walk (length walk - 1) 0) tree.hanging (rw same (parent ∙ last)) in
          attach-start t walk (length walk - 1) 0 c.reserve.new.self.items c.args.parent leads (omega (arith, c.requires.walk)) (c.reserve.ensures.items ∙ sym same) found;
      room = c.in_ok-reserve.ensures.ok;
      count = omega (arith, long, c.requires.walk);
    }

pub loop-at-preserved : goal.loop-at-preserved
loop-at-preserved c =
    let positive : 0 < c.loop-at.at = c.loop-at-test.true in
    let most = c.loop-at.auto.at in
    let count : c.len-number.result ≡ length c.loop-at.nodes.items = omega (arith, c.loop-at.nodes.ok.0, c.len-number.ensures) in
    let pushed = ap (λ (ns : List Node). length ns) c.push_reserved.ensures.items ∙ length-append c.loop-at.nodes.items _ in
    record {
      so_far = λ t tree same leads parent.
          attach-turn t c.args.walk.now c.loop-at.at (c.loop-at.at - 1) 0 c.loop-at.nodes.items c.push_reserved.new.self.items c.loop-at.parent c.len-number.result
          leads (omega arith) (omega arith) (c.loop-at.invariant.so_far t tree same leads parent) c.push_reserved.ensures.items count;
      room = omega (arith, c.push_reserved.ensures.len, c.push_reserved.ensures.capacity, c.loop-at.invariant.room);
      count = omega (arith, pushed, positive, c.loop-at.invariant.count);
    }

pub returns-clause-ok : goal.returns-clause-ok
returns-clause-ok c = λ t tree same leads parent.
    let now : TreeView = record { shape = t.shape; nodes = c.loop-at.nodes.items } in
    let is = attach-done t now c.args.walk.now c.loop-at.at c.loop-at.parent c.loop-at-test.false (c.loop-at.invariant.so_far t tree same leads parent) refl in
    ap (λ (v : TreeView). v.nodes) is ∙ ap (λ (ns : List Node). grown ns c.args.walk.now) same
