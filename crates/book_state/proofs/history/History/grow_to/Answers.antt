use Rattle.std.proofs.Common.{◌≡◌, ◌^◌, ◌<◌, ◌≤◌, length, refl, sym, subst, ◌∙◌, arith}
use Rattle.std.specs.Prelude.{Vec}
use Rattle.std.specs.Global.{Global}
use Rattle.book_state.specs.HistoryStore.{block_size, Held, entries_in}
use Rattle.book_state.proofs.PastLists.{grows-by_blocks, lacks-few, grows-by_entries}
use Rattle.book_state.proofs.history.History.grow_to.Goals as goal

pub overflow_sub-from : goal.overflow_sub-from
overflow_sub-from c =
    let few = lacks-few c.self.inside c.whole.inside c.args.self.now c.args.whole.now
    c.len-else-known-len.result c.len-else-known-len-2.result c.len-else-known-len-3.result c.self.invariant c.whole.invariant c.self.view_is c.whole.view_is c.requires
    (omega (arith, c.if-known-len.false, c.len.ensures, c.len-known.ensures, c.self.inside.blocks.ok.0, c.whole.inside.blocks.ok.0))
    c.len-else-known-len.ensures.len c.len-else-known-len-2.ensures.len (omega (arith, c.len-else-known-len-3.ensures, c.whole.inside.last.ok.0)) in
    few.0

pub returns-in_ok-extend_with_clones-clause-ok : goal.returns-in_ok-extend_with_clones-clause-ok
returns-in_ok-extend_with_clones-clause-ok c =
    let grown = grows-by_blocks c.self.inside c.whole.inside c.args.self.now c.args.whole.now c.len-known.result
    c.deref-then-known-len.result.now c.extend_with_clones.new.self.items c.deref.result.now c.in_ok-last.last.items c.self.invariant c.whole.invariant
    c.self.view_is c.whole.view_is c.requires (omega (arith, c.len-known.ensures, c.self.inside.blocks.ok.0))
    (omega (arith, c.if-known-len.true, c.len.ensures, c.len-known.ensures, c.whole.inside.blocks.ok.0))
    c.deref-then-known-len.ensures.value c.in_ok-extend_with_clones.ensures.items c.deref.ensures.value c.in_ok-last.ensures.items in
    subst (λ (last : Vec Held Global). entries_in c.extend_with_clones.new.self.items last.items ≡ c.args.whole.now) (sym c.replace.ensures.after)
    (grown.same ∙ c.whole.view_is)

pub invariant_of-self-then-known-len : goal.invariant_of-self-then-known-len
invariant_of-self-then-known-len c =
    let grown = grows-by_blocks c.self.inside c.whole.inside c.args.self.now c.args.whole.now c.len-known.result
    c.deref-then-known-len.result.now c.extend_with_clones.new.self.items c.deref.result.now c.in_ok-last.last.items c.self.invariant c.whole.invariant
    c.self.view_is c.whole.view_is c.requires (omega (arith, c.len-known.ensures, c.self.inside.blocks.ok.0))
    (omega (arith, c.if-known-len.true, c.len.ensures, c.len-known.ensures, c.whole.inside.blocks.ok.0))
    c.deref-then-known-len.ensures.value c.in_ok-extend_with_clones.ensures.items c.deref.ensures.value c.in_ok-last.ensures.items in
    record {
      full = grown.full;
      last = subst (λ (last : Vec Held Global). length last.items ≤ block_size) (sym c.replace.ensures.after) grown.short;
      few =
          subst (λ (last : Vec Held Global). length (entries_in c.extend_with_clones.new.self.items last.items) < 2 ^ 62)
          (sym c.replace.ensures.after) grown.few;
    }

pub returns-in_ok-extend_with_clones-2-clause-ok : goal.returns-in_ok-extend_with_clones-2-clause-ok
returns-in_ok-extend_with_clones-2-clause-ok c =
    let grown = grows-by_entries c.self.inside c.whole.inside c.args.self.now c.args.whole.now c.len-else-known-len.result
    c.len-else-known-len-2.result c.len-else-known-len-3.result _ c.deref-else-known-len.result.now c.extend_with_clones-else-known-len.new.self.items
    c.self.invariant c.whole.invariant c.self.view_is c.whole.view_is c.requires
    (omega (arith, c.if-known-len.false, c.len.ensures, c.len-known.ensures, c.self.inside.blocks.ok.0, c.whole.inside.blocks.ok.0))
    c.len-else-known-len.ensures.len c.len-else-known-len-2.ensures.len (omega (arith, c.len-else-known-len-3.ensures, c.whole.inside.last.ok.0)) refl
    c.deref-else-known-len.ensures.value c.in_ok-extend_with_clones-2.ensures.items in
    grown.same ∙ c.whole.view_is

pub invariant_of-self-in-Continue-branch-3 : goal.invariant_of-self-in-Continue-branch-3
invariant_of-self-in-Continue-branch-3 c =
    let grown = grows-by_entries c.self.inside c.whole.inside c.args.self.now c.args.whole.now c.len-else-known-len.result
    c.len-else-known-len-2.result c.len-else-known-len-3.result _ c.deref-else-known-len.result.now c.extend_with_clones-else-known-len.new.self.items
    c.self.invariant c.whole.invariant c.self.view_is c.whole.view_is c.requires
    (omega (arith, c.if-known-len.false, c.len.ensures, c.len-known.ensures, c.self.inside.blocks.ok.0, c.whole.inside.blocks.ok.0))
    c.len-else-known-len.ensures.len c.len-else-known-len-2.ensures.len (omega (arith, c.len-else-known-len-3.ensures, c.whole.inside.last.ok.0)) refl
    c.deref-else-known-len.ensures.value c.in_ok-extend_with_clones-2.ensures.items in
    record { full = grown.full; last = grown.short; few = grown.few }
