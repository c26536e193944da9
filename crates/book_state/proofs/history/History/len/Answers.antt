use Rattle.std.proofs.Common.{List, length, ap, arith}
use Rattle.book_state.specs.declared.entry.Entry.{Entry}
use Rattle.book_state.proofs.HistoryLists.{length-entries}
use Rattle.book_state.proofs.history.History.len.Goals as goal

pub overflow_mul-result : goal.overflow_mul-result
overflow_mul-result c =
    let long = length-entries c.self.inside.blocks.items c.self.inside.last.items c.self.invariant.full in
    let few = c.self.invariant.few in
    omega (arith, long, few, c.self.inside.blocks.ok.0)

pub overflow_add-result : goal.overflow_add-result
overflow_add-result c =
    let long = length-entries c.self.inside.blocks.items c.self.inside.last.items c.self.invariant.full in
    let few = c.self.invariant.few in
    omega (arith, long, few, c.self.inside.blocks.ok.0, c.self.inside.last.ok.0)

pub returns-clause-len : goal.returns-clause-len
returns-clause-len c =
    let long = length-entries c.self.inside.blocks.items c.self.inside.last.items c.self.invariant.full in
    let same = ap (λ (h : List Entry). length h) c.self.view_is in
    omega (arith, long, same, c.self.inside.blocks.ok.0, c.self.inside.last.ok.0)

pub returns-clause-few : goal.returns-clause-few
returns-clause-few c =
    let long = length-entries c.self.inside.blocks.items c.self.inside.last.items c.self.invariant.full in
    let few = c.self.invariant.few in
    omega (arith, long, few, c.self.inside.blocks.ok.0, c.self.inside.last.ok.0)
