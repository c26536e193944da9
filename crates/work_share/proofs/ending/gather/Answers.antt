use Rattle.std.proofs.Common.{List, subst, sym, arith}
use Rattle.std.specs.Global.{Vec}
use Rattle.std.specs.Vec.Iter.{into_iter_items}
use Rattle.work_share.specs.HandStore.{Pass}
use Rattle.work_share.proofs.GatherLemmas.{AreGathering, gathers-first, gathers-row, gathers-parts, gathers-more, gathers-last}
use Rattle.work_share.proofs.ending.gather.Goals as goal

pub loop-row-init : goal.loop-row-init
loop-row-init c =
    subst (λ (l : List (Vec Pass)). AreGathering c.args.owners.now.items c.args.rows.items l c.args.owners.now.items) (sym c.into_iter-rest.ensures.rest)
    (gathers-first c.args.owners.now.items c.args.rows.items c.requires.fifo c.requires.parts)

pub gather_row-requires-clause-row : goal.gather_row-requires-clause-row
gather_row-requires-clause-row c =
    let are = subst (λ (l : List (Vec Pass)). AreGathering c.args.owners.now.items c.args.rows.items l c.loop-row.owners.items) c.in-Some.ensures.items c.loop-row.invariant in
    gathers-row c.args.owners.now.items c.args.rows.items _ c.in-Some.row c.loop-row.owners.items c.requires.rows are

pub gather_row-requires-clause-parts : goal.gather_row-requires-clause-parts
gather_row-requires-clause-parts c = gathers-parts c.args.owners.now.items c.args.rows.items (into_iter_items c.loop-row.rest) c.loop-row.owners.items c.requires.few c.loop-row.invariant

pub loop-row-smaller : goal.loop-row-smaller
loop-row-smaller c = (let less = c.in-Some.ensures.cases.1 in omega (arith, less))

pub loop-row-preserved : goal.loop-row-preserved
loop-row-preserved c =
    let are = subst (λ (l : List (Vec Pass)). AreGathering c.args.owners.now.items c.args.rows.items l c.loop-row.owners.items) c.in-Some.ensures.items c.loop-row.invariant in
    gathers-more c.args.owners.now.items c.args.rows.items (into_iter_items c.next.new.self) c.in-Some.row c.loop-row.owners.items c.gather_row.new.owners.items c.requires.rows are c.gather_row.ensures

pub returns-clause-same : goal.returns-clause-same
returns-clause-same c = c.loop-row.invariant.same

pub returns-clause-fifo : goal.returns-clause-fifo
returns-clause-fifo c = c.loop-row.invariant.fifo

pub returns-clause-whole : goal.returns-clause-whole
returns-clause-whole c =
    let none = c.in_default.ensures.cases.0 in
    let count = c.loop-row.rest.rest.ok.0 in
    (gathers-last c.args.owners.now.items c.args.rows.items (into_iter_items c.loop-row.rest) c.loop-row.owners.items c.requires.rows c.loop-row.invariant (omega (arith, none, count))).0

pub returns-clause-taken : goal.returns-clause-taken
returns-clause-taken c =
    let none = c.in_default.ensures.cases.0 in
    let count = c.loop-row.rest.rest.ok.0 in
    (gathers-last c.args.owners.now.items c.args.rows.items (into_iter_items c.loop-row.rest) c.loop-row.owners.items c.requires.rows c.loop-row.invariant (omega (arith, none, count))).1
