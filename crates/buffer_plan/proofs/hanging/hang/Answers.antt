use Rattle.std.proofs.Common.{length, refl, ◌∙◌, arith}
use Rattle.elmore_delay.proofs.RcLemmas.{rc-tree, parent-read}
use Rattle.ginneken_lists.specs.Pairs.{candidates}
use Rattle.buffer_plan.specs.Picked.{sites_of}
use Rattle.buffer_plan.specs.Gathered.{pairs_in, pairs_at}
use Rattle.buffer_plan.proofs.Standing.{own-stays}
use Rattle.buffer_plan.proofs.Gathering.{marks-kept, gathered-put, steps-hung, hung-in-steps}
use Rattle.buffer_plan.proofs.Sizes.{sizes-of}
use Rattle.buffer_plan.proofs.Small.{hanging-pairs}
use Rattle.buffer_plan.proofs.TakenLemmas.{taken}
use Rattle.buffer_plan.proofs.hanging.hang.Goals as goal

pub raised-requires-clause-marks : goal.raised-requires-clause-marks
raised-requires-clause-marks g c = (taken c.args.node c.requires.loading c.requires.lists (omega arith) (c.in_ok-below.ensures ∙ c.take.ensures.list)).marks

pub raised-requires-clause-small : goal.raised-requires-clause-small
raised-requires-clause-small g c = (taken c.args.node c.requires.loading c.requires.lists (omega arith) (c.in_ok-below.ensures ∙ c.take.ensures.list)).small

pub returns-in_err-upper-clause-steps : goal.returns-in_err-upper-clause-steps
returns-in_err-upper-clause-steps g c =
    let l = c.args.loading.now in
    let lists = c.args.lists.now.items in
    let sizes = sizes-of c.requires.ours c.requires.loading in
    let steps = steps-hung (sites_of l) c.args.node 0 (length c.args.library.now.kinds) (length c.args.tree.now.nodes) 0 c.args.trail.now lists
    c.in_ok-below.below (pairs_at lists 0) c.requires.lists c.requires.later c.requires.later (c.in_ok-below.ensures ∙ c.take.ensures.list) refl
    sizes.kinds_are sizes.nodes_are (omega arith) in
    omega (arith, steps, c.in_err-upper.ensures.steps)

pub join-requires-clause-own_range : goal.join-requires-clause-own_range
join-requires-clause-own_range g c =
    let earlier = c.parent-parent.ensures.earlier c.requires.later in
    let own = own-stays pairs_in c.args.lists.now.items c.take.new.lists.items c.args.node c.parent-parent.result (pairs_in c.take-own.result) c.take.ensures.taken
    c.take-own.ensures.list earlier in
    (taken c.parent-parent.result c.requires.loading c.requires.lists (omega (arith, earlier)) own).range

pub join-requires-clause-range : goal.join-requires-clause-range
join-requires-clause-range g c =
    let below = taken c.args.node c.requires.loading c.requires.lists (omega arith) (c.in_ok-below.ensures ∙ c.take.ensures.list) in
    hanging-pairs c.args.loading.now c.args.node c.raised.new.trail c.in_ok-upper.upper (candidates c.args.trail.now c.in_ok-below.below) c.requires.loading below.small
    c.in_ok-upper.ensures.upper

pub join-requires-clause-own_marks : goal.join-requires-clause-own_marks
join-requires-clause-own_marks g c =
    let earlier = c.parent-parent.ensures.earlier c.requires.later in
    let own = own-stays pairs_in c.args.lists.now.items c.take.new.lists.items c.args.node c.parent-parent.result (pairs_in c.take-own.result) c.take.ensures.taken
    c.take-own.ensures.list earlier in
    marks-kept c.args.trail.now c.raised.new.trail (pairs_in c.take-own.result) c.in_ok-upper.ensures.kept
    (taken c.parent-parent.result c.requires.loading c.requires.lists (omega (arith, earlier)) own).marks

pub returns-in_err-joined-clause-steps : goal.returns-in_err-joined-clause-steps
returns-in_err-joined-clause-steps g c =
    let sizes = sizes-of c.requires.ours c.requires.loading in
    hung-in-steps c.args.steps.now c.in_ok-upper.upper (sites_of c.args.loading.now) c.args.node c.args.trail.now c.args.lists.now.items c.requires.lists c.requires.later
    (c.parent-parent.ensures.earlier c.requires.later) (c.in_ok-below.ensures ∙ c.take.ensures.list) c.take.ensures.taken c.take-own.ensures.list
    sizes.kinds_are sizes.nodes_are c.in_ok-upper.ensures.short c.in_ok-upper.ensures.steps c.in_err-joined.ensures.steps

pub returns-clause-lists : goal.returns-clause-lists
returns-clause-lists g c =
    let l = c.args.loading.now in
    let lists = c.args.lists.now.items in
    let earlier = c.parent-parent.ensures.earlier c.requires.later in
    let kinds = (sizes-of c.requires.ours c.requires.loading).kinds_are in
    gathered-put (sites_of l) c.args.node c.parent-parent.result c.args.trail.now c.raised.new.trail c.join.new.trail lists c.take.new.lists.items c.take-own.new.lists.items
    c.in_ok-below.below (pairs_in c.take-own.result) c.in_ok-upper.upper c.in_ok-joined.joined (rc-tree l c.requires.loading) c.requires.later
    (parent-read l c.args.tree.now c.args.node c.parent-parent.result c.requires.ours.tree_is c.parent-parent.ensures.parent) c.requires.lists
    c.take.ensures.taken c.take-own.ensures.taken (c.in_ok-below.ensures ∙ c.take.ensures.list)
    (own-stays pairs_in lists c.take.new.lists.items c.args.node c.parent-parent.result (pairs_in c.take-own.result) c.take.ensures.taken c.take-own.ensures.list earlier)
    (record {
      upper_kept = c.in_ok-upper.ensures.kept;
      kept = c.in_ok-joined.ensures.kept;
      upper_is = c.in_ok-upper.ensures.upper;
      upper_short = omega (arith, kinds, c.in_ok-upper.ensures.short);
      joined_is = c.in_ok-joined.ensures.joined;
      marked = c.in_ok-joined.ensures.marks;
      short = c.in_ok-joined.ensures.short;
    })

pub returns-clause-steps : goal.returns-clause-steps
returns-clause-steps g c =
    let sizes = sizes-of c.requires.ours c.requires.loading in
    hung-in-steps c.args.steps.now c.in_ok-upper.upper (sites_of c.args.loading.now) c.args.node c.args.trail.now c.args.lists.now.items c.requires.lists c.requires.later
    (c.parent-parent.ensures.earlier c.requires.later) (c.in_ok-below.ensures ∙ c.take.ensures.list) c.take.ensures.taken c.take-own.ensures.list
    sizes.kinds_are sizes.nodes_are c.in_ok-upper.ensures.short c.in_ok-upper.ensures.steps c.in_ok-joined.ensures.steps
