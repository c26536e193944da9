use Rattle.std.proofs.Common.{ℕ, ◌+◌, ◌*◌, ◌≤◌, length, sym, subst, ◌∙◌, arith}
use Rattle.elmore_delay.proofs.RcLemmas.{rc-tree, parent-read}
use Rattle.ginneken_lists.specs.Thinning.{AreRising}
use Rattle.buffer_plan.specs.Picked.{sites_of}
use Rattle.buffer_plan.specs.Gathered.{most_steps}
use Rattle.buffer_plan.proofs.Standing.{own-stays}
use Rattle.buffer_plan.proofs.Sizes.{sizes-of}
use Rattle.polar_lists.specs.BothLists.{side, sides_in, candidates_by, AreShort}
use Rattle.polar_lists.proofs.SignalLemmas.{hanging-rising}
use Rattle.polar_lists.proofs.BothGathering.{both-marks_kept, both-put}
use Rattle.polar_lists.proofs.BothSmall.{hanging-pairs}
use Rattle.polar_lists.proofs.BothSteps.{raised-in_steps, hung-in_steps}
use Rattle.polar_lists.proofs.LegalPlans.{taken}
use Rattle.polar_lists.proofs.hanging.hang.Given.{Over}
use Rattle.polar_lists.proofs.hanging.hang.Goals as goal
use Rattle.polar_lists.proofs.hanging.hang.Goals.{After-join}

pub raised-requires-clause-marks : goal.raised-requires-clause-marks
raised-requires-clause-marks g c = (taken c.args.node c.requires.ours.is c.requires.lists (omega arith) (c.in_ok-below.ensures ∙ c.take.ensures.list)).marks

pub raised-requires-clause-small : goal.raised-requires-clause-small
raised-requires-clause-small g c = (taken c.args.node c.requires.ours.is c.requires.lists (omega arith) (c.in_ok-below.ensures ∙ c.take.ensures.list)).small

pub raised-requires-clause-rising : goal.raised-requires-clause-rising
raised-requires-clause-rising g c = (taken c.args.node c.requires.ours.is c.requires.lists (omega arith) (c.in_ok-below.ensures ∙ c.take.ensures.list)).rising

pub returns-in_err-upper-clause-steps : goal.returns-in_err-upper-clause-steps
returns-in_err-upper-clause-steps g c =
    let sizes = sizes-of c.requires.ours.of c.requires.ours.is in
    raised-in_steps (sites_of c.args.loading.now) c.args.node (length c.args.library.now.kinds) (length c.args.tree.now.nodes) c.args.trail.now c.args.lists.now.items
    c.in_ok-below.below c.requires.lists c.requires.later (c.in_ok-below.ensures ∙ c.take.ensures.list)
    sizes.kinds_are sizes.nodes_are
    c.args.steps.now c.raised.new.steps c.in_err-upper.ensures.steps

pub join-requires-clause-rising : goal.join-requires-clause-rising
join-requires-clause-rising g c = λ inverted.
    subst AreRising (sym (c.in_ok-upper.ensures.upper inverted))
    (hanging-rising (sites_of c.args.loading.now) c.args.node (candidates_by c.args.trail.now c.in_ok-below.below) inverted)

pub join-requires-clause-own_range : goal.join-requires-clause-own_range
join-requires-clause-own_range g c =
    let earlier = c.parent-parent.ensures.earlier c.requires.later in
    let own = own-stays sides_in c.args.lists.now.items c.take.new.lists.items c.args.node c.parent-parent.result (sides_in c.take-own.result) c.take.ensures.taken
    c.take-own.ensures.list earlier in
    (taken c.parent-parent.result c.requires.ours.is c.requires.lists (omega (arith, earlier)) own).range

pub join-requires-clause-range : goal.join-requires-clause-range
join-requires-clause-range g c = λ inverted.
    let below = taken c.args.node c.requires.ours.is c.requires.lists (omega arith) (c.in_ok-below.ensures ∙ c.take.ensures.list) in
    hanging-pairs c.args.loading.now c.args.node inverted c.raised.new.trail (side c.in_ok-upper.upper inverted) (candidates_by c.args.trail.now c.in_ok-below.below)
    c.requires.ours.is below.small (c.in_ok-upper.ensures.upper inverted)

pub join-requires-clause-own_marks : goal.join-requires-clause-own_marks
join-requires-clause-own_marks g c =
    let earlier = c.parent-parent.ensures.earlier c.requires.later in
    let own = own-stays sides_in c.args.lists.now.items c.take.new.lists.items c.args.node c.parent-parent.result (sides_in c.take-own.result) c.take.ensures.taken
    c.take-own.ensures.list earlier in
    both-marks_kept c.args.trail.now c.raised.new.trail (sides_in c.take-own.result) c.in_ok-upper.ensures.kept
    (taken c.parent-parent.result c.requires.ours.is c.requires.lists (omega (arith, earlier)) own).marks

-- the steps of the node, by those of what was joined
joined-in_steps : (g : Over) (c : After-join g) →
    ((most more : ℕ) → AreShort most (sides_in c.take-own.result) → AreShort more c.in_ok-upper.upper → c.join.new.steps ≤ c.raised.new.steps + 4 * (most + more)) →
    c.join.new.steps ≤ c.args.steps.now + 2 * most_steps (length c.args.library.now.kinds) (length c.args.tree.now.nodes)
joined-in_steps g c joined =
    let earlier = c.parent-parent.ensures.earlier c.requires.later in
    let lists = c.args.lists.now.items in
    let sizes = sizes-of c.requires.ours.of c.requires.ours.is in
    hung-in_steps (sites_of c.args.loading.now) c.args.node (length c.args.library.now.kinds) (length c.args.tree.now.nodes) c.args.trail.now lists
    c.in_ok-below.below c.requires.lists c.requires.later (c.in_ok-below.ensures ∙ c.take.ensures.list)
    sizes.kinds_are sizes.nodes_are
    c.parent-parent.result c.args.steps.now c.raised.new.steps c.join.new.steps (sides_in c.take-own.result) c.in_ok-upper.upper earlier
    (own-stays sides_in lists c.take.new.lists.items c.args.node c.parent-parent.result (sides_in c.take-own.result) c.take.ensures.taken c.take-own.ensures.list earlier)
    c.in_ok-upper.ensures.short c.in_ok-upper.ensures.steps joined

pub returns-in_err-joined-clause-steps : goal.returns-in_err-joined-clause-steps
returns-in_err-joined-clause-steps g c = joined-in_steps g (goal.at.returns-in_err-joined-clause-steps g c).After-join c.in_err-joined.ensures.steps

pub returns-clause-lists : goal.returns-clause-lists
returns-clause-lists g c =
    let l = c.args.loading.now in
    let lists = c.args.lists.now.items in
    let earlier = c.parent-parent.ensures.earlier c.requires.later in
    let kinds = (sizes-of c.requires.ours.of c.requires.ours.is).kinds_are in
    both-put (sites_of l) c.args.node c.parent-parent.result c.args.trail.now c.raised.new.trail c.join.new.trail lists c.take.new.lists.items c.take-own.new.lists.items
    c.in_ok-below.below (sides_in c.take-own.result) c.in_ok-upper.upper c.in_ok-joined.joined (rc-tree l c.requires.ours.is) c.requires.later
    (parent-read l c.args.tree.now c.args.node c.parent-parent.result c.requires.ours.of.tree_is c.parent-parent.ensures.parent) c.requires.lists
    c.take.ensures.taken c.take-own.ensures.taken (c.in_ok-below.ensures ∙ c.take.ensures.list)
    (own-stays sides_in lists c.take.new.lists.items c.args.node c.parent-parent.result (sides_in c.take-own.result) c.take.ensures.taken c.take-own.ensures.list earlier)
    (record {
      upper_kept = c.in_ok-upper.ensures.kept;
      kept = c.in_ok-joined.ensures.kept;
      upper_is = c.in_ok-upper.ensures.upper;
      upper_short = λ inverted. omega (arith, kinds, c.in_ok-upper.ensures.short inverted);
      joined_is = c.in_ok-joined.ensures.joined;
      marked = c.in_ok-joined.ensures.marks;
      short = c.in_ok-joined.ensures.short;
    })

pub returns-clause-steps : goal.returns-clause-steps
returns-clause-steps g c = joined-in_steps g (goal.at.returns-clause-steps g c).After-join c.in_ok-joined.ensures.steps
