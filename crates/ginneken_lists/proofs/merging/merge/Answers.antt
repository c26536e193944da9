use Rattle.std.proofs.Common.{List, length, sym, ap, subst, ◌∙◌, arith}
use Rattle.std.proofs.lemmas.Bool.{not-true, not-false}
use Rattle.std.proofs.lemmas.List.{length-map}
use Rattle.ginneken_lists.specs.Candidates.{no_later}
use Rattle.ginneken_lists.specs.StoredPairs.{pair_of}
use Rattle.ginneken_lists.specs.Trails.{trail_of}
use Rattle.ginneken_lists.specs.declared.stored.Stored.{Stored}
use Rattle.ginneken_lists.proofs.StoredLemmas.{sight, all_of}
use Rattle.ginneken_lists.proofs.MergeLemmas.{AreGoing, are-read, read-mark, going-none, goes-first, goes-second, goes-both, merged-all_left, merged-all_right, merged-joins}
use Rattle.ginneken_lists.proofs.merging.merge.Goals as goal

pub loop-before-init : goal.loop-before-init
loop-before-init g c =
    let trail = trail_of c.args.choices.now.items in
    let none = ap (λ (xs : List Stored). length xs) c.requires.none in
    record {
      going = subst (λ (xs : List Stored). AreGoing trail trail c.args.left.now c.args.right.now xs 0 0 c.args.steps.now c.args.steps.now) (sym c.requires.none)
          (going-none trail c.args.left.now c.args.right.now c.args.steps.now c.requires.left c.requires.right);
      choices = c.requires.choices;
      room = omega (arith, c.requires.room, none, c.args.merged.now.ok.0);
      choice_room = omega (arith, c.requires.choice_room);
    }

pub push_both-mark-requires-clause-room : goal.push_both-mark-requires-clause-room
push_both-mark-requires-clause-room g c =
    let going = c.loop-before.invariant.going in
    omega (arith, c.loop-before.invariant.choice_room, c.loop-before-test.true, c.if-beside-right.false, going.inside)

pub push_both-mark-requires-clause-left : goal.push_both-mark-requires-clause-left
push_both-mark-requires-clause-left g c =
    let longer = c.loop-before.invariant.going.are.keeps.longer in
    let mark = read-mark (length (trail_of c.args.choices.now.items)) c.args.left.now c.loop-before.before c.read-first.result c.requires.left_marks
    c.loop-before-test.true c.read-first.ensures.pair in
    omega (arith, longer, mark)

pub push_both-mark-requires-clause-right : goal.push_both-mark-requires-clause-right
push_both-mark-requires-clause-right g c =
    let going = c.loop-before.invariant.going in
    let longer = going.are.keeps.longer in
    let mark = read-mark (length (trail_of c.args.choices.now.items)) c.args.right.now c.loop-before.beside c.read-second.result c.requires.right_marks
    (omega (arith, c.if-beside-right.false, going.inside)) c.read-second.ensures.pair in
    omega (arith, longer, mark)

pub push_reserved-requires : goal.push_reserved-requires
push_reserved-requires g c =
    let going = c.loop-before.invariant.going in
    omega (arith, c.loop-before.invariant.room, c.loop-before-test.true, c.if-beside-right.false, going.inside)

pub loop-before-preserved-then-is_later : goal.loop-before-preserved-then-is_later
loop-before-preserved-then-is_later g c =
    let now = c.loop-before in
    record {
      going = goes-second (trail_of c.args.choices.now.items) (trail_of now.choices.items) (trail_of c.push_both-mark.new.choices.items) c.args.left.now c.args.right.now now.merged.items
          c.push_reserved.new.self.items now.before now.beside c.args.steps.now c.read-first.result c.read-second.result c.joined.result c.push_both-mark.result now.steps
          c.read-second.new.steps now.invariant.going
          (are-read c.loop-before-test.true c.if-beside-right.false c.read-first.ensures.pair c.read-second.ensures.pair c.requires.left_marks c.requires.right_marks
          c.push_both-mark.ensures.kept c.push_both-mark.ensures.both c.push_both-mark.ensures.mark c.joined.ensures.seen c.joined.ensures.mark c.read-first.ensures.steps c.read-second.ensures.steps)
          c.push_reserved.ensures.items (not-true (no_later (sight c.read-first.result).time (sight c.read-second.result).time) (sym c.is_later.ensures ∙ c.if-is_later.true));
      choices = c.push_both-mark.ensures.choices;
      room = omega (arith, now.invariant.room, c.push_reserved.ensures.len, c.push_reserved.ensures.capacity);
      choice_room = omega (arith, now.invariant.choice_room, c.push_both-mark.ensures.len, c.push_both-mark.ensures.capacity);
    }

pub loop-before-preserved-then-is_later-2 : goal.loop-before-preserved-then-is_later-2
loop-before-preserved-then-is_later-2 g c =
    let now = c.loop-before in
    record {
      going = goes-first (trail_of c.args.choices.now.items) (trail_of now.choices.items) (trail_of c.push_both-mark.new.choices.items) c.args.left.now c.args.right.now now.merged.items
          c.push_reserved.new.self.items now.before now.beside c.args.steps.now c.read-first.result c.read-second.result c.joined.result c.push_both-mark.result now.steps
          c.read-second.new.steps now.invariant.going
          (are-read c.loop-before-test.true c.if-beside-right.false c.read-first.ensures.pair c.read-second.ensures.pair c.requires.left_marks c.requires.right_marks
          c.push_both-mark.ensures.kept c.push_both-mark.ensures.both c.push_both-mark.ensures.mark c.joined.ensures.seen c.joined.ensures.mark c.read-first.ensures.steps c.read-second.ensures.steps)
          c.push_reserved.ensures.items (not-false (no_later (sight c.read-first.result).time (sight c.read-second.result).time) (sym c.is_later.ensures ∙ c.if-is_later.false))
          (not-true (no_later (sight c.read-second.result).time (sight c.read-first.result).time) (sym c.is_later-in-loop-before.ensures ∙ c.if-is_later-2.true));
      choices = c.push_both-mark.ensures.choices;
      room = omega (arith, now.invariant.room, c.push_reserved.ensures.len, c.push_reserved.ensures.capacity);
      choice_room = omega (arith, now.invariant.choice_room, c.push_both-mark.ensures.len, c.push_both-mark.ensures.capacity);
    }

pub loop-before-preserved : goal.loop-before-preserved
loop-before-preserved g c =
    let now = c.loop-before in
    record {
      going = goes-both (trail_of c.args.choices.now.items) (trail_of now.choices.items) (trail_of c.push_both-mark.new.choices.items) c.args.left.now c.args.right.now now.merged.items
          c.push_reserved.new.self.items now.before now.beside c.args.steps.now c.read-first.result c.read-second.result c.joined.result c.push_both-mark.result now.steps
          c.read-second.new.steps now.invariant.going
          (are-read c.loop-before-test.true c.if-beside-right.false c.read-first.ensures.pair c.read-second.ensures.pair c.requires.left_marks c.requires.right_marks
          c.push_both-mark.ensures.kept c.push_both-mark.ensures.both c.push_both-mark.ensures.mark c.joined.ensures.seen c.joined.ensures.mark c.read-first.ensures.steps c.read-second.ensures.steps)
          c.push_reserved.ensures.items (not-false (no_later (sight c.read-first.result).time (sight c.read-second.result).time) (sym c.is_later.ensures ∙ c.if-is_later.false))
          (not-false (no_later (sight c.read-second.result).time (sight c.read-first.result).time) (sym c.is_later-in-loop-before.ensures ∙ c.if-is_later-2.false));
      choices = c.push_both-mark.ensures.choices;
      room = omega (arith, now.invariant.room, c.push_reserved.ensures.len, c.push_reserved.ensures.capacity);
      choice_room = omega (arith, now.invariant.choice_room, c.push_both-mark.ensures.len, c.push_both-mark.ensures.capacity);
    }

pub returns-then-beside-right : goal.returns-then-beside-right
returns-then-beside-right g c =
    let going = c.loop-before.invariant.going in
    let trail = trail_of c.args.choices.now.items in
    let now = trail_of c.loop-before.choices.items in
    let end = c.if-beside-right.true in
    let some = c.requires.right.some in
    let long = length-map c.args.right.now pair_of in
    let within = going.within in
    let many = going.many in
    let count = going.count in
    record {
      joined = merged-joins trail c.args.left.now c.args.right.now (all_of now c.loop-before.merged.items) c.requires.left c.requires.right
          (merged-all_right trail now c.args.left.now c.args.right.now c.loop-before.merged.items c.loop-before.before c.loop-before.beside going.are (omega arith));
      choices = c.loop-before.invariant.choices;
      kept = going.are.keeps;
      marks = going.are.marks;
      some = omega arith;
      short = going.fewer;
      steps = omega arith;
    }

pub returns : goal.returns
returns g c =
    let going = c.loop-before.invariant.going in
    let trail = trail_of c.args.choices.now.items in
    let now = trail_of c.loop-before.choices.items in
    let end = c.loop-before-test.false in
    let some = c.requires.left.some in
    let long = length-map c.args.left.now pair_of in
    let within = going.within in
    let inside = going.inside in
    let many = going.many in
    let count = going.count in
    record {
      joined = merged-joins trail c.args.left.now c.args.right.now (all_of now c.loop-before.merged.items) c.requires.left c.requires.right
          (merged-all_left trail now c.args.left.now c.args.right.now c.loop-before.merged.items c.loop-before.before c.loop-before.beside going.are end);
      choices = c.loop-before.invariant.choices;
      kept = going.are.keeps;
      marks = going.are.marks;
      some = omega arith;
      short = going.fewer;
      steps = omega arith;
    }
