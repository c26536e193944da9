use Rattle.std.proofs.Common.{◌≡◌, ◌≤◌, ℕ, ◌+◌, ◌*◌, pos, length, get_or, arith}
use Rattle.std.proofs.lemmas.List.{get_or_default}
use Rattle.ginneken_lists.specs.Trails.{trail_of}
use Rattle.ginneken_lists.specs.declared.stored.Stored.{Stored}
use Rattle.ginneken_lists.proofs.TrailLemmas.{length-trail}
use Rattle.ginneken_lists.proofs.OfferLemmas.{offered-none, offered-more}
use Rattle.ginneken_lists.proofs.offering.offer_each.Goals as goal

pub loop-kind-init : goal.loop-kind-init
loop-kind-init g c = record {
  are = offered-none c.args.found.now c.args.node c.args.pairs.now.items c.args.choices.now.items c.requires.choices c.requires.marks;
  list = c.requires.list;
  room = omega (arith, c.requires.room);
  choice_room = omega (arith, c.requires.choice_room);
  short = omega arith;
  steps = omega arith;
}

pub insert-requires-clause-choices : goal.insert-requires-clause-choices
insert-requires-clause-choices g c = c.loop-kind.invariant.are.named

pub insert-requires-clause-marks : goal.insert-requires-clause-marks
insert-requires-clause-marks g c = c.loop-kind.invariant.are.marks

pub insert-requires-clause-mark : goal.insert-requires-clause-mark
insert-requires-clause-mark g c =
    let mark = c.requires.found_marks c.loop-kind.kind (record { time = record { at = pos 0 }; load = 0; mark = 0 }) c.loop-kind-test.true in
    let first = length-trail c.args.choices.now.items in
    let long = length-trail c.loop-kind.choices.items in
    let longer = c.loop-kind.invariant.are.keeps.longer in
    omega arith

pub loop-kind-preserved : goal.loop-kind-preserved
loop-kind-preserved g c =
    let found = c.args.found.now in
    let old = c.args.pairs.now.items in
    let items = c.loop-kind.pairs.items in
    let kind = c.loop-kind.kind in
    let inv = c.loop-kind.invariant in
    let inside = c.loop-kind-test.true in
    let s : Stored = get_or found kind (record { time = record { at = pos 0 }; load = 0; mark = 0 }) in
    let is : s ≡ get_or found kind s = get_or_default found kind (record { time = record { at = pos 0 }; load = 0; mark = 0 }) s inside in
    let first = length-trail c.args.choices.now.items in
    let found_mark = c.requires.found_marks kind (record { time = record { at = pos 0 }; load = 0; mark = 0 }) inside in
    let mark : s.mark ≤ length (trail_of c.args.choices.now.items) = omega arith in
    let short = inv.short in
    let per : ℕ = 2 * (length old + length found) in
    let more : (kind + 1) * per ≡ kind * per + per = omega arith in
    let each : 2 * length items ≤ per = omega arith in
    record {
      are = offered-more found c.args.node (trail_of c.args.choices.now.items) old items c.insert.new.pairs.items c.loop-kind.choices.items c.insert.new.choices.items
          kind s inv.are inside is mark c.insert.ensures.pairs c.insert.ensures.choices c.insert.ensures.kept c.insert.ensures.marks;
      list = c.insert.ensures.list;
      room = omega (arith, c.insert.ensures.len, c.insert.ensures.room, inv.room);
      choice_room = omega (arith, c.insert.ensures.choice_len, c.insert.ensures.choice_room, inv.choice_room);
      short = omega (arith, c.insert.ensures.len, c.insert.new.pairs.ok.0, c.loop-kind.pairs.ok.0);
      steps = omega (arith, more, each, c.insert.ensures.steps, inv.steps);
    }
