use Rattle.std.proofs.Common.{◌≡◌, ℕ, ◌+◌, ◌<◌, ◌≤◌, List, length, get_or, set, refl, sym, ap, subst, ◌∙◌, arith}
use Rattle.std.proofs.lemmas.List.{get_or-set_same}
use Rattle.std.proofs.lemmas.List.Edits.{map_over_more}
use Rattle.std.proofs.lemmas.Grind.{common_steps}
use Rattle.steiner_topology.specs.declared.point.Waiting.{Waiting}
use Rattle.steiner_topology.specs.Waits.{nearer, span_at, IsFirst}
use Rattle.steiner_topology.proofs.WaitLemmas.{first-none, first-less, first-stays, same-span, span-set, nearer-shrinks, length-part}
use Rattle.steiner_topology.proofs.prim.offer.Goals as goal
use Rattle.steiner_topology.proofs.prim.offer.Goals.{then-span-least, else-span-least}

-- the distance of the point that was read
read : (points : List Waiting) (place : ℕ) (w x : Waiting) → x ≡ get_or (set points place w) place x → place < length points → x.span ≡ w.span
read points place w x is below = ap (λ (y : Waiting). y.span) (is ∙ get_or-set_same points place w x below)

pub loop-place-init : goal.loop-place-init
loop-place-init c =
    let size = c.args.waiting.now.ok.0 in
    let some = c.requires in
    record {
      points = refl;
      low = omega arith;
      first = first-none c.args.waiting.now.items;
      least = same-span c.args.waiting.now.items 0 c.index.result.now c.index.ensures (omega arith);
    }

pub loop-place-preserved : goal.loop-place-preserved
loop-place-preserved c =
    let points = c.loop-place.waiting.items in
    let place = c.loop-place.place in
    let first = c.loop-place.first in
    let w = c.bring_nearer.new.point in
    let f = nearer c.args.tile c.args.parent in
    let here = c.loop-place-test.true in
    let count = c.len-place-end.ensures in
    let old = c.args.waiting.now.ok.0 in
    let so_far = c.loop-place.invariant.first in
    let low = c.loop-place.invariant.low in
    let least = c.loop-place.invariant.least in
    let same =
    ap length c.loop-place.invariant.points ∙ length-part f c.args.waiting.now.items place (omega arith) in
    let below : place < length points = omega arith in
    let own = read points place w c.index-in-loop-place.result.now c.index-in-loop-place.ensures below in
    let was = same-span points place c.index_mut.result.now c.index_mut.ensures.value below in
    let made = ap (λ (x : Waiting). x.span) c.bring_nearer.ensures in
    let shrinks = nearer-shrinks c.args.tile c.args.parent c.index_mut.result.now in
    let First : ℕ → ℕ → Type 0 = λ v n. (v ≤ place + 1) × IsFirst (set points place w) (place + 1) v × (n ≡ span_at (set points place w) v) in
    let found : First c.if-span-least.first c.if-span-least.least = elim c.if-span-least.branch [
      | then-span-least b ↦
          let test = b.if-span-least.true in
          subst (λ (v : ℕ). First v c.if-span-least.least) (sym b.first-is)
          (subst (First place) (sym b.least-is)
          (omega arith, first-less points place first w so_far below (omega arith), own ∙ sym (span-set points place w below)))
      | else-span-least b ↦
          let test = b.if-span-least.false in
          let stays = first-stays points place first w so_far low below (omega arith) (omega arith) in
          subst (λ (v : ℕ). First v c.if-span-least.least) (sym b.first-is)
          (subst (First first) (sym b.least-is) (omega arith, stays.0, least ∙ stays.1))
    ] in
    record {
      points = ap (set points place) c.bring_nearer.ensures ∙
          map_over_more f c.args.waiting.now.items points place c.index_mut.result.now (omega arith)
          c.loop-place.invariant.points c.index_mut.ensures.value;
      low = found.0;
      first = found.1;
      least = found.2;
    }

pub returns : goal.returns
returns c =
    let done = c.loop-place-test.false in
    let here = c.loop-place.auto.place-end in
    let count = c.len-place-end.ensures in
    let old = c.args.waiting.now.ok.0 in
    let new = c.loop-place.waiting.ok.0 in
    let same =
    ap length c.loop-place.invariant.points ∙ length-part (nearer c.args.tile c.args.parent) c.args.waiting.now.items c.loop-place.place (omega arith) in
    let last : c.loop-place.place ≡ c.loop-place.waiting.len = omega arith in
    record {
      waiting = c.loop-place.invariant.points ∙ grind (arith, common_steps);
      first = subst (λ (n : ℕ). IsFirst c.loop-place.waiting.items n c.loop-place.first) last c.loop-place.invariant.first;
    }
