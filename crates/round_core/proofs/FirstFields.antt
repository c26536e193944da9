-- The fields of the machine before any step.
use Rattle.std.proofs.Common.{◌≡◌, ℕ, ◌≤◌, Bool, false, List, [], filter, length, replicate, Option, None, refl, sym, ap, subst, ◌∙◌, arith}
use Rattle.std.proofs.lemmas.List.{length-replicate}
use Rattle.std.proofs.lemmas.List.Sums.{length-filter, count_by-le-length}
use Rattle.std.proofs.lemmas.List.FromFn.{length-range_with_len}
use Rattle.std.specs.List.{range_with_len}
use Rattle.gr_base.specs.Designs.{is_routed}
use Rattle.gr_base.specs.Limits.{most_nets, most_rounds, most_workers}
use Rattle.grid_demand.specs.Tables.{capacity_of}
use Rattle.book_state.specs.Views.{BookView}
use Rattle.book_state.specs.declared.entry.Entry.{Entry}
use Rattle.run_histories.specs.RunHistories.{Setting, asked_for, overflows_of}
use Rattle.round_core.specs.WorldRules.{IsWorld}
use Rattle.round_core.specs.Worlds.{at_first, WorldView}
use Rattle.round_core.specs.WorldStore.{setting_of, seen, Keeps}
use Rattle.round_core.specs.declared.steps.Phase.{Phase}
use Rattle.round_core.specs.declared.steps.Phase.TheVariants.{Idle}
use Rattle.round_core.specs.declared.world.World.TheInside.{Inside}
use Rattle.round_core.proofs.WorldEnds.{first-world}
use Rattle.run_histories.specs.RunHistories.{routed_nets}

-- the fields at first
abbrev made_view : Setting → List Entry → List ℕ → List Phase → List ℕ → WorldView
made_view t history left phases since = record {
  setting = t;
  history = history;
  round = 0;
  over = false;
  left = left;
  phases = phases;
  since = since;
}

abbrev at_round : Inside → ℕ → Bool → WorldView
at_round w round over = record {
  setting = setting_of w;
  history = w.book.history;
  round = round;
  over = over;
  left = w.left.items;
  phases = w.phases.items;
  since = w.since.items;
}

pub record IsMadeFrom (w : Inside) (workers : ℕ) : Type 0 where
  pub book_is : w.book ≡ record { capacity = capacity_of w.design.now; history = [] }
  pub overflow_is : w.overflow ≡ None
  pub round_is : w.round ≡ 0
  pub over_is : w.over ≡ false
  pub left_is : w.left.items ≡ routed_nets w.design.now
  pub phases_are : w.phases.items ≡ replicate workers Idle
  pub since_are : w.since.items ≡ replicate workers 0
  pub few : workers ≤ most_workers
  pub rounds : w.rounds ≤ most_rounds
  pub nets : length w.design.now.nets ≤ most_nets

pub made-view : (w : Inside) (workers : ℕ) → IsMadeFrom w workers → seen w ≡ at_first (asked_for w.design.now [] w.formula workers w.rounds w.watch w.goal)
made-view w workers made =
    let asked : ℕ → Setting = λ n. asked_for w.design.now [] w.formula n w.rounds w.watch w.goal in
    let count : length w.phases.items ≡ workers = ap (λ (ps : List Phase). length ps) made.phases_are ∙ length-replicate workers Idle in
    ap (λ (r : ℕ). at_round w r w.over) made.round_is ∙ ap (λ (b : Bool). at_round w 0 b) made.over_is
    ∙ ap (λ (n : ℕ). made_view (asked n) w.book.history w.left.items w.phases.items w.since.items) count
    ∙ ap (λ (h : List Entry). made_view (asked workers) h w.left.items w.phases.items w.since.items) (ap (λ (b : BookView). b.history) made.book_is)
    ∙ ap (λ (nets : List ℕ). made_view (asked workers) [] nets w.phases.items w.since.items) made.left_is
    ∙ ap (λ (ps : List Phase). made_view (asked workers) [] (routed_nets w.design.now) ps w.since.items) made.phases_are
    ∙ ap (λ (ns : List ℕ). made_view (asked workers) [] (routed_nets w.design.now) (replicate workers Idle) ns) made.since_are

no-overflow : (o : Option ℕ) (h : List Entry) → o ≡ None → h ≡ [] → o ≡ (overflows_of h).last
no-overflow o h none empty = none ∙ sym (ap (λ (k : List Entry). (overflows_of k).last) empty)

pub made-keeps : (w : Inside) (workers : ℕ) → IsMadeFrom w workers → Keeps w
made-keeps w workers made =
    let count : length w.phases.items ≡ workers = ap (λ (ps : List Phase). length ps) made.phases_are ∙ length-replicate workers Idle in
    let since : length w.since.items ≡ workers = ap (λ (ns : List ℕ). length ns) made.since_are ∙ length-replicate workers 0 in
    let kept = length-filter (is_routed w.design.now) (range_with_len 0 (length w.design.now.nets)) in
    let fewer = count_by-le-length (is_routed w.design.now) (range_with_len 0 (length w.design.now.nets)) in
    let range = length-range_with_len 0 (length w.design.now.nets) in
    let left : length w.left.items ≡ length (filter (is_routed w.design.now) (range_with_len 0 (length w.design.now.nets))) = ap (λ (ns : List ℕ). length ns) made.left_is in
    let few = made.few in
    let nets = made.nets in
    let first = made.round_is in
    record {
      world = subst IsWorld (sym (made-view w workers made)) (first-world (asked_for w.design.now [] w.formula workers w.rounds w.watch w.goal) refl);
      capacity = ap (λ (b : BookView). b.capacity) made.book_is;
      overflow = no-overflow w.overflow w.book.history made.overflow_is (ap (λ (b : BookView). b.history) made.book_is);
      workers = omega (arith, count, few);
      since = since ∙ sym count;
      left = omega (arith, kept, fewer, range, left, nets);
      round = omega (arith, first);
      rounds = made.rounds;
      nets = made.nets;
    }
