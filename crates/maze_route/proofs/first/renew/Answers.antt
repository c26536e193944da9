use Rattle.std.proofs.Common.{ℕ, ◌≤◌, ◌+◌, ◌-◌, ◌%◌, List, Option, Some, sym, subst, arith}
use Rattle.std.specs.List.{filter_map}
use Rattle.maze_route.specs.Buckets.{pair_in, Keeps, IsLeastKey}
use Rattle.maze_route.specs.Spreading.{IsSpreading}
use Rattle.maze_route.specs.declared.slot.Slot.{Slot}
use Rattle.maze_route.proofs.RenewLemmas.{near-number, renew-near, renew-start, renew-whole}
use Rattle.maze_route.proofs.first.renew.Goals as goal

pub returns-then-bucket-clause-renewed : goal.returns-then-bucket-clause-renewed
returns-then-bucket-clause-renewed c = λ free keeps.
    let next = near-number c.args.last c.args.bucket c.if-bucket.true in
    renew-near c.args.slots.now.items c.args.heads.now free c.args.last c.args.bucket (c.args.last - c.args.last % 1024 + c.args.bucket) keeps c.requires.full c.if-bucket.true next.0 next.1

pub spread-requires : goal.spread-requires
spread-requires c =
    let items = c.args.slots.now.items in
    let K : List Slot → Type 0 = λ xs. IsLeastKey xs c.args.first c.least_key-least.result in
    let key = subst K c.deref.ensures.value c.least_key-least.ensures in
    let far : 1024 ≤ c.args.bucket = omega (arith, c.if-bucket.false) in
    let S : List (Option ℕ) → Type 0 = λ hs. IsSpreading items hs c.requires.free (Some c.args.first) c.least_key-least.result c.args.bucket (filter_map pair_in items) in
    record {
      free = c.requires.free;
      bucket = c.args.bucket;
      pairs = filter_map pair_in items;
      spreading = subst S (sym c.set.ensures) (renew-start items c.args.heads.now c.requires.free c.args.last c.args.bucket c.args.first c.least_key-least.result c.requires.keeps c.requires.full far c.requires.head key);
    }

pub returns : goal.returns
returns c =
    let items = c.args.slots.now.items in
    let K : List Slot → Type 0 = λ xs. IsLeastKey xs c.args.first c.least_key-least.result in
    let key = subst K c.deref.ensures.value c.least_key-least.ensures in
    let far : 1024 ≤ c.args.bucket = omega (arith, c.if-bucket.false) in
    let start = λ (free : Option ℕ) (keeps : Keeps items c.args.heads.now free c.args.last).
    let S : List (Option ℕ) → Type 0 = λ hs. IsSpreading items hs free (Some c.args.first) c.least_key-least.result c.args.bucket (filter_map pair_in items) in
    c.spread.ensures free c.args.bucket (filter_map pair_in items)
    (subst S (sym c.set.ensures) (renew-start items c.args.heads.now free c.args.last c.args.bucket c.args.first c.least_key-least.result keeps c.requires.full far c.requires.head key)) in
    record {
      renewed = λ free keeps.
          renew-whole items c.spread.new.slots.items c.args.heads.now c.spread.new.heads free c.args.last c.args.bucket c.args.first c.least_key-least.result keeps c.requires.full c.requires.head key (start free keeps);
      pairs = (start c.requires.free c.requires.keeps).same_pairs;
    }
