-- What comes after a mark in the rounds of several workers, and the end.
use Rattle.std.proofs.Common.{◌≡◌, ◌⊎◌, ℕ, suc, zero, ◌+◌, ◌<◌, ◌≤◌, inl, inr, Bool, true, false, ◌||◌, ◌==◌, List, [], ◌∷◌, ◌++◌, filter, length, take, All, Option, Some, None, is_some, slice_get, IsSome, IsTrue, if◌then◌else◌, refl, sym, ap, subst, ◌∙◌, arith}
use Rattle.std.specs.List.{fold, range_with_len}
use Rattle.std.proofs.lemmas.Bool.{cases_Bool, both_ways}
use Rattle.std.proofs.lemmas.Bool.Decides.{nat_tests}
use Rattle.std.proofs.lemmas.List.{append-nil, length-map, nil_from_length}
use Rattle.std.proofs.lemmas.List.Elements.{All-nil, All-cons, All-weaker, All-filter, filter_passes}
use Rattle.cost_rules.specs.declared.sight.Going.{Going}
use Rattle.cost_rules.specs.declared.sight.Going.TheVariants.{On, Stop}
use Rattle.gr_base.specs.Designs.{DesignView, is_routed}
use Rattle.gr_base.specs.Trees.{TreeView}
use Rattle.gr_base.specs.declared.frame.Net.{Net}
use Rattle.grid_demand.specs.Tables.{CapacityView, capacity_of}
use Rattle.book_front.proofs.Prefixes.{prefix-then}
use Rattle.book_state.proofs.BookingLaws.{victim-booked}
use Rattle.book_state.proofs.ReplicaSteps.{take-entry}
use Rattle.book_state.specs.Books.{nets_of, booked, overflow_after, reply_to, victims, is_victim}
use Rattle.book_state.specs.Cuts.{cut}
use Rattle.book_state.specs.Entries.{AtEach, is_mark, is_mark_call, calls_of}
use Rattle.book_state.specs.Marks.{overflow_in, least_mark}
use Rattle.book_state.specs.declared.entry.Call.{Call}
use Rattle.book_state.specs.declared.entry.Call.TheVariants.{Claim as Claims, Release, Mark}
use Rattle.book_state.specs.declared.entry.Entry.{Entry}
use Rattle.book_state.specs.declared.entry.Reply.{Reply}
use Rattle.run_histories.specs.RunHistories.{Setting, Overflows, IsNumbered, is_due, says, says_at, IsOver, IsRunHistory}
use Rattle.run_histories.specs.Standing.{Stands}
use Rattle.run_histories.proofs.CutSteps.{cut-whole}
use Rattle.run_histories.proofs.RangeCounts.{times-kept}
use Rattle.run_histories.proofs.RoutedTrees.{attempts-stand}
use Rattle.run_histories.proofs.StandLemmas.{victims-routed, mark-stands, least-place, least-call, some-least}
use Rattle.run_histories.proofs.TurnLemmas.{routed-within}
use Rattle.track_book.specs.Passes.{PassView, IsIn, IsClosed}
use Rattle.track_book.proofs.Dealing.{get-there}
use Rattle.ripup_workers.specs.Rounding.{AreOf, IsNext, HasEnded, AreBefore, AreBehind, IsRoundOver, HaveRun, is_stop, is_stop_at, due_after}
use Rattle.work_share.specs.Views.{times}
use Rattle.ripup_workers.proofs.JoiningLists.{filter-all, all-prefix, same-history}
use Rattle.ripup_workers.proofs.JoiningSegments.{mark-call}

-- they are nets of the design
all-below : (from n : ℕ) → All (λ (k : ℕ). k < from + n) (range_with_len from n)
all-below from zero = All-nil (λ (k : ℕ). k < from + 0)
all-below from (suc n) =
    All-cons (λ (k : ℕ). k < from + suc n) from (range_with_len (from + 1) n) (omega arith)
    (All-weaker (λ (k : ℕ). k < from + 1 + n) (λ (k : ℕ). k < from + suc n) (λ k below. omega (arith, below)) (range_with_len (from + 1) n) (all-below (from + 1) n))

pub victims-below : (c : CapacityView) (h : List Entry) → All (λ (net : ℕ). net < nets_of c) (victims c h)
victims-below c h =
    let all = All-weaker (λ (k : ℕ). k < 0 + nets_of c) (λ (k : ℕ). k < nets_of c) (λ k below. omega (arith, below)) (range_with_len 0 (nets_of c)) (all-below 0 (nets_of c)) in
    All-filter (is_victim c h) (λ (net : ℕ). net < nets_of c) (range_with_len 0 (nets_of c)) all

pub victims-of_design : (d : DesignView) (c : CapacityView) (h : List Entry) (nets found : List ℕ) → c ≡ capacity_of d → nets ≡ found → found ≡ victims c h → All (λ (net : ℕ). net < length d.nets) nets
victims-of_design d c h nets found is same found_are =
    let long = length-map d.nets (λ (net : Net). net.width) in
    let count : nets_of c ≡ length (capacity_of d).widths = ap nets_of is in
    subst (All (λ (net : ℕ). net < length d.nets)) (sym (same ∙ found_are))
    (All-weaker (λ (net : ℕ). net < nets_of c) (λ (net : ℕ). net < length d.nets) (λ net below. omega (arith, below, long, count)) (victims c h) (victims-below c h))

pub filter-passed : (test : ℕ → Bool) (xs : List ℕ) → All (λ (x : ℕ). IsTrue (test x)) (filter test xs)
filter-passed test xs = filter_passes test xs

module _ (t : Setting) (round overflow : ℕ) (before : Option ℕ) (found nets : List ℕ) (kept : nets ≡ filter (is_routed t.design) found) where
  all-kept : (h : List Entry) → HasEnded t round overflow before found h → nets ≡ victims (capacity_of t.design) h
  all-kept h ended =
      kept ∙ ap (λ (ns : List ℕ). filter (is_routed t.design) ns) ended.victims_are
      ∙ filter-all (is_routed t.design) (victims (capacity_of t.design) h) (victims-routed t.design h ended.stands)

  before-all : (h : List Entry) → HasEnded t round overflow before found h → (cut h).before ≡ h
  before-all h ended = sym (append-nil (cut h).before) ∙ ap (λ (l : List Entry). (cut h).before ++ l) (sym ended.done.segment) ∙ cut-whole h

  said : (h : List Entry) → HasEnded t round overflow before found h → says t h ≡ says_at t.watch t.goal before (Some overflow)
  said h ended = ap (λ (o : Overflows). says_at t.watch t.goal o.before o.last) ended.overflows_are

  victim-below : (h : List Entry) → HasEnded t round overflow before found h → (net : ℕ) → is_victim (capacity_of t.design) h net ≡ true → net < nets_of (capacity_of t.design)
  victim-below h ended net is = elim (cases_Bool (is_routed t.design net)) [
    | inl on ↦ routed-within t.design (capacity_of t.design) net refl on
    | inr off ↦
        absurd (both_ways (is_some (booked h net)) (ap (λ (o : Option TreeView). is_some o) (ended.stands.free net off))
        (victim-booked (capacity_of t.design) h net is))
  ]

  on-said : (going : Going) → is_stop going ≡ false → going ≡ On
  on-said On is = refl
  on-said Stop is = absurd (both_ways true is refl)

  stop-said : (going : Going) → is_stop going ≡ true → going ≡ Stop
  stop-said On is = absurd (both_ways false refl is)
  stop-said Stop is = refl

  next-from : (h : List Entry) → HasEnded t round overflow before found h → 0 < length nets → is_stop_at t overflow before ≡ false → round + 1 ≤ t.rounds →
      IsNext t (round + 1) nets (Some overflow) h
  next-from h ended some on most = record {
    done = ended.done;
    due = λ net. (
        let next : suc round ≡ round + 1 = omega arith in
        ap (λ (ns : List ℕ). times net ns) (all-kept h ended)
        ∙ times-kept (is_victim (capacity_of t.design) h) (nets_of (capacity_of t.design)) net (victim-below h ended net)
        ∙ ap (λ (r : ℕ). if is_due t.design r h net then 1 else 0) next);
    asked = λ later. (
        let round_is = ended.done.round_is in
        record {
          some = subst (λ (l : List Entry). 0 < length (victims (capacity_of t.design) l)) (sym (before-all h ended))
              (subst (λ (ns : List ℕ). 0 < length ns) (all-kept h ended) some);
          most = omega (arith, round_is, most);
          on = ap (λ (l : List Entry). says t l) (before-all h ended) ∙ said h ended ∙ on-said (says_at t.watch t.goal before (Some overflow)) on;
        });
    overflow_is = ap (λ (o : Overflows). o.last) ended.overflows_are;
  }

  goes-on : (coordinator : PassView) (workers : List PassView) → AreBehind t round overflow before found coordinator workers → 0 < length nets → is_stop_at t overflow before ≡ false →
      round + 1 ≤ t.rounds → AreBefore t (round + 1) nets (Some overflow) coordinator workers
  goes-on coordinator workers behind some on most = record {
    h = behind.h;
    at = behind.at;
    next = λ numbers. next-from behind.h (behind.ended numbers) some on most;
  }

  run-from : (h : List Entry) → HasEnded t round overflow before found h → (nets ≡ []) ⊎ ((is_stop_at t overflow before ≡ true) ⊎ (round ≡ t.rounds)) → IsRunHistory t h
  run-from h ended over =
      let rules = ended.done.rules in
      record {
        attempts = record { legal = rules.legal; given = rules.given; last = ended.last; numbers = rules.numbers; plans = rules.plans; whole = rules.whole; due = rules.due };
        granted = rules.granted;
        asked = rules.asked;
        over = by over;
      }
    where
      by : (nets ≡ []) ⊎ ((is_stop_at t overflow before ≡ true) ⊎ (round ≡ t.rounds)) → IsOver t h
      by (inl none) = inr (inl (sym (all-kept h ended) ∙ none))
      by (inr (inl stop)) = inr (inr (said h ended ∙ stop-said (says_at t.watch t.goal before (Some overflow)) stop))
      by (inr (inr all)) = let round_is = ended.done.round_is in inl (omega (arith, round_is, all))

  stops : (coordinator : PassView) (workers : List PassView) → AreBehind t round overflow before found coordinator workers →
      (nets ≡ []) ⊎ ((is_stop_at t overflow before ≡ true) ⊎ (round ≡ t.rounds)) → HaveRun t coordinator workers
  stops coordinator workers behind over = record { h = behind.h; at = behind.at; run = λ numbers. run-from behind.h (behind.ended numbers) over }

-- how many nets the next round has
after-some : (last stop : Bool) (nets : ℕ) → 0 < (if last || stop then 0 else nets) → (last ≡ false) × (stop ≡ false) × (0 < nets)
after-some true stop nets some = absurd (omega (arith, some))
after-some false true nets some = absurd (omega (arith, some))
after-some false false nets some = (refl, refl, some)

after-none : (last stop : Bool) (nets : ℕ) → (if last || stop then 0 else nets) ≡ 0 → (nets ≡ 0) ⊎ ((stop ≡ true) ⊎ (last ≡ true))
after-none true stop nets none = inr (inr refl)
after-none false true nets none = inr (inl refl)
after-none false false nets none = inl none

-- the same of a round that has been run
module _ (t : Setting) (round overflow : ℕ) (before : Option ℕ) (nets kept : List ℕ) (coordinator new : PassView) (workers after : List PassView)
    (over : IsRoundOver t round overflow nets kept coordinator new workers after) (at : AreBefore t round nets before coordinator workers) where
  pub round-goes_on : (count : ℕ) → count ≡ length kept → 0 < due_after t round overflow before count → round ≤ t.rounds → (round + 1 ≤ t.rounds) × AreBefore t (round + 1) kept (Some overflow) new after
  round-goes_on count count_is some few =
      let on = after-some (round == t.rounds) (is_stop_at t overflow before) count some in
      let any = on.2 in
      let other = on.0 in
      let more : round + 1 ≤ t.rounds = grind (arith, nat_tests) in
      (more, goes-on t round overflow before over.victims kept over.kept_are new after (over.behind before at) (omega (arith, any, count_is)) on.1 more)

  pub round-stops : (count : ℕ) → count ≡ length kept → due_after t round overflow before count ≡ 0 → HaveRun t new after
  round-stops count count_is none =
      stops t round overflow before over.victims kept over.kept_are new after (over.behind before at) (by (after-none (round == t.rounds) (is_stop_at t overflow before) count none))
    where
      by : (count ≡ 0) ⊎ ((is_stop_at t overflow before ≡ true) ⊎ ((round == t.rounds) ≡ true)) → (kept ≡ []) ⊎ ((is_stop_at t overflow before ≡ true) ⊎ (round ≡ t.rounds))
      by (inl empty) = inl (nil_from_length kept (omega (arith, count_is, empty)))
      by (inr (inl stop)) = inr (inl stop)
      by (inr (inr last)) = inr (inr (grind (arith, nat_tests)))

-- once the book is closed, all its entries are the callers', and lie before the last mark
pub run-closed : (t : Setting) (coordinator : PassView) (workers : List PassView) (h : List Entry) → HaveRun t coordinator workers → IsClosed (capacity_of t.design) (coordinator ∷ workers) h →
    IsRunHistory t h
run-closed t coordinator workers h run closed =
    subst (IsRunHistory t) whole (run.run (all-prefix (λ (e : Entry). e.number ≤ t.workers) coordinator.seen h first.begins few))
  where
    first : IsIn h coordinator
    first = closed.passes 0 coordinator refl

    few : AreOf t.workers h
    few = λ i d within. (
        let count = run.at.count in
        let below = closed.numbers i d within in
        omega (arith, count, below))

    same : (number : ℕ) → number ≤ t.workers → calls_of number h ≡ calls_of number run.h
    same zero less =
        ap (λ (n : ℕ). calls_of n h) (sym run.at.number) ∙ sym first.mine ∙ run.at.seen.pass.calls ∙ run.at.seen.own
        ∙ ap (λ (n : ℕ). calls_of n run.h) run.at.number
    same (suc place) less =
        let count = run.at.count in
        let p = get-there workers place (omega (arith, less, count)) in
        let worker = run.at.each place p.0 p.1 in
        let own = closed.passes (suc place) p.0 p.1 in
        let next : place + 1 ≡ suc place = omega arith in
        let number : p.0.number ≡ suc place = worker.number_is ∙ next in
        ap (λ (n : ℕ). calls_of n h) (sym number) ∙ sym own.mine ∙ worker.seen.pass.calls ∙ worker.seen.own
        ∙ ap (λ (n : ℕ). calls_of n run.h) number

    whole : run.h ≡ h
    whole = same-history t.workers run.h h (prefix-then run.h coordinator.seen h run.at.seen.begins first.begins) few same

-- of a run history: all numbers are small, some mark has the least overflow, and there exactly the routed nets are booked
number-few : (workers : ℕ) (call : Call) (number : ℕ) → IsNumbered workers call number → number ≤ workers
number-few workers (Claims claim) number is = is.1
number-few workers (Release net) number is = is.1
number-few workers Mark number is = omega (arith, is)

pub run-numbers : (t : Setting) (h : List Entry) → IsRunHistory t h → AtEach (λ before e. e.number ≤ t.workers) h
run-numbers t h run = λ p e there. number-few t.workers e.call e.number (run.attempts.numbers p e there)

some-mark : (last : Bool) (h : List Entry) → fold (λ (before : Bool) (e : Entry). is_mark e) last h ≡ true →
    (last ≡ true) ⊎ ((place : ℕ) × (e : Entry) × (slice_get h place ≡ Some e) × (is_mark e ≡ true))
some-mark last [] ends = inl ends
some-mark last (e ∷ es) ends = elim (some-mark (is_mark e) es ends) [
  | inl mark ↦ inr (0, e, refl, mark)
  | inr later ↦ inr (suc later.0, later.1, later.2, later.3)
]

pub run-marked : (t : Setting) (h : List Entry) → IsRunHistory t h → IsSome (least_mark h)
run-marked t h run = elim (some-mark false h run.attempts.last) [
  | inl none ↦ absurd (both_ways false refl none)
  | inr there ↦
      let place : ℕ = there.0 in
      let e : Entry = there.1 in
      let call = mark-call e.call there.3 in
      let right = run.attempts.legal.right place e there.2 in
      some-least h place (overflow_after (capacity_of t.design) (take place h)) (record {
        e = e;
        there = there.2;
        mark = ap (λ (reply : Reply). overflow_in reply) (right.reply ∙ ap (λ (k : Call). reply_to (capacity_of t.design) (take place h) k) call);
      })
]

pub run-stands : (t : Setting) (h : List Entry) (front : ℕ) → IsRunHistory t h → least_mark h ≡ Some front → Stands t.design (take front h)
run-stands t h front run is =
    let at = least-place h front is in
    let place : ℕ = at.0 in
    let e : Entry = at.1 in
    let call = least-call (capacity_of t.design) h (take place h) e (run.attempts.legal.right place e at.3) at.4 in
    let stands = attempts-stand t h run.attempts place e at.3 (ap is_mark_call call) in
    subst (λ (k : List Entry). Stands t.design k) (sym (ap (λ (n : ℕ). take n h) at.2 ∙ take-entry h place e at.3))
    (mark-stands t.design (take place h) e call stands)
