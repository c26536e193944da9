-- The begin of the rounds of several workers: the claims of given trees.
use Rattle.std.proofs.Common.{◌≡◌, ℕ, suc, zero, ◌+◌, ◌<◌, ◌≤◌, Bool, true, ◌==◌, List, [], length, get_or, All, Option, Some, None, slice_get, if◌then◌else◌, IsTrue, refl, sym, ap, subst, ◌∙◌, arith}
use Rattle.std.specs.List.{range_with_len}
use Rattle.std.proofs.lemmas.Bool.{both_ways, and_parts}
use Rattle.std.proofs.lemmas.Bool.Decides.{nat_tests}
use Rattle.std.proofs.lemmas.List.Elements.{All-weaker, filter_passes}
use Rattle.std.proofs.lemmas.Option.{none-some, slice_get_within}
use mathlib.Core.List.{IsPrefix}
use Rattle.gr_base.proofs.DesignLemmas.{routed-below}
use Rattle.gr_base.specs.Designs.{DesignView, is_routed}
use Rattle.gr_base.specs.Trees.{TreeView}
use Rattle.grid_demand.specs.Tables.{CapacityView, capacity_of}
use Rattle.book_front.proofs.Prefixes.{prefix-none, prefix-length}
use Rattle.book_state.specs.Books.{IsLegal}
use Rattle.book_state.specs.Cuts.{Cut, AtMarks}
use Rattle.book_state.specs.Entries.{AtEach, is_mark, calls_of}
use Rattle.book_state.specs.declared.entry.Call.{Call}
use Rattle.book_state.specs.declared.entry.Call.TheVariants.{Claim as Claims}
use Rattle.book_state.specs.declared.entry.Claim.{Claim}
use Rattle.book_state.specs.declared.entry.Entry.{Entry}
use Rattle.run_histories.specs.GivenRoutes.{is_open, open_nets}
use Rattle.run_histories.specs.RunHistories.{Setting, Overflows, claims_given, is_due, IsNumbered, IsPlanned, IsAsked, AreWhole, AreOfDue, KeepsRules}
use Rattle.run_histories.proofs.GivenLemmas.{IsOfGiven, given-no_mark, each-all, among-all, among-cut, among-overflows, open-due, begins-given}
use Rattle.run_histories.proofs.JoiningLaw.{given-granted}
use Rattle.run_histories.proofs.RangeCounts.{times-kept}
use Rattle.track_book.specs.Passes.{PassView, IsNew}
use Rattle.track_book.proofs.Dealing.{get-there}
use Rattle.work_share.specs.Views.{times}
use Rattle.ripup_workers.specs.Closing.{AreNew}
use Rattle.ripup_workers.specs.Giving.{HasGiven}
use Rattle.ripup_workers.specs.Meetings.{Learns, HasMet, HaveMetBehind}
use Rattle.ripup_workers.specs.Rounding.{AreOf, HasSeen, IsWorkerAt, AreAt, IsNext, AreBefore}
use Rattle.ripup_workers.specs.Working.{AreOwnPlanned, ArePlanned}
use Rattle.ripup_workers.proofs.JoiningLists.{filter-all, all-prefix, squeeze}
use Rattle.ripup_workers.proofs.JoiningPasses.{learns-own, calls-apart, own-learns}

-- a round of the open nets comes after the claims of the given trees
module _ (t : Setting) (some : 0 < t.workers) (legal : IsLegal (capacity_of t.design) (claims_given t))
    (plans : AtEach (λ before e. (claim : Claim) → e.call ≡ Claims claim → IsPlanned t before e.number claim) (claims_given t)) where
  each-given : AtEach (λ before e. IsOfGiven e) (claims_given t)
  each-given = each-all IsOfGiven (claims_given t) (among-all t.design t.given (length t.design.nets))

  given-numbered : (e : Entry) → IsOfGiven e → IsNumbered t.workers e.call e.number
  given-numbered e of =
      subst (λ (call : Call). IsNumbered t.workers call e.number) (sym of.call_is)
      (let number = of.number_is in (omega (arith, number), omega (arith, number, some)))

  given-marks : (P : Cut → Type 0) → AtMarks P (claims_given t)
  given-marks P p e there mark = absurd (both_ways (is_mark e) (given-no_mark e (each-given p e there)) mark)

  given-rules : KeepsRules t (claims_given t)
  given-rules = record {
    legal = legal;
    given = begins-given t;
    numbers = λ p e there. given-numbered e (each-given p e there);
    plans = plans;
    granted = λ p e there. (let of = each-given p e there in given-granted e.call of.claim e.reply of.call_is of.reply_is);
    whole = given-marks AreWhole;
    due = given-marks (AreOfDue t.design);
    asked = given-marks (λ s. 0 < s.round → IsAsked t s);
  }

  open-times : (net : ℕ) → times net (open_nets t.design t.given) ≡ (if is_due t.design 0 (claims_given t) net then 1 else 0)
  open-times net =
      times-kept (is_open t.design t.given) (length t.design.nets) net (λ is. routed-below t.design net (and_parts (is_routed t.design net) _ is).0)
      ∙ ap (λ (b : Bool). if b then 1 else 0) (sym (open-due t.design t.given net))

  pub given-next : IsNext t 0 (open_nets t.design t.given) None (claims_given t)
  given-next = record {
    done = record {
      rules = given-rules;
      round_is = ap (λ (s : Cut). s.round) (among-cut t.design t.given (length t.design.nets));
      segment = ap (λ (s : Cut). s.segment) (among-cut t.design t.given (length t.design.nets));
    };
    due = open-times;
    asked = λ later. absurd (omega (arith, later));
    overflow_is = ap (λ (o : Overflows). o.last) (among-overflows t.design t.given (length t.design.nets));
  }

-- a pass that has seen nothing, and one that has learnt more since, has no entries in what it has seen
new-none : (number : ℕ) (p : PassView) → IsNew number p → calls_of p.number p.seen ≡ []
new-none number p new = ap (λ (l : List Entry). calls_of p.number l) new.seen

learnt-none : (c : CapacityView) (number : ℕ) (p q : PassView) → IsNew number p → Learns c p q → calls_of q.number q.seen ≡ []
learnt-none c number p q new learns = learns-own c p q learns ∙ new-none number p new

new-planned : (t : Setting) (number : ℕ) (p : PassView) → IsNew number p → AreOwnPlanned t p
new-planned t number p new = λ at e there. absurd (none-some e (sym (ap (λ (l : List Entry). slice_get l at) new.seen) ∙ there))

-- the first worker has claimed the given trees, and then the coordinator has met it, and all workers
module _ (t : Setting) (coordinator after : PassView) (workers old new : List PassView) (first : PassView) (begun : AreNew t coordinator workers) (some : 0 < length workers)
    (given : HasGiven t (length t.design.nets) first) (count : length old ≡ length workers) (first_there : slice_get old 0 ≡ Some first)
    (others : (at : ℕ) → (at ≡ 0 → ⊥) → slice_get old at ≡ slice_get workers at)
    (m : HaveMetBehind (capacity_of t.design) coordinator after old new) where
  abbrev c_here : CapacityView
  c_here = capacity_of t.design

  -- what the coordinator had seen before it met all
  abbrev seen : List Entry
  seen = m.met.seen

  met-number : m.met.number ≡ 0
  met-number = m.learns.learnt.number ∙ begun.first.number_is

  met-none : calls_of 0 seen ≡ []
  met-none = ap (λ (n : ℕ). calls_of n seen) (sym met-number) ∙ learnt-none c_here 0 coordinator m.met begun.first m.learns

  seen-begins : IsPrefix seen after.seen
  seen-begins = m.all.learns.learnt.begins

  coordinator-seen : HasSeen c_here seen after
  coordinator-seen = record {
    pass = m.all.learns.knows;
    begins = seen-begins;
    own = learns-own c_here m.met after m.all.learns ∙ ap (λ (n : ℕ). calls_of n seen) (sym m.all.learns.learnt.number);
  }

  -- the first worker as the coordinator met it
  record IsFirst (q : PassView) : Type 0 where
    there : slice_get m.between 0 ≡ Some q
    learns : Learns c_here first q
    same : seen ≡ q.seen

  first-met : (q : PassView) × IsFirst q
  first-met =
      let long = m.count in
      let q = get-there m.between 0 (omega (arith, long, count, some)) in
      let both = m.first first q.0 first_there q.1 in
      (q.0, record { there = q.1; learns = both.0; same = both.1 })

  abbrev one : PassView
  one = first-met.0

  one-number : one.number ≡ 1
  one-number = first-met.1.learns.learnt.number ∙ given.number

  one-calls : calls_of 1 seen ≡ calls_of 1 first.seen
  one-calls =
      ap (λ (l : List Entry). calls_of 1 l) first-met.1.same ∙ ap (λ (n : ℕ). calls_of n one.seen) (sym one-number)
      ∙ learns-own c_here first one first-met.1.learns ∙ ap (λ (n : ℕ). calls_of n first.seen) given.number

  first-begins : IsPrefix first.seen seen
  first-begins = subst (λ (l : List Entry). IsPrefix first.seen l) (sym first-met.1.same) first-met.1.learns.learnt.begins

  own-planned : AreOwnPlanned t one
  own-planned = own-learns t c_here first one first-met.1.learns given.planned

  long-enough : length (claims_given t) ≤ length seen
  long-enough =
      let most = given.count in
      let more = prefix-length first.seen seen first-begins in
      omega (arith, most, more)

  -- a worker behind the first has no entries
  other-met : (place : ℕ) (q : PassView) → 0 < place → slice_get m.between place ≡ Some q → IsNew (place + 1) q
  other-met place q behind there =
      begun.each place q (sym (others place (λ is. absurd (omega (arith, is, behind)))) ∙ sym (m.others place behind) ∙ there)

  other-none : (place : ℕ) (q p : PassView) → 0 < place → slice_get m.between place ≡ Some q → slice_get new place ≡ Some p → calls_of (place + 1) seen ≡ []
  other-none place q p behind there last =
      let fresh = other-met place q behind there in
      let met = m.all.each place q p there last in
      let number : p.number ≡ place + 1 = met.learns.learnt.number ∙ fresh.number_is in
      squeeze (place + 1) [] seen p.seen (prefix-none seen) met.from
      (ap (λ (n : ℕ). calls_of n p.seen) (sym number) ∙ learnt-none c_here (place + 1) q p fresh met.learns)

  -- where each worker stands
  planned-so : (q p : PassView) → AreOwnPlanned t q → HasMet c_here m.met after q p → ArePlanned t p
  planned-so q p own met = record {
    behind =
        let most = long-enough in
        let more = prefix-length seen p.seen met.from in
        omega (arith, most, more);
    own = own-learns t c_here q p met.learns own;
  }

  worker-first : (p : PassView) → slice_get new 0 ≡ Some p → IsWorkerAt t seen 1 p
  worker-first p last =
      let met = m.all.each 0 one p first-met.1.there last in
      let number : p.number ≡ 1 = met.learns.learnt.number ∙ one-number in
      record {
        number_is = number;
        seen = record {
          pass = met.learns.knows;
          begins = met.from;
          own = learns-own c_here one p met.learns ∙ ap (λ (l : List Entry). calls_of one.number l) (sym first-met.1.same)
              ∙ ap (λ (n : ℕ). calls_of n seen) (sym met.learns.learnt.number);
        };
        planned = planned-so one p own-planned met;
      }

  worker-other : (place : ℕ) (q p : PassView) → 0 < place → slice_get m.between place ≡ Some q → slice_get new place ≡ Some p → IsWorkerAt t seen (place + 1) p
  worker-other place q p behind there last =
      let fresh = other-met place q behind there in
      let met = m.all.each place q p there last in
      let number : p.number ≡ place + 1 = met.learns.learnt.number ∙ fresh.number_is in
      record {
        number_is = number;
        seen = record {
          pass = met.learns.knows;
          begins = met.from;
          own = learnt-none c_here (place + 1) q p fresh met.learns ∙ sym (other-none place q p behind there last)
              ∙ ap (λ (n : ℕ). calls_of n seen) (sym number);
        };
        planned = planned-so q p (new-planned t (place + 1) q fresh) met;
      }

  new-count : length new ≡ length workers
  new-count = m.all.count ∙ m.count ∙ count

  worker-at : (place : ℕ) (p : PassView) → slice_get new place ≡ Some p → IsWorkerAt t seen (place + 1) p
  worker-at zero p last = worker-first p last
  worker-at (suc place) p last =
      let within = slice_get_within new (suc place) p last in
      let long = m.all.count in
      let q = get-there m.between (suc place) (omega (arith, within, long)) in
      worker-other (suc place) q.0 p (omega arith) q.1 last

  stands-at : AreAt t seen after new
  stands-at = record {
    count = new-count ∙ begun.count;
    number = m.all.learns.learnt.number ∙ met-number;
    seen = coordinator-seen;
    each = worker-at;
  }

  -- where all entries are the callers', they are the first worker's
  module _ (numbers : AreOf t.workers after.seen) where
    of-seen : AreOf t.workers seen
    of-seen = all-prefix (λ (e : Entry). e.number ≤ t.workers) seen after.seen seen-begins numbers

    no-entry : (number : ℕ) → calls_of number seen ≡ [] → (i : ℕ) (d : Entry) → i < length seen → (get_or seen i d).number ≡ number → ⊥
    no-entry number none i d within = calls-apart number seen none i d within

    none-other : (place : ℕ) → suc place < t.workers → calls_of (suc (suc place)) seen ≡ []
    none-other place few =
        let all = begun.count in
        let long = m.count in
        let last = new-count in
        let q = get-there m.between (suc place) (omega (arith, few, all, long, count)) in
        let p = get-there new (suc place) (omega (arith, few, all, last)) in
        let next : suc place + 1 ≡ suc (suc place) = omega arith in
        subst (λ (n : ℕ). calls_of n seen ≡ []) next (other-none (suc place) q.0 p.0 (omega arith) q.1 p.1)

    all-first : All (λ (e : Entry). IsTrue (e.number == 1)) seen
    all-first i d within = by (get_or seen i d).number refl
      where
        by : (number : ℕ) → (get_or seen i d).number ≡ number → ((get_or seen i d).number == 1) ≡ true
        by zero is = absurd (no-entry 0 met-none i d within is)
        by (suc zero) is = grind (arith, nat_tests)
        by (suc (suc place)) is =
            let few = of-seen i d within in
            absurd (no-entry (suc (suc place)) (none-other place (omega (arith, few, is))) i d within is)

    all-calls : calls_of 1 seen ≡ seen
    all-calls = filter-all (λ (e : Entry). e.number == 1) seen all-first

    first-calls : calls_of 1 first.seen ≡ first.seen
    first-calls =
        filter-all (λ (e : Entry). e.number == 1) first.seen
        (all-prefix (λ (e : Entry). IsTrue (e.number == 1)) first.seen seen first-begins all-first)

    seen-given : seen ≡ claims_given t
    seen-given = sym all-calls ∙ one-calls ∙ first-calls ∙ given.alone first-calls

    next-so : IsNext t 0 (open_nets t.design t.given) None seen
    next-so =
        let all = begun.count in
        subst (λ (h : List Entry). IsNext t 0 (open_nets t.design t.given) None h) (sym seen-given)
        (given-next t (omega (arith, all, some)) (subst (IsLegal c_here) seen-given m.learns.knows.legal)
        (subst (AtEach (λ before e. (claim : Claim) → e.call ≡ Claims claim → IsPlanned t before e.number claim)) seen-given plans-so))
      where
        plans-so : AtEach (λ before e. (claim : Claim) → e.call ≡ Claims claim → IsPlanned t before e.number claim) seen
        plans-so =
            subst (AtEach (λ before e. (claim : Claim) → e.call ≡ Claims claim → IsPlanned t before e.number claim)) (sym first-met.1.same)
            (λ p e there. own-planned p e there (number-so p e (ap (λ (l : List Entry). slice_get l p) first-met.1.same ∙ there)))
          where
            number-so : (p : ℕ) (e : Entry) → slice_get seen p ≡ Some e → e.number ≡ one.number
            number-so p e there =
                let test = each-all (λ (x : Entry). IsTrue (x.number == 1)) seen all-first p e there in
                let is : e.number ≡ 1 = grind (arith, nat_tests) in
                is ∙ sym one-number

  pub given-begun : AreBefore t 0 (open_nets t.design t.given) None after new
  given-begun = record { h = seen; at = stands-at; next = next-so }

-- the open nets are routed
pub open-routed : (d : DesignView) (given : List (Option TreeView)) → All (λ (net : ℕ). IsTrue (is_routed d net)) (open_nets d given)
open-routed d given =
    All-weaker (λ (net : ℕ). IsTrue (is_open d given net)) (λ (net : ℕ). IsTrue (is_routed d net)) (λ net is. (and_parts (is_routed d net) _ is).0) (open_nets d given)
    (filter_passes (is_open d given) (range_with_len 0 (length d.nets)))
