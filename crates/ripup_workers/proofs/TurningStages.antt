-- Where a worker's entries of a round lead.
use Rattle.std.proofs.Common.{◌≡◌, ℕ, suc, zero, ◌<◌, ◌≤◌, Bool, true, false, cond, ◌&&◌, ◌==◌, List, [], ◌∷◌, ◌++◌, length, take, Option, Some, None, slice_get, Result, Ok, Err, OnOk, if◌then◌else◌, refl, sym, ap, subst, ◌∙◌, arith, append_assoc}
use Rattle.std.specs.List.{fold}
use mathlib.Core.List.{IsPrefix}
use Rattle.std.proofs.lemmas.Bool.{both_ways}
use Rattle.std.proofs.lemmas.Bool.Decides.{nat_tests}
use Rattle.std.proofs.lemmas.List.{append-nil, take_at, length_push}
use Rattle.std.proofs.lemmas.List.Sums.{fold-append, sum_by-append}
use Rattle.gr_base.proofs.General.{eqb-swap}
use Rattle.gr_base.specs.Designs.{DesignView}
use Rattle.gr_base.specs.Trees.{TreeView}
use Rattle.cost_rules.specs.declared.site.Formula.{Formula}
use Rattle.grid_demand.specs.Tables.{CapacityView, capacity_of}
use Rattle.book_front.proofs.Prefixes.{prefix-all, prefix-then, prefix-length}
use Rattle.book_state.proofs.BookingLaws.{unbounded}
use Rattle.book_state.proofs.HistoryLists.{slice_get-right}
use Rattle.book_state.specs.Books.{IsLegal, reply_to_claim}
use Rattle.book_state.specs.Views.{entry_of}
use Rattle.book_state.specs.declared.entry.Call.{Call}
use Rattle.book_state.specs.declared.entry.Call.TheVariants.{Claim as Claims, Release}
use Rattle.book_state.specs.declared.entry.Claim.{Claim}
use Rattle.book_state.specs.declared.entry.Entry.{Entry}
use Rattle.book_state.specs.declared.entry.PlanKind.{PlanKind}
use Rattle.book_state.specs.declared.entry.PlanKind.TheVariants.{Pattern, Maze, Given}
use Rattle.book_state.specs.declared.entry.Reply.{Reply}
use Rattle.book_state.specs.declared.entry.Reply.TheVariants.{Claimed, Taken, Full, Released, NotBooked, Marked}
use Rattle.run_histories.specs.Attempts.{Stage, Rests, Claiming, Broken, kind_of, is_kind, is_slack, is_claim_for, stage_replied, stage_after, begins, attempts_at}
use Rattle.run_histories.specs.Rounds.{IsFull, claim_of, slacks_of_turn, IsPlanFor}
use Rattle.run_histories.specs.RunHistories.{Setting, claims_given, IsPlanOver, IsPlanned}
use Rattle.run_histories.proofs.Answered.{full-goes}
use Rattle.run_histories.proofs.StageSteps.{attempts-push}
use Rattle.track_book.specs.Passes.{PassView, IsPass, IsAnswered, HasLearnt}
use Rattle.ripup_workers.specs.Turning.{IsOver, HasFollowed, HasTried}
use Rattle.work_share.specs.Views.{times}
use Rattle.ripup_workers.specs.Working.{AreOwnPlanned, ArePlanned, HasLed}
use Rattle.ripup_workers.proofs.TurningPasses.{own-learnt, own-answered, answered-others, own-place}

-- a pass that added nothing
led-still : (t : Setting) (r : ℕ) (stage : Stage) (p q : PassView) → q.number ≡ p.number → IsPrefix p.seen q.seen → IsLegal (capacity_of t.design) q.seen → q.mine ≡ p.mine →
    (ArePlanned t p → ArePlanned t q) → HasLed t r stage stage [] p q
led-still t r stage p q number begins legal mine planned = record {
  number = number;
  begins = begins;
  legal = legal;
  added = [];
  mine = mine ∙ sym (append-nil p.mine);
  led = refl;
  each = λ net. refl;
  planned = planned;
}

pub led-nothing : (t : Setting) (r : ℕ) (stage : Stage) (p : PassView) → IsLegal (capacity_of t.design) p.seen → HasLed t r stage stage [] p p
led-nothing t r stage p legal = led-still t r stage p p refl (prefix-all p.seen) legal refl (λ planned. planned)

-- one step after another
pub led-then : (t : Setting) (r : ℕ) (a b c : Stage) (nets more : List ℕ) (p q s : PassView) → HasLed t r a b nets p q → HasLed t r b c more q s → HasLed t r a c (nets ++ more) p s
led-then t r a b c nets more p q s first second = record {
  number = second.number ∙ first.number;
  begins = prefix-then p.seen q.seen s.seen first.begins second.begins;
  legal = second.legal;
  added = first.added ++ second.added;
  mine = second.mine ∙ ap (λ (mine : List Entry). mine ++ second.added) first.mine ∙ append_assoc p.mine first.added second.added;
  led = fold-append (stage_after r) a first.added second.added
      ∙ ap (λ (stage : Stage). fold (stage_after r) stage second.added) first.led ∙ second.led;
  each = λ net.
      let begun = sum_by-append (λ (e : Entry). cond {A = ℕ} (begins r net e) 1 0) first.added second.added in
      let stand = sum_by-append (λ (other : ℕ). cond {A = ℕ} (other == net) 1 0) nets more in
      let one = first.each net in
      let two = second.each net in
      omega (arith, begun, stand, one, two);
  planned = λ planned. second.planned (first.planned planned);
}

-- one entry leads from a stage to another
pub led-by : (t : Setting) (r : ℕ) (from to : Stage) (nets : List ℕ) (p q : PassView) (call : Call) (reply : Reply) → IsAnswered (capacity_of t.design) p q call reply →
    stage_after r from (entry_of p.number call reply) ≡ to → ((net : ℕ) → cond {A = ℕ} (begins r net (entry_of p.number call reply)) 1 0 ≡ times net nets) →
    (ArePlanned t p → ArePlanned t q) → HasLed t r from to nets p q
led-by t r from to nets p q call reply answered leads begun planned =
    let e : Entry = entry_of p.number call reply in
    let one : (net : ℕ) → attempts_at r net (e ∷ []) ≡ cond {A = ℕ} (begins r net e) 1 0 = λ net.
    (let push = attempts-push r net [] e in omega (arith, push)) in
    record {
      number = answered.number;
      begins = prefix-then p.seen answered.before q.seen answered.begins (e ∷ [], sym answered.seen);
      legal = answered.legal;
      added = e ∷ [];
      mine = answered.mine;
      led = leads;
      each = λ net. one net ∙ begun net;
      planned = planned;
    }

-- what is planned stays so, as a pass learns more
pub planned-learnt : (t : Setting) (p q : PassView) → HasLearnt (capacity_of t.design) p q → IsPass (capacity_of t.design) p → IsPass (capacity_of t.design) q → ArePlanned t p → ArePlanned t q
planned-learnt t p q learnt one two planned = record {
  behind =
      let more = prefix-length p.seen q.seen learnt.begins in
      let behind = planned.behind in
      omega (arith, behind, more);
  own = own-learnt (λ before e. (claim : Claim) → e.call ≡ Claims claim → IsPlanned t before e.number claim) (capacity_of t.design) p q learnt one two planned.own;
}

pub own-said : (t : Setting) (p q : PassView) (call : Call) (reply : Reply) (answered : IsAnswered (capacity_of t.design) p q call reply) →
    IsPass (capacity_of t.design) p → IsPass (capacity_of t.design) q → ((claim : Claim) → call ≡ Claims claim → IsPlanned t answered.before p.number claim) →
    AreOwnPlanned t p → AreOwnPlanned t q
own-said t p q call reply answered one two said =
    own-answered (λ before e. (claim : Claim) → e.call ≡ Claims claim → IsPlanned t before e.number claim) (capacity_of t.design) p q call reply answered one two said

-- what a pass had seen is no longer than what it has seen after a call
pub answered-longer : (c : CapacityView) (p q : PassView) (call : Call) (reply : Reply) → IsAnswered c p q call reply → length p.seen < length q.seen
answered-longer c p q call reply answered =
    let more = prefix-length p.seen answered.before answered.begins in
    let whole = ap length answered.seen in
    let one = length_push answered.before (entry_of p.number call reply) in
    omega (arith, more, whole, one)

pub planned-answered : (t : Setting) (p q : PassView) (call : Call) (reply : Reply) (answered : IsAnswered (capacity_of t.design) p q call reply) →
    IsPass (capacity_of t.design) p → IsPass (capacity_of t.design) q → (ArePlanned t p → (claim : Claim) → call ≡ Claims claim → IsPlanned t answered.before p.number claim) →
    ArePlanned t p → ArePlanned t q
planned-answered t p q call reply answered one two said planned = record {
  behind =
      let more = answered-longer (capacity_of t.design) p q call reply answered in
      let behind = planned.behind in
      omega (arith, behind, more);
  own = own-said t p q call reply answered one two (said planned) planned.own;
}

-- a claim for a plan over all that the pass had seen is planned
pub claim-planned : (t : Setting) (p q : PassView) (claim : Claim) (reply : Reply) (answered : IsAnswered (capacity_of t.design) p q (Claims claim) reply) →
    IsPass (capacity_of t.design) p → IsPass (capacity_of t.design) q → claim.front ≡ length p.seen → (claim.kind ≡ Pattern → length (claims_given t) ≤ length p.seen) → IsPlanOver t p.seen claim →
    IsPlanned t answered.before p.number claim
claim-planned t p q claim reply answered one two front behind tree =
    let rest = answered.begins.0 in
    let whole = answered.begins.1 in
    let others = answered-others (capacity_of t.design) p q (Claims claim) reply answered one two in
    record {
      front = λ place own there is.
          let within = own-place p.number p.seen rest place own others (ap (λ (h : List Entry). slice_get h place) whole ∙ there) is in
          omega (arith, within, front);
      behind = λ pattern. (let more = behind pattern in omega (arith, more, front));
      tree = subst (λ (h : List Entry). IsPlanOver t h claim)
          (sym (take_at p.seen rest claim.front (sym front)) ∙ ap (λ (h : List Entry). take claim.front h) whole) tree;
    }

-- a claim passes the test for its own net, kind and slack
kind-itself : (kind : PlanKind) → is_kind kind kind ≡ true
kind-itself Pattern = refl
kind-itself (Maze margin) = grind (arith, nat_tests)
kind-itself Given = refl

slack-itself : (slack : Option ℕ) → is_slack slack slack ≡ true
slack-itself None = refl
slack-itself (Some slack) = grind (arith, nat_tests)

claim-itself : (claim : Claim) → is_claim_for claim.net claim.kind claim.slack claim ≡ true
claim-itself claim =
    let net : (claim.net == claim.net) ≡ true = grind (arith, nat_tests) in
    ap (λ (b : Bool). b && (is_kind claim.kind claim.kind && is_slack claim.slack claim.slack)) net
    ∙ ap (λ (b : Bool). b && is_slack claim.slack claim.slack) (kind-itself claim.kind)
    ∙ slack-itself claim.slack

pub tried-for : (t : Setting) (net : ℕ) (kind : PlanKind) (slack : Option ℕ) (reply : Reply) (p q : PassView) (tried : HasTried t net kind slack reply p q) → is_claim_for net kind slack tried.claim ≡ true
tried-for t net kind slack reply p q tried =
    let x : ℕ × PlanKind × Option ℕ = (net, kind, slack) in
    ap (λ (n : ℕ). is_claim_for n kind slack tried.claim) (sym tried.net_is)
    ∙ ap (λ (k : PlanKind). is_claim_for tried.claim.net k slack tried.claim) (sym tried.kind_is)
    ∙ ap (λ (o : Option ℕ). is_claim_for tried.claim.net tried.claim.kind o tried.claim) (sym tried.slack_is)
    ∙ claim-itself tried.claim

one-net : (net other : ℕ) → cond {A = ℕ} (other == net) 1 0 ≡ times other (net ∷ [])
one-net net other =
    let same = ap (λ (b : Bool). cond {A = ℕ} b 1 0) (eqb-swap other net) in
    omega (arith, same)

-- in round 0 one claim is an attempt
pub first-led : (t : Setting) (net : ℕ) (reply : Reply) (p q : PassView) → HasTried t net Pattern None reply p q → HasLed t 0 Rests Rests (net ∷ []) p q
first-led t net reply p q tried =
    led-by t 0 Rests Rests (net ∷ []) p q (Claims tried.claim) reply tried.answered
    (ap (λ (b : Bool). if b then Rests else Broken)
    (ap (λ (n : ℕ). is_claim_for n Pattern None tried.claim) tried.net_is ∙ tried-for t net Pattern None reply p q tried))
    (λ other. ap (λ (n : ℕ). cond {A = ℕ} (other == n) 1 0) tried.net_is ∙ one-net net other)
    tried.planned

-- later a release begins one
pub freed-led : (t : Setting) (r net : ℕ) (reply : Reply) (p q : PassView) → 0 < r → IsAnswered (capacity_of t.design) p q (Release net) reply →
    IsPass (capacity_of t.design) p → IsPass (capacity_of t.design) q → HasLed t r Rests (Claiming net slacks_of_turn) (net ∷ []) p q
freed-led t zero net reply p q later answered one two = absurd (omega (arith, later))
freed-led t (suc r) net reply p q later answered one two =
    led-by t (suc r) Rests (Claiming net slacks_of_turn) (net ∷ []) p q (Release net) reply answered refl (one-net net)
    (planned-answered t p q (Release net) reply answered one two (λ planned claim is. absurd (cc)))

-- and claims go on with it
pub tried-led : (t : Setting) (r net : ℕ) (slack : Option ℕ) (slacks : List (Option ℕ)) (reply : Reply) (p q : PassView) → 0 < r → HasTried t net (kind_of r) slack reply p q →
    HasLed t r (Claiming net (slack ∷ slacks)) (stage_replied net slacks reply) [] p q
tried-led t zero net slack slacks reply p q later tried = absurd (omega (arith, later))
tried-led t (suc r) net slack slacks reply p q later tried =
    led-by t (suc r) (Claiming net (slack ∷ slacks)) (stage_replied net slacks reply) [] p q (Claims tried.claim) reply tried.answered
    (ap (λ (b : Bool). if b then stage_replied net slacks reply else Broken) (tried-for t net (kind_of (suc r)) slack reply p q tried))
    (λ other. refl)
    tried.planned

-- a claim that isn't answered Full is the last
replied-rests : (net : ℕ) (slacks : List (Option ℕ)) (reply : Reply) → (IsFull reply → ⊥) → stage_replied net slacks reply ≡ Rests
replied-rests net slacks Claimed got = refl
replied-rests net slacks Taken got = refl
replied-rests net slacks (Full edge demand) got = absurd (got refl)
replied-rests net slacks Released got = refl
replied-rests net slacks NotBooked got = refl
replied-rests net slacks (Marked overflow) got = refl

pub got-led : (t : Setting) (r net : ℕ) (slack : Option ℕ) (slacks : List (Option ℕ)) (reply : Reply) (p q : PassView) → 0 < r → HasTried t net (kind_of r) slack reply p q →
    (IsFull reply → ⊥) → HasLed t r (Claiming net (slack ∷ slacks)) Rests [] p q
got-led t r net slack slacks reply p q later tried got =
    subst (λ (stage : Stage). HasLed t r (Claiming net (slack ∷ slacks)) stage [] p q) (replied-rests net slacks reply got)
    (tried-led t r net slack slacks reply p q later tried)

pub full-led : (t : Setting) (r net : ℕ) (slack : Option ℕ) (slacks : List (Option ℕ)) (reply : Reply) (p q : PassView) → 0 < r → HasTried t net (kind_of r) slack reply p q →
    IsFull reply → HasLed t r (Claiming net (slack ∷ slacks)) (Claiming net slacks) [] p q
full-led t r net slack slacks reply p q later tried full =
    subst (λ (stage : Stage). HasLed t r (Claiming net (slack ∷ slacks)) stage [] p q) (full-goes net slacks reply full)
    (tried-led t r net slack slacks reply p q later tried)

-- a claim at any demand is never answered Full
full-none : (reply : Reply) → IsFull reply → ((e : _) (n : ℕ) → reply ≡ Full e n → ⊥) → ⊥
full-none Claimed full never = both_ways false refl full
full-none Taken full never = both_ways false refl full
full-none (Full edge demand) full never = never edge demand refl
full-none Released full never = both_ways false refl full
full-none NotBooked full never = both_ways false refl full
full-none (Marked overflow) full never = both_ways false refl full

pub last-got : (t : Setting) (net : ℕ) (kind : PlanKind) (reply : Reply) (p q : PassView) → HasTried t net kind None reply p q → IsFull reply → ⊥
last-got t net kind reply p q tried full =
    let e : Entry = entry_of p.number (Claims tried.claim) reply in
    let before = tried.answered.before in
    let there = ap (λ (h : List Entry). slice_get h (length before)) tried.answered.seen
    ∙ slice_get-right before (e ∷ []) (length before) 0 (omega arith) in
    let right = tried.answered.legal.right (length before) e there in
    let whole = ap (λ (h : List Entry). take (length before) h) tried.answered.seen ∙ take_at before (e ∷ []) (length before) refl in
    let reply_is : reply ≡ reply_to_claim (capacity_of t.design) before tried.claim =
    right.reply ∙ ap (λ (h : List Entry). reply_to_claim (capacity_of t.design) h tried.claim) whole in
    full-none reply full (λ edge n is. unbounded (capacity_of t.design) before tried.claim tried.slack_is edge n (sym reply_is ∙ is))

-- facts of a design are those of a setting over it
pub over-capacity : (t : Setting) (d : DesignView) (formula : Formula) (c : CapacityView) → IsOver d formula t → c ≡ capacity_of d → c ≡ capacity_of t.design
over-capacity t d formula c over same = same ∙ ap capacity_of (sym over.design)

-- a pass that has learnt more
pub followed : (t : Setting) (d : DesignView) (formula : Formula) (c : CapacityView) (p q : PassView) → IsOver d formula t → c ≡ capacity_of d → HasLearnt c p q → IsPass c p → IsPass c q →
    HasFollowed t p q
followed t d formula c p q over same learnt one two =
    let is = over-capacity t d formula c over same in
    let learnt_so = subst (λ (x : CapacityView). HasLearnt x p q) is learnt in
    record {
      learnt = learnt_so;
      planned = planned-learnt t p q learnt_so (subst (λ (x : CapacityView). IsPass x p) is one) (subst (λ (x : CapacityView). IsPass x q) is two);
    }

pub followed-led : (t : Setting) (r : ℕ) (stage : Stage) (p q : PassView) → HasFollowed t p q → HasLed t r stage stage [] p q
followed-led t r stage p q follows =
    led-still t r stage p q follows.learnt.number follows.learnt.begins follows.learnt.legal follows.learnt.mine follows.planned

pub led-followed : (t : Setting) (r : ℕ) (p q s : PassView) → HasLed t r Rests Rests [] p q → HasFollowed t q s → HasLed t r Rests Rests [] p s
led-followed t r p q s led follows = led-then t r Rests Rests Rests [] [] p q s led (followed-led t r Rests q s follows)

-- a claim for a plan over all that the pass had seen
pub tried-so : (t : Setting) (d : DesignView) (formula : Formula) (c : CapacityView) (net : ℕ) (kind : PlanKind) (slack : Option ℕ) (tree : TreeView) (reply : Reply) (p q : PassView) →
    IsOver d formula t → c ≡ capacity_of d → IsPass c p → IsPass c q → IsPlanFor d formula p.seen net kind tree →
    IsAnswered c p q (Claims (claim_of net tree slack (length p.seen) kind)) reply → HasTried t net kind slack reply p q
tried-so t d formula c net kind slack tree reply p q over same one two plan answered =
    let is = over-capacity t d formula c over same in
    let claim : Claim = claim_of net tree slack (length p.seen) kind in
    let said = subst (λ (x : CapacityView). IsAnswered x p q (Claims claim) reply) is answered in
    let first = subst (λ (x : CapacityView). IsPass x p) is one in
    let second = subst (λ (x : CapacityView). IsPass x q) is two in
    let over_it : IsPlanOver t p.seen claim =
    subst (λ (x : DesignView × Formula). IsPlanFor x.0 x.1 p.seen net kind tree) (λ i. (sym over.design i, sym over.formula_is i)) plan in
    record {
      claim = claim;
      net_is = refl;
      kind_is = refl;
      slack_is = refl;
      answered = said;
      planned = planned-answered t p q (Claims claim) reply said first second
          (λ planned other same_call.
          let other_is : claim ≡ other = cc in
          subst (λ (k : Claim). IsPlanned t said.before p.number k) other_is (claim-planned t p q claim reply said first second refl (λ pattern. planned.behind) over_it));
    }

-- a release of a net begins its attempt in a later round
pub freed-so : (t : Setting) (d : DesignView) (formula : Formula) (c : CapacityView) (r net : ℕ) (reply : Reply) (p q : PassView) → IsOver d formula t → c ≡ capacity_of d → 0 < r →
    IsPass c p → IsPass c q → IsAnswered c p q (Release net) reply → HasLed t r Rests (Claiming net slacks_of_turn) (net ∷ []) p q
freed-so t d formula c r net reply p q over same later one two answered =
    let is = over-capacity t d formula c over same in
    freed-led t r net reply p q later (subst (λ (x : CapacityView). IsAnswered x p q (Release net) reply) is answered)
    (subst (λ (x : CapacityView). IsPass x p) is one) (subst (λ (x : CapacityView). IsPass x q) is two)

-- a fact that doesn't hang on the result
pub ok-all : {A E P : Type 0} (r : Result A E) → P → OnOk r P
ok-all (Ok x) fact = fact
ok-all (Err e) fact = tt

-- and one that follows from another
pub ok-then : {A E P Q : Type 0} (r : Result A E) → OnOk r P → (P → Q) → OnOk r Q
ok-then (Ok x) was then_so = then_so was
ok-then (Err e) was then_so = was

-- a round that isn't round 0 is a later one
pub later : (r : ℕ) → (r ≡ 0 → ⊥) → 0 < r
later zero other = absurd (other refl)
later (suc r) other = omega arith
