-- Hands of a share that take, or find nothing.
use Rattle.std.proofs.Common.{◌≡◌, ◌≢◌, ℕ, suc, ◌+◌, ◌≤◌, ◌<◌, ◌⊎◌, ◌%◌, ◌==◌, inl, inr, Bool, true, false, if◌then◌else◌, cond, count_by, List, [], ◌∷◌, ◌++◌, length, length-set, set, get_or, map, sum_by, Option, Some, None, IfSome, IfNone, slice_get, slice_index, sym, refl, ap, subst, ◌∙◌, ⊎_elim, arith}
use Rattle.std.proofs.lemmas.List.{map-set, get_or-set_other}
use Rattle.std.proofs.lemmas.List.Sums.{sum_by-cons}
use Rattle.std.proofs.lemmas.Option.{slice_get_within}
use Rattle.std.proofs.lemmas.Bool.{cases_lt, eq-eqb}
use Rattle.work_share.specs.Accounts.{HasTaken, WasEmpty}
use Rattle.work_share.specs.Dealt.{dealt_from, dealt, deals}
use Rattle.work_share.specs.HandStore.{IsHand}
use Rattle.work_share.specs.HandSteps.{with_account, with_other, with_left, TakesFrom, FindsNone, HasMore, IsDoneFrom}
use Rattle.work_share.specs.Views.{DequeName, ShareView, Known, HandView, deque_of, put_in, times, IsHandOf, IsDone}
use Rattle.work_share.specs.declared.account.Account.{Account}
use Rattle.work_share.proofs.AccountSums.{count-append}
use Rattle.work_share.proofs.DealtLemmas.{dealt-at, get-deals, deals-count}
use Rattle.work_share.proofs.HandLemmas.{took-put, took-count}
use Rattle.work_share.proofs.Places.{get-map, get-set, get-read, same-element, set-same, sum-le, sum-replaced, sum-through}

pub of-left : (s : ShareView) (h : HandView) (left : List ℕ) → IsHandOf s h → IsHandOf s (with_left h left)
of-left s h left of = record { number = of.number; count = of.count; deques = of.deques; own = of.own; others = of.others }

pub of-other : (s : ShareView) (h : HandView) (place : ℕ) (k : Known) (a : Account) (count net : ℕ) → IsHandOf s h → slice_get h.others place ≡ Some k → HasTaken k.account (net ∷ []) a → IsHandOf s (with_other h place (with_account k a) count net)
of-other s h place k a count net of there took =
    let same-deques = map-set deque_of h.others place (with_account k a) ∙ set-same (map deque_of h.others) place k.deque (get-map deque_of h.others place k there) in
    let same-put = map-set put_in h.others place (with_account k a)
    ∙ ap (λ (l : List ℕ). set (map put_in h.others) place l) (took-put k.account a (net ∷ []) took)
    ∙ set-same (map put_in h.others) place k.account.put (get-map put_in h.others place k there) in
    record {
      number = of.number;
      count = length-set h.others place (with_account k a) ∙ of.count;
      deques = same-deques ∙ of.deques;
      own = of.own;
      others = same-put ∙ of.others;
    }

-- of nets that are put in a deque or not no more pass a test than of all
picked-among : (test : ℕ → Bool) (home : Bool) (net : ℕ) (rest nets : List ℕ) → count_by test rest ≤ count_by test nets →
    count_by test (if home then net ∷ rest else rest) ≤ count_by test (net ∷ nets)
picked-among test true net rest nets less =
    let few = count-append test (net ∷ []) rest in
    let all = count-append test (net ∷ []) nets in
    omega (arith, less, few, all)
picked-among test false net rest nets less =
    let all = count-append test (net ∷ []) nets in
    omega (arith, less, all)

-- what was put in a deque was shared
dealt-among : (test : ℕ → Bool) (workers hand place : ℕ) (nets : List ℕ) → count_by test (dealt_from place workers hand nets) ≤ count_by test nets
dealt-among test workers hand place [] = omega arith
dealt-among test workers hand place (net ∷ nets) =
    picked-among test (place % workers == hand) net (dealt_from (suc place) workers hand nets) nets (dealt-among test workers hand (suc place) nets)

-- so a hand took no net more often than it was shared
pub hand-among : (s : ShareView) (h : HandView) → IsHand h → IsHandOf s h → (test : ℕ → Bool) → count_by test h.taken ≤ count_by test s.nets
hand-among s h is of test =
    let counted = is.counted test in
    let own = is.own_within test in
    let own-put = ap (λ (l : List ℕ). count_by test l) of.own in
    let others = sum-le (λ (k : Known). count_by test k.account.taken) (λ (k : Known). count_by test (put_in k)) h.others (λ at d less. is.within at d less test) in
    let through = sum-through (λ (l : List ℕ). count_by test l) put_in h.others in
    let same = ap (λ (x : List (List ℕ)). sum_by (λ (l : List ℕ). count_by test l) x) of.others in
    let change = sum-replaced (λ (l : List ℕ). count_by test l) (deals s.workers s.nets) h.number (dealt s.workers s.nets h.number) [] (get-deals s.workers h.number s.nets of.number) in
    let number = of.number in
    let all = deals-count test s.workers s.nets (omega (arith, number)) in
    let none : count_by test [] ≡ 0 = refl in
    omega (arith, counted, own, own-put, others, through, same, change, all, none)

abbrev bit : Bool → ℕ
bit b = cond b 1 0

one-time : (net : ℕ) → times net (net ∷ []) ≡ 1
one-time net =
    let cons = sum_by-cons (λ (n : ℕ). bit (n == net)) net [] in
    let is : bit (net == net) ≡ 1 = ap bit (eq-eqb net net refl) in
    omega (arith, cons, is)

-- a net that was taken was put in
put-among : (a b : Account) (net : ℕ) → HasTaken a (net ∷ []) b → 0 < times net a.put
put-among a b net took =
    let among = took.among (λ n. n == net) in
    let put = ap (times net) (took-put a b (net ∷ []) took) in
    let count = took-count (λ n. n == net) a b (net ∷ []) took in
    let one = one-time net in
    omega (arith, among, put, count, one)

pub own-among : (s : ShareView) (h : HandView) (a : Account) (net : ℕ) → IsHandOf s h → HasTaken h.own.account (net ∷ []) a → 0 < times net s.nets
own-among s h a net of took =
    let put = put-among h.own.account a net took in
    let is = ap (times net) of.own in
    let all = dealt-among (λ n. n == net) s.workers h.number 0 s.nets in
    omega (arith, put, is, all)

other-among : (s : ShareView) (h : HandView) (place : ℕ) (k : Known) (a : Account) (net : ℕ) → IsHandOf s h → slice_get h.others place ≡ Some k → HasTaken k.account (net ∷ []) a → 0 < times net s.nets
other-among s h place k a net of there took =
    let put = put-among k.account a net took in
    let here : slice_get (set (deals s.workers s.nets) h.number []) place ≡ Some (put_in k) =
    ap (λ (l : List (List ℕ)). slice_get l place) (sym of.others) ∙ get-map put_in h.others place k there in
    ⊎_elim
    (λ (own : (place ≡ h.number) × ([] ≡ put_in k)). let none = ap (times net) own.1 in absurd (omega (arith, put, none)))
    (λ (other : (place ≢ h.number) × (slice_get (deals s.workers s.nets) place ≡ Some (put_in k))).
    let is = ap (times net) (dealt-at s.workers place s.nets (put_in k) other.1) in
    let all = dealt-among (λ n. n == net) s.workers place 0 s.nets in
    omega (arith, put, is, all))
    (get-set (deals s.workers s.nets) h.number place [] (put_in k) here)

-- a hand that took from another deque, having found nothing before
pub more-from : (s : ShareView) (old now new : HandView) (from place net : ℕ) → IsHandOf s old → IsDoneFrom from place s old now → TakesFrom place now net new → HasMore s old net new
more-from s old now new from place net of done takes =
    let of-now = subst (IsHandOf s) (sym done.new_is) (of-left s old done.left of) in
    record {
      among = other-among s now place takes.k takes.account net of-now takes.there takes.took;
      of = subst (IsHandOf s) (sym takes.new_is) (of-other s now place takes.k takes.account takes.count net of-now takes.there takes.took);
      number = ap (λ (h : HandView). h.number) takes.new_is ∙ ap (λ (h : HandView). h.number) done.new_is;
      taken = ap (λ (h : HandView). h.taken) takes.new_is ∙ ap (λ (h : HandView). h.taken ++ net ∷ []) done.new_is;
    }

-- the deque that a hand's pass at a place is of
pub deque-there : {T : Type 0} (name : T → DequeName) (s : ShareView) (old now : HandView) (from place : ℕ) (k : Known) (ends : List T) (end : T) → IsHandOf s old → IsDoneFrom from place s old now → map name ends ≡ s.deques → place < length ends → end ≡ get_or ends place end → slice_get now.others place ≡ Some k → k.deque ≡ name end
deque-there name s old now from place k ends end of done names within is there =
    let others : slice_get old.others place ≡ Some k = ap (λ (h : HandView). slice_get h.others place) (sym done.new_is) ∙ there in
    let here : slice_get s.deques place ≡ Some k.deque = ap (λ (l : List DequeName). slice_get l place) (sym of.deques) ∙ get-map deque_of old.others place k others in
    let too : slice_get s.deques place ≡ Some (name end) =
    ap (λ (l : List DequeName). slice_get l place) (sym names) ∙ get-map name ends place end (get-read ends place end within is) in
    same-element s.deques place k.deque (name end) here too

-- all deques to the last were looked at
pub done-to : (s : ShareView) (old now : HandView) (from place to : ℕ) → place ≡ to → IsDoneFrom from place s old now → IsDoneFrom from to s old now
done-to s old now from place to is done = subst (λ (n : ℕ). IsDoneFrom from n s old now) is done

pub done-first : (s : ShareView) (h : HandView) (from : ℕ) → IsDoneFrom from from s h h
done-first s h from = record { left = h.left; new_is = refl; same = λ at out. refl; done = λ at k low high there. absurd (omega (arith, low, high)) }

-- nothing was found in one more deque
pub done-more : (s : ShareView) (old now new : HandView) (from place : ℕ) → from ≤ place → IsDoneFrom from place s old now → FindsNone place (length s.nets) now new → IsDoneFrom from (place + 1) s old new
done-more s old now new from place low before found =
    let left = set before.left place found.count in
    let new-is : new ≡ with_left old left = found.new_is ∙ (λ i. with_left (before.new_is i) (set (before.new_is i).left place found.count)) in
    let new-left : new.left ≡ left = ap (λ (h : HandView). h.left) new-is in
    let now-left : now.left ≡ before.left = ap (λ (h : HandView). h.left) before.new_is in
    let kept : (at : ℕ) → at ≢ place → slice_index left at ≡ slice_index before.left at =
    (λ at apart. get_or-set_other before.left place at found.count 0 apart) in
    record {
      left = left;
      new_is = new-is;
      same = λ at out.
          ⊎_elim
          (λ (less : at < from). kept at (λ e. absurd (omega (arith, e, less, low))) ∙ before.same at (inl less))
          (λ (more : place + 1 ≤ at). kept at (λ e. absurd (omega (arith, e, more))) ∙ before.same at (inr (omega (arith, more))))
          out;
      done = λ at k least most there.
          ⊎_elim
          (λ (less : at < place).
          subst (λ (n : ℕ). WasEmpty k.account ⊎ (slice_index old.left at + length s.nets < n)) (sym (kept at (λ e. absurd (omega (arith, e, less)))))
          (before.done at k least less there))
          (λ (no : place ≤ at).
          let is : at ≡ place = omega (arith, no, most) in
          let here : slice_get now.others place ≡ Some k = ap (λ (h : HandView). slice_get h.others place) before.new_is ∙ ap (λ (n : ℕ). slice_get old.others n) (sym is) ∙ there in
          let was : slice_index now.left place ≡ slice_index old.left at =
          ap (λ (l : List ℕ). slice_index l place) now-left ∙ before.same place (inr (omega arith)) ∙ ap (λ (n : ℕ). slice_index old.left n) (sym is) in
          let will : slice_index new.left place ≡ slice_index left at = (λ i. slice_index (new-left i) (sym is i)) in
          subst (λ (x : ℕ × ℕ). WasEmpty k.account ⊎ (x.0 + length s.nets < x.1)) (λ i. (was i, will i)) (found.done k here))
          (cases_lt at place);
    }

-- nothing was found in the deques after the hand's own, nor in those before it
pub done-all : (s : ShareView) (old now new : HandView) (workers : ℕ) → IsHandOf s old → workers ≡ s.workers → WasEmpty old.own.account → IsDoneFrom (old.number + 1) workers s old now → IsDoneFrom 0 old.number s now new → IsDone s old new
done-all s old now new workers of count own above below = record {
  own = own;
  others = λ at k apart there.
      let within = slice_get_within old.others at k there in
      let long = of.count in
      let now-left : now.left ≡ above.left = ap (λ (h : HandView). h.left) above.new_is in
      let new-left : new.left ≡ below.left = ap (λ (h : HandView). h.left) below.new_is in
      ⊎_elim
      (λ (less : at < old.number).
      let here : slice_get now.others at ≡ Some k = ap (λ (h : HandView). slice_get h.others at) above.new_is ∙ there in
      let was : slice_index now.left at ≡ slice_index old.left at = ap (λ (l : List ℕ). slice_index l at) now-left ∙ above.same at (inl (omega (arith, less))) in
      let will : slice_index below.left at ≡ slice_index new.left at = ap (λ (l : List ℕ). slice_index l at) (sym new-left) in
      subst (λ (x : ℕ × ℕ). WasEmpty k.account ⊎ (x.0 + length s.nets < x.1)) (λ i. (was i, will i)) (below.done at k (omega arith) less here))
      (λ (no : old.number ≤ at).
      let more : old.number + 1 ≤ at = omega (arith, no, (λ (e : at ≡ old.number). apart e)) in
      let will : slice_index above.left at ≡ slice_index new.left at =
      ap (λ (l : List ℕ). slice_index l at) (sym now-left) ∙ sym (below.same at (inr no)) ∙ ap (λ (l : List ℕ). slice_index l at) (sym new-left) in
      subst (λ (n : ℕ). WasEmpty k.account ⊎ (slice_index old.left at + length s.nets < n)) will (above.done at k more (omega (arith, within, long, count)) there))
      (cases_lt at old.number);
}

pub none-of : (o : Option ℕ) (P : Type 0) → IfSome o (λ _. P) → (P → ⊥) → o ≡ None
none-of None P holds not = refl
none-of (Some n) P holds not = absurd (not holds)

pub if-none : (o : Option ℕ) (P Q : Type 0) → (P → Q) → IfNone o P → IfNone o Q
if-none None P Q f holds = f holds
if-none (Some n) P Q f holds = tt
