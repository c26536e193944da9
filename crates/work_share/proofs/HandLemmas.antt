-- Takes keep what is true of hands.
use Rattle.std.proofs.Common.{◌≡◌, ◌≢◌, ℕ, ◌+◌, ◌≤◌, ◌<◌, Bool, true, List, [], ◌∷◌, ◌++◌, length, length-set, set, get_or, sum_by, count_by, All, Some, slice_get, sym, ap, ◌∙◌, ⊎_elim, arith, length-append}
use Rattle.std.proofs.lemmas.List.Elements.{All-set}
use Rattle.std.proofs.lemmas.Option.{slice_get_within}
use Rattle.work_share.specs.Accounts.{HasTaken}
use Rattle.work_share.specs.HandStore.{IsHand, IsWithin, put_length}
use Rattle.work_share.specs.HandSteps.{with_account, with_other, with_left}
use Rattle.work_share.specs.Views.{Known, HandView, put_in}
use Rattle.work_share.specs.declared.account.Account.{Account}
use Rattle.work_share.proofs.AccountSums.{count-append, count-all, count-lengths}
use Rattle.work_share.proofs.Places.{get-set, set-else, sum-replaced, sum-le, sum-equal}

took-parts : (a b : Account) (nets : List ℕ) → HasTaken a nets b → b.parts ≡ a.parts
took-parts a b nets took = ap (λ (x : Account). x.parts) took.is

pub took-put : (a b : Account) (nets : List ℕ) → HasTaken a nets b → b.put ≡ a.put
took-put a b nets took = ap (λ (x : Account). x.put) took.is

pub took-taken : (a b : Account) (nets : List ℕ) → HasTaken a nets b → b.taken ≡ a.taken ++ nets
took-taken a b nets took = ap (λ (x : Account). x.taken) took.is

-- one more was taken than before
pub took-count : (test : ℕ → Bool) (a b : Account) (nets : List ℕ) → HasTaken a nets b → count_by test b.taken ≡ count_by test a.taken + count_by test nets
took-count test a b nets took = ap (λ (l : List ℕ). count_by test l) (took-taken a b nets took) ∙ count-append test a.taken nets

took-within : (a b : Account) (net : ℕ) → HasTaken a (net ∷ []) b → length a.taken + 1 ≤ length a.put
took-within a b net took =
    let within = count-lengths b.taken b.put took.among in
    let put = ap (λ (l : List ℕ). length l) (took-put a b (net ∷ []) took) in
    let taken = ap (λ (l : List ℕ). length l) (took-taken a b (net ∷ []) took) in
    let more = length-append a.taken (net ∷ []) in
    omega (arith, within, put, taken, more)

-- no more nets were taken from each deque than were put in
all-short : (others : List Known) → All IsWithin others → All (λ (k : Known). length k.account.taken ≤ length (put_in k)) others
all-short others within = λ at d less. count-lengths (get_or others at d).account.taken (get_or others at d).account.put (within at d less)

-- how many nets a hand took through its accounts
taken-length : (h : HandView) → IsHand h → length h.taken ≡ length h.own.account.taken + sum_by (λ (k : Known). length k.account.taken) h.others
taken-length h is =
    let counted = is.counted (λ n. true) in
    let all = count-all h.taken in
    let own = count-all h.own.account.taken in
    let others = sum-equal (λ (k : Known). count_by (λ n. true) k.account.taken) (λ (k : Known). length k.account.taken) h.others (λ k. count-all k.account.taken) in
    omega (arith, counted, all, own, others)

-- there was room for that net
pub own-fits : (h : HandView) (a : Account) (net : ℕ) → IsHand h → HasTaken h.own.account (net ∷ []) a → length h.taken < put_length h
own-fits h a net is took =
    let all = taken-length h is in
    let own = took-within h.own.account a net took in
    let others = sum-le (λ (k : Known). length k.account.taken) (λ (k : Known). length (put_in k)) h.others (all-short h.others is.within) in
    omega (arith, all, own, others)

-- a hand that took from another deque
pub other-step : (h : HandView) (place : ℕ) (k : Known) (a : Account) (count net : ℕ) → IsHand h → place ≢ h.number → slice_get h.others place ≡ Some k → HasTaken k.account (net ∷ []) a → IsHand (with_other h place (with_account k a) count net)
other-step h place k a count net is apart there took =
    let long = length-set h.others place (with_account k a) in
    let number = is.number in
    let within = slice_get_within h.others place k there in
    record {
      number = omega (arith, long, number);
      few = (let few = is.few in omega (arith, long, few));
      own = (let own = is.own in omega (arith, long, own));
      home = set-else h.others place h.number (with_account k a) (λ same. apart (sym same)) ∙ is.home;
      parts = λ at other away here.
          ⊎_elim
          (λ (new : (at ≡ place) × (with_account k a ≡ other)).
          sym (ap (λ (x : Known). x.account.parts) new.1) ∙ took-parts k.account a (net ∷ []) took ∙ is.parts place k apart there)
          (λ (old : (at ≢ place) × (slice_get h.others at ≡ Some other)). is.parts at other away old.1)
          (get-set h.others place at (with_account k a) other here);
      alone = λ one. absurd (apart (omega (arith, one, long, number, within)));
      own_within = is.own_within;
      within = All-set IsWithin h.others place (with_account k a) took.among is.within;
      counted = λ test.
          let before = is.counted test in
          let taken = count-append test h.taken (net ∷ []) in
          let change = sum-replaced (λ (x : Known). count_by test x.account.taken) h.others place k (with_account k a) there in
          let own = took-count test k.account a (net ∷ []) took in
          omega (arith, before, taken, change, own);
    }

pub other-fits : (h : HandView) (place : ℕ) (k : Known) (a : Account) (net : ℕ) → IsHand h → slice_get h.others place ≡ Some k → HasTaken k.account (net ∷ []) a → length h.taken < put_length h
other-fits h place k a net is there took =
    let all = taken-length h is in
    let own = count-lengths h.own.account.taken h.own.account.put is.own_within in
    let change = sum-replaced (λ (x : Known). length x.account.taken) h.others place k (with_account k a) there in
    let puts = sum-replaced (λ (x : Known). length (put_in x)) h.others place k (with_account k a) there in
    let same = ap (λ (l : List ℕ). length l) (took-put k.account a (net ∷ []) took) in
    let more = ap (λ (l : List ℕ). length l) (took-taken k.account a (net ∷ []) took) ∙ length-append k.account.taken (net ∷ []) in
    let others = sum-le (λ (x : Known). length x.account.taken) (λ (x : Known). length (put_in x)) (set h.others place (with_account k a))
    (all-short (set h.others place (with_account k a)) (All-set IsWithin h.others place (with_account k a) took.among is.within)) in
    omega (arith, all, own, change, puts, same, more, others)

pub other-room : (h : HandView) (place : ℕ) (k : Known) (a : Account) (count net : ℕ) → slice_get h.others place ≡ Some k → HasTaken k.account (net ∷ []) a → put_length (with_other h place (with_account k a) count net) ≡ put_length h
other-room h place k a count net there took =
    let puts = sum-replaced (λ (x : Known). length (put_in x)) h.others place k (with_account k a) there in
    let same = ap (λ (l : List ℕ). length l) (took-put k.account a (net ∷ []) took) in
    omega (arith, puts, same)

-- what a hand saw to leave is no matter
pub left-step : (h : HandView) (left : List ℕ) → IsHand h → IsHand (with_left h left)
left-step h left is = search
