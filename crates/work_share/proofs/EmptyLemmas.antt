-- Deques that are emptied.
use Rattle.std.proofs.Common.{◌≡◌, ℕ, ◌+◌, ◌-◌, ◌<◌, Bool, List, [], ◌∷◌, ◌++◌, length, length-append, sum_by, count_by, All, refl, ap, subst, ◌∙◌, arith}
use Rattle.std.proofs.lemmas.List.Elements.{All-head, All-tail}
use Rattle.std.proofs.lemmas.List.Sums.{sum_by-cons}
use Rattle.crossbeam_deque.specs.Handles.{SameWorker, worker_view}
use Rattle.work_share.specs.Accounts.{HasTaken, WasEmpty}
use Rattle.work_share.specs.Endings.{IsFifo, IsWhole, taken_by, put_count}
use Rattle.work_share.specs.HandStore.{Owner}
use Rattle.work_share.specs.declared.account.Account.{Account}
use Rattle.work_share.proofs.AccountSums.{count-append, count-lengths}
use Rattle.work_share.proofs.HandLemmas.{took-put, took-taken, took-count}
use Rattle.work_share.proofs.RuleSteps.{emptied}

-- what holds while a deque is emptied: what was taken since is what was gained
pub record IsEmptying (begin now : Owner) (old new : List ℕ) : Type 0 where
  pub fifo : IsFifo now
  pub whole : IsWhole now
  pub put : (worker_view now).put ≡ (worker_view begin).put
  pub moved : (test : ℕ → Bool) → count_by test new + taken_by test begin ≡ count_by test old + taken_by test now

pub emptying-first : (o : Owner) (nets : List ℕ) → IsFifo o → IsWhole o → IsEmptying o o nets nets
emptying-first o nets fifo whole = record { fifo = fifo; whole = whole; put = refl; moved = λ test. refl }

pub emptying-more : (begin now next : Owner) (old new : List ℕ) (net : ℕ) → IsEmptying begin now old new → SameWorker now next → HasTaken (worker_view now) (net ∷ []) (worker_view next) → IsEmptying begin next old (new ++ net ∷ [])
emptying-more begin now next old new net is same took = record {
  fifo = same.1 ∙ is.fifo;
  whole = ap (λ (a : Account). a.parts) took.is ∙ is.whole;
  put = took-put (worker_view now) (worker_view next) (net ∷ []) took ∙ is.put;
  moved = λ test.
      let before = is.moved test in
      let gained = count-append test new (net ∷ []) in
      let taken = took-count test (worker_view now) (worker_view next) (net ∷ []) took in
      omega (arith, before, gained, taken);
}

-- fewer are left than before
pub emptying-less : (now next : Owner) (net : ℕ) → HasTaken (worker_view now) (net ∷ []) (worker_view next) → length (worker_view next).put - length (worker_view next).taken < length (worker_view now).put - length (worker_view now).taken
emptying-less now next net took =
    let within = count-lengths (worker_view next).taken (worker_view next).put took.among in
    let put = ap (λ (l : List ℕ). length l) (took-put (worker_view now) (worker_view next) (net ∷ []) took) in
    let taken = ap (λ (l : List ℕ). length l) (took-taken (worker_view now) (worker_view next) (net ∷ []) took) ∙ length-append (worker_view now).taken (net ∷ []) in
    omega (arith, within, put, taken)

pub emptying-last : (begin now : Owner) (old new : List ℕ) → IsEmptying begin now old new → WasEmpty (worker_view now) → (test : ℕ → Bool) → put_count test begin + count_by test old ≡ taken_by test begin + count_by test new
emptying-last begin now old new is was test =
    let all = emptied (worker_view now) was is.whole test in
    let put = ap (λ (l : List ℕ). count_by test l) is.put in
    let moved = is.moved test in
    omega (arith, all, put, moved)

-- what holds while deques are emptied one after another: of those that don't remain all was taken or gained
pub record AreEmptying (owners left : List Owner) (nets : List ℕ) : Type 0 where
  pub fifo : All IsFifo left
  pub whole : All IsWhole left
  pub moved : (test : ℕ → Bool) → sum_by (put_count test) owners + sum_by (taken_by test) left ≡ sum_by (taken_by test) owners + sum_by (put_count test) left + count_by test nets

pub empties-first : (owners : List Owner) → All IsFifo owners → All IsWhole owners → AreEmptying owners owners []
empties-first owners fifo whole = record { fifo = fifo; whole = whole; moved = λ test. omega arith }

pub empties-more : (owners left : List Owner) (o : Owner) (nets new : List ℕ) → AreEmptying owners (o ∷ left) nets → ((test : ℕ → Bool) → put_count test o + count_by test nets ≡ taken_by test o + count_by test new) → AreEmptying owners left new
empties-more owners left o nets new are gained = record {
  fifo = All-tail IsFifo o left are.fifo;
  whole = All-tail IsWhole o left are.whole;
  moved = λ test.
      let before = are.moved test in
      let taken = sum_by-cons (taken_by test) o left in
      let put = sum_by-cons (put_count test) o left in
      let one = gained test in
      omega (arith, before, taken, put, one);
}

pub empties-head : (owners left : List Owner) (o : Owner) (nets : List ℕ) → AreEmptying owners (o ∷ left) nets → IsFifo o × IsWhole o
empties-head owners left o nets are = (All-head IsFifo o left are.fifo, All-head IsWhole o left are.whole)

pub empties-last : (owners left : List Owner) (nets : List ℕ) → AreEmptying owners left nets → left ≡ [] → (test : ℕ → Bool) → sum_by (put_count test) owners ≡ sum_by (taken_by test) owners + count_by test nets
empties-last owners left nets are none test =
    let moved = subst (λ (l : List Owner). sum_by (put_count test) owners + sum_by (taken_by test) l ≡ sum_by (taken_by test) owners + sum_by (put_count test) l + count_by test nets) none (are.moved test) in
    omega (arith, moved)
