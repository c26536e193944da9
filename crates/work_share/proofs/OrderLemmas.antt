-- A lone hand takes the nets in their order.
use Rattle.std.proofs.Common.{◌≡◌, ℕ, suc, ◌%◌, if◌then◌else◌, ◌==◌, List, [], ◌∷◌, ◌++◌, length, Option, Some, None, slice_get, sym, refl, ap, ◌∙◌, arith}
use Rattle.std.proofs.lemmas.Option.{slice_get_past}
use Rattle.work_share.specs.Accounts.{HasTaken, WasEmpty}
use Rattle.work_share.specs.Dealt.{dealt, dealt_from}
use Rattle.work_share.specs.HandStore.{IsHand}
use Rattle.work_share.specs.Views.{ShareView, HandView, IsHandOf}
use Rattle.work_share.specs.declared.account.Account.{Account}
use Rattle.work_share.proofs.HandLemmas.{took-put, took-taken}
use Rattle.work_share.proofs.RuleSteps.{emptied-alone}

get-next : (xs ys : List ℕ) (x : ℕ) → slice_get ((xs ++ x ∷ []) ++ ys) (length xs) ≡ Some x
get-next [] ys x = refl
get-next (z ∷ zs) ys x = get-next zs ys x

pub takes-next : (h : HandView) (a : Account) (net : ℕ) → IsHand h → HasTaken h.own.account (net ∷ []) a → length h.others ≡ 1 → Some net ≡ slice_get h.own.account.put (length h.taken)
takes-next h a net is took one =
    let lone = is.alone one in
    let order = took.order lone.0 in
    let rest = order.0 in
    let put : h.own.account.put ≡ (h.own.account.taken ++ net ∷ []) ++ rest =
    sym (took-put h.own.account a (net ∷ []) took) ∙ order.1 ∙ ap (λ (l : List ℕ). l ++ rest) (took-taken h.own.account a (net ∷ []) took) in
    sym (get-next h.own.account.taken rest net)
    ∙ (λ i. slice_get (sym put i) (length (lone.1 i)))

pub none-next : (h : HandView) → IsHand h → WasEmpty h.own.account → length h.others ≡ 1 → None ≡ slice_get h.own.account.put (length h.taken)
none-next h is was one =
    let lone = is.alone one in
    let put = emptied-alone h.own.account was lone.0 ∙ lone.1 in
    let long = ap (λ (l : List ℕ). length l) put in
    sym (slice_get_past h.own.account.put (length h.taken) (omega (arith, long)))

-- one worker's deque gets all nets
pub dealt-one : (place : ℕ) (nets : List ℕ) → dealt_from place 1 0 nets ≡ nets
dealt-one place [] = refl
dealt-one place (net ∷ nets) =
    let none : place % 1 ≡ 0 = omega arith in
    let rest = dealt-one (suc place) nets in
    ap (λ (n : ℕ). if n == 0 then net ∷ dealt_from (suc place) 1 0 nets else dealt_from (suc place) 1 0 nets) none ∙ ap (λ (l : List ℕ). net ∷ l) rest

-- a lone hand's next net is the next of those that were shared
pub put-one : (s : ShareView) (h : HandView) (next : Option ℕ) → IsHandOf s h → s.workers ≡ 1 → next ≡ slice_get h.own.account.put (length h.taken) → next ≡ slice_get s.nets (length h.taken)
put-one s h next of one is =
    let number = of.number in
    let zero-is : h.number ≡ 0 = omega (arith, number, one) in
    let put : h.own.account.put ≡ s.nets = of.own ∙ ap (λ (x : ℕ × ℕ). dealt x.0 s.nets x.1) (λ i. (one i, zero-is i)) ∙ dealt-one 0 s.nets in
    is ∙ ap (λ (l : List ℕ). slice_get l (length h.taken)) put
