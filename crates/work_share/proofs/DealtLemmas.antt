-- The nets of each deque, and of all.
use Rattle.std.proofs.Common.{◌≡◌, ◌≢◌, ℕ, zero, suc, ◌+◌, ◌%◌, ◌≤◌, ◌<◌, Bool, true, false, if◌then◌else◌, ◌==◌, eq-eqb, ne_eqb, List, [], ◌∷◌, ◌++◌, length, length-set, set, get_or, take, sum_by, count_by, Some, slice_get, sym, ap, ◌∙◌, ⊎_elim, arith}
use Rattle.std.specs.List.{range_with_len}
use Rattle.std.proofs.lemmas.List.{take_more, take_all}
use Rattle.std.proofs.lemmas.List.FromFn.{length-map-range_with_len, get_or-map-range_with_len}
use Rattle.std.proofs.lemmas.Nat.{mod_below}
use Rattle.std.proofs.lemmas.Option.{slice_get-get_or, slice_get_within}
use Rattle.work_share.specs.Dealt.{dealt_from, dealt, deals}
use Rattle.work_share.proofs.AccountSums.{count-append, count-all}
use Rattle.work_share.proofs.Places.{get-set, same-element, same-lists, sum-replaced, sum-equal, sum-none, get-unmap}

joined : (b c : Bool) (net x : ℕ) (old new : List ℕ) → new ≡ (if c then old ++ x ∷ [] else old) →
    (if b then net ∷ new else new) ≡ (if c then (if b then net ∷ old else old) ++ x ∷ [] else (if b then net ∷ old else old))
joined true true net x old new is = ap (λ (l : List ℕ). net ∷ l) is
joined true false net x old new is = ap (λ (l : List ℕ). net ∷ l) is
joined false true net x old new is = is
joined false false net x old new is = is

dealt_from-push : (place workers hand x : ℕ) (nets : List ℕ) →
    dealt_from place workers hand (nets ++ x ∷ [])
    ≡ (if (place + length nets) % workers == hand then dealt_from place workers hand nets ++ x ∷ [] else dealt_from place workers hand nets)
dealt_from-push place workers hand x [] =
    let same : place ≡ place + 0 = omega arith in
    ap (λ (n : ℕ). if n % workers == hand then x ∷ [] else []) same
dealt_from-push place workers hand x (net ∷ nets) =
    let next : suc place + length nets ≡ place + suc (length nets) = omega arith in
    joined (place % workers == hand) ((place + suc (length nets)) % workers == hand) net x (dealt_from (suc place) workers hand nets) (dealt_from (suc place) workers hand (nets ++ x ∷ []))
    (dealt_from-push (suc place) workers hand x nets
    ∙ ap (λ (n : ℕ). if n % workers == hand then dealt_from (suc place) workers hand nets ++ x ∷ [] else dealt_from (suc place) workers hand nets) next)

-- one net more goes into one deque
dealt-here : (workers x : ℕ) (nets : List ℕ) → dealt workers (nets ++ x ∷ []) (length nets % workers) ≡ dealt workers nets (length nets % workers) ++ x ∷ []
dealt-here workers x nets =
    let hand = length nets % workers in
    dealt_from-push 0 workers hand x nets
    ∙ ap (λ (b : Bool). if b then dealt workers nets hand ++ x ∷ [] else dealt workers nets hand) (eq-eqb ((0 + length nets) % workers) hand (ap (λ (n : ℕ). n % workers) (omega arith)))

dealt-else : (workers x hand : ℕ) (nets : List ℕ) → hand ≢ length nets % workers → dealt workers (nets ++ x ∷ []) hand ≡ dealt workers nets hand
dealt-else workers x hand nets apart =
    let same : (0 + length nets) % workers ≡ length nets % workers = ap (λ (n : ℕ). n % workers) (omega arith) in
    dealt_from-push 0 workers hand x nets
    ∙ ap (λ (b : Bool). if b then dealt workers nets hand ++ x ∷ [] else dealt workers nets hand) (ne_eqb ((0 + length nets) % workers) hand (λ e. apart (sym e ∙ same)))

pub length-deals : (workers : ℕ) (nets : List ℕ) → length (deals workers nets) ≡ workers
length-deals workers nets = length-map-range_with_len (dealt workers nets) 0 workers

pub get-deals : (workers hand : ℕ) (nets : List ℕ) → hand < workers → slice_get (deals workers nets) hand ≡ Some (dealt workers nets hand)
get-deals workers hand nets less =
    let long = length-deals workers nets in
    slice_get-get_or (deals workers nets) hand [] (omega (arith, less, long))
    ∙ ap Some (get_or-map-range_with_len (dealt workers nets) 0 workers hand hand [] less (omega arith))

pub dealt-at : (workers hand : ℕ) (nets l : List ℕ) → slice_get (deals workers nets) hand ≡ Some l → dealt workers nets hand ≡ l
dealt-at workers hand nets l there =
    let within = slice_get_within (deals workers nets) hand l there in
    let long = length-deals workers nets in
    same-element (deals workers nets) hand (dealt workers nets hand) l (get-deals workers hand nets (omega (arith, within, long))) there

pub deals-push : (workers x : ℕ) (nets : List ℕ) →
    deals workers (nets ++ x ∷ []) ≡ set (deals workers nets) (length nets % workers) (dealt workers nets (length nets % workers) ++ x ∷ [])
deals-push workers x nets =
    let hand = length nets % workers in
    let more = dealt workers nets hand ++ x ∷ [] in
    let left = length-deals workers (nets ++ x ∷ []) in
    let right = length-set (deals workers nets) hand more in
    let old = length-deals workers nets in
    same-lists (deals workers (nets ++ x ∷ [])) (set (deals workers nets) hand more) (omega (arith, left, right, old))
    (λ at l m new there.
    let is = dealt-at workers at (nets ++ x ∷ []) l new in
    ⊎_elim
    (λ (here : (at ≡ hand) × (more ≡ m)). sym is ∙ ap (λ (n : ℕ). dealt workers (nets ++ x ∷ []) n) here.0 ∙ dealt-here workers x nets ∙ here.1)
    (λ (apart : (at ≢ hand) × (slice_get (deals workers nets) at ≡ Some m)). sym is ∙ dealt-else workers x at nets apart.0 ∙ dealt-at workers at nets m apart.1)
    (get-set (deals workers nets) hand at more m there))

deals-none : (test : ℕ → Bool) (workers : ℕ) → sum_by (λ (l : List ℕ). count_by test l) (deals workers []) ≡ 0
deals-none test workers =
    sum-none (λ (l : List ℕ). count_by test l) (deals workers [])
    (λ at l there. let was = get-unmap (dealt workers []) (range_with_len 0 workers) at l there in ap (λ (m : List ℕ). count_by test m) (sym was.2))

-- the deques have the nets, each as often as it was shared
deals-take : (test : ℕ → Bool) (workers : ℕ) (nets : List ℕ) → 0 < workers → (k : ℕ) → k ≤ length nets → sum_by (λ (l : List ℕ). count_by test l) (deals workers (take k nets)) ≡ count_by test (take k nets)
deals-take test workers nets some zero most = deals-none test workers
deals-take test workers nets some (suc k) most =
    let old = take k nets in
    let x = get_or nets k 0 in
    let hand = length old % workers in
    let next : suc k ≡ k + 1 = omega arith in
    let more : take (suc k) nets ≡ old ++ x ∷ [] = ap (λ (n : ℕ). take n nets) next ∙ take_more nets k 0 (omega (arith, most)) in
    let before = deals-take test workers nets some k (omega (arith, most)) in
    let change = sum-replaced (λ (l : List ℕ). count_by test l) (deals workers old) hand (dealt workers old hand) (dealt workers old hand ++ x ∷ []) (get-deals workers hand old (mod_below (length old) workers some)) in
    let push = ap (λ (l : List (List ℕ)). sum_by (λ (m : List ℕ). count_by test m) l) (deals-push workers x old) in
    let one = count-append test (dealt workers old hand) (x ∷ []) in
    let all = count-append test old (x ∷ []) in
    ap (λ (l : List ℕ). sum_by (λ (m : List ℕ). count_by test m) (deals workers l)) more
    ∙ push
    ∙ omega (arith, before, change, one, all)
    ∙ ap (λ (l : List ℕ). count_by test l) (sym more)

pub deals-count : (test : ℕ → Bool) (workers : ℕ) (nets : List ℕ) → 0 < workers → sum_by (λ (l : List ℕ). count_by test l) (deals workers nets) ≡ count_by test nets
deals-count test workers nets some =
    let all : take (length nets) nets ≡ nets = take_all (length nets) nets (omega arith) in
    ap (λ (l : List ℕ). sum_by (λ (m : List ℕ). count_by test m) (deals workers l)) (sym all)
    ∙ deals-take test workers nets some (length nets) (omega arith)
    ∙ ap (λ (l : List ℕ). count_by test l) all

pub deals-length : (workers : ℕ) (nets : List ℕ) → 0 < workers → sum_by (λ (l : List ℕ). length l) (deals workers nets) ≡ length nets
deals-length workers nets some =
    sum-equal (λ (l : List ℕ). length l) (λ (l : List ℕ). count_by (λ n. true) l) (deals workers nets) (λ l. sym (count-all l))
    ∙ deals-count (λ n. true) workers nets some
    ∙ count-all nets
