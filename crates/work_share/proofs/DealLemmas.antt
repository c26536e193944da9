-- Owners of deques into which nets are put.
use Rattle.std.proofs.Common.{◌≡◌, ℕ, ◌+◌, ◌%◌, ◌<◌, List, [], ◌∷◌, ◌++◌, length, length-set, set, get_or, take, map, All, Some, slice_get, sym, refl, ap, ◌∙◌, arith}
use Rattle.std.proofs.lemmas.List.{map-set, length-map, length-take, take_more}
use Rattle.std.proofs.lemmas.Nat.{mod_below}
use Rattle.crossbeam_deque.specs.Handles.{SameWorker, worker_view}
use Rattle.work_share.specs.Accounts.{with_put}
use Rattle.work_share.specs.Dealt.{dealt, deals}
use Rattle.work_share.specs.HandStore.{Owner}
use Rattle.work_share.specs.Owners.{put_by, no_cuts, IsFresh, IsCut, AreCut}
use Rattle.work_share.specs.declared.account.Account.{Account}
use Rattle.work_share.proofs.DealtLemmas.{length-deals, get-deals, deals-push}
use Rattle.work_share.proofs.Places.{all-at, each-set, get-map, get-read, get-unmap, same-element, same-lists}

fresh-is : (o : Owner) → IsFresh o → IsCut 0 o
fresh-is o fresh =
    let view = fresh.1 in
    record {
      fifo = fresh.0;
      parts = (let parts = ap (λ (a : Account). a.parts) view in omega (arith, parts));
      taken = ap (λ (a : Account). a.taken) view;
      alone = λ none. ap (λ (a : Account). a.alone) view;
    }

pub fresh-cut : (owners : List Owner) → All IsFresh owners → AreCut no_cuts owners
fresh-cut owners fresh at o there = fresh-is o (all-at IsFresh owners at o there fresh)

pub fresh-put : (owners : List Owner) → All IsFresh owners → map put_by owners ≡ deals (length owners) []
fresh-put owners fresh =
    let left = length-map owners put_by in
    let right = length-deals (length owners) [] in
    same-lists (map put_by owners) (deals (length owners) []) (omega (arith, left, right))
    (λ at l m one other.
    let o = get-unmap put_by owners at l one in
    let view = (all-at IsFresh owners at o.0 o.1 fresh).1 in
    let d = get-unmap (dealt (length owners) []) _ at m other in
    sym o.2 ∙ ap (λ (a : Account). a.put) view ∙ d.2)

put-is : (o new : Owner) (net : ℕ) → IsCut 0 o → SameWorker o new → worker_view new ≡ with_put (worker_view o) (net ∷ []) → IsCut 0 new
put-is o new net is same view = record {
  fifo = same.1 ∙ is.fifo;
  parts = ap (λ (a : Account). a.parts + 0) view ∙ is.parts;
  taken = ap (λ (a : Account). a.taken) view ∙ is.taken;
  alone = λ none. ap (λ (a : Account). a.alone) view ∙ is.alone none;
}

-- what holds while nets are put in: so many were
pub record IsDealing (workers : ℕ) (nets : List ℕ) (count : ℕ) (owners : List Owner) : Type 0 where
  pub long : length owners ≡ workers
  pub cut : AreCut no_cuts owners
  pub put : map put_by owners ≡ deals workers (take count nets)

pub dealing-first : (nets : List ℕ) (owners : List Owner) → All IsFresh owners → IsDealing (length owners) nets 0 owners
dealing-first nets owners fresh = record { long = refl; cut = fresh-cut owners fresh; put = fresh-put owners fresh }

pub dealing-whole : (nets : List ℕ) (owners : List Owner) (at : ℕ) (o : Owner) → AreCut no_cuts owners → at < length owners → o ≡ get_or owners at o → (worker_view o).parts ≡ 1024
dealing-whole nets owners at o cut less is = (let parts = (cut at o (get-read owners at o less is)).parts in omega (arith, parts))

pub dealing-more : (workers : ℕ) (nets : List ℕ) (count hand : ℕ) (owners : List Owner) (o new : Owner) (net : ℕ) → IsDealing workers nets count owners → 0 < workers → count < length nets → net ≡ get_or nets count 0 → hand ≡ count % workers → o ≡ get_or owners hand o → SameWorker o new → worker_view new ≡ with_put (worker_view o) (net ∷ []) → IsDealing workers nets (count + 1) (set owners hand new)
dealing-more workers nets count hand owners o new net is some less net-is hand-is o-is same view =
    let long = is.long in
    let below = mod_below count workers some in
    let within : hand < length owners = omega (arith, long, below, hand-is) in
    let there : slice_get owners hand ≡ Some o = get-read owners hand o within o-is in
    let cut = is.cut hand o there in
    let old = take count nets in
    let count-is : length old ≡ count = length-take-most nets count less in
    let hand-too : length old % workers ≡ hand = ap (λ (n : ℕ). n % workers) count-is ∙ sym hand-is in
    let put : put_by o ≡ dealt workers old hand =
    same-element (deals workers old) hand (put_by o) (dealt workers old hand)
    (ap (λ (l : List (List ℕ)). slice_get l hand) (sym is.put) ∙ get-map put_by owners hand o there)
    (get-deals workers hand old (omega (arith, hand-is, below))) in
    record {
      long = length-set owners hand new ∙ is.long;
      cut = each-set (λ at x. IsCut 0 x) (λ at x. IsCut 0 x) owners hand new is.cut (put-is o new net cut same view) (λ at x apart kept. kept);
      put = map-set put_by owners hand new
          ∙ (λ i. set (is.put i) hand ((ap (λ (a : Account). a.put) view ∙ ap (λ (l : List ℕ). l ++ net ∷ []) put) i))
          ∙ ap (λ (n : ℕ). set (deals workers old) n (dealt workers old n ++ net ∷ [])) (sym hand-too)
          ∙ sym (deals-push workers net old)
          ∙ ap (λ (l : List ℕ). deals workers l) (ap (λ (n : ℕ). old ++ n ∷ []) net-is ∙ sym (take_more nets count 0 less));
    }
  where
    length-take-most : (xs : List ℕ) (n : ℕ) → n < length xs → length (take n xs) ≡ n
    length-take-most xs n short = (let long = length-take n xs in omega (arith, long, short))
