-- Hands that are made one after another.
use Rattle.std.proofs.Common.{◌≡◌, ℕ, ◌+◌, ◌≤◌, List, [], ◌∷◌, ◌++◌, length, length-append, drop, map, Some, slice_get, sym, refl, ap, subst, ◌∙◌, arith}
use Rattle.std.specs.Global.{Vec}
use Rattle.std.proofs.lemmas.List.{length-map, length-drop}
use Rattle.crossbeam_deque.specs.Handles.{worker_deque}
use Rattle.work_share.specs.Dealt.{deals}
use Rattle.work_share.specs.HandStore.{Owner, Pass}
use Rattle.work_share.specs.Owners.{stock_of, put_by, cuts_after, AreCut, AreRows}
use Rattle.work_share.specs.Views.{DequeName, ShareView, HandView, share_of, IsNewHand, AreNewHands, IsDealt}
use Rattle.work_share.proofs.NewHands.{HasParts}
use Rattle.work_share.proofs.HandLists.{new-are}
use Rattle.work_share.proofs.Places.{all-from, each-push, get-drop}
use Rattle.work_share.proofs.RowLemmas.{length-stocks, same-deques}

-- what holds while hands are made: those before a number are, of the owners and rows that don't remain
pub record IsMaking (nets : List ℕ) (owners : List Owner) (rows : List (Vec Pass)) (number : ℕ) (owners_left : List Owner)
    (rows_left : List (Vec Pass)) (hands : List HandView) : Type 0 where
  pub owners_are : drop number owners ≡ owners_left
  pub rows_are : drop number rows ≡ rows_left
  pub most : number ≤ length owners
  pub count : length hands ≡ number
  pub each : (at : ℕ) (h : HandView) → slice_get hands at ≡ Some h → IsNewHand (share_of nets (map worker_deque owners)) at h

pub making-first : (nets : List ℕ) (owners : List Owner) (rows : List (Vec Pass)) → IsMaking nets owners rows 0 owners rows []
making-first nets owners rows =
    record { owners_are = refl; rows_are = refl; most = omega arith; count = refl; each = λ at h there. absurd (cc (there)) }

-- the next hand has its parts
pub making-parts : (nets : List ℕ) (owners owners_left : List Owner) (rows rows_left : List (Vec Pass)) (number : ℕ) (own : Owner) (row : Vec Pass) (hands : List HandView) → IsMaking nets owners rows number (own ∷ owners_left) (row ∷ rows_left) hands →
    length owners ≤ 16 → AreCut (cuts_after (length owners)) owners → AreRows (map stock_of owners) rows → map put_by owners ≡ deals (length owners) nets → HasParts nets owners number own row.items
making-parts nets owners owners_left rows rows_left number own row hands is few cut made put =
    let here = get-drop owners owners_left number own is.owners_are in
    let there = get-drop rows rows_left number row is.rows_are in
    record { few = few; cut = cut; row = made.each number row there.0; put = put; own_is = here.0 }

-- one more hand was made
pub making-more : (nets : List ℕ) (owners owners_left : List Owner) (rows rows_left : List (Vec Pass)) (number : ℕ) (own : Owner) (row : Vec Pass) (hands : List HandView) (h : HandView) → IsMaking nets owners rows number (own ∷ owners_left) (row ∷ rows_left) hands →
    IsNewHand (share_of nets (map worker_deque owners)) number h → IsMaking nets owners rows (number + 1) owners_left rows_left (hands ++ h ∷ [])
making-more nets owners owners_left rows rows_left number own row hands h is new =
    let here = get-drop owners owners_left number own is.owners_are in
    let there = get-drop rows rows_left number row is.rows_are in
    let more = length-append hands (h ∷ []) in
    let count = is.count in
    let left = ap (λ (l : List Owner). length l) is.owners_are in
    let long = length-drop number owners in
    record {
      owners_are = here.1;
      rows_are = there.1;
      most = omega (arith, left, long);
      count = omega (arith, more, count);
      each = each-push (IsNewHand (share_of nets (map worker_deque owners))) hands h is.each
          (subst (λ (n : ℕ). IsNewHand (share_of nets (map worker_deque owners)) n h) (sym count) new);
    }

-- no owner remains
pub making-last : (nets : List ℕ) (owners owners_left : List Owner) (rows rows_left : List (Vec Pass)) (number : ℕ) (hands : List HandView) → IsMaking nets owners rows number owners_left rows_left hands → length owners_left ≡ 0 → AreNewHands (share_of nets (map worker_deque owners)) hands
making-last nets owners owners_left rows rows_left number hands is none =
    let left = ap (λ (l : List Owner). length l) is.owners_are in
    let long = length-drop number owners in
    let names = length-map owners worker_deque in
    let count = is.count in
    let most = is.most in
    record { count = omega (arith, left, long, none, names, count, most); each = is.each }

-- there are as many rows as owners
pub making-both : (nets : List ℕ) (owners owners_left : List Owner) (rows rows_left : List (Vec Pass)) (number : ℕ) (own : Owner) (hands : List HandView) → IsMaking nets owners rows number (own ∷ owners_left) rows_left hands → AreRows (map stock_of owners) rows → length rows_left ≡ 0 → ⊥
making-both nets owners owners_left rows rows_left number own hands is made none =
    let here = ap (λ (l : List Owner). length l) is.owners_are in
    let there = ap (λ (l : List (Vec Pass)). length l) is.rows_are in
    let long = length-drop number owners in
    let rows-long = length-drop number rows in
    let count = made.count in
    let stocks = length-map owners stock_of in
    omega (arith, here, there, long, rows-long, count, stocks, none)

-- the nets are shared by the thieves of these owners' deques
pub dealt-all : {T : Type 0} (name : T → DequeName) (nets stored : List ℕ) (workers : ℕ) (thieves : List T) (before owners : List Owner) (hands : List HandView) → stored ≡ nets → length before ≡ workers → map name thieves ≡ map worker_deque before → map stock_of owners ≡ map stock_of before → AreNewHands (share_of nets (map worker_deque owners)) hands → IsDealt nets workers record { nets = stored; workers = length thieves; deques = map name thieves } hands
dealt-all name nets stored workers thieves before owners hands same-nets count names same new =
    let deques : map worker_deque owners ≡ map name thieves = sym (names ∙ same-deques before owners same) in
    let many : length (map worker_deque owners) ≡ length thieves = ap (λ (l : List DequeName). length l) deques ∙ length-map thieves name in
    let one = length-map owners worker_deque in
    let other = length-stocks before owners same in
    let hands-are = subst (λ (s : ShareView). AreNewHands s hands) (λ i. record { nets = sym same-nets i; workers = many i; deques = deques i }) new in
    record {
      nets_are = same-nets;
      workers_are = omega (arith, many, one, other, count);
      hands_are = new-are record { nets = stored; workers = length thieves; deques = map name thieves } hands hands-are;
      taken_are = all-from (λ (h : HandView). h.taken ≡ []) hands (λ at h there. (hands-are.each at h there).taken_is);
    }
