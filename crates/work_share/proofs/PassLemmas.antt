-- A hand whose pass of another deque took a step.
use Rattle.std.proofs.Common.{◌≡◌, ◌≢◌, ℕ, ◌+◌, ◌<◌, ◌⊎◌, List, [], ◌∷◌, ◌++◌, length, set, map, All, Some, slice_get, slice_index, sym, ap, subst, ◌∙◌}
use Rattle.std.proofs.lemmas.List.{map-set}
use Rattle.std.proofs.lemmas.List.Elements.{All-set}
use Rattle.std.proofs.lemmas.Option.{get_or_from_slice_get}
use Rattle.crossbeam_deque.specs.Handles.{view, taken, SamePass}
use Rattle.work_share.specs.Accounts.{HasTaken, WasEmpty}
use Rattle.work_share.specs.HandStore.{Owner, Pass, known_by, seen_in, IsBare, IsHand, put_length}
use Rattle.work_share.specs.HandSteps.{with_account, with_other, with_left, TakesFrom, FindsNone}
use Rattle.work_share.specs.Views.{Known}
use Rattle.work_share.specs.declared.account.Account.{Account}
use Rattle.work_share.proofs.HandLemmas.{other-step, other-fits, other-room, left-step}
use Rattle.work_share.proofs.Places.{get-map, set-here, set-same, same-element}

-- the pass is of the same deque as before
stepped : (p q : Pass) → SamePass p q → known_by q ≡ with_account (known_by p) (view q)
stepped p q same = λ i. record { deque = (same.0 i, same.1 i); account = view q }

pub seen-taken : (number : ℕ) (own : Owner) (passes : List Pass) (nets : List ℕ) (place net : ℕ) (p q : Pass) → SamePass p q →
    seen_in number own (set passes place q) (nets ++ net ∷ [])
    ≡ with_other (seen_in number own passes nets) place (with_account (known_by p) (view q)) (taken q) net
seen-taken number own passes nets place net p q same =
    let others = map-set known_by passes place q ∙ ap (λ (k : Known). set (map known_by passes) place k) (stepped p q same) in
    let left = map-set taken passes place q in
    λ i. record { number = number; taken = nets ++ net ∷ []; own = (seen_in number own passes nets).own; others = others i; left = left i }

pub seen-left : (number : ℕ) (own : Owner) (passes : List Pass) (nets : List ℕ) (place : ℕ) (p q : Pass) → slice_get passes place ≡ Some p → SamePass p q → view q ≡ view p →
    seen_in number own (set passes place q) nets ≡ with_left (seen_in number own passes nets) (set (map taken passes) place (taken q))
seen-left number own passes nets place p q there same kept =
    let known : known_by q ≡ known_by p = stepped p q same ∙ (λ i. record { deque = (p.rows, p.heap); account = kept i }) in
    let others = map-set known_by passes place q ∙ ap (λ (k : Known). set (map known_by passes) place k) known ∙ set-same (map known_by passes) place (known_by p) (get-map known_by passes place p there) in
    let left = map-set taken passes place q in
    λ i. record { number = number; taken = nets; own = (seen_in number own passes nets).own; others = others i; left = left i }

pub bare-step : (passes : List Pass) (place : ℕ) (p q : Pass) → SamePass p q → All IsBare passes → All IsBare (set passes place q)
bare-step passes place p q same bare = All-set IsBare passes place q (same.3, same.4) bare

pub takes-from : (number : ℕ) (own : Owner) (passes : List Pass) (nets : List ℕ) (place net : ℕ) (p q : Pass) → slice_get passes place ≡ Some p → SamePass p q → HasTaken (view p) (net ∷ []) (view q) →
    TakesFrom place (seen_in number own passes nets) net (seen_in number own (set passes place q) (nets ++ net ∷ []))
takes-from number own passes nets place net p q there same took = record {
  k = known_by p;
  there = get-map known_by passes place p there;
  account = view q;
  took = took;
  count = taken q;
  new_is = seen-taken number own passes nets place net p q same;
}

pub finds-none : (number : ℕ) (own : Owner) (passes : List Pass) (nets : List ℕ) (place tries : ℕ) (p q : Pass) → slice_get passes place ≡ Some p → SamePass p q → view q ≡ view p → WasEmpty (view p) ⊎ (taken p + tries < taken q) →
    FindsNone place tries (seen_in number own passes nets) (seen_in number own (set passes place q) nets)
finds-none number own passes nets place tries p q there same kept done = record {
  count = taken q;
  new_is = seen-left number own passes nets place p q there same kept;
  done = λ k here.
      let is : known_by p ≡ k = same-element (map known_by passes) place (known_by p) k (get-map known_by passes place p there) here in
      let count : slice_index (map taken passes) place ≡ taken p = get_or_from_slice_get (map taken passes) place (taken p) 0 (get-map taken passes place p there) in
      let new : slice_index (map taken (set passes place q)) place ≡ taken q =
      get_or_from_slice_get (map taken (set passes place q)) place (taken q) 0 (get-map taken (set passes place q) place q (set-here passes place p q there)) in
      subst (λ (x : Account × ℕ × ℕ). WasEmpty x.0 ⊎ (x.1 + tries < x.2)) (λ i. ((ap (λ (x : Known). x.account) is) i, sym count i, sym new i)) done;
}

-- the hand is one as before
pub keeps-taken : (number : ℕ) (own : Owner) (passes : List Pass) (nets : List ℕ) (place net : ℕ) (p q : Pass) → IsHand (seen_in number own passes nets) → place ≢ number → slice_get passes place ≡ Some p → SamePass p q → HasTaken (view p) (net ∷ []) (view q) →
    IsHand (seen_in number own (set passes place q) (nets ++ net ∷ []))
    × (put_length (seen_in number own (set passes place q) (nets ++ net ∷ [])) ≡ put_length (seen_in number own passes nets))
    × (length nets < put_length (seen_in number own passes nets))
keeps-taken number own passes nets place net p q is apart there same took =
    let h = seen_in number own passes nets in
    let k = known_by p in
    let at = get-map known_by passes place p there in
    let new = seen-taken number own passes nets place net p q same in (
      subst IsHand (sym new) (other-step h place k (view q) (taken q) net is apart at took),
      ap put_length new ∙ other-room h place k (view q) (taken q) net at took,
      other-fits h place k (view q) net is at took,
    )

pub keeps-left : (number : ℕ) (own : Owner) (passes : List Pass) (nets : List ℕ) (place : ℕ) (p q : Pass) → IsHand (seen_in number own passes nets) → slice_get passes place ≡ Some p → SamePass p q → view q ≡ view p →
    IsHand (seen_in number own (set passes place q) nets)
    × (put_length (seen_in number own (set passes place q) nets) ≡ put_length (seen_in number own passes nets))
keeps-left number own passes nets place p q is there same kept =
    let new = seen-left number own passes nets place p q there same kept in
    (subst IsHand (sym new) (left-step (seen_in number own passes nets) (set (map taken passes) place (taken q)) is), ap put_length new)
