-- The first mark of rounds that begin from given trees, and the mark that is chosen.
use Rattle.std.proofs.Common.{◌≡◌, ℕ, suc, ◌+◌, ◌-◌, ◌≤◌, inl, inr, true, false, nat_le, List, [], ◌∷◌, ◌++◌, length, get_or, take, All, Option, Some, None, slice_get, refl, sym, ap, ◌∙◌, arith}
use Rattle.std.specs.List.{position}
use Rattle.std.specs.Option.{option_map}
use Rattle.std.proofs.Math.Path.{fun_ext}
use Rattle.std.proofs.lemmas.Bool.{cases_Bool, cases_lt, both_ways}
use Rattle.std.proofs.lemmas.Bool.Decides.{nat_tests}
use Rattle.std.proofs.lemmas.List.{take_at}
use Rattle.std.proofs.lemmas.List.Elements.{All-append, All-weaker}
use Rattle.std.proofs.lemmas.List.Folds.{list_all_at}
use Rattle.std.proofs.lemmas.List.Quantifiers.{position-Some}
use Rattle.std.proofs.lemmas.Option.{none-some, same_Some, slice_get_within, get_or_from_slice_get, slice_get-get_or}
use Rattle.gr_base.specs.Designs.{DesignView}
use Rattle.gr_base.specs.Sums.{total_overflow}
use Rattle.gr_base.specs.Trees.{TreeView}
use Rattle.gr_base.specs.declared.grid.Edge.{Edge}
use Rattle.grid_demand.specs.Tables.{CapacityView, capacity_at}
use Rattle.book_state.proofs.BookingLaws.{mark-demand}
use Rattle.book_state.proofs.HistoryLists.{slice_get-left, slice_get-right}
use Rattle.book_state.proofs.ReplicaSteps.{booked-mark, take-entry}
use Rattle.book_state.specs.Books.{booked, overflow_after, reply_to, IsLegal}
use Rattle.book_state.specs.Entries.{is_mark, is_mark_call}
use Rattle.book_state.specs.Marks.{overflow_in, overflow_of, is_at_most, is_least_in, is_least_mark, least_mark}
use Rattle.book_state.specs.declared.entry.Call.{Call}
use Rattle.book_state.specs.declared.entry.Call.TheVariants.{Claim as Claims, Release, Mark}
use Rattle.book_state.specs.declared.entry.Entry.{Entry}
use Rattle.run_histories.proofs.GivenLemmas.{IsOfGiven, among-all, each-all, given-no_mark}
use Rattle.run_histories.proofs.StandLemmas.{least-call}
use Rattle.run_histories.specs.GivenRoutes.{given_claims, given_to, is_open}
use Rattle.given_laws.proofs.OpenClaims.{AreGridTrees, BeginsOpen, IsGridTree, IsOpenClaim, claim-unmarked, firsts-grid, firsts-kept}

-- the first mark of a history, before which each net that isn't open is booked by the tree that it is given, if any
pub record IsFirstMark (d : DesignView) (given : List (Option TreeView)) (rounds : ℕ) (h : List Entry) (place : ℕ) : Type 0 where
  pub mark : Entry
  pub there : slice_get h place ≡ Some mark
  pub marked : is_mark mark ≡ true
  pub first : (p : ℕ) (e : Entry) → slice_get h p ≡ Some e → is_mark e ≡ true → place ≤ p
  pub alone : rounds ≡ 0 → (p : ℕ) (e : Entry) → slice_get h p ≡ Some e → is_mark e ≡ true → p ≡ place
  pub kept : (net : ℕ) → is_open d given net ≡ false → booked (take place h) net ≡ given_to d given net
  pub trees : AreGridTrees d given → (net : ℕ) (t : TreeView) → booked (take place h) net ≡ Some t → IsGridTree d t

abbrev IsUnmarked : Entry → Type 0
IsUnmarked e = is_mark e ≡ false

module _ (d : DesignView) (given : List (Option TreeView)) (rounds : ℕ) (h : List Entry) (begins : BeginsOpen d given rounds h) where
  abbrev before : List Entry
  before = given_claims d given ++ begins.firsts

  unmarked : All IsUnmarked before
  unmarked =
      All-append IsUnmarked (given_claims d given) begins.firsts
      (All-weaker IsOfGiven IsUnmarked given-no_mark (given_claims d given) (among-all d given (length d.nets)))
      (All-weaker (IsOpenClaim d given) IsUnmarked (claim-unmarked d given) begins.firsts begins.open_claims)

  not-before : (p : ℕ) (e : Entry) → slice_get h p ≡ Some e → is_mark e ≡ true → length before ≤ p
  not-before p e there mark = elim (cases_lt p (length before)) [
    | inl below ↦
        let here : slice_get before p ≡ Some e =
        sym (slice_get-left before (begins.mark ∷ begins.rest) p below) ∙ ap (λ (k : List Entry). slice_get k p) (sym begins.history_is) ∙ there in
        absurd (both_ways (is_mark e) (each-all IsUnmarked before unmarked p e here) mark)
    | inr past ↦ past
  ]

  only-here : rounds ≡ 0 → (p : ℕ) (e : Entry) → slice_get h p ≡ Some e → is_mark e ≡ true → p ≡ length before
  only-here none p e there mark = elim (cases_lt (length before) p) [
    | inl behind ↦
        let j : ℕ = p - length before - 1 in
        let here : slice_get begins.rest j ≡ Some e =
        sym (slice_get-right before (begins.mark ∷ begins.rest) p (suc j) (omega (arith, behind))) ∙ ap (λ (k : List Entry). slice_get k p) (sym begins.history_is) ∙ there in
        absurd (both_ways (is_mark e) (each-all IsUnmarked begins.rest (begins.alone none) j e here) mark)
    | inr most ↦ (let least = not-before p e there mark in omega (arith, most, least))
  ]

  taken : take (length before) h ≡ before
  taken = ap (λ (k : List Entry). take (length before) k) begins.history_is ∙ take_at before (begins.mark ∷ begins.rest) (length before) refl

  pub first-mark : (place : ℕ) × IsFirstMark d given rounds h place
  first-mark = (
    length before,
    record {
      mark = begins.mark;
      there = ap (λ (k : List Entry). slice_get k (length before)) begins.history_is ∙ slice_get-right before (begins.mark ∷ begins.rest) (length before) 0 (omega arith);
      marked = begins.marked;
      first = not-before;
      alone = only-here;
      kept = λ net shut. ap (λ (k : List Entry). booked k net) taken ∙ firsts-kept d given begins.firsts net begins.open_claims shut;
      trees = λ fits net t is. firsts-grid d given begins.firsts net begins.open_claims fits t (ap (λ (k : List Entry). booked k net) (sym taken) ∙ is);
    },
  )

-- ---- the chosen mark

mark-call : (call : Call) → is_mark_call call ≡ true → call ≡ Mark
mark-call Mark is = refl
mark-call (Claims claim) is = absurd (both_ways false refl is)
mark-call (Release net) is = absurd (both_ways false refl is)

-- the first entry that is a mark of least overflow
pub record IsChosen (h : List Entry) (place : ℕ) (e : Entry) : Type 0 where
  pub there : slice_get h place ≡ Some e
  pub least : is_least_mark h e ≡ true
  pub first : (k : ℕ) (x : Entry) → slice_get h k ≡ Some x → is_least_mark h x ≡ true → place ≤ k

chosen-place : (h : List Entry) (front : ℕ) → least_mark h ≡ Some front → (place : ℕ) × (e : Entry) × (front ≡ place + 1) × IsChosen h place e
chosen-place [] front is = absurd (none-some front is)
chosen-place (y ∷ ys) front is = by (position (is_least_mark (y ∷ ys)) (y ∷ ys)) refl is
  where
    h : List Entry
    h = y ∷ ys

    by : (o : Option ℕ) → position (is_least_mark h) h ≡ o → option_map (λ (place : ℕ). place + 1) o ≡ Some front → (place : ℕ) × (e : Entry) × (front ≡ place + 1) × IsChosen h place e
    by None found said = absurd (none-some front said)
    by (Some place) found said =
        let at = position-Some (is_least_mark h) h place y found in (
          place,
          get_or h place y,
          sym (same_Some (place + 1) front said),
          record {
            there = slice_get-get_or h place y at.0;
            least = at.1;
            first = λ k x there least. elim (cases_lt k place) [
              | inl below ↦
                  absurd (both_ways (is_least_mark h x) (ap (is_least_mark h) (sym (get_or_from_slice_get h k x y there)) ∙ at.2 k below) least)
              | inr past ↦ past
            ];
          },
        )

-- at the chosen mark overflow is at most that at the first one, and where it is as much the same trees are booked
pub record IsNoMore (c : CapacityView) (h : List Entry) (chosen place : ℕ) : Type 0 where
  pub total : overflow_after c (take chosen h) ≤ overflow_after c (take place h)
  pub same : overflow_after c (take chosen h) ≡ overflow_after c (take place h) → (net : ℕ) → booked (take chosen h) net ≡ booked (take place h) net

module _ (c : CapacityView) (h : List Entry) (legal : IsLegal c h) where
  -- a mark is answered with the overflow before it
  marked-overflow : (p : ℕ) (e : Entry) → slice_get h p ≡ Some e → e.call ≡ Mark → overflow_of e ≡ Some (overflow_after c (take p h))
  marked-overflow p e there call =
      ap overflow_in ((legal.right p e there).reply ∙ ap (λ (x : Call). reply_to c (take p h) x) call)

  -- a mark of least overflow has no more than any other mark
  least-most : (o n : ℕ) (k : ℕ) (x : Entry) → is_least_in h (Some o) ≡ true → slice_get h k ≡ Some x → overflow_of x ≡ Some n → o ≤ n
  least-most o n k x least there is =
      let within = slice_get_within h k x there in
      let at : get_or h k x ≡ x = get_or_from_slice_get h k x x there in
      elim (cases_Bool (nat_le o n)) [
        | inl most ↦ grind (arith, nat_tests)
        | inr over ↦
            let test : is_at_most o (overflow_of (get_or h k x)) ≡ false = ap (λ (y : Entry). is_at_most o (overflow_of y)) at ∙ ap (is_at_most o) is ∙ over in
            absurd (both_ways (is_least_in h (Some o)) (list_all_at (λ (y : Entry). is_at_most o (overflow_of y)) h k x within test) least)
      ]

  -- a mark changes neither bookings nor overflow
  past-mark : (p : ℕ) (e : Entry) → slice_get h p ≡ Some e → e.call ≡ Mark → (net : ℕ) → booked (take (p + 1) h) net ≡ booked (take p h) net
  past-mark p e there call net = ap (λ (k : List Entry). booked k net) (take-entry h p e there) ∙ booked-mark (take p h) e net call

  past-overflow : (p : ℕ) (e : Entry) → slice_get h p ≡ Some e → e.call ≡ Mark → overflow_after c (take (p + 1) h) ≡ overflow_after c (take p h)
  past-overflow p e there call =
      ap (overflow_after c) (take-entry h p e there)
      ∙ ap (λ (demands : Edge → ℕ). total_overflow c.shape demands (capacity_at c))
      (fun_ext (λ edge. mark-demand c (take p h) e edge (λ net. booked-mark (take p h) e net call)))

  module _ (chosen : ℕ) (least : least_mark h ≡ Some chosen) where
    abbrev place : ℕ
    place = (chosen-place h chosen least).0

    abbrev mark : Entry
    mark = (chosen-place h chosen least).1

    chosen_is : chosen ≡ place + 1
    chosen_is = (chosen-place h chosen least).2

    is : IsChosen h place mark
    is = (chosen-place h chosen least).3

    call : mark.call ≡ Mark
    call = least-call c h (take place h) mark (legal.right place mark is.there) is.least

    own : overflow_of mark ≡ Some (overflow_after c (take place h))
    own = marked-overflow place mark is.there call

    overflow_is : overflow_after c (take chosen h) ≡ overflow_after c (take place h)
    overflow_is = ap (λ (n : ℕ). overflow_after c (take n h)) chosen_is ∙ past-overflow place mark is.there call

    booked_at : (other : ℕ) → place ≡ other → (net : ℕ) → booked (take chosen h) net ≡ booked (take other h) net
    booked_at other same net =
        ap (λ (n : ℕ). booked (take n h) net) chosen_is ∙ past-mark place mark is.there call net ∙ ap (λ (n : ℕ). booked (take n h) net) same

    -- where there is but one mark it is the chosen one
    pub only-chosen : (other : ℕ) → ((p : ℕ) (e : Entry) → slice_get h p ≡ Some e → is_mark e ≡ true → p ≡ other) →
        (net : ℕ) → booked (take chosen h) net ≡ booked (take other h) net
    only-chosen other alone = booked_at other (alone place mark is.there (ap is_mark_call call))

    pub no-more : (other : ℕ) (e : Entry) → slice_get h other ≡ Some e → is_mark e ≡ true →
        ((p : ℕ) (x : Entry) → slice_get h p ≡ Some x → is_mark x ≡ true → other ≤ p) → IsNoMore c h chosen other
    no-more other e there marked first = record {
      total =
          let most = least-most (overflow_after c (take place h)) (overflow_after c (take other h)) other e least_so there others in
          omega (arith, most, overflow_is);
      same = λ equal.
          let so : overflow_of e ≡ overflow_of mark = others ∙ ap (λ (n : ℕ). Some n) (sym equal ∙ overflow_is) ∙ sym own in
          let before = is.first other e there (ap (is_least_in h) so ∙ is.least) in
          let behind = first place mark is.there (ap is_mark_call call) in
          booked_at other (omega (arith, before, behind));
    }
      where
        others : overflow_of e ≡ Some (overflow_after c (take other h))
        others = marked-overflow other e there (mark-call e.call marked)

        least_so : is_least_in h (Some (overflow_after c (take place h))) ≡ true
        least_so = ap (is_least_in h) (sym own) ∙ is.least
