-- How tracks are freed, taken and opened.
use Rattle.std.proofs.Common.{◌≡◌, ℕ, ◌+◌, ◌<◌, ◌≤◌, inl, inr, Bool, true, false, ◌==◌, nat_lt, cond, List, [], ◌∷◌, ◌++◌, get_or, take, All, Any, count_by, IsTrue, refl, sym, ap, subst, ◌∙◌, arith}
use Rattle.std.specs.List.Sorted.{IsPermutation}
use Rattle.std.proofs.lemmas.Bool.{cases_lt}
use Rattle.std.proofs.lemmas.Bool.Decides.{nat_tests}
use Rattle.std.proofs.lemmas.List.{length-append}
use Rattle.std.proofs.lemmas.List.Elements.{All-cons, All-tail, All-head, All-push, All-weaker, All-nil}
use Rattle.std.proofs.lemmas.List.Quantifiers.{Any-push}
use Rattle.std.proofs.lemmas.List.Sorted.{All-permutation, sum_by-IsPermutation}
use Rattle.std.proofs.lemmas.List.Sums.{sum_by-cons}
use Rattle.std.proofs.lemmas.Option.{slice_get_within}
use Rattle.std.proofs.Math.Seq.{take-append_seam}
use Rattle.std.proofs.lemmas.List.{take-append-le}
use Rattle.gr_base.proofs.DesignLemmas.{get-push}
use Rattle.track_panels.specs.declared.piece.Piece.{Piece}
use Rattle.track_panels.specs.Pieces.{covers}
use Rattle.track_panels.specs.Numberings.{Placed, IsClear, IsLeastClear, IsLeftEdge}
use Rattle.track_panels.specs.declared.open_tracks.OpenTracks.{OpenTracks}
use Rattle.track_panels.specs.OpenTracks.{EndsAt, AreTracks, AreKept, AreOpen, AreBusy, Takes, free_of, busy_of}
use Rattle.track_panels.proofs.ListLemmas.{any-more, any-weaker, any-count, none-count, count-under}

one-if : Bool → ℕ
one-if b = cond b 1 0

-- ---- how often a track stands among the free and the busy ones

count-cons : {X : Type 0} (p : X → Bool) (x : X) (xs : List X) → count_by p (x ∷ xs) ≡ cond (p x) 1 0 + count_by p xs
count-cons {X = X} p x xs = sum_by-cons (λ (y : X). cond (p y) 1 0) x xs

count-permutation : {X : Type 0} (p : X → Bool) (xs ys : List X) → IsPermutation xs ys → count_by p ys ≡ count_by p xs
count-permutation {X = X} p xs ys same = sum_by-IsPermutation (λ (y : X). cond (p y) 1 0) xs ys same

-- ---- a track that ends below the tile goes from the busy ones to the free ones

freed-here : (placed : Placed) (tile opened high track : ℕ) (free free' : List ℕ) (busy busy' : List (ℕ × ℕ)) →
    high < tile → IsPermutation busy ((high, track) ∷ busy') → IsPermutation (track ∷ free) free' →
    AreKept placed tile opened free busy → AreKept placed tile opened free' busy'
freed-here placed tile opened high track free free' busy busy' below out in' kept =
    let ends : All (λ (b : ℕ × ℕ). EndsAt placed b.1 b.0) ((high, track) ∷ busy') = All-permutation (λ b. EndsAt placed b.1 b.0) busy ((high, track) ∷ busy') out kept.ends in
    let most = (All-head (λ (b : ℕ × ℕ). EndsAt placed b.1 b.0) (high, track) busy' ends).most in
    let clear : IsClear tile track placed = All-weaker (λ p. p.1 ≡ track → p.0.high ≤ high) (λ p. p.1 ≡ track → p.0.high < tile) (λ p h is. let l = h is in omega (arith, l, below)) placed most in
    record {
      once = λ other.
          let a = count-permutation (λ (b : ℕ × ℕ). other == b.1) busy ((high, track) ∷ busy') out in
          let b = count-cons (λ (b : ℕ × ℕ). other == b.1) (high, track) busy' in
          let d = count-permutation (λ (t : ℕ). other == t) (track ∷ free) free' in' in
          let e = count-cons (λ (t : ℕ). other == t) track free in
          let f = kept.once other in
          omega (arith, a, b, d, e) ∙ f;
      clear = All-permutation (λ t. IsClear tile t placed) (track ∷ free) free' in' (All-cons (λ t. IsClear tile t placed) track free clear kept.clear);
      ends = All-tail (λ (b : ℕ × ℕ). EndsAt placed b.1 b.0) (high, track) busy' ends;
    }

pub freed : (placed : Placed) (tile opened opened' high track : ℕ) (free mid free' : List ℕ) (busy busy' : List (ℕ × ℕ)) →
    high < tile → opened' ≡ opened → mid ≡ free → IsPermutation busy ((high, track) ∷ busy') → IsPermutation (track ∷ mid) free' →
    AreKept placed tile opened free busy → AreKept placed tile opened' free' busy'
freed placed tile opened opened' high track free mid free' busy busy' below same is out in' kept =
    subst (λ (n : ℕ). AreKept placed tile n free' busy') (sym same)
    (freed-here placed tile opened high track free free' busy busy' below out (subst (λ (ts : List ℕ). IsPermutation (track ∷ ts) free') is in') kept)

-- what is clear below a tile is clear below a greater one
pub risen : (placed : Placed) (before tile opened : ℕ) (free : List ℕ) (busy : List (ℕ × ℕ)) → before ≤ tile →
    AreKept placed before opened free busy → AreKept placed tile opened free busy
risen placed before tile opened free busy up kept = record {
  once = kept.once;
  clear = All-weaker (λ t. IsClear before t placed) (λ t. IsClear tile t placed)
      (λ t clear. All-weaker (λ p. p.1 ≡ t → p.0.high < before) (λ p. p.1 ≡ t → p.0.high < tile) (λ p h is. let l = h is in omega (arith, l, up)) placed clear) free kept.clear;
  ends = kept.ends;
}

-- ---- the track of the next piece is the least that is clear

-- a track that isn't free has a piece that ends at the tile or beyond
module _ (placed : Placed) (tile opened : ℕ) (free : List ℕ) (busy : List (ℕ × ℕ)) (kept : AreKept placed tile opened free busy) (full : All (λ b. tile ≤ b.0) busy) where
  reaches : (other : ℕ) → other < opened → count_by (λ t. other == t) free ≡ 0 → Any (λ p. (p.1 ≡ other) × (tile ≤ p.0.high)) placed
  reaches other open_ none =
      let sum = kept.once other in
      let yes : nat_lt other opened ≡ true = grind (arith, nat_tests, open_) in
      let one : cond {A = ℕ} (nat_lt other opened) 1 0 ≡ 1 = rw yes refl in
      let at = any-count (λ (b : ℕ × ℕ). other == b.1) busy (omega (arith, sum, one, none)) in
      let b = at.1 in
      let is : other ≡ b.1 = grind (arith, nat_tests, at.4) in
      let far : tile ≤ b.0 = subst (λ (c : ℕ × ℕ). tile ≤ c.0) at.3 (full at.0 b at.2) in
      let ends : EndsAt placed b.1 b.0 = subst (λ (c : ℕ × ℕ). EndsAt placed c.1 c.0) at.3 (kept.ends at.0 b at.2) in
      any-weaker (λ (p : Piece × ℕ). (p.1 ≡ b.1) × (p.0.high ≡ b.0)) (λ p. (p.1 ≡ other) × (tile ≤ p.0.high))
      (λ p h. (h.0 ∙ sym is, omega (arith, h.1, far))) placed ends.reached

not-clear : (placed : Placed) (tile track : ℕ) → Any (λ p. (p.1 ≡ track) × (tile ≤ p.0.high)) placed → IsClear tile track placed → ⊥
not-clear placed tile track some clear =
    let below = subst (λ (p : Piece × ℕ). p.1 ≡ track → p.0.high < tile) some.3 (clear some.0 some.1 some.2) some.4.0 in
    omega (arith, below, some.4.1)

-- ---- how one more piece changes what is kept

more-clear : (placed : Placed) (tile track : ℕ) (piece : Piece) (free : List ℕ) → count_by (λ t. track == t) free ≡ 0 →
    All (λ t. IsClear tile t placed) free → All (λ t. IsClear tile t (placed ++ (piece, track) ∷ [])) free
more-clear placed tile track piece free none clear k d inside =
    let t = get_or free k d in
    let off = none-count (λ t. track == t) free none k d inside in
    All-push (λ (p : Piece × ℕ). p.1 ≡ t → p.0.high < tile) placed (piece, track) (clear k d inside)
    (λ is. absurd (grind (arith, nat_tests, is, off)))

more-ends : (placed : Placed) (tile track : ℕ) (piece : Piece) (busy busy' : List (ℕ × ℕ)) → tile < piece.high →
    count_by (λ b. track == b.1) busy ≡ 0 → IsClear tile track placed → IsPermutation ((piece.high, track) ∷ busy) busy' →
    All (λ b. EndsAt placed b.1 b.0) busy → All (λ b. EndsAt (placed ++ (piece, track) ∷ []) b.1 b.0) busy'
more-ends placed tile track piece busy busy' long none clear in' ends =
    let more = placed ++ (piece, track) ∷ [] in
    let new : EndsAt more track piece.high = record {
      most = All-push (λ (p : Piece × ℕ). p.1 ≡ track → p.0.high ≤ piece.high) placed (piece, track)
          (All-weaker (λ p. p.1 ≡ track → p.0.high < tile) (λ p. p.1 ≡ track → p.0.high ≤ piece.high) (λ p h is. let l = h is in omega (arith, l, long)) placed clear)
          (λ is. omega arith);
      reached = Any-push (λ (p : Piece × ℕ). (p.1 ≡ track) × (p.0.high ≡ piece.high)) placed (piece, track) (refl, refl);
    } in
    let old : All (λ b. EndsAt more b.1 b.0) busy = λ k d inside.
    let b = get_or busy k d in
    let off = none-count (λ (b : ℕ × ℕ). track == b.1) busy none k d inside in
    let was = ends k d inside in record {
      most = All-push (λ (p : Piece × ℕ). p.1 ≡ b.1 → p.0.high ≤ b.0) placed (piece, track) was.most (λ is. absurd (grind (arith, nat_tests, is, off)));
      reached = any-more (λ (p : Piece × ℕ). (p.1 ≡ b.1) × (p.0.high ≡ b.0)) placed (piece, track) was.reached;
    } in
    All-permutation (λ b. EndsAt more b.1 b.0) ((piece.high, track) ∷ busy) busy' in' (All-cons (λ b. EndsAt more b.1 b.0) (piece.high, track) busy new old)

-- ---- how it changes the tracks

more-left_edge : (placed : Placed) (piece : Piece) (track : ℕ) → IsLeftEdge placed → IsLeastClear piece.low track placed → IsLeftEdge (placed ++ (piece, track) ∷ [])
more-left_edge placed piece track before least place p at =
    elim (get-push placed (piece, track) p place at) [
      | inl old ↦
          let inside = slice_get_within placed place p old in
          subst (λ (ps : Placed). IsLeastClear p.0.low p.1 ps) (sym (take-append-le place placed ((piece, track) ∷ []) (omega (arith, inside)))) (before place p old)
      | inr new ↦
          let seam : take place (placed ++ (piece, track) ∷ []) ≡ placed = ap (λ (k : ℕ). take k (placed ++ (piece, track) ∷ [])) new.0 ∙ take-append_seam placed ((piece, track) ∷ []) in
          subst (λ (q : Piece × ℕ). IsLeastClear q.0.low q.1 (take place (placed ++ (piece, track) ∷ []))) new.1
          (subst (λ (ps : Placed). IsLeastClear piece.low track ps) (sym seam) least)
    ]

module _ (placed : Placed) (piece : Piece) (tile opened point : ℕ) (up : tile ≤ piece.low) (tracks : AreTracks placed tile opened point) where
  rising-more : (track : ℕ) → All (λ p. p.0.low ≤ piece.low) (placed ++ (piece, track) ∷ [])
  rising-more track =
      All-push (λ (p : Piece × ℕ). p.0.low ≤ piece.low) placed (piece, track)
      (All-weaker (λ (p : Piece × ℕ). p.0.low ≤ tile) (λ p. p.0.low ≤ piece.low) (λ p h. omega (arith, h, up)) placed tracks.rising) (omega arith)

  pub reused : (track : ℕ) → track < opened → IsLeastClear piece.low track placed → AreTracks (placed ++ (piece, track) ∷ []) piece.low opened point
  reused track open_ least =
      let begun = tracks.begun in record {
        left_edge = more-left_edge placed piece track tracks.left_edge least;
        rising = rising-more track;
        below = All-push (λ (p : Piece × ℕ). p.1 < opened) placed (piece, track) tracks.below open_;
        few = let f = tracks.few in omega (arith, f, length-append placed ((piece, track) ∷ []));
        early = All-push (λ (p : Piece × ℕ). p.0.low < point → p.1 + 1 < opened) placed (piece, track) tracks.early (λ low. absurd (omega (arith, low, begun, up)));
        covered = λ other in'. any-more (λ (p : Piece × ℕ). (p.1 ≡ other) × IsTrue (covers point p.0)) placed (piece, track) (tracks.covered other in');
        begun = omega (arith, begun, up);
      }

  pub opened-more : piece.low < piece.high → ((other : ℕ) → other < opened → Any (λ p. (p.1 ≡ other) × (piece.low ≤ p.0.high)) placed) →
      AreTracks (placed ++ (piece, opened) ∷ []) piece.low (opened + 1) piece.low
  opened-more long full = record {
    left_edge = more-left_edge placed piece opened tracks.left_edge (record {
      clear = All-weaker (λ (p : Piece × ℕ). p.1 < opened) (λ p. p.1 ≡ opened → p.0.high < piece.low) (λ p h is. absurd (omega (arith, h, is))) placed tracks.below;
      least = λ other lower. not-clear placed piece.low other (full other lower);
    });
    rising = rising-more opened;
    below = All-push (λ (p : Piece × ℕ). p.1 < opened + 1) placed (piece, opened)
        (All-weaker (λ (p : Piece × ℕ). p.1 < opened) (λ p. p.1 < opened + 1) (λ p h. omega (arith, h)) placed tracks.below) (omega arith);
    few = let f = tracks.few in omega (arith, f, length-append placed ((piece, opened) ∷ []));
    early = All-push (λ (p : Piece × ℕ). p.0.low < piece.low → p.1 + 1 < opened + 1) placed (piece, opened)
        (All-weaker (λ (p : Piece × ℕ). p.1 < opened) (λ p. p.0.low < piece.low → p.1 + 1 < opened + 1) (λ p h low. omega (arith, h)) placed tracks.below)
        (λ low. absurd (omega (arith, low)));
    covered = λ other in'. elim (cases_lt other opened) [
      | inl lower ↦ any-more (λ (p : Piece × ℕ). (p.1 ≡ other) × IsTrue (covers piece.low p.0)) placed (piece, opened) (both other (full other lower))
      | inr same ↦ Any-push (λ (p : Piece × ℕ). (p.1 ≡ other) × IsTrue (covers piece.low p.0)) placed (piece, opened) (omega (arith, in', same), grind (arith, nat_tests, long))
    ];
    begun = omega arith;
  } where
    both : (other : ℕ) → Any (λ p. (p.1 ≡ other) × (piece.low ≤ p.0.high)) placed → Any (λ p. (p.1 ≡ other) × IsTrue (covers piece.low p.0)) placed
    both other some =
        let low = subst (λ (p : Piece × ℕ). p.0.low ≤ tile) some.3 (tracks.rising some.0 some.1 some.2) in
        (some.0, some.1, some.2, some.3, (some.4.0, grind (arith, nat_tests, low, up, some.4.1)))

-- ---- the next piece is placed

next-one : (n opened : ℕ) → cond {A = ℕ} (n == opened) 1 0 + cond (nat_lt n opened) 1 0 ≡ cond (nat_lt n (opened + 1)) 1 0
next-one n opened = grind (arith, nat_tests)

one-if-same : (n : ℕ) → cond {A = ℕ} (n == n) 1 0 ≡ 1
one-if-same n = let same : (n == n) ≡ true = grind (arith, nat_tests) in rw same refl

module _ (placed : Placed) (piece : Piece) (before opened point : ℕ) (free : List ℕ) (busy busy' : List (ℕ × ℕ)) (up : before ≤ piece.low) (long : piece.low < piece.high)
    (tracks : AreTracks placed before opened point) (kept : AreKept placed piece.low opened free busy) (full : All (λ b. piece.low ≤ b.0) busy) where
  placed-reused : (track : ℕ) (free' : List ℕ) → IsPermutation free (track ∷ free') → All (λ t. track ≤ t) free →
      IsPermutation ((piece.high, track) ∷ busy) busy' →
      AreTracks (placed ++ (piece, track) ∷ []) piece.low opened point × AreKept (placed ++ (piece, track) ∷ []) piece.low opened free' busy'
  placed-reused track free' out first in' =
      let clears : All (λ t. IsClear piece.low t placed) (track ∷ free') = All-permutation (λ t. IsClear piece.low t placed) free (track ∷ free') out kept.clear in
      let clear = All-head (λ t. IsClear piece.low t placed) track free' clears in
      let frees : (other : ℕ) → cond (other == track) 1 0 + count_by (λ t. other == t) free' ≡ count_by (λ t. other == t) free =
      λ other. sym (count-cons (λ t. other == t) track free') ∙ count-permutation (λ t. other == t) free (track ∷ free') out in
      let sum = kept.once track in
      let one = one-if-same track in
      let here = frees track in
      let open_ : track < opened = elim (cases_lt track opened) [
        | inl lower ↦ lower
        | inr past ↦ let off : nat_lt track opened ≡ false = grind (arith, nat_tests, past) in
            let none : cond {A = ℕ} (nat_lt track opened) 1 0 ≡ 0 = rw off refl in absurd (omega (arith, sum, here, one, none))
      ] in
      let yes : nat_lt track opened ≡ true = grind (arith, nat_tests, open_) in
      let just : cond {A = ℕ} (nat_lt track opened) 1 0 ≡ 1 = rw yes refl in (
        reused placed piece before opened point up tracks track open_ (record {
          clear = clear;
          least = λ other lower. not-clear placed piece.low other
              (reaches placed piece.low opened free busy kept full other (omega (arith, lower, open_)) (count-under other track free lower first));
        }),
        record {
          once = λ other.
              let a = count-cons (λ b. other == b.1) (piece.high, track) busy in
              let b = count-permutation (λ b. other == b.1) ((piece.high, track) ∷ busy) busy' in' in
              let d = frees other in
              omega (arith, a, b, d) ∙ kept.once other;
          clear = more-clear placed piece.low track piece free' (omega (arith, sum, here, one, just)) (All-tail (λ t. IsClear piece.low t placed) track free' clears);
          ends = more-ends placed piece.low track piece busy busy' long (omega (arith, sum, here, one, just)) clear in' kept.ends;
        },
      )

  placed-opened : free ≡ [] → IsPermutation ((piece.high, opened) ∷ busy) busy' →
      AreTracks (placed ++ (piece, opened) ∷ []) piece.low (opened + 1) piece.low × AreKept (placed ++ (piece, opened) ∷ []) piece.low (opened + 1) [] busy'
  placed-opened none in' =
      let empty : (other : ℕ) → count_by (λ t. other == t) free ≡ 0 = λ other. ap (λ (ts : List ℕ). count_by (λ t. other == t) ts) none in
      let off : nat_lt opened opened ≡ false = grind (arith, nat_tests) in
      let zero-of : cond {A = ℕ} (nat_lt opened opened) 1 0 ≡ 0 = rw off refl in
      let sum = kept.once opened in (
        opened-more placed piece before opened point up tracks long (λ other lower. reaches placed piece.low opened free busy kept full other lower (empty other)),
        record {
          once = λ other.
              let a = count-cons (λ b. other == b.1) (piece.high, opened) busy in
              let b = count-permutation (λ b. other == b.1) ((piece.high, opened) ∷ busy) busy' in' in
              let d = empty other in
              let e = next-one other opened in
              omega (arith, a, b, d, e, kept.once other);
          clear = All-nil (λ t. IsClear piece.low t (placed ++ (piece, opened) ∷ []));
          ends = more-ends placed piece.low opened piece busy busy' long (omega (arith, sum, zero-of))
              (All-weaker (λ (p : Piece × ℕ). p.1 < opened) (λ p. p.1 ≡ opened → p.0.high < piece.low) (λ p h is. absurd (omega (arith, h, is))) placed tracks.below) in' kept.ends;
        },
      )

-- by what the calls say
pub placed-stands : (placed : Placed) (piece : Piece) (before track : ℕ) (old mid new : OpenTracks) (busy' : List (ℕ × ℕ)) → before ≤ piece.low → piece.low < piece.high →
    AreTracks placed before old.opened old.point → AreOpen old mid → AreKept placed piece.low mid.opened (free_of mid) (busy_of mid) → AreBusy piece.low mid →
    Takes piece.low track mid new → IsPermutation ((piece.high, track) ∷ busy_of new) busy' →
    AreTracks (placed ++ (piece, track) ∷ []) piece.low new.opened new.point × AreKept (placed ++ (piece, track) ∷ []) piece.low new.opened (free_of new) busy'
placed-stands placed piece before track old mid new busy' up long tracks same kept full takes in' =
    let now : AreTracks placed before mid.opened mid.point =
    subst (λ (n : ℕ). AreTracks placed before n mid.point) (sym same.opened) (subst (λ (n : ℕ). AreTracks placed before old.opened n) (sym same.point) tracks) in
    let P : ℕ → ℕ → ℕ → List ℕ → Type 0 = λ t o p f.
    AreTracks (placed ++ (piece, t) ∷ []) piece.low o p × AreKept (placed ++ (piece, t) ∷ []) piece.low o f busy' in
    elim takes [
      | inl r ↦
          let done = placed-reused placed piece before mid.opened mid.point (free_of mid) (busy_of mid) busy' up long now kept full track (free_of new) r.free r.least
          (subst (λ (bs : List (ℕ × ℕ)). IsPermutation ((piece.high, track) ∷ bs) busy') r.busy in') in
          subst (λ (o : ℕ). P track o new.point (free_of new)) (sym r.same.opened) (subst (λ (p : ℕ). P track mid.opened p (free_of new)) (sym r.same.point) done)
      | inr o ↦
          let done = placed-opened placed piece before mid.opened mid.point (free_of mid) (busy_of mid) busy' up long now kept full o.none
          (subst (λ (bs : List (ℕ × ℕ)). IsPermutation ((piece.high, mid.opened) ∷ bs) busy') o.busy
          (subst (λ (t : ℕ). IsPermutation ((piece.high, t) ∷ busy_of new) busy') o.track_is in')) in
          subst (λ (t : ℕ). P t new.opened new.point (free_of new)) (sym o.track_is)
          (subst (λ (n : ℕ). P mid.opened n new.point (free_of new)) (sym o.opened)
          (subst (λ (p : ℕ). P mid.opened (mid.opened + 1) p (free_of new)) (sym o.point)
          (subst (λ (f : List ℕ). P mid.opened (mid.opened + 1) piece.low f) (sym o.free) done)))
    ]
