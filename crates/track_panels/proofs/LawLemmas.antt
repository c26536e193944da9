-- The left-edge numbering of any pieces in their order is valid and fewest.
use Rattle.std.proofs.lemmas.List.{append-nil}
use Rattle.std.proofs.Common.{◌≡◌, ℕ, zero, suc, ◌+◌, ◌<◌, ◌≤◌, inl, inr, ◌⊎◌, Bool, true, false, ◌==◌, ◌||◌, not, nat_lt, List, [], ◌∷◌, ◌++◌, length, All, Any, refl, sym, ap, subst, ◌∙◌, append_assoc, arith}
use Rattle.std.specs.List.{AllPairs, zip}
use Rattle.std.proofs.lemmas.Bool.{cases_Bool, cases_lt, false≢true}
use Rattle.std.proofs.lemmas.Bool.Decides.{nat_tests}
use Rattle.std.proofs.lemmas.List.Elements.{All-nil, All-head, All-tail}
use Rattle.std.proofs.lemmas.Option.{slice_get_within}
use Rattle.std.proofs.Math.Seq.{take-append_seam}
use Rattle.track_panels.specs.declared.piece.Piece.{Piece}
use Rattle.track_panels.specs.Pieces.{AreInOrder}
use Rattle.track_panels.specs.Numberings.{Placed, IsClear, IsLeastClear, IsLeftEdge, IsValid, IsFewest, is_clear, least_clear, left_edge, tracks_from}
use Rattle.track_panels.specs.OpenTracks.{AreTracks}
use Rattle.track_panels.proofs.LeftEdgeLemmas.{clear-is, clear-yes, least-is, seam}
use Rattle.track_panels.proofs.ListLemmas.{any-tail}
use Rattle.track_panels.proofs.NumberingLemmas.{numbered}
use Rattle.track_panels.proofs.OpenTrackLemmas.{opened-more, reused}

-- ---- the first number below another that passes

record IsFirstOf (p : ℕ → Bool) (n k : ℕ) : Type 0 where
  below : k < n
  passes : p k ≡ true
  least : (j : ℕ) → j < k → p j ≡ false

first-below : (p : ℕ → Bool) (n : ℕ) → ((k : ℕ) × IsFirstOf p n k) ⊎ ((k : ℕ) → k < n → p k ≡ false)
first-below p zero = inr (λ k low. absurd (omega (arith, low)))
first-below p (suc n) =
    elim (first-below p n) [
      | inl first ↦ let low = first.1.below in inl (first.0, record { below = omega (arith, low); passes = first.1.passes; least = first.1.least })
      | inr none ↦ elim (cases_Bool (p n)) [
        | inl yes' ↦ inl (n, record { below = omega arith; passes = yes'; least = none })
        | inr no' ↦ inr (λ k low. elim (cases_lt k n) [
          | inl lower ↦ none k lower
          | inr past ↦ let same : n ≡ k = omega (arith, low, past) in subst (λ (m : ℕ). p m ≡ false) same no'
        ])
      ]
    ]

-- ---- a track that isn't clear has a piece that ends at the tile or beyond

still-there : (tile track : ℕ) (placed : Placed) → is_clear tile track placed ≡ false → Any (λ p. (p.1 ≡ track) × (tile ≤ p.0.high)) placed
still-there tile track [] off = absurd (false≢true (sym off))
still-there tile track (p ∷ ps) off =
    elim (cases_Bool (not (p.1 == track) || nat_lt p.0.high tile)) [
      | inl gone ↦
          let rest : is_clear tile track ps ≡ false = sym (rw gone refl) ∙ off in
          any-tail (λ (q : Piece × ℕ). (q.1 ≡ track) × (tile ≤ q.0.high)) p ps (still-there tile track ps rest)
      | inr here ↦ (0, p, omega arith, refl, (grind (arith, nat_tests, here), grind (arith, nat_tests, here)))
    ]

-- ---- the next piece

record HasTracks (placed : Placed) (tile : ℕ) : Type 0 where
  opened : ℕ
  point : ℕ
  tracks : AreTracks placed tile opened point

next-piece : (placed : Placed) (piece : Piece) (tile : ℕ) → tile ≤ piece.low → piece.low < piece.high → HasTracks placed tile →
    HasTracks (placed ++ (piece, least_clear piece.low placed) ∷ []) piece.low
next-piece placed piece tile up long has =
    let P : ℕ → Type 0 = λ track. HasTracks (placed ++ (piece, track) ∷ []) piece.low in
    elim (first-below (λ track. is_clear piece.low track placed) has.opened) [
      | inl first ↦
          let least : IsLeastClear piece.low first.0 placed = record {
            clear = clear-is piece.low first.0 placed first.1.passes;
            least = λ other lower clear. false≢true (sym (first.1.least other lower) ∙ clear-yes piece.low other placed clear);
          } in
          subst P (sym (least-is piece.low first.0 placed least)) (record {
            opened = has.opened;
            point = has.point;
            tracks = reused placed piece tile has.opened has.point up has.tracks first.0 first.1.below least;
          })
      | inr none ↦
          let tracks = opened-more placed piece tile has.opened has.point up has.tracks long (λ other lower. still-there piece.low other placed (none other lower)) in
          let last = tracks.left_edge (length placed) (piece, has.opened) (seam placed (piece, has.opened) []) in
          let least = subst (λ (ps : Placed). IsLeastClear piece.low has.opened ps) (take-append_seam placed ((piece, has.opened) ∷ [])) last in
          subst P (sym (least-is piece.low has.opened placed least)) (record { opened = has.opened + 1; point = piece.low; tracks = tracks })
    ]

-- ---- all pieces

each-track : (placed : Placed) (pieces : List Piece) → length (tracks_from placed pieces) ≡ length pieces
each-track placed [] = refl
each-track placed (p ∷ ps) = ap (λ (n : ℕ). suc n) (each-track (placed ++ (p, least_clear p.low placed) ∷ []) ps)

all-pieces : (placed : Placed) (pieces : List Piece) (tile : ℕ) → All (λ p. tile ≤ p.low) pieces → All (λ p. p.low < p.high) pieces →
    AllPairs (λ a b. a.low ≤ b.low) pieces → HasTracks placed tile → (end : ℕ) × HasTracks (placed ++ zip pieces (tracks_from placed pieces)) end
all-pieces placed [] tile up long rising has = (tile, subst (λ (ps : Placed). HasTracks ps tile) (sym (append-nil placed)) has)
all-pieces placed (p ∷ ps) tile up long rising has =
    let track = least_clear p.low placed in
    let more = placed ++ (p, track) ∷ [] in
    let next = next-piece placed p tile (All-head (λ q. tile ≤ q.low) p ps up) (All-head (λ q. q.low < q.high) p ps long) has in
    let rest = all-pieces more ps p.low (λ k d inside. rising 0 (suc k) d (omega arith) (omega (arith, inside)))
    (All-tail (λ q. q.low < q.high) p ps long) (λ i j d before inside. rising (suc i) (suc j) d (omega (arith, before)) (omega (arith, inside))) next in
    (rest.0, subst (λ (qs : Placed). HasTracks qs rest.0) (append_assoc placed ((p, track) ∷ []) (zip ps (tracks_from more ps))) rest.1)

none-placed : HasTracks [] 0
none-placed = record {
  opened = 0;
  point = 0;
  tracks = record {
    left_edge = λ place p at. absurd (omega (arith, slice_get_within [] place p at));
    rising = All-nil (λ (p : Piece × ℕ). p.0.low ≤ 0);
    below = All-nil (λ (p : Piece × ℕ). p.1 < 0);
    few = omega arith;
    early = All-nil (λ (p : Piece × ℕ). p.0.low < 0 → p.1 + 1 < 0);
    covered = λ track in'. absurd (omega (arith, in'));
    begun = omega arith;
  };
}

pub left-edge-fewest : (pieces : List Piece) → AreInOrder pieces → IsValid (zip pieces (left_edge pieces)) × IsFewest pieces (left_edge pieces)
unfolding left_edge
left-edge-fewest [] order = (λ i j d before inside. absurd (omega (arith, inside)), λ others size valid. omega arith)
left-edge-fewest (p ∷ ps) order =
    let pieces = p ∷ ps in
    let all = all-pieces [] pieces 0 (λ k d inside. omega arith) order.long order.rising none-placed in
    let is = numbered pieces (tracks_from [] pieces) all.0 all.1.opened all.1.point (omega arith) order.within (each-track [] pieces) all.1.tracks in
    (is.valid, is.fewest)
