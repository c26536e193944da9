-- How the tracks of a panel are kept while its pieces are placed.
use Rattle.std.specs.Prelude.{◌≡◌, ◌⊎◌, ℕ, ◌+◌, ◌<◌, ◌≤◌, ◌==◌, nat_lt, List, [], ◌∷◌, length, map, All, Any, count_by, if◌then◌else◌, IsTrue}
use Rattle.std.specs.BinaryHeap.{heap_items}
use Rattle.std.specs.List.Sorted.{IsPermutation}
use Rattle.track_panels.specs.declared.open_tracks.OpenTracks.{OpenTracks}
use Rattle.track_panels.specs.Pieces.{covers}
use Rattle.track_panels.specs.Numberings.{Placed, IsClear, IsLeftEdge}

-- the free tracks, and the busy ones behind the tiles where they end
abbrev pub free_of : OpenTracks → List ℕ
free_of open_tracks = map (λ f. f.0) (heap_items open_tracks.free)

abbrev pub busy_of : OpenTracks → List (ℕ × ℕ)
busy_of open_tracks = map (λ b. b.0) (heap_items open_tracks.busy)

-- the tile is the greatest in which a piece on the track ends
pub record EndsAt (placed : Placed) (track tile : ℕ) : Type 0 where
  pub most : All (λ p. p.1 ≡ track → p.0.high ≤ tile) placed
  pub reached : Any (λ p. (p.1 ≡ track) × (p.0.high ≡ tile)) placed

-- what is so of the tracks of these pieces, whose low ends are at the tile or below
pub record AreTracks (placed : Placed) (tile opened point : ℕ) : Type 0 where
  pub left_edge : IsLeftEdge placed
  pub rising : All (λ p. p.0.low ≤ tile) placed
  pub below : All (λ p. p.1 < opened) placed
  pub few : opened ≤ length placed
  pub early : All (λ p. p.0.low < point → p.1 + 1 < opened) placed
  pub covered : (track : ℕ) → track < opened → Any (λ p. (p.1 ≡ track) × IsTrue (covers point p.0)) placed
  pub begun : point ≤ tile

-- each open track is free, and its pieces end below the tile, or busy, and stands behind the tile where they end
pub record AreKept (placed : Placed) (tile opened : ℕ) (free : List ℕ) (busy : List (ℕ × ℕ)) : Type 0 where
  pub once : (track : ℕ) →
      count_by (λ other. track == other) free + count_by (λ b. track == b.1) busy
      ≡ (if nat_lt track opened then 1 else 0)
  pub clear : All (λ track. IsClear tile track placed) free
  pub ends : All (λ b. EndsAt placed b.1 b.0) busy

-- the tracks of these pieces, and how they are kept
pub record Stands (placed : Placed) (tile : ℕ) (open_tracks : OpenTracks) : Type 0 where
  pub tracks : AreTracks placed tile open_tracks.opened open_tracks.point
  pub kept : AreKept placed tile open_tracks.opened (free_of open_tracks) (busy_of open_tracks)

-- the same tracks are open
pub record AreOpen (old new : OpenTracks) : Type 0 where
  pub opened : new.opened ≡ old.opened
  pub point : new.point ≡ old.point

-- a track that ends below the tile was taken from the busy ones
pub record Leaves (tile track : ℕ) (old new : OpenTracks) : Type 0 where
  pub high : ℕ
  pub below : high < tile
  pub busy : IsPermutation (busy_of old) ((high, track) ∷ busy_of new)
  pub free : free_of new ≡ free_of old
  pub same : AreOpen old new

-- each busy track ends at the tile or beyond
abbrev pub AreBusy : (tile : ℕ) → OpenTracks → Type 0
AreBusy tile open_tracks = All (λ b. tile ≤ b.0) (busy_of open_tracks)

-- the least free track was taken
pub record Reuses (track : ℕ) (old new : OpenTracks) : Type 0 where
  pub free : IsPermutation (free_of old) (track ∷ free_of new)
  pub least : All (λ other. track ≤ other) (free_of old)
  pub busy : busy_of new ≡ busy_of old
  pub same : AreOpen old new

-- no track was free, and one more was opened
pub record Opens (tile track : ℕ) (old new : OpenTracks) : Type 0 where
  pub none : free_of old ≡ []
  pub free : free_of new ≡ []
  pub track_is : track ≡ old.opened
  pub busy : busy_of new ≡ busy_of old
  pub opened : new.opened ≡ old.opened + 1
  pub point : new.point ≡ tile

abbrev pub Takes : (tile track : ℕ) → (old new : OpenTracks) → Type 0
Takes tile track old new = Reuses track old new ⊎ Opens tile track old new
