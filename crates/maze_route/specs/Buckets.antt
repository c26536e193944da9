-- Buckets of pairs: one for each key near the last one taken, and for keys farther on by how far their block is from its.
use Rattle.std.specs.Prelude.{◌≡◌, ◌≢◌, ℕ, zero, suc, ◌+◌, ◌/◌, ◌%◌, ◌^◌, ◌<◌, ◌≤◌, true, false, List, [], ◌∷◌, Option, Some, None, IsSome, IsSomeAnd, IsTrue, slice_get, if◌then◌else◌, length, option_and_then}
use Rattle.gr_base.specs.Trees.{is_among}
use Rattle.maze_route.specs.declared.slot.Slot.{Slot}

-- the pair that waits in a place, if there is one
abbrev pub pair_in : Slot → Option (ℕ × ℕ)
pair_in slot = if slot.taken then Some (slot.key, slot.cell) else None

-- the number of low bits past which two numbers agree
pub record DifferIn (one other bits : ℕ) : Type 0 where
  pub agrees : one / 2 ^ bits ≡ other / 2 ^ bits
  pub differs : (fewer : ℕ) → fewer < bits → one / 2 ^ fewer ≢ other / 2 ^ fewer

-- the bucket of a key whose block of 1,024 keys differs in so many bits from the last key's
abbrev pub number_of : ℕ → ℕ → ℕ
number_of key zero = key % 1024
number_of key (suc bits) = 1024 + bits

-- the bucket of a key
pub record IsBucket (last key bucket : ℕ) : Type 0 where
  pub bits : ℕ
  pub differ : DifferIn (last / 1024) (key / 1024) bits
  pub is : bucket ≡ number_of key bits

-- the places of a chain, from its head on
abbrev pub IsChain : List Slot → Option ℕ → List ℕ → Type 0
IsChain slots head [] = head ≡ None
IsChain slots head (place ∷ places) =
    (head ≡ Some place) × IsSomeAnd (slice_get slots place) (λ slot. IsChain slots slot.next places)

-- the first place of a bucket
abbrev pub head_at : List (Option ℕ) → ℕ → Option ℕ
head_at heads bucket = option_and_then (λ head. head) (slice_get heads bucket)

-- a pair waits in the place, and its key is of this bucket
pub record IsOf (slots : List Slot) (last bucket place : ℕ) : Type 0 where
  pub slot : Slot
  pub at : slice_get slots place ≡ Some slot
  pub taken : slot.taken ≡ true
  pub later : last ≤ slot.key
  pub of_bucket : IsBucket last slot.key bucket

-- each bucket is a chain of the places of its pairs
pub record AreChains (slots : List Slot) (heads : List (Option ℕ)) (last : ℕ) (chains : ℕ → List ℕ) : Type 0 where
  pub linked : (bucket : ℕ) → bucket < 1078 → IsChain slots (head_at heads bucket) (chains bucket)
  pub only : (bucket place : ℕ) → bucket < 1078 → IsTrue (is_among (chains bucket) place) → IsOf slots last bucket place
  pub all : (place : ℕ) (slot : Slot) → slice_get slots place ≡ Some slot → slot.taken ≡ true →
      (bucket : ℕ) × ((bucket < 1078) × ((IsOf slots last bucket place) × IsTrue (is_among (chains bucket) place)))

-- the free places are a chain
pub record AreFree (slots : List Slot) (free : Option ℕ) (places : List ℕ) : Type 0 where
  pub linked : IsChain slots free places
  pub only : (place : ℕ) → IsTrue (is_among places place) →
      IsSomeAnd (slice_get slots place) (λ slot. slot.taken ≡ false)

pub record Keeps (slots : List Slot) (heads : List (Option ℕ)) (free : Option ℕ) (last : ℕ) : Type 0 where
  pub size : length heads ≡ 1078
  pub chains : ℕ → List ℕ
  pub are_chains : AreChains slots heads last chains
  pub free_places : List ℕ
  pub are_free : AreFree slots free free_places

-- the first bucket that has a place
abbrev pub IsFirstFull : List (Option ℕ) → Option ℕ → Type 0
IsFirstFull heads None = (bucket : ℕ) → bucket < 1078 → head_at heads bucket ≡ None
IsFirstFull heads (Some bucket) =
    (bucket < 1078) × (IsSome (head_at heads bucket) × ((lower : ℕ) → lower < bucket → head_at heads lower ≡ None))

-- a chain begins at this place
pub record BeginsChain (slots : List Slot) (first : ℕ) : Type 0 where
  pub places : List ℕ
  pub linked : IsChain slots (Some first) places

-- the least of the keys along the chain
pub record IsLeastKey (slots : List Slot) (first least : ℕ) : Type 0 where
  pub places : List ℕ
  pub linked : IsChain slots (Some first) places
  pub least_of : (place : ℕ) (slot : Slot) → IsTrue (is_among places place) → slice_get slots place ≡ Some slot →
      least ≤ slot.key
  pub place : ℕ
  pub slot : Slot
  pub among : IsTrue (is_among places place)
  pub at : slice_get slots place ≡ Some slot
  pub key : slot.key ≡ least
