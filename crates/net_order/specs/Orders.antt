-- Nets in the order in which they are shared.
use Rattle.std.specs.Prelude.{◌≡◌, ℕ, ◌/◌, ◌%◌, ◌<◌, ◌+◌, pos, ◌+ℤ◌, nat_lt, List, length, map, slice_index_or, All, IsPermutation, IsSorted, IsTrue, Vec, if◌then◌else◌}
use Rattle.std.specs.Global.{Global}
use Rattle.std.specs.Ordering.{nat_cmp}
use Rattle.gr_base.specs.Designs.{DesignView, is_routed}
use Rattle.work_share.specs.Dealt.{dealt}
use Rattle.work_share.specs.Views.{times}
use Rattle.net_order.specs.Freedoms.{turn_of, GoInTurn}

-- the net behind a number, where both make one number
abbrev pub net_in : ℕ → ℕ
net_in both = both % 4294967296

-- the number before the net is that of the net's turn in a round, and so much more that it isn't below 0
abbrev pub IsKey : DesignView → ℕ → ℕ → Type 0
IsKey d round key = pos (key / 4294967296) ≡ turn_of d round (net_in key) +ℤ pos 2147483648

-- the same nets, each as often, of which each worker is dealt its own in the order of their turns
pub record IsDealtInTurn (d : DesignView) (round workers : ℕ) (nets order : List ℕ) : Type 0 where
  pub same : (net : ℕ) → times net order ≡ times net nets
  pub turns : (hand : ℕ) → hand < workers → GoInTurn d round (dealt workers order hand)

-- numbers have been put in order
pub record IsSortOf (before after : List ℕ) : Type 0 where
  pub moved : IsPermutation before after
  pub sorted : IsSorted nat_cmp after

-- how many nets a region has: as many as any other, and the first ones one more
abbrev pub size_of : ℕ → ℕ → ℕ → ℕ
size_of each more region = each + (if nat_lt region more then 1 else 0)

pub record AreCutOf (each more : ℕ) (regions : List (Vec ℕ Global)) : Type 0 where
  pub sizes : (region : ℕ) (d : Vec ℕ Global) → region < length regions →
      length (slice_index_or regions region d).items ≡ size_of each more region

-- each number of each region is a key
abbrev pub AreKeysOf : DesignView → ℕ → List (Vec ℕ Global) → Type 0
AreKeysOf d round regions = All (λ r. All (IsKey d round) r.items) regions

-- the net behind the number at a place of each region
abbrev pub nets_at : ℕ → List (Vec ℕ Global) → List ℕ
nets_at at regions = map (λ r. net_in (slice_index_or r.items at 0)) regions

-- so many nets behind numbers are put apart, behind other numbers
pub record ArePartsOf (size : ℕ) (all others apart : List ℕ) : Type 0 where
  pub others_long : length others + size ≡ length all
  pub apart_long : length apart ≡ size
  pub same : (net : ℕ) → times net (map net_in apart) + times net (map net_in others) ≡ times net (map net_in all)
