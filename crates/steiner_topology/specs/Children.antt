-- The children of points: one list for each point, kept while branches are added.
use Rattle.std.specs.Prelude.{◌≡◌, ℕ, ◌<◌, Bool, not, ◌&&◌, ◌==◌, nat_lt, if◌then◌else◌, Option, Some, None, List, [], ◌∷◌, ◌++◌, length, map, filter, fold, slice_index_or, slice_set}
use Rattle.gr_base.specs.Trees.{is_among}
use Rattle.smallvec.specs.SmallVec.{SmallVec}
use Rattle.steiner_topology.specs.declared.point.Point.{Point}
use Rattle.steiner_topology.specs.Joins.{by_number}
use Rattle.steiner_topology.specs.Topology.{parent_of, saving}

-- c is a point whose parent is v, and not v itself
abbrev pub is_child : List Point → ℕ → ℕ → Bool
is_child points v c = nat_lt c (length points) && (not (c == v) && parent_of points c == v)

-- what each of several small vectors holds
abbrev pub lists_of : List (SmallVec ℕ) → List (List ℕ)
lists_of children = map (λ list. list.items) children

-- the list with this number
abbrev pub list_at : List (List ℕ) → ℕ → List ℕ
list_at lists v = slice_index_or lists v []

-- there is a list for each point, and it holds the point's children and no other number
pub record AreChildren (points : List Point) (lists : List (List ℕ)) : Type 0 where
  pub size : length lists ≡ length points
  pub listed : (v c : ℕ) → v < length points → is_among (list_at lists v) c ≡ is_child points v c

-- the numbers but this one
abbrev pub without : ℕ → List ℕ → List ℕ
without child list = filter (λ c. not (c == child)) list

-- the lists after a child leaves its parent's
abbrev pub unlisted : List (List ℕ) → ℕ → ℕ → List (List ℕ)
unlisted lists parent child = slice_set lists parent (without child (list_at lists parent))

-- the lists after a child joins its parent's
abbrev pub listed : List (List ℕ) → ℕ → ℕ → List (List ℕ)
listed lists parent child = slice_set lists parent (list_at lists parent ++ child ∷ [])

-- the lists after `lower` and j, which hung on `upper` and on i, hang on a new point below `upper`
abbrev pub branch_listed : List (List ℕ) → ℕ → ℕ → ℕ → ℕ → List (List ℕ)
branch_listed lists i upper lower j =
    listed (unlisted (unlisted lists i j) upper lower) upper (length lists) ++ (lower ∷ j ∷ []) ∷ []

-- j saves more with q than with the one that is kept, or as much, and q is the lower number
abbrev pub is_better : List Point → ℕ → ℕ → ℕ → Bool
is_better points j kept q = by_number (saving points j kept) (saving points j q) (nat_lt q kept)

-- of what is kept so far and the next the better one, in whatever order they come
abbrev pub preferred : List Point → ℕ → Option ℕ → ℕ → Option ℕ
preferred points j None q = Some q
preferred points j (Some kept) q = if is_better points j kept q then Some q else Some kept

-- the best of several numbers
abbrev pub best_of : List Point → ℕ → List ℕ → Option ℕ
best_of points j numbers = fold (preferred points j) None numbers
