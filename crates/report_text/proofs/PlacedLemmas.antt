-- Buffers that are gathered node by node and sorted by their cells are those of the cells with buffers, rising.
use Rattle.std.proofs.Common.{◌≡◌, ◌≢◌, ℕ, zero, suc, ◌+◌, ◌<◌, ◌≤◌, inl, inr, true, false, ◌==◌, eqb, List, [], ◌∷◌, ◌++◌, length, get_or, map, Option, Some, None, is_some, unwrap_or, option_and_then, refl, sym, ap, ◌∙◌, append-nil, arith}
use Rattle.std.specs.List.{AllByRecursion, IsDistinct, cons_option, filter_map, range_with_len}
use Rattle.std.specs.List.Sorted.{IsPermutation, IsNonDecreasing, IsNonDecreasingBy}
use Rattle.std.specs.Option.{option_map}
use Rattle.std.proofs.lemmas.Bool.{cases_eq, eq-eqb}
use Rattle.std.proofs.lemmas.Bool.Decides.{nat_tests}
use Rattle.std.proofs.lemmas.List.{length-map, get_or-map}
use Rattle.std.proofs.lemmas.List.Elements.{All-from_recursion, recursion_from_All, filter_agree, filter_map-append}
use Rattle.std.proofs.lemmas.List.Sorted.{All-permutation, IsPermutation-map, list_any-IsPermutation}
use Rattle.std.proofs.lemmas.Map.Keys.{IsDistinct-cons, IsDistinct-IsPermutation, IsStrictlyIncreasing-from_distinct}
use Rattle.std.proofs.lemmas.Option.{none-some, same_Some, slice_get-get_or}
use Rattle.gr_base.proofs.General.{eqb-swap, range-more}
use Rattle.gr_base.proofs.TreeLemmas.{cell-only, cell-inside, node_with-at, cell_at-within, read-cell}
use Rattle.gr_base.specs.Grid.{cells_of}
use Rattle.gr_base.specs.Trees.{TreeView, IsTree, cell_at, node_with}
use Rattle.gr_base.specs.declared.tree.Node.{Node}
use Rattle.straight_runs.specs.Lows.{is_low}
use Rattle.straight_runs.proofs.LowLemmas.{rises-from, rising-is}
use Rattle.elmore_delay.specs.Placements.{placed_at}
use Rattle.report_text.specs.BufferTexts.{kind_on, buffered_cells}
use Rattle.report_text.specs.Placed.{buffered_at, buffered_before, buffered_nodes, rising_buffers}
use Rattle.report_text.specs.declared.buffer_text.Buffered.{Buffered}

-- ---- one more node

before-more : (t : TreeView) (kinds : List (Option ℕ)) (n : ℕ) →
    buffered_before t kinds (n + 1) ≡ buffered_before t kinds n ++ cons_option (buffered_at t kinds n) []
before-more t kinds n =
    let here : 0 + n ≡ n = omega arith in
    ap (λ (ns : List ℕ). filter_map (buffered_at t kinds) ns) (range-more 0 n)
    ∙ filter_map-append (buffered_at t kinds) (range_with_len 0 n) ((0 + n) ∷ [])
    ∙ ap (λ (m : ℕ). buffered_before t kinds n ++ cons_option (buffered_at t kinds m) []) here

pub before-none : (t : TreeView) (kinds : List (Option ℕ)) (n : ℕ) → placed_at kinds n ≡ None →
    buffered_before t kinds n ≡ buffered_before t kinds (n + 1)
before-none t kinds n none =
    sym (before-more t kinds n
    ∙ ap (λ (o : Option ℕ). buffered_before t kinds n ++ cons_option (option_map (λ kind. record { cell = unwrap_or (cell_at t.nodes n) 0; kind = kind }) o) []) none
    ∙ append-nil (buffered_before t kinds n))

pub before-some : (t : TreeView) (kinds : List (Option ℕ)) (n cell kind : ℕ) → placed_at kinds n ≡ Some kind → cell_at t.nodes n ≡ Some cell →
    buffered_before t kinds n ++ record { cell = cell; kind = kind } ∷ [] ≡ buffered_before t kinds (n + 1)
before-some t kinds n cell kind some at =
    sym (before-more t kinds n
    ∙ ap (λ (o : Option ℕ). buffered_before t kinds n ++ cons_option (option_map (λ kind. record { cell = unwrap_or (cell_at t.nodes n) 0; kind = kind }) o) []) some
    ∙ ap (λ (o : Option ℕ). buffered_before t kinds n ++ record { cell = unwrap_or o 0; kind = kind } ∷ []) at)

-- ---- the buffers by their nodes

module _ (t : TreeView) (kinds : List (Option ℕ)) (tree : IsTree t) where
  cell : ℕ → ℕ
  cell node = unwrap_or (cell_at t.nodes node) 0

  -- the cell of a node is no other node's
  only : (node : ℕ) → node < length t.nodes → node_with t.nodes (unwrap_or (cell_at t.nodes node) 0) ≡ Some node
  only node inside =
      let other : Node = record { cell = 0; parent = 0 } in
      let at : cell_at t.nodes node ≡ Some (get_or t.nodes node other).cell =
      read-cell t.nodes node (get_or t.nodes node other) (slice_get-get_or t.nodes node other inside) in
      ap (λ (o : Option ℕ). node_with t.nodes (unwrap_or o 0)) at
      ∙ cell-only t.shape t.nodes node (get_or t.nodes node other).cell tree.hanging at

  -- the buffers at some nodes
  abbrev from_nodes : List ℕ → List Buffered
  from_nodes nodes = filter_map (buffered_at t kinds) nodes

  abbrev one : ℕ → Option ℕ → Option Buffered
  one node o = option_map (λ kind. record { cell = unwrap_or (cell_at t.nodes node) 0; kind = kind }) o

  -- a buffer that stands at a node from a number on
  pub record IsLater (from : ℕ) (b : Buffered) : Type 0 where
    pub node : ℕ
    pub late : from ≤ node
    pub inside : node < length t.nodes
    pub found : node_with t.nodes b.cell ≡ Some node
    pub kind_is : placed_at kinds node ≡ Some b.kind

  weaker : (from : ℕ) (bs : List Buffered) → AllByRecursion (IsLater (from + 1)) bs → AllByRecursion (IsLater from) bs
  weaker from [] each = tt
  weaker from (b ∷ bs) each =
      let first = each.0 in
      let late = first.late in
      (record { node = first.node; late = omega arith; inside = first.inside; found = first.found; kind_is = first.kind_is }, weaker from bs each.1)

  later : (from n : ℕ) → from + n ≤ length t.nodes → AllByRecursion (IsLater from) (from_nodes (range_with_len from n))
  later from zero within = tt
  later from (suc n) within = with_first (placed_at kinds from) refl (later (from + 1) n (omega arith))
    where
      with_first : (o : Option ℕ) → placed_at kinds from ≡ o → AllByRecursion (IsLater (from + 1)) (from_nodes (range_with_len (from + 1) n)) →
          AllByRecursion (IsLater from) (cons_option (one from o) (from_nodes (range_with_len (from + 1) n)))
      with_first None is rest = weaker from (from_nodes (range_with_len (from + 1) n)) rest
      with_first (Some kind) is rest = (
        record { node = from; late = omega arith; inside = omega arith; found = only from (omega arith); kind_is = is },
        weaker from (from_nodes (range_with_len (from + 1) n)) rest,
      )

  -- a cell of an earlier node is none of theirs
  apart : (from node c : ℕ) (bs : List Buffered) → node_with t.nodes c ≡ Some node → node < from → AllByRecursion (IsLater from) bs →
      AllByRecursion (λ y. eqb c y ≡ false) (map (λ b. b.cell) bs)
  apart from node c [] found earlier each = tt
  apart from node c (b ∷ bs) found earlier each = (
    differs (λ same.
        let first = each.0 in
        let late = first.late in
        let e = same_Some node first.node (sym found ∙ ap (λ (k : ℕ). node_with t.nodes k) same ∙ first.found) in
        omega arith),
    apart from node c bs found earlier each.1,
  )
    where
      differs : (c ≢ b.cell) → eqb c b.cell ≡ false
      differs other = grind (arith, nat_tests)

  distinct : (from n : ℕ) → from + n ≤ length t.nodes → IsDistinct eqb (map (λ b. b.cell) (from_nodes (range_with_len from n)))
  unfolding IsDistinct
  distinct from zero within = tt
  distinct from (suc n) within = with_first (placed_at kinds from) (distinct (from + 1) n (omega arith))
    where
      with_first : (o : Option ℕ) → IsDistinct eqb (map (λ b. b.cell) (from_nodes (range_with_len (from + 1) n))) →
          IsDistinct eqb (map (λ b. b.cell) (cons_option (one from o) (from_nodes (range_with_len (from + 1) n))))
      with_first None rest = rest
      with_first (Some kind) rest =
          IsDistinct-cons eqb (unwrap_or (cell_at t.nodes from) 0) (map (λ b. b.cell) (from_nodes (range_with_len (from + 1) n)))
          (apart (from + 1) from (unwrap_or (cell_at t.nodes from) 0) (from_nodes (range_with_len (from + 1) n)) (only from (omega arith)) (omega arith) (later (from + 1) n (omega arith)))
          rest

  -- a cell that no node from a number on has is none of theirs
  absent : (from c : ℕ) (bs : List Buffered) → ((node : ℕ) → node_with t.nodes c ≡ Some node → node < from) → AllByRecursion (IsLater from) bs →
      is_low (map (λ b. b.cell) bs) c ≡ false
  absent from c [] none each = refl
  absent from c (b ∷ bs) none each =
      let other : (c == b.cell) ≡ false = differs (λ same.
      let first = each.0 in
      let late = first.late in
      let before = none first.node (ap (λ (k : ℕ). node_with t.nodes k) same ∙ first.found) in
      omega arith) in
      rw other (absent from c bs none each.1)
    where
      differs : (c ≢ b.cell) → (c == b.cell) ≡ false
      differs other = grind (arith, nat_tests)

  -- the cell of a node is one of theirs where the node holds a buffer
  present : (from n node c : ℕ) → from + n ≤ length t.nodes → node_with t.nodes c ≡ Some node → from ≤ node → node < from + n →
      is_low (map (λ b. b.cell) (from_nodes (range_with_len from n))) c ≡ is_some (placed_at kinds node)
  present from zero node c within found low high = absurd (omega arith)
  present from (suc n) node c within found low high =
      elim (cases_eq node from) [
        | inl same ↦
            let cell_is : c ≡ unwrap_or (cell_at t.nodes from) 0 =
            ap (λ (o : Option ℕ). unwrap_or o 0) (sym (node_with-at t.nodes c node found)) ∙ ap (λ (k : ℕ). unwrap_or (cell_at t.nodes k) 0) same in
            at_first (placed_at kinds from) cell_is
            (absent (from + 1) c (from_nodes (range_with_len (from + 1) n)) (λ other is. let e = same_Some node other (sym found ∙ is) in omega arith)
            (later (from + 1) n (omega arith)))
            ∙ ap (λ (k : ℕ). is_some (placed_at kinds k)) (sym same)
        | inr other ↦
            past_first (placed_at kinds from) (λ same.
            let e = same_Some node from (sym found ∙ ap (λ (k : ℕ). node_with t.nodes k) same ∙ only from (omega arith)) in other e)
            ∙ present (from + 1) n node c (omega arith) found (omega arith) (omega arith)
      ]
    where
      at_first : (o : Option ℕ) → c ≡ unwrap_or (cell_at t.nodes from) 0 → is_low (map (λ b. b.cell) (from_nodes (range_with_len (from + 1) n))) c ≡ false →
          is_low (map (λ b. b.cell) (cons_option (one from o) (from_nodes (range_with_len (from + 1) n)))) c ≡ is_some o
      at_first None same rest = rest
      at_first (Some kind) same rest = let test : (c == unwrap_or (cell_at t.nodes from) 0) ≡ true = eq-eqb c (unwrap_or (cell_at t.nodes from) 0) same in rw test refl

      past_first : (o : Option ℕ) → (c ≢ unwrap_or (cell_at t.nodes from) 0) →
          is_low (map (λ b. b.cell) (cons_option (one from o) (from_nodes (range_with_len (from + 1) n)))) c
          ≡ is_low (map (λ b. b.cell) (from_nodes (range_with_len (from + 1) n))) c
      past_first None apart = refl
      past_first (Some kind) apart = let test : (c == unwrap_or (cell_at t.nodes from) 0) ≡ false = grind (arith, nat_tests) in rw test refl

  -- the cells with buffers
  among : (c : ℕ) → is_low (map (λ b. b.cell) (buffered_nodes t kinds)) c ≡ is_some (kind_on t kinds c)
  among c = by_node (node_with t.nodes c) refl
    where
      by_node : (o : Option ℕ) → node_with t.nodes c ≡ o → is_low (map (λ b. b.cell) (buffered_nodes t kinds)) c ≡ is_some (option_and_then (placed_at kinds) o)
      by_node None is = absent 0 c (buffered_nodes t kinds) (λ node found. absurd (none-some node (sym is ∙ found))) (later 0 (length t.nodes) (omega arith))
      by_node (Some node) is =
          let inside = cell_at-within t.nodes node c (node_with-at t.nodes c node is) in
          present 0 (length t.nodes) node c (omega arith) is (omega arith) (omega arith)

  -- ---- the buffers sorted by their cells

  abbrev HasKind : Buffered → Type 0
  HasKind b = kind_on t kinds b.cell ≡ Some b.kind

  all-kinds : (from : ℕ) (bs : List Buffered) → AllByRecursion (IsLater from) bs → AllByRecursion HasKind bs
  all-kinds from [] each = tt
  all-kinds from (b ∷ bs) each =
      (ap (λ (o : Option ℕ). option_and_then (placed_at kinds) o) each.0.found ∙ each.0.kind_is, all-kinds from bs each.1)

  all-inside : (from : ℕ) (bs : List Buffered) → AllByRecursion (IsLater from) bs → AllByRecursion (λ b. b.cell < cells_of t.shape) bs
  all-inside from [] each = tt
  all-inside from (b ∷ bs) each =
      (cell-inside t.shape t.nodes each.0.node b.cell tree.hanging (node_with-at t.nodes b.cell each.0.node each.0.found), all-inside from bs each.1)

  cells-inside : (bs : List Buffered) → AllByRecursion (λ b. b.cell < cells_of t.shape) bs →
      AllByRecursion (λ c. c < 0 + cells_of t.shape) (map (λ b. b.cell) bs)
  cells-inside [] each = tt
  cells-inside (b ∷ bs) each = let first = each.0 in (omega arith, cells-inside bs each.1)

  by-cells : (bs : List Buffered) → AllByRecursion HasKind bs →
      bs ≡ map (λ c. record { cell = c; kind = unwrap_or (kind_on t kinds c) 0 }) (map (λ b. b.cell) bs)
  by-cells [] each = refl
  by-cells (b ∷ bs) each =
      ap (λ (rest : List Buffered). b ∷ rest) (by-cells bs each.1)
      ∙ ap (λ (o : Option ℕ). record { cell = b.cell; kind = unwrap_or o 0 } ∷ map (λ c. record { cell = c; kind = unwrap_or (kind_on t kinds c) 0 }) (map (λ b. b.cell) bs))
      (sym each.0)

  pub sorted-are : (sorted : List Buffered) → IsPermutation (buffered_nodes t kinds) sorted → IsNonDecreasingBy (λ b. b.cell) sorted →
      sorted ≡ rising_buffers t kinds
  sorted-are sorted moved falls_not =
      let found = buffered_nodes t kinds in
      let all = later 0 (length t.nodes) (omega arith) in
      let cells : List ℕ = map (λ (b : Buffered). b.cell) sorted in
      let moved_cells = IsPermutation-map (λ (b : Buffered). b.cell) found sorted moved in
      let up : IsNonDecreasing cells = λ i j d le lt.
      let long : length cells ≡ length sorted = length-map sorted (λ (b : Buffered). b.cell) in
      let none : Buffered = record { cell = 0; kind = 0 } in
      let first = get_or-map (λ (b : Buffered). b.cell) sorted i none d (omega arith) in
      let second = get_or-map (λ (b : Buffered). b.cell) sorted j none d (omega arith) in
      let order = falls_not i j none le (omega arith) in
      omega arith in
      let strictly = IsStrictlyIncreasing-from_distinct cells up (IsDistinct-IsPermutation eqb eqb-swap (map (λ (b : Buffered). b.cell) found) cells moved_cells (distinct 0 (length t.nodes) (omega arith))) in
      let rises = rises-from cells 0 strictly (λ some. omega arith) in
      let inside_cells : AllByRecursion (λ c. c < 0 + cells_of t.shape) cells =
      cells-inside sorted (recursion_from_All (λ b. b.cell < cells_of t.shape) sorted
      (All-permutation (λ b. b.cell < cells_of t.shape) found sorted moved (All-from_recursion (λ b. b.cell < cells_of t.shape) found (all-inside 0 found all)))) in
      let same : (c : ℕ) → is_low cells c ≡ is_some (kind_on t kinds c) = λ c.
      sym (list_any-IsPermutation (λ low. c == low) (map (λ (b : Buffered). b.cell) found) cells moved_cells) ∙ among c in
      let are : cells ≡ buffered_cells t kinds =
      rising-is cells 0 (cells_of t.shape) rises inside_cells
      ∙ filter_agree (is_low cells) (λ c. is_some (kind_on t kinds c)) same (range_with_len 0 (cells_of t.shape)) in
      let kept : AllByRecursion HasKind sorted =
      recursion_from_All HasKind sorted (All-permutation HasKind found sorted moved (All-from_recursion HasKind found (all-kinds 0 found all))) in
      by-cells sorted kept ∙ ap (λ (cs : List ℕ). map (λ c. record { cell = c; kind = unwrap_or (kind_on t kinds c) 0 }) cs) are
