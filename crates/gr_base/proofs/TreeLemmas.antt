-- The nodes of trees, by their numbers and cells.
use Rattle.std.proofs.Common.{◌≡◌, ℕ, suc, zero, ◌+◌, ◌<◌, ◌≤◌, Bool, true, false, ◌||◌, ◌==◌, List, [], ◌∷◌, ◌++◌, map, length, take, drop, get_or, Option, Some, None, is_some, slice_get, IsSomeAnd, IsSome, ◌↔◌, if◌then◌else◌, IsTrue, refl, sym, ap, subst, ◌∙◌, append_assoc, arith}
use Rattle.std.proofs.lemmas.Bool.{eqb-true, eq-eqb, both_ways}
use Rattle.std.proofs.lemmas.Bool.Decides.{Decides-eqb}
use Rattle.std.proofs.lemmas.List.{append-nil, length-take-le}
use Rattle.std.proofs.lemmas.List.Folds.{list_any-append, Any-from_list_any}
use Rattle.std.proofs.lemmas.Map.Made.{IsDistinct-from_AllPairs}
use Rattle.std.proofs.lemmas.Map.Steps.{length-le_from_distinct_below}
use Rattle.std.proofs.lemmas.Option.{none-some, same_Some, slice_get_within, slice_get-get_or, slice_get-map}
use Rattle.std.proofs.lemmas.Iterator.Adapters.{position_from-zero}
use Rattle.std.specs.List.{list_any, position, position_from, IsDistinct}
use Rattle.std.specs.Option.{option_map}
use Rattle.gr_base.specs.Grid.{cells_of, AreNeighbours}
use Rattle.gr_base.specs.Trees.{has_cell, cell_at, node_from, node_with, IsParent, Hangs, AllHang}
use Rattle.gr_base.specs.declared.grid.Shape.{Shape}
use Rattle.gr_base.specs.declared.tree.Node.{Node}

-- a choice keeps its answer where its last case keeps it
choice_kept : (b : Bool) (first o later : Option ℕ) (i : ℕ) →
    (o ≡ Some i → later ≡ Some i) → (if b then first else o) ≡ Some i → (if b then first else later) ≡ Some i
choice_kept true first o later i kept is = is
choice_kept false first o later i kept is = kept is

choice_past : (b : Bool) (n : ℕ) (o later end : Option ℕ) →
    (o ≡ None → later ≡ end) → (if b then Some n else o) ≡ None → (if b then Some n else later) ≡ end
choice_past true n o later end past is = absurd (none-some n (sym is))
choice_past false n o later end past is = past is

-- a cell that the first nodes hold has its number also among more nodes
pub node_from-kept : (n : ℕ) (xs ys : List Node) (cell i : ℕ) → node_from n xs cell ≡ Some i → node_from n (xs ++ ys) cell ≡ Some i
node_from-kept n [] ys cell i is = absurd (none-some i is)
node_from-kept n (x ∷ xs) ys cell i is =
    choice_kept (x.cell == cell) (Some n) (node_from (n + 1) xs cell) (node_from (n + 1) (xs ++ ys) cell) i
    (node_from-kept (n + 1) xs ys cell i) is

-- a cell that the first nodes don't hold is looked for among the others
pub node_from-past : (n : ℕ) (xs ys : List Node) (cell : ℕ) → node_from n xs cell ≡ None →
    node_from n (xs ++ ys) cell ≡ node_from (n + length xs) ys cell
node_from-past n [] ys cell is = let e : n ≡ n + 0 = omega arith in ap (λ (k : ℕ). node_from k ys cell) e
node_from-past n (x ∷ xs) ys cell is =
    let e : n + 1 + length xs ≡ n + suc (length xs) = omega arith in
    choice_past (x.cell == cell) n (node_from (n + 1) xs cell) (node_from (n + 1) (xs ++ ys) cell) (node_from (n + suc (length xs)) ys cell)
    (λ none. node_from-past (n + 1) xs ys cell none ∙ ap (λ (k : ℕ). node_from k ys cell) e) is

found_at : (b : Bool) (n : ℕ) (o : Option ℕ) (x : Node) (xs : List Node) (cell i : ℕ) → (x.cell == cell) ≡ b →
    (o ≡ Some i → (k : ℕ) × ((i ≡ n + 1 + k) × (cell_at xs k ≡ Some cell))) → (if b then Some n else o) ≡ Some i →
    (k : ℕ) × ((i ≡ n + k) × (cell_at (x ∷ xs) k ≡ Some cell))
found_at true n o x xs cell i same later is =
    let e = same_Some n i is in
    let first : i ≡ n + 0 = omega arith in
    (0, (first, ap (λ (c : ℕ). Some c) (eqb-true x.cell cell same)))
found_at false n o x xs cell i same later is =
    let rest = later is in
    let e = rest.1.0 in
    let next : i ≡ n + suc rest.0 = omega arith in
    (suc rest.0, (next, rest.1.1))

-- the node that is found has the cell
pub node_from-at : (n : ℕ) (xs : List Node) (cell i : ℕ) → node_from n xs cell ≡ Some i →
    (k : ℕ) × ((i ≡ n + k) × (cell_at xs k ≡ Some cell))
node_from-at n [] cell i is = absurd (none-some i is)
node_from-at n (x ∷ xs) cell i is =
    found_at (x.cell == cell) n (node_from (n + 1) xs cell) x xs cell i refl (λ later. node_from-at (n + 1) xs cell i later) is

pub node_with-at : (nodes : List Node) (cell i : ℕ) → node_with nodes cell ≡ Some i → cell_at nodes i ≡ Some cell
node_with-at nodes cell i is =
    let found = node_from-at 0 nodes cell i is in
    let e : found.0 ≡ i = let h = found.1.0 in omega arith in
    subst (λ (k : ℕ). cell_at nodes k ≡ Some cell) e found.1.1

found_either : (b : Bool) (n : ℕ) (o : Option ℕ) (others : Bool) → is_some o ≡ others → is_some (if b then Some n else o) ≡ (b || others)
found_either true n o others is = refl
found_either false n o others is = is

-- a cell is found exactly where some node has it
pub found-any : (n : ℕ) (xs : List Node) (cell : ℕ) → is_some (node_from n xs cell) ≡ list_any (has_cell cell) xs
found-any n [] cell = refl
found-any n (x ∷ xs) cell = found_either (x.cell == cell) n (node_from (n + 1) xs cell) (list_any (has_cell cell) xs) (found-any (n + 1) xs cell)

pub none_from : {A : Type 0} (o : Option A) → is_some o ≡ false → o ≡ None
none_from None is = refl
none_from (Some x) is = absurd (both_ways true is refl)

pub some_from : {A : Type 0} (o : Option A) → is_some o ≡ true → (x : A) × (o ≡ Some x)
some_from None is = absurd (both_ways false refl is)
some_from (Some x) is = (x, refl)

-- the cells of two lists of nodes are those of the one and those of the other
pub found-append : (xs ys : List Node) (cell : ℕ) →
    is_some (node_with (xs ++ ys) cell) ≡ (is_some (node_with xs cell) || is_some (node_with ys cell))
found-append xs ys cell =
    found-any 0 (xs ++ ys) cell ∙ list_any-append (has_cell cell) xs ys
    ∙ sym (ap (λ (b : Bool). b || is_some (node_with ys cell)) (found-any 0 xs cell)
    ∙ ap (λ (b : Bool). list_any (has_cell cell) xs || b) (found-any 0 ys cell))

-- the cell of a node of the first list
pub cell_at-append : (xs ys : List Node) (k cell : ℕ) → cell_at xs k ≡ Some cell → cell_at (xs ++ ys) k ≡ Some cell
cell_at-append [] ys k cell is = absurd (none-some cell is)
cell_at-append (x ∷ xs) ys zero cell is = is
cell_at-append (x ∷ xs) ys (suc k) cell is = cell_at-append xs ys k cell is

pub cell_at-within : (xs : List Node) (k cell : ℕ) → cell_at xs k ≡ Some cell → k < length xs
cell_at-within [] k cell is = absurd (none-some cell is)
cell_at-within (x ∷ xs) zero cell is = omega arith
cell_at-within (x ∷ xs) (suc k) cell is = let h = cell_at-within xs k cell is in omega arith

pub cell_at-take : (xs : List Node) (n k cell : ℕ) → cell_at (take n xs) k ≡ Some cell → cell_at xs k ≡ Some cell
cell_at-take [] zero k cell is = is
cell_at-take [] (suc n) k cell is = is
cell_at-take (x ∷ xs) zero k cell is = absurd (none-some cell is)
cell_at-take (x ∷ xs) (suc n) zero cell is = is
cell_at-take (x ∷ xs) (suc n) (suc k) cell is = cell_at-take xs n k cell is

-- a list is what comes before an element, the element and what comes after
pub split_at : (xs : List Node) (k : ℕ) (x : Node) → slice_get xs k ≡ Some x → xs ≡ take k xs ++ x ∷ drop (suc k) xs
split_at [] k x is = absurd (none-some x is)
split_at (y ∷ xs) zero x is = ap (λ (z : Node). z ∷ xs) (same_Some y x is)
split_at (y ∷ xs) (suc k) x is = ap (λ (zs : List Node). y ∷ zs) (split_at xs k x is)

-- nodes that hang, and more that hang on them
pub AllHang-append : (g : Shape) (before xs ys : List Node) → AllHang g before xs → AllHang g (before ++ xs) ys → AllHang g before (xs ++ ys)
AllHang-append g before [] ys first rest = subst (λ (b : List Node). AllHang g b ys) (append-nil before) rest
AllHang-append g before (x ∷ xs) ys first rest =
    let P : List Node → Type 0 = λ b. AllHang g b ys in (
      first.0,
      AllHang-append g (before ++ x ∷ []) xs ys first.1 (subst P (sym (append_assoc before (x ∷ []) xs)) rest),
    )

-- one more node that hangs on them
pub AllHang-push : (g : Shape) (nodes : List Node) (node : Node) → AllHang g [] nodes → Hangs g nodes node → AllHang g [] (nodes ++ node ∷ [])
AllHang-push g nodes node hanging hangs = AllHang-append g [] nodes (node ∷ []) hanging (hangs, tt)

-- a node of a tree hangs on those before it
pub AllHang-at : (g : Shape) (before nodes : List Node) (k : ℕ) (node : Node) →
    AllHang g before nodes → slice_get nodes k ≡ Some node → Hangs g (before ++ take k nodes) node
AllHang-at g before [] k node hanging is = absurd (none-some node is)
AllHang-at g before (x ∷ xs) zero node hanging is =
    let P : List Node → Type 0 = λ b. Hangs g b x in
    let Q : Node → Type 0 = λ y. Hangs g (before ++ []) y in
    subst Q (same_Some x node is) (subst P (sym (append-nil before)) hanging.0)
AllHang-at g before (x ∷ xs) (suc k) node hanging is =
    let P : List Node → Type 0 = λ b. Hangs g b node in
    subst P (append_assoc before (x ∷ []) (take k xs)) (AllHang-at g (before ++ x ∷ []) xs k node hanging.1 is)

pub hangs-at : (g : Shape) (nodes : List Node) (k : ℕ) (node : Node) → AllHang g [] nodes → slice_get nodes k ≡ Some node → Hangs g (take k nodes) node
hangs-at g nodes k node hanging is = AllHang-at g [] nodes k node hanging is

-- the node with a number, from its cell
pub node_from_cell : (nodes : List Node) (k cell : ℕ) → cell_at nodes k ≡ Some cell → (node : Node) × ((slice_get nodes k ≡ Some node) × (node.cell ≡ cell))
node_from_cell [] k cell is = absurd (none-some cell is)
node_from_cell (x ∷ xs) zero cell is = (x, (refl, same_Some x.cell cell is))
node_from_cell (x ∷ xs) (suc k) cell is = node_from_cell xs k cell is

-- the first node's cell
pub root-cell : (nodes : List Node) → 0 < length nodes → (c : ℕ) × (cell_at nodes 0 ≡ Some c)
root-cell [] some = absurd (omega arith)
root-cell (root ∷ others) some = (root.cell, refl)

-- each cell of a tree is inside the grid
pub cell-inside : (g : Shape) (nodes : List Node) (k cell : ℕ) → AllHang g [] nodes → cell_at nodes k ≡ Some cell → cell < cells_of g
cell-inside g nodes k cell hanging is =
    let at = node_from_cell nodes k cell is in
    subst (λ (c : ℕ). c < cells_of g) at.1.1 (hangs-at g nodes k at.0 hanging at.1.0).inside

-- each cell of a tree is found at its node
pub cell-only : (g : Shape) (nodes : List Node) (k cell : ℕ) → AllHang g [] nodes → cell_at nodes k ≡ Some cell → node_with nodes cell ≡ Some k
cell-only g nodes k cell hanging is =
    let at = node_from_cell nodes k cell is in
    let hangs = hangs-at g nodes k at.0 hanging at.1.0 in
    let past = node_from-past 0 (take k nodes) (at.0 ∷ drop (suc k) nodes) at.0.cell hangs.fresh in
    let test : (at.0.cell == at.0.cell) ≡ true = eq-eqb at.0.cell at.0.cell refl in
    let within : k < length nodes = cell_at-within nodes k cell is in
    let count : 0 + length (take k nodes) ≡ k = let h = length-take-le k nodes (omega arith) in omega arith in
    let found : node_from (0 + length (take k nodes)) (at.0 ∷ drop (suc k) nodes) at.0.cell ≡ Some k = rw test (ap (λ (n : ℕ). Some n) count) in
    let whole : node_with (take k nodes ++ at.0 ∷ drop (suc k) nodes) at.0.cell ≡ Some k = past ∙ found in
    let P : List Node → Type 0 = λ xs. node_with xs at.0.cell ≡ Some k in
    let Q : ℕ → Type 0 = λ c. node_with nodes c ≡ Some k in
    subst Q at.1.1 (subst P (sym (split_at nodes k at.0 at.1.0)) whole)

-- the cells of the nodes
abbrev cells : List Node → List ℕ
cells nodes = map (λ (node : Node). node.cell) nodes

cells-at : (nodes : List Node) (k d : ℕ) → k < length (cells nodes) → cell_at nodes k ≡ Some (get_or (cells nodes) k d)
cells-at nodes k d within = sym (slice_get-map (λ (node : Node). node.cell) nodes k) ∙ slice_get-get_or (cells nodes) k d within

length-cells : (nodes : List Node) → length (cells nodes) ≡ length nodes
length-cells [] = refl
length-cells (x ∷ xs) = ap (λ (n : ℕ). suc n) (length-cells xs)

-- no two nodes have one cell
cells-distinct : (g : Shape) (nodes : List Node) → AllHang g [] nodes → IsDistinct (λ a b. a == b) (cells nodes)
cells-distinct g nodes hanging =
    IsDistinct-from_AllPairs Decides-eqb (cells nodes) (λ i j d before within same.
    let first = cell-only g nodes i (get_or (cells nodes) i d) hanging (cells-at nodes i d (omega arith)) in
    let second = cell-only g nodes j (get_or (cells nodes) j d) hanging (cells-at nodes j d within) in
    let P : ℕ → Type 0 = λ c. node_with nodes c ≡ Some j in
    let e : i ≡ j = same_Some i j (sym first ∙ subst P (sym same) second) in
    absurd (omega arith))

-- a tree has at most as many nodes as the grid has cells
pub few-nodes : (g : Shape) (nodes : List Node) → AllHang g [] nodes → length nodes ≤ cells_of g
few-nodes g nodes hanging =
    let most = length-le_from_distinct_below (cells nodes) (cells_of g) (cells-distinct g nodes hanging) (λ q is.
    let any = Any-from_list_any (λ x. q == x) (cells nodes) is in
    let at = cells-at nodes any.0 any.1 any.2 in
    let same : q ≡ any.1 = eqb-true q any.1 any.4 in
    let inside = cell-inside g nodes any.0 (get_or (cells nodes) any.0 any.1) hanging at in
    let e : get_or (cells nodes) any.0 any.1 ≡ any.1 = any.3 in
    omega arith) in
    let e = length-cells nodes in
    omega arith

-- the search by position
found-from : (n : ℕ) (nodes : List Node) (cell : ℕ) → node_from n nodes cell ≡ position_from (has_cell cell) n nodes
found-from n [] cell = refl
found-from n (x ∷ xs) cell = ap (λ (o : Option ℕ). if has_cell cell x then Some n else o) (found-from (n + 1) xs cell)

pub node_with-position : (nodes : List Node) (cell : ℕ) → position (has_cell cell) nodes ≡ node_with nodes cell
node_with-position nodes cell = position_from-zero (has_cell cell) nodes ∙ sym (found-from 0 nodes cell)

some-and : {A : Type 0} (o : Option A) (P : A → Type 0) → IsSomeAnd o P → (x : A) × ((o ≡ Some x) × P x)
some-and None P h = absurd h
some-and (Some x) P h = (x, (refl, h))

-- the cell of a node's parent, where it hangs on some
pub parent-of : (g : Shape) (before : List Node) (node : Node) → 0 < length before → IsParent g before node →
    (cell : ℕ) × ((cell_at before node.parent ≡ Some cell) × AreNeighbours g node.cell cell)
parent-of g [] node some parent = absurd (omega arith)
parent-of g (x ∷ xs) node some parent = some-and (cell_at (x ∷ xs) node.parent) (λ cell. AreNeighbours g node.cell cell) parent

-- a node's parent is an earlier one
pub parent-earlier : (g : Shape) (nodes : List Node) (k : ℕ) (node : Node) → AllHang g [] nodes → slice_get nodes k ≡ Some node → 0 < k → node.parent < k
parent-earlier g nodes k node hanging is later =
    let within = slice_get_within nodes k node is in
    let count : length (take k nodes) ≡ k = length-take-le k nodes (omega arith) in
    let parent = parent-of g (take k nodes) node (omega arith) (hangs-at g nodes k node hanging is).parent in
    let earlier = cell_at-within (take k nodes) node.parent parent.0 parent.1.0 in
    omega arith

pub position-found : (xs nodes : List Node) (cell : ℕ) (o : Option ℕ) → o ≡ position (has_cell cell) xs → xs ≡ nodes → o ≡ node_with nodes cell
position-found xs nodes cell o is same = is ∙ node_with-position xs cell ∙ ap (λ (ns : List Node). node_with ns cell) same

pub some-alike : (o p : Option ℕ) → o ≡ p → IsSome o ↔ IsTrue (is_some p)
some-alike o p same = let e : is_some o ≡ is_some p = ap (λ (q : Option ℕ). is_some q) same in (λ h. sym e ∙ h, λ h. e ∙ h)

-- the cell of a node that is read
pub read-cell : (nodes : List Node) (k : ℕ) (node : Node) → slice_get nodes k ≡ Some node → cell_at nodes k ≡ Some node.cell
read-cell nodes k node is = ap (λ (o : Option Node). option_map (λ (n : Node). n.cell) o) is
