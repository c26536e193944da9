-- There is one maze plan.
use Rattle.std.proofs.Common.{◌≡◌, ℕ, Bool, true, false, List, [], ◌∷◌, Option, IsTrue, refl, sym, ap, subst, ◌∙◌, arith}
use Rattle.gr_base.specs.Trees.{TreeView, is_among, attached}
use Rattle.gr_base.specs.declared.grid.Edge.{Edge}
use Rattle.maze_route.specs.Walks.{Graph, IsDistance, IsFirstGoal, IsFirstBack, LeadsBack, IsLeastWalk}
use Rattle.maze_route.specs.Windows.{window_graph}
use Rattle.maze_route.specs.declared.window.Window.{Window}
use Rattle.cost_rules.specs.declared.site.Formula.{Formula}
use Rattle.gr_base.specs.declared.grid.Shape.{Shape}
use Rattle.grid_demand.specs.LoadSums.{LoadsView}
use Rattle.grid_demand.specs.Tables.{CapacityView}
use Rattle.net_plan.specs.Prices.{price_of}
use Rattle.net_plan.specs.Mazes.{missing, window_of, driver_tree, GrowsTo, IsMaze}
use Rattle.net_plan.specs.Mazes.GrowsTo.{Ends, Goes_on}

-- there is one first goal
goal-only : (graph : Graph) (goals : List ℕ) (a b : ℕ) → IsFirstGoal graph goals a → IsFirstGoal graph goals b → a ≡ b
goal-only graph goals a b one other =
    let low = one.nearest b other.distance other.among other.is_distance in
    let high = other.nearest a one.distance one.among one.is_distance in
    let same : one.distance ≡ other.distance = omega arith in
    let first = one.first b other.among (subst (IsDistance graph b) (sym same) other.is_distance) in
    let second = other.first a one.among (subst (IsDistance graph a) same one.is_distance) in
    omega arith

-- and one first cell back
back-only : (graph : Graph) (v a b : ℕ) → IsFirstBack graph v a → IsFirstBack graph v b → a ≡ b
back-only graph v a b one other =
    let first = one.first b other.is_back in
    let second = other.first a one.is_back in
    omega arith

pub differ : (b : Bool) → b ≡ false → b ≡ true → ⊥
differ b is_false is_true = false-true (sym is_false ∙ is_true)
  where
    false-true : false ≡ true → ⊥
    false-true e = cc

-- so there is one walk back
back-walk_only : (graph : Graph) (v : ℕ) (xs ys : List ℕ) → LeadsBack graph (v ∷ xs) → LeadsBack graph (v ∷ ys) → xs ≡ ys
back-walk_only graph v [] [] one other = refl
back-walk_only graph v [] (b ∷ ys) one other = absurd (differ (graph.source v) other.0 one)
back-walk_only graph v (a ∷ xs) [] one other = absurd (differ (graph.source v) one.0 other)
back-walk_only graph v (a ∷ xs) (b ∷ ys) one other =
    let same : a ≡ b = back-only graph v a b one.1.0 other.1.0 in
    let rest : xs ≡ ys = back-walk_only graph b xs ys (subst (λ (n : ℕ). LeadsBack graph (n ∷ xs)) same one.1.1) other.1.1 in
    ap (λ (n : ℕ). n ∷ xs) same ∙ ap (λ (zs : List ℕ). b ∷ zs) rest

walk-only : (graph : Graph) (goals one other : List ℕ) → IsLeastWalk graph goals one → IsLeastWalk graph goals other → one ≡ other
walk-only graph goals one other a b =
    let same : a.goal ≡ b.goal = goal-only graph goals a.goal b.goal a.first_goal b.first_goal in
    let of_a : LeadsBack graph (b.goal ∷ a.rest) =
    subst (λ (n : ℕ). LeadsBack graph (n ∷ a.rest)) same (subst (LeadsBack graph) a.begins a.leads_back) in
    let of_b : LeadsBack graph (b.goal ∷ b.rest) = subst (LeadsBack graph) b.begins b.leads_back in
    let rest : a.rest ≡ b.rest = back-walk_only graph b.goal a.rest b.rest of_a of_b in
    a.begins ∙ ap (λ (n : ℕ). n ∷ a.rest) same ∙ ap (λ (zs : List ℕ). b.goal ∷ zs) rest ∙ sym b.begins

-- a walk has a goal
none-missing : (graph : Graph) (goals walk : List ℕ) → goals ≡ [] → IsLeastWalk graph goals walk → ⊥
none-missing graph goals walk none least =
    let among : IsTrue (is_among [] least.goal) = subst (λ (cells : List ℕ). IsTrue (is_among cells least.goal)) none least.first_goal.among in
    differ false refl among

-- a tree grows to one tree alone
grows-only : (w : Window) (price : Edge → Option ℕ) (pins : List ℕ) (t u v : TreeView) → GrowsTo w price pins t u → GrowsTo w price pins t v → u ≡ v
grows-only w price pins t _ _ (Ends none) (Ends none_too) = refl
grows-only w price pins t _ v (Ends none) (Goes_on walk least rest) = absurd (none-missing (window_graph t w price) (missing t pins) walk none least)
grows-only w price pins t u _ (Goes_on walk least rest) (Ends none) = absurd (none-missing (window_graph t w price) (missing t pins) walk none least)
grows-only w price pins t u v (Goes_on walk least rest) (Goes_on other least_too rest_too) =
    let same : walk ≡ other = walk-only (window_graph t w price) (missing t pins) walk other least least_too in
    grows-only w price pins (attached t other) u v (subst (λ (xs : List ℕ). GrowsTo w price pins (attached t xs) u) same rest) rest_too

-- the same plan, where the grid, the window, the capacity and so on are the same
pub same-maze : (g : Shape) (w : Window) (c d : CapacityView) (l m : LoadsView) (f h : Formula) (net other : ℕ) (cells pins : List ℕ) (margin : ℕ) (t : TreeView) →
    w ≡ window_of g cells margin → g ≡ d.shape → c ≡ d → l ≡ m → f ≡ h → net ≡ other → cells ≡ pins →
    GrowsTo w (price_of c l f net) cells (driver_tree g cells) t → IsMaze d m h other pins margin t
same-maze g w c d l m f h net other cells pins margin t ws gs cs ls fs ns ps grows =
    let by_window = subst (λ (x : Window). GrowsTo x (price_of c l f net) cells (driver_tree g cells) t) ws grows in
    let by_shape = subst (λ (x : Shape). GrowsTo (window_of x cells margin) (price_of c l f net) cells (driver_tree x cells) t) gs by_window in
    let by_capacity = subst (λ (x : CapacityView). GrowsTo (window_of d.shape cells margin) (price_of x l f net) cells (driver_tree d.shape cells) t) cs by_shape in
    let by_loads = subst (λ (x : LoadsView). GrowsTo (window_of d.shape cells margin) (price_of d x f net) cells (driver_tree d.shape cells) t) ls by_capacity in
    let by_formula = subst (λ (x : Formula). GrowsTo (window_of d.shape cells margin) (price_of d m x net) cells (driver_tree d.shape cells) t) fs by_loads in
    let by_net = subst (λ (x : ℕ). GrowsTo (window_of d.shape cells margin) (price_of d m h x) cells (driver_tree d.shape cells) t) ns by_formula in
    subst (λ (x : List ℕ). IsMaze d m h other x margin t) ps by_net

pub maze-only : (c : CapacityView) (l : LoadsView) (f : Formula) (net : ℕ) (pins : List ℕ) (margin : ℕ) (t other : TreeView) →
    IsMaze c l f net pins margin other → IsMaze c l f net pins margin t → other ≡ t
maze-only c l f net pins margin t other is_other is = grows-only (window_of c.shape pins margin) (price_of c l f net) pins (driver_tree c.shape pins) other t is_other is
