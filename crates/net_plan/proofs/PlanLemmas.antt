-- Nets and their pins, as the parts of a plan want them.
use Rattle.std.proofs.Common.{◌≡◌, ℕ, ◌<◌, ◌≤◌, Bool, true, false, ◌&&◌, nat_lt, nat_le, Option, Some, List, length, slice_get, slice_index, unwrap_or, All, IsTrue, refl, sym, ap, subst, ◌∙◌, arith}
use Rattle.std.specs.Option.{option_map}
use Rattle.std.proofs.lemmas.Bool.Decides.{nat_tests}
use Rattle.std.proofs.lemmas.List.Elements.{All-get_or}
use Rattle.std.proofs.lemmas.Option.{slice_get_within, get_or_from_slice_get}
use Rattle.layer_assign.proofs.Problems.{may-below}
use Rattle.gr_base.proofs.GridLemmas.{edge-room}
use Rattle.gr_base.specs.Designs.{DesignView, IsFrame, IsDesign, IsNet, is_routed, is_routed_net, pins_in, pins_at}
use Rattle.gr_base.specs.Grid.{cells_of, place_at}
use Rattle.gr_base.specs.Trees.{TreeView, IsTree}
use Rattle.gr_base.specs.declared.frame.Net.{Net}
use Rattle.gr_base.specs.declared.grid.Edge.{Edge}
use Rattle.gr_base.specs.declared.grid.Shape.{Shape}
use Rattle.cost_rules.specs.declared.site.Formula.{Formula}
use Rattle.grid_demand.specs.LoadSums.{LoadsView}
use Rattle.gr_base.specs.declared.grid.Way.{Way}
use Rattle.grid_demand.specs.Tables.{CapacityView, capacity_of}
use Rattle.layer_assign.specs.Raised.{AreLayers}
use Rattle.layer_assign.specs.Assignments.{IsAssignment, ArePins, goes_on, HasLayers, IsFlat as IsFlattened}
use Rattle.layer_assign.proofs.FlatLemmas.{some_edge}
use Rattle.net_plan.specs.FlatTrees.{HoldsTiles}
use Rattle.net_plan.specs.Patterns.{IsPatternTree, IsPattern}
use Rattle.net_plan.specs.Prices.{price_of, ways_of}
use Rattle.net_plan.proofs.WayLemmas.{edge-layer}

both : (p q : Bool) → p ≡ true → q ≡ true → IsTrue (p && q)
both p q h k = rw (h, k) refl

-- each edge of a tree of the flat grid has a layer that goes its way
pub has-layers : (d : DesignView) (c : CapacityView) (t : TreeView) → c ≡ capacity_of d → IsFrame d.frame → IsFlattened d.frame.shape t.shape → IsTree t →
    HasLayers d.frame.shape (ways_of c) t
has-layers d c t is frame flattened tree node later below =
    let edge = some_edge t node tree later below in
    let e = edge.0 in
    let layer = edge-layer d t.shape (place_at t.shape e.low) e.way frame flattened (edge-room t.shape e edge.1.1) in
    let count : nat_lt layer.0 d.frame.shape.layers ≡ true = below-test layer.0 d.frame.shape.layers layer.1.0 in
    let goes : ways_of c layer.0 e.way ≡ true = ap (λ (x : CapacityView). ways_of x layer.0 e.way) is ∙ layer.1.1 in
    let may : IsTrue (goes_on d.frame.shape (ways_of c) layer.0 e) = both (nat_lt layer.0 d.frame.shape.layers) (ways_of c layer.0 e.way) count goes in
    (layer.0, ap (λ (o : Option Edge). unwrap_or (option_map (goes_on d.frame.shape (ways_of c) layer.0) o) false) edge.1.0 ∙ may)
  where
    below-test : (a b : ℕ) → a < b → nat_lt a b ≡ true
    below-test a b less = grind (arith, nat_tests)

-- a net of a design
pub net-of : (d : DesignView) (number : ℕ) (net : Net) → IsDesign d → slice_get d.nets number ≡ Some net → IsNet d.frame.shape net
net-of d number net design is =
    subst (IsNet d.frame.shape) (get_or_from_slice_get d.nets number net net is)
    (All-get_or (IsNet d.frame.shape) d.nets number net (slice_get_within d.nets number net is) design.nets)

pub pins-of : (d : DesignView) (number : ℕ) (net : Net) → slice_get d.nets number ≡ Some net → pins_at d number ≡ net.pins
pins-of d number net is = ap pins_in is

-- a routed net has few pins
pub routed-few : (d : DesignView) (number : ℕ) (net : Net) → slice_get d.nets number ≡ Some net → IsTrue (is_routed d number) → length net.pins ≤ 1000
routed-few d number net is routed =
    let test : IsTrue (is_routed_net (Some net)) = sym (ap is_routed_net is) ∙ routed in
    few (length net.pins) test
  where
    few : (n : ℕ) → (nat_lt 0 n && nat_le n 1000) ≡ true → n ≤ 1000
    few n test = grind (arith, nat_tests)

-- an assignment names layers of the grid
pub are-layers : (g : Shape) (ways : ℕ → Way → Bool) (t : TreeView) (layers : List ℕ) → length layers ≡ length t.nodes →
    IsAssignment g ways t (λ node. slice_index layers node) → AreLayers g t layers
are-layers g ways t layers count assigned = record {
  nodes = count;
  below = λ node later below. may-below g ways t node (slice_index layers node) (assigned node later below);
}

-- the same plan, where the grid, the capacity and so on are the same
pub same-plan : (s : Shape) (c d : CapacityView) (l m : LoadsView) (f h : Formula) (net other : ℕ) (pins cells : List ℕ) (t : TreeView) →
    s ≡ d.shape → c ≡ d → l ≡ m → f ≡ h → net ≡ other → pins ≡ cells → IsPatternTree s (ways_of c) (price_of c l f net) pins t → IsPattern d m h other cells t
same-plan s c d l m f h net other pins cells t ss cs ls fs ns ps plan =
    let by_shape = subst (λ (x : Shape). IsPatternTree x (ways_of c) (price_of c l f net) pins t) ss plan in
    let by_capacity = subst (λ (x : CapacityView). IsPatternTree d.shape (ways_of x) (price_of x l f net) pins t) cs by_shape in
    let by_loads = subst (λ (x : LoadsView). IsPatternTree d.shape (ways_of d) (price_of d x f net) pins t) ls by_capacity in
    let by_formula = subst (λ (x : Formula). IsPatternTree d.shape (ways_of d) (price_of d m x net) pins t) fs by_loads in
    let by_net = subst (λ (x : ℕ). IsPatternTree d.shape (ways_of d) (price_of d m h x) pins t) ns by_formula in
    subst (λ (x : List ℕ). IsPatternTree d.shape (ways_of d) (price_of d m h other) x t) ps by_net

-- the net is the one that was wanted
pub same-net : (d : DesignView) (number : ℕ) (net wanted : Net) → slice_get d.nets number ≡ Some net → slice_get d.nets number ≡ Some wanted → net.pins ≡ wanted.pins
same-net d number net wanted is wanted_is = sym (pins-of d number net is) ∙ pins-of d number wanted wanted_is

-- a net's pins, as the layers of its flat tree want them
pub are-pins : (s g : Shape) (flat : TreeView) (cells : List ℕ) (net : Net) → s ≡ g → cells ≡ net.pins → IsNet g net → HoldsTiles g cells flat → ArePins s flat cells
are-pins s g flat cells net ss cs is held =
    subst (λ (x : Shape). ArePins x flat cells) (sym ss) (record {
      some = subst (λ (xs : List ℕ). 0 < length xs) (sym cs) is.driver;
      cells = subst (All (λ pin. pin < cells_of g)) (sym cs) is.pins;
      tiles = held;
    })
