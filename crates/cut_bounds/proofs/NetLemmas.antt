-- Routed nets in flat lists, and the least that they need.
use Rattle.std.proofs.Common.{◌≡◌, ℕ, suc, zero, ◌+◌, ◌<◌, ◌≤◌, true, false, List, [], ◌∷◌, ◌++◌, map, filter, take, drop, length, get_or, slice_get, Option, Some, refl, sym, ap, subst, ◌∙◌, arith}
use Rattle.std.specs.List.{range_with_len}
use Rattle.std.proofs.lemmas.List.{map-append, length-append, length-map, take_all, take-append-le, drop-append-le, nil_from_length, length-drop, drop_more}
use Rattle.std.proofs.lemmas.List.Sums.{sum_by-cons, sum_by_push}
use Rattle.gr_base.specs.Capacities.{width_in}
use Rattle.gr_base.specs.Designs.{DesignView, is_routed, layers_of, pins_at, pins_in}
use Rattle.gr_base.specs.declared.frame.Net.{Net}
use Rattle.grid_demand.proofs.RangeFilters.{filter-fails, filter-passes}
use Rattle.wall_laws.specs.Walls.{least_need, least_on}
use Rattle.cut_bounds.specs.declared.net_tiles.NetNeed.{NetNeed}
use Rattle.cut_bounds.specs.declared.axis.Tile.{Tile}
use Rattle.cut_bounds.specs.NetTiles.{Placed, placed_by, placed_net, pins_counted, tile_in}

-- ---- the least need over layers

-- ---- nets in flat lists

pub placed-push : (net_needs : List NetNeed) (tiles more : List Tile) (net_need : NetNeed) → pins_counted net_needs ≡ length tiles → net_need.pins ≡ length more →
    placed_by (net_needs ++ net_need ∷ []) (tiles ++ more) ≡ placed_by net_needs tiles ++ record { need = net_need.need; tiles = more } ∷ []
placed-push [] tiles more net_need whole all =
    let none : tiles ≡ [] = nil_from_length tiles (sym whole) in
    ap (λ (ts : List Tile). placed_by (net_need ∷ []) (ts ++ more)) none
    ∙ ap (λ (ts : List Tile). record { need = net_need.need; tiles = ts } ∷ []) (take_all net_need.pins more (omega (arith, all)))
placed-push (first ∷ net_needs) tiles more net_need whole all =
    let sum = sum_by-cons (λ (c : NetNeed). c.pins) first net_needs in
    let fits : first.pins ≤ length tiles = omega (arith, sum, whole) in
    let rest : pins_counted net_needs ≡ length (drop first.pins tiles) = omega (arith, sum, whole, length-drop first.pins tiles) in
    ap (λ (ts : List Tile). record { need = first.need; tiles = ts } ∷ placed_by (net_needs ++ net_need ∷ []) (drop first.pins (tiles ++ more))) (take-append-le first.pins tiles more fits)
    ∙ ap (λ (ts : List Tile). record { need = first.need; tiles = take first.pins tiles } ∷ placed_by (net_needs ++ net_need ∷ []) ts) (drop-append-le first.pins tiles more fits)
    ∙ ap (λ (ps : List Placed). record { need = first.need; tiles = take first.pins tiles } ∷ ps) (placed-push net_needs (drop first.pins tiles) more net_need rest all)

pub whole-push : (net_needs : List NetNeed) (tiles more : List Tile) (net_need : NetNeed) → pins_counted net_needs ≡ length tiles → net_need.pins ≡ length more →
    pins_counted (net_needs ++ net_need ∷ []) ≡ length (tiles ++ more)
whole-push net_needs tiles more net_need whole all =
    omega (arith, sum_by_push (λ (c : NetNeed). c.pins) net_needs net_need, whole, all, length-append tiles more)

-- ---- the routed nets one after another

-- the routed ones of the first nets
abbrev pub placed_before : DesignView → ℕ → List Placed
placed_before d n = map (placed_net d) (filter (is_routed d) (range_with_len 0 n))

pub placed-more : (d : DesignView) (n : ℕ) (so-far new : List Placed) → is_routed d n ≡ true → so-far ≡ placed_before d n →
    new ≡ so-far ++ placed_net d n ∷ [] → new ≡ placed_before d (n + 1)
placed-more d n so-far new on was is =
    let ns : List ℕ = filter (is_routed d) (range_with_len 0 n) in
    let more = filter-passes (is_routed d) n ns (ns ++ n ∷ []) refl on refl in
    is ∙ ap (λ (ps : List Placed). ps ++ placed_net d n ∷ []) was
    ∙ sym (map-append (placed_net d) ns (n ∷ []))
    ∙ ap (λ (ks : List ℕ). map (placed_net d) ks) more

pub placed-passed : (d : DesignView) (n : ℕ) (so-far : List Placed) → is_routed d n ≡ false → so-far ≡ placed_before d n → so-far ≡ placed_before d (n + 1)
placed-passed d n so-far off was =
    let ns : List ℕ = filter (is_routed d) (range_with_len 0 n) in
    was ∙ ap (λ (ks : List ℕ). map (placed_net d) ks) (filter-fails (is_routed d) n ns refl off)

-- ---- a net of the design

width-at : (nets : List Net) (k : ℕ) (net : Net) → slice_get nets k ≡ Some net → width_in (map (λ (n : Net). n.width) nets) k ≡ net.width
width-at [] k net is = cc
width-at (first ∷ nets) zero net is = let same : first ≡ net = cc in ap (λ (n : Net). n.width) same
width-at (first ∷ nets) (suc k) net is = width-at nets k net is

pub need-of : (d : DesignView) (k : ℕ) (net : Net) → slice_get d.nets k ≡ Some net → least_on net.width (layers_of d.frame) ≡ least_need d k
need-of d k net is = ap (λ (n : ℕ). least_on n (layers_of d.frame)) (sym (width-at d.nets k net is))

pub pins-of : (d : DesignView) (k : ℕ) (net : Net) → slice_get d.nets k ≡ Some net → net.pins ≡ pins_at d k
pins-of d k net is = sym (ap (λ (o : Option Net). pins_in o) is)

-- the nets with one more, as the code adds it
pub net-added : (d : DesignView) (k : ℕ) (net : Net) (net_needs new : List NetNeed) (tiles new' : List Tile) (net_need : NetNeed) (pins : List ℕ) →
    slice_get d.nets k ≡ Some net → pins ≡ net.pins → pins_counted net_needs ≡ length tiles →
    new ≡ net_needs ++ net_need ∷ [] → net_need.need ≡ least_on net.width (layers_of d.frame) → net_need.pins ≡ length pins →
    new' ≡ tiles ++ map (tile_in d.frame.shape) pins →
    (placed_by new new' ≡ placed_by net_needs tiles ++ placed_net d k ∷ []) × (pins_counted new ≡ length new')
net-added d k net net_needs new tiles new' net_need pins there are whole is need count is' =
    let ts : List Tile = map (tile_in d.frame.shape) pins in
    let all : net_need.pins ≡ length ts = count ∙ sym (length-map pins (tile_in d.frame.shape)) in
    let same : ts ≡ map (tile_in d.frame.shape) (pins_at d k) = ap (λ (ns : List ℕ). map (tile_in d.frame.shape) ns) (are ∙ pins-of d k net there) in (
      ap (λ (cs : List NetNeed). placed_by cs new') is ∙ ap (λ (us : List Tile). placed_by (net_needs ++ net_need ∷ []) us) is'
          ∙ placed-push net_needs tiles ts net_need whole all
          ∙ ap (λ (n : ℕ). placed_by net_needs tiles ++ record { need = n; tiles = ts } ∷ []) (need ∙ need-of d k net there)
          ∙ ap (λ (us : List Tile). placed_by net_needs tiles ++ record { need = least_need d k; tiles = us } ∷ []) same,
      ap (λ (cs : List NetNeed). pins_counted cs) is ∙ whole-push net_needs tiles ts net_need whole all ∙ ap (λ (us : List Tile). length us) (sym is'),
    )

-- ---- going through the nets

-- the first of the nets that are left, with its tiles, and the others
pub record IsNext (net_needs : List NetNeed) (at : ℕ) (net_need : NetNeed) (rest tiles others : List Tile) : Type 0 where
  pub is : placed_by (drop at net_needs) rest ≡ record { need = net_need.need; tiles = tiles } ∷ placed_by (drop (at + 1) net_needs) others
  pub whole : pins_counted (drop (at + 1) net_needs) ≡ length others

pub next-net : (net_needs : List NetNeed) (at : ℕ) (net_need d : NetNeed) (rest tiles others : List Tile) → at < length net_needs → net_need ≡ get_or net_needs at d →
    pins_counted (drop at net_needs) ≡ length rest → tiles ≡ take net_need.pins rest → others ≡ drop net_need.pins rest → IsNext net_needs at net_need rest tiles others
next-net net_needs at net_need d rest tiles others inside there whole is is' =
    let split : drop at net_needs ≡ net_need ∷ drop (at + 1) net_needs = drop_more net_needs at d inside ∙ ap (λ (c : NetNeed). c ∷ drop (at + 1) net_needs) (sym there) in
    let sum = ap (λ (cs : List NetNeed). pins_counted cs) split ∙ sum_by-cons (λ (c : NetNeed). c.pins) net_need (drop (at + 1) net_needs) in
    record {
      is = ap (λ (cs : List NetNeed). placed_by cs rest) split
          ∙ ap (λ (ts : List Tile). record { need = net_need.need; tiles = ts } ∷ placed_by (drop (at + 1) net_needs) (drop net_need.pins rest)) (sym is)
          ∙ ap (λ (ts : List Tile). record { need = net_need.need; tiles = tiles } ∷ placed_by (drop (at + 1) net_needs) ts) (sym is');
      whole = let long = ap (λ (ts : List Tile). length ts) is' ∙ length-drop net_need.pins rest in omega (arith, sum, whole, long);
    }

-- the same, as the code reads the net_needs
pub next-read : (net_needs items : List NetNeed) (at : ℕ) (d : NetNeed) (rest tiles others : List Tile) → items ≡ net_needs → at < length items →
    pins_counted (drop at net_needs) ≡ length rest → tiles ≡ take (get_or items at d).pins rest → others ≡ drop (get_or items at d).pins rest →
    IsNext net_needs at (get_or items at d) rest tiles others
next-read net_needs items at d rest tiles others same inside whole is is' =
    next-net net_needs at (get_or items at d) d rest tiles others (subst (λ (cs : List NetNeed). at < length cs) same inside)
    (ap (λ (cs : List NetNeed). get_or cs at d) same) whole is is'

pub next-fits : (net_needs items : List NetNeed) (at : ℕ) (d : NetNeed) (rest : List Tile) → items ≡ net_needs → at < length items →
    pins_counted (drop at net_needs) ≡ length rest → (get_or items at d).pins ≤ length rest
next-fits net_needs items at d rest same inside whole =
    let split = drop_more items at d inside in
    let sum = ap (λ (cs : List NetNeed). pins_counted cs) split ∙ sum_by-cons (λ (c : NetNeed). c.pins) (get_or items at d) (drop (at + 1) items) in
    let e = ap (λ (cs : List NetNeed). pins_counted (drop at cs)) same in
    omega (arith, sum, e, whole)
