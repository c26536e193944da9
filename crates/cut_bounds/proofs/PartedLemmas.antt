-- Boxes of greater sides hold what those of a side hold, so of the nets those are left that a box of the side doesn't hold.
use Rattle.std.proofs.Common.{◌≡◌, ℕ, ◌+◌, ◌-◌, ◌*◌, ◌/◌, ◌<◌, ◌≤◌, ◌^◌, inl, inr, Bool, true, false, cond, ◌==◌, List, [], ◌∷◌, ◌++◌, All, map, filter, drop, length, get_or, sum_by, refl, sym, ap, subst, ◌∙◌, arith}
use Rattle.std.specs.List.{list_all}
use Rattle.std.proofs.lemmas.Bool.{and_from, and_parts, cases_Bool, not-false, not_from_false, not_from_true}
use Rattle.std.proofs.lemmas.Bool.Decides.{nat_tests}
use Rattle.std.proofs.lemmas.List.{append-nil, append_assoc, drop_all}
use Rattle.std.proofs.lemmas.List.Elements.{All-filter, All-head, All-tail}
use Rattle.std.proofs.lemmas.List.Sums.{count_by-le-length, length-filter, sum_by-cons}
use Rattle.std.proofs.lemmas.Nat.{same_from_place, shr-shr}
use Rattle.gr_base.specs.Designs.{DesignView, IsDesign}
use Rattle.gr_base.specs.declared.grid.Shape.{Shape}
use Rattle.wall_laws.proofs.SumLemmas.{sum-filter, sum-le}
use Rattle.wall_laws.specs.Walls.{is_parted}
use Rattle.cut_bounds.specs.Boxes.{across_of, box_needs, box_number, is_parted_on, lies_in_one, IsOnChip}
use Rattle.cut_bounds.specs.Candidates.{AreLeft}
use Rattle.cut_bounds.specs.NetTiles.{Placed, AreWhole, pins_counted, placed_by, placed_in, placed_nets}
use Rattle.cut_bounds.specs.TileWires.{where_so}
use Rattle.cut_bounds.specs.declared.axis.Tile.{Tile}
use Rattle.cut_bounds.specs.declared.net_tiles.NetNeed.{NetNeed}
use Rattle.cut_bounds.specs.declared.net_tiles.NetTiles.{NetTiles}
use Rattle.cut_bounds.proofs.BoxLemmas.{box-column-below, parted-none}
use Rattle.cut_bounds.proofs.DesignLemmas.{code-net_needs, code-few, code-some, code-within, length-placed}
use Rattle.cut_bounds.proofs.NetLemmas.{IsNext, placed-push, whole-push}
use Rattle.cut_bounds.proofs.SumLemmas.{where-le, where-no}

-- ---- boxes of greater sides

quotient-above : (level up a b : ℕ) → level ≤ up → a / 2 ^ level ≡ b / 2 ^ level → a / 2 ^ up ≡ b / 2 ^ up
quotient-above level up a b low same =
    let e : level + (up - level) ≡ up = omega (arith, low) in
    sym (shr-shr a level (up - level) ∙ ap (λ (k : ℕ). a / 2 ^ k) e) ∙ ap (λ (k : ℕ). k / 2 ^ (up - level)) same
    ∙ shr-shr b level (up - level) ∙ ap (λ (k : ℕ). b / 2 ^ k) e

-- two tiles of a box lie in one box of each greater side
box-above : (g : Shape) (level up : ℕ) (a b : Tile) → level ≤ up → IsOnChip g a → IsOnChip g b →
    box_number g level a ≡ box_number g level b → box_number g up a ≡ box_number g up b
box-above g level up a b low on on' same =
    let parts = same_from_place (a.y / 2 ^ level) (a.x / 2 ^ level) (b.y / 2 ^ level) (b.x / 2 ^ level) (across_of g level)
    (box-column-below g level a on) (box-column-below g level b on') same in
    ap (λ (k : ℕ). k * across_of g up + a.x / 2 ^ up) (quotient-above level up a.y b.y low parts.0)
    ∙ ap (λ (k : ℕ). b.y / 2 ^ up * across_of g up + k) (quotient-above level up a.x b.x low parts.1)

lies-above : (g : Shape) (level up : ℕ) (tiles : List Tile) → level ≤ up → All (IsOnChip g) tiles →
    lies_in_one (map (box_number g level) tiles) ≡ true → lies_in_one (map (box_number g up) tiles) ≡ true
lies-above g level up [] low on same = refl
lies-above g level up (first ∷ tiles) low on same = each (first ∷ tiles) on same where
  each : (ts : List Tile) → All (IsOnChip g) ts → list_all (λ n. n == box_number g level first) (map (box_number g level) ts) ≡ true →
      list_all (λ n. n == box_number g up first) (map (box_number g up) ts) ≡ true
  each [] on' same' = refl
  each (t ∷ ts) on' same' =
      let parts = and_parts (box_number g level t == box_number g level first)
      (list_all (λ n. n == box_number g level first) (map (box_number g level) ts)) same' in
      let here : box_number g level t ≡ box_number g level first = let p = parts.0 in grind (arith, nat_tests, p) in
      let is = box-above g level up t first low (All-head (IsOnChip g) t ts on') (All-head (IsOnChip g) first tiles on) here in
      let above : (box_number g up t == box_number g up first) ≡ true = grind (arith, nat_tests, is) in
      and_from (box_number g up t == box_number g up first) (list_all (λ n. n == box_number g up first) (map (box_number g up) ts))
      above (each ts (All-tail (IsOnChip g) t ts on') parts.1)

-- the nets that a box of a side holds need nothing of boxes of greater sides
needs-parted : (g : Shape) (level up n : ℕ) (nets : List Placed) → level ≤ up → All (λ (net : Placed). All (IsOnChip g) net.tiles) nets →
    box_needs g up n (filter (is_parted_on g level) nets) ≡ box_needs g up n nets
needs-parted g level up n [] low within = refl
needs-parted g level up n (net ∷ nets) low within =
    let need : Placed → ℕ = λ p. where_so (is_parted (λ b. b == n) (map (box_number g up) p.tiles)) p.need in
    let all = sum_by-cons need net nets in
    let rest = needs-parted g level up n nets low (All-tail (λ (p : Placed). All (IsOnChip g) p.tiles) net nets within) in
    elim (cases_Bool (is_parted_on g level net)) [
      | inl parts ↦
          let kept : filter (is_parted_on g level) (net ∷ nets) ≡ net ∷ filter (is_parted_on g level) nets = rw parts refl in
          let a = ap (λ (ns : List Placed). box_needs g up n ns) kept ∙ sum_by-cons need net (filter (is_parted_on g level) nets) in
          omega (arith, a, rest, all)
      | inr held ↦
          let kept : filter (is_parted_on g level) (net ∷ nets) ≡ filter (is_parted_on g level) nets = rw held refl in
          let a = ap (λ (ns : List Placed). box_needs g up n ns) kept in
          let one = lies-above g level up net.tiles low (All-head (λ (p : Placed). All (IsOnChip g) p.tiles) net nets within)
          (not-false (lies_in_one (map (box_number g level) net.tiles)) held) in
          let none = where-no (is_parted (λ b. b == n) (map (box_number g up) net.tiles)) net.need
          (parted-none n (map (box_number g up) net.tiles) one) in
          omega (arith, a, rest, all, none)
    ]

-- ---- the nets that are left

pub all-left : (d : DesignView) (nets : NetTiles) → IsDesign d → placed_in nets ≡ placed_nets d → AreWhole nets → AreLeft d 0 nets
all-left d nets is placed whole = record {
  whole = whole;
  within = code-within d d.frame.shape (placed_in nets) is refl placed;
  some = code-some d (placed_in nets) placed;
  few = code-few d (placed_in nets) is placed;
  few_nets = code-net_needs d nets.net_needs.items nets.tiles.items is placed;
  same = λ up n low. ap (λ (ns : List Placed). box_needs d.frame.shape up n ns) placed;
}

less-left : (d : DesignView) (level : ℕ) (nets new : NetTiles) → AreLeft d level nets →
    placed_in new ≡ filter (is_parted_on d.frame.shape level) (placed_in nets) → AreWhole new → AreLeft d level new
less-left d level nets new was is whole =
    let g = d.frame.shape in
    let p : Placed → Bool = is_parted_on g level in
    let ns : List Placed = placed_in nets in
    let fewer : sum_by (λ (net : Placed). net.need) (filter p ns) ≤ sum_by (λ (net : Placed). net.need) ns =
    let e = sum-filter (λ (net : Placed). net.need) p ns in
    let le = sum-le (λ (net : Placed). cond (p net) net.need 0) (λ (net : Placed). net.need) ns
    (λ k net inside. where-le (p (get_or ns k net)) (get_or ns k net).need) in
    omega (arith, e, le) in
    record {
      whole = whole;
      within = subst (λ (ms : List Placed). All (λ (net : Placed). All (IsOnChip g) net.tiles) ms) (sym is)
          (All-filter p (λ (net : Placed). All (IsOnChip g) net.tiles) ns was.within);
      some = subst (λ (ms : List Placed). All (λ (net : Placed). 0 < length net.tiles) ms) (sym is)
          (All-filter p (λ (net : Placed). 0 < length net.tiles) ns was.some);
      few = let e = ap (λ (ms : List Placed). sum_by (λ (net : Placed). net.need) ms) is in
          let f = was.few in omega (arith, e, fewer, f);
      few_nets = let e = ap (λ (ms : List Placed). length ms) is in
          let f = was.few_nets in
          omega (
            arith,
            e,
            f,
            length-placed new.net_needs.items new.tiles.items,
            length-placed nets.net_needs.items nets.tiles.items,
            length-filter p ns,
            count_by-le-length p ns,
          );
      same = λ up n low. ap (λ (ms : List Placed). box_needs g up n ms) is ∙ needs-parted g level up n ns low was.within ∙ was.same up n low;
    }

-- the same, as the code has the boxes
pub fewer-left : (d : DesignView) (g : Shape) (own level : ℕ) (nets new : NetTiles) → g ≡ d.frame.shape → own ≡ level → AreLeft d level nets →
    placed_in new ≡ filter (is_parted_on g own) (placed_in nets) → AreWhole new → AreLeft d own new
fewer-left d g own level nets new same at was is whole =
    less-left d own nets new (subst (λ (k : ℕ). AreLeft d k nets) (sym at) was)
    (is ∙ ap (λ (s : Shape). filter (is_parted_on s own) (placed_in nets)) same) whole

pub left-above : (d : DesignView) (level : ℕ) (nets : NetTiles) → AreLeft d level nets → AreLeft d (level + 1) nets
left-above d level nets was = record {
  whole = was.whole;
  within = was.within;
  some = was.some;
  few = was.few;
  few_nets = was.few_nets;
  same = λ up n low. was.same up n (omega (arith, low));
}

-- ---- a loop over the nets

-- the parted ones of the first nets are kept
pub record ArePartedTo (g : Shape) (level : ℕ) (net_needs : List NetNeed) (at : ℕ) (rest : List Tile) (kept : NetTiles) (all : List Placed) : Type 0 where
  pub whole : pins_counted (drop at net_needs) ≡ length rest
  pub some : All (λ (net : Placed). 0 < length net.tiles) (placed_by (drop at net_needs) rest)
  pub within : All (λ (net : Placed). All (IsOnChip g) net.tiles) (placed_by (drop at net_needs) rest)
  pub filled : AreWhole kept
  pub goes_on : placed_in kept ++ filter (is_parted_on g level) (placed_by (drop at net_needs) rest) ≡ filter (is_parted_on g level) all

pub next-parts : (g : Shape) (level : ℕ) (net_needs : List NetNeed) (at : ℕ) (net_need : NetNeed) (rest tiles others : List Tile) (kept : NetTiles) (all : List Placed) →
    ArePartedTo g level net_needs at rest kept all → IsNext net_needs at net_need rest tiles others → (0 < length tiles) × All (IsOnChip g) tiles
next-parts g level net_needs at net_need rest tiles others kept all was next =
    let net : Placed = record { need = net_need.need; tiles = tiles } in
    let ns : List Placed = placed_by (drop (at + 1) net_needs) others in (
      All-head (λ (p : Placed). 0 < length p.tiles) net ns (subst (λ (ps : List Placed). All (λ (p : Placed). 0 < length p.tiles) ps) next.is was.some),
      All-head (λ (p : Placed). All (IsOnChip g) p.tiles) net ns
          (subst (λ (ps : List Placed). All (λ (p : Placed). All (IsOnChip g) p.tiles) ps) next.is was.within),
    )

-- the facts of the other nets, whatever is kept of the next one
step-parted : (g : Shape) (level : ℕ) (net_needs : List NetNeed) (at : ℕ) (net_need : NetNeed) (rest tiles others : List Tile) (kept new : NetTiles) (all : List Placed) →
    ArePartedTo g level net_needs at rest kept all → IsNext net_needs at net_need rest tiles others → AreWhole new →
    placed_in new ++ filter (is_parted_on g level) (placed_by (drop (at + 1) net_needs) others)
    ≡ placed_in kept ++ filter (is_parted_on g level) (record { need = net_need.need; tiles = tiles } ∷ placed_by (drop (at + 1) net_needs) others) →
    ArePartedTo g level net_needs (at + 1) others new all
step-parted g level net_needs at net_need rest tiles others kept new all was next whole same =
    let net : Placed = record { need = net_need.need; tiles = tiles } in
    let ns : List Placed = placed_by (drop (at + 1) net_needs) others in
    record {
      whole = next.whole;
      some = All-tail (λ (p : Placed). 0 < length p.tiles) net ns
          (subst (λ (ps : List Placed). All (λ (p : Placed). 0 < length p.tiles) ps) next.is was.some);
      within = All-tail (λ (p : Placed). All (IsOnChip g) p.tiles) net ns
          (subst (λ (ps : List Placed). All (λ (p : Placed). All (IsOnChip g) p.tiles) ps) next.is was.within);
      filled = whole;
      goes_on = same ∙ sym (ap (λ (ps : List Placed). placed_in kept ++ filter (is_parted_on g level) ps) next.is) ∙ was.goes_on;
    }

pub held-passed : (g : Shape) (level : ℕ) (net_needs : List NetNeed) (at : ℕ) (net_need : NetNeed) (rest tiles others : List Tile) (kept : NetTiles) (all : List Placed) →
    ArePartedTo g level net_needs at rest kept all → IsNext net_needs at net_need rest tiles others → lies_in_one (map (box_number g level) tiles) ≡ true →
    ArePartedTo g level net_needs (at + 1) others kept all
held-passed g level net_needs at net_need rest tiles others kept all was next held =
    step-parted g level net_needs at net_need rest tiles others kept kept all was next was.filled
    (let fails = not_from_true (lies_in_one (map (box_number g level) tiles)) held in rw fails refl)

pub parted-kept : (g : Shape) (level : ℕ) (net_needs : List NetNeed) (at : ℕ) (net_need : NetNeed) (rest tiles others : List Tile) (kept new : NetTiles) (all : List Placed) →
    ArePartedTo g level net_needs at rest kept all → IsNext net_needs at net_need rest tiles others → lies_in_one (map (box_number g level) tiles) ≡ false →
    net_need.pins ≡ length tiles → new.net_needs.items ≡ kept.net_needs.items ++ net_need ∷ [] → new.tiles.items ≡ kept.tiles.items ++ tiles →
    ArePartedTo g level net_needs (at + 1) others new all
parted-kept g level net_needs at net_need rest tiles others kept new all was next parts long is is' =
    let net : Placed = record { need = net_need.need; tiles = tiles } in
    let ns : List Placed = filter (is_parted_on g level) (placed_by (drop (at + 1) net_needs) others) in
    let passes = not_from_false (lies_in_one (map (box_number g level) tiles)) parts in
    let pushed : placed_in new ≡ placed_in kept ++ net ∷ [] =
    ap (λ (cs : List NetNeed). placed_by cs new.tiles.items) is ∙ ap (λ (ts : List Tile). placed_by (kept.net_needs.items ++ net_need ∷ []) ts) is'
    ∙ placed-push kept.net_needs.items kept.tiles.items tiles net_need was.filled long in
    let split : filter (is_parted_on g level) (net ∷ placed_by (drop (at + 1) net_needs) others) ≡ net ∷ ns = rw passes refl in
    step-parted g level net_needs at net_need rest tiles others kept new all was next
    (ap (λ (cs : List NetNeed). pins_counted cs) is ∙ whole-push kept.net_needs.items kept.tiles.items tiles net_need was.filled long ∙ ap (λ (ts : List Tile). length ts) (sym is'))
    (ap (λ (ps : List Placed). ps ++ ns) pushed ∙ append_assoc (placed_in kept) (net ∷ []) ns ∙ ap (λ (ps : List Placed). placed_in kept ++ ps) (sym split))

pub all-parted : (g : Shape) (level : ℕ) (net_needs : List NetNeed) (at : ℕ) (rest : List Tile) (kept : NetTiles) (all : List Placed) → length net_needs ≤ at →
    ArePartedTo g level net_needs at rest kept all → placed_in kept ≡ filter (is_parted_on g level) all
all-parted g level net_needs at rest kept all past was =
    let none : placed_by (drop at net_needs) rest ≡ [] = ap (λ (cs : List NetNeed). placed_by cs rest) (drop_all at net_needs past) in
    sym (append-nil (placed_in kept)) ∙ ap (λ (ps : List Placed). placed_in kept ++ filter (is_parted_on g level) ps) (sym none) ∙ was.goes_on
