-- The flood: each spread adds cells one step away, and in the end just those that walks lead to are reached.
use Rattle.std.proofs.Common.{◌≡◌, ◌↔◌, ℕ, suc, ◌+◌, ◌-◌, ◌/◌, ◌<◌, ◌≤◌, inl, inr, min, Bool, true, false, ◌&&◌, ◌||◌, ◌==◌, nat_le, List, [], ◌∷◌, ◌++◌, length, get_or, All, Option, Some, None, IfSome, if◌then◌else◌, IsTrue, refl, sym, ap, subst, ◌∙◌, append_assoc, append-nil, arith}
use Rattle.std.specs.List.{list_all}
use Rattle.std.proofs.Math.ListN.{get_or-append}
use Rattle.std.proofs.Math.Seq.{get_or-append_right}
use Rattle.std.proofs.lemmas.Nat.{mod_below}
use Rattle.std.proofs.lemmas.Bool.{cases_Bool, cases_lt, or_cases, eqb-true, eq-eqb, and_parts, and_from, false≢true}
use Rattle.std.proofs.lemmas.Bool.Decides.{nat_tests}
use Rattle.std.proofs.lemmas.Option.{none-some, same_Some}
use Rattle.std.proofs.lemmas.List.{length-append}
use Rattle.std.proofs.lemmas.List.Elements.{All-nil, All-append, All-cons, All-head, All-tail}
use Rattle.std.proofs.lemmas.List.Folds.{list_any_at}
use Rattle.gr_base.specs.declared.grid.Cell.{Cell}
use Rattle.gr_base.specs.declared.grid.Edge.{Edge}
use Rattle.gr_base.specs.declared.grid.Shape.{Shape}
use Rattle.gr_base.specs.declared.grid.Way.{Way}
use Rattle.gr_base.specs.declared.grid.Way.TheVariants.{East, North, Up}
use Rattle.gr_base.specs.EdgeSets.{Edges, Leads, IsJoined}
use Rattle.gr_base.specs.EdgeSets.Leads.{Stays, Goes_on}
use Rattle.gr_base.specs.Grid.{cells_of, place_at, steps_between, way_between, edge_at, edge_of, stride, high_of, has_edge, Joins}
use Rattle.gr_base.proofs.GridLemmas.{some_columns, some_rows, number-place, place-inside, number-below, edge-low, edge-room, edge-high, high-below, edge_of-joins}
use Rattle.gr_base.proofs.TreeEdges.{edge_of-swap}
use Rattle.solution_text.specs.Runs.{LieIn}
use Rattle.route_evaluator.specs.NetTrees.{StepsTo}
use Rattle.route_evaluator.specs.NumberSets.{has_number, with_number}
use Rattle.route_evaluator.specs.Floods.{onward, backward, spread_along, spread_from, CameFrom, IsFlood}
use Rattle.route_evaluator.proofs.EdgeNumberLemmas.{has-with}

-- ---- the ends of an edge of the grid

edge-parts : (t : Bool) (x e : Edge) → (if t then Some x else None) ≡ Some e → (t ≡ true) × (x ≡ e)
edge-parts true x e is = (refl, same_Some x e is)
edge-parts false x e is = absurd (none-some e is)

-- a cell above the grid has no edge of the grid
no-edge-above : (g : Shape) (a b : ℕ) (e : Edge) → a < cells_of g → cells_of g ≤ b → edge_of g a b ≡ Some e → IsTrue (has_edge g e) → ⊥
no-edge-above g a b e a_in above is edge =
    let parts = edge-parts (steps_between g a b == 1) (edge_at (min a b) (way_between g a b)) e is in
    let p : Cell = place_at g a in
    let q : Cell = place_at g b in
    let one : steps_between g a b ≡ 1 = eqb-true (steps_between g a b) 1 parts.0 in
    let inside = place-inside g a a_in in
    let over : g.layers ≤ q.layer =
    elim (cases_lt q.layer g.layers) [
      | inl low ↦
          let column : q.x < g.columns = mod_below b g.columns (some_columns g) in
          let row : q.y < g.rows = mod_below (b / g.columns) g.rows (some_rows g) in
          let below = number-below g q (record { column = column; row = row; layer = low }) in
          absurd (omega (arith, below, number-place g b, above))
      | inr high ↦ high
    ] in
    let layer = inside.layer in
    let x : p.x ≡ q.x = omega (arith, one, over, layer) in
    let y : p.y ≡ q.y = omega (arith, one, over, layer) in
    let top : p.layer + 1 ≡ q.layer = omega (arith, one, over, layer) in
    let test_x : (p.x == q.x) ≡ true = eq-eqb p.x q.x x in
    let test_y : (p.y == q.y) ≡ true = eq-eqb p.y q.y y in
    let up : way_between g a b ≡ Up = rw (test_x, test_y) refl in
    let low : min a b ≡ a = omega arith in
    let e_is : e ≡ edge_at a Up = sym parts.1 ∙ ap (λ (n : ℕ). edge_at n (way_between g a b)) low ∙ ap (λ (w : Way). edge_at a w) up in
    let room = edge-room g (edge_at a Up) (subst (λ (f : Edge). IsTrue (has_edge g f)) e_is edge) in
    let less : p.layer + 1 < g.layers = grind (arith, nat_tests) in
    omega (arith, less, top, over)

-- the edge between a cell of the grid and another has the two as its ends
pub joined : (g : Shape) (a b : ℕ) (e : Edge) → a < cells_of g → edge_of g a b ≡ Some e → IsTrue (has_edge g e) → Joins g e a b
joined g a b e a_in is edge =
    elim (cases_lt b (cells_of g)) [
      | inl b_in ↦ subst (λ (o : Option Edge). IfSome o (λ x. Joins g x a b)) is (edge_of-joins g a b a_in b_in)
      | inr above ↦ absurd (no-edge-above g a b e a_in above is edge)
    ]

pub joins-edge_of : (g : Shape) (e : Edge) (a b : ℕ) → Joins g e a b → edge_of g a b ≡ Some e
joins-edge_of g e a b joins =
    let here = edge-high g e joins.edge in
    elim joins.ends [
      | inl ends ↦ sym (ap (λ (n : ℕ). edge_of g n b) ends.0) ∙ sym (ap (λ (n : ℕ). edge_of g e.low n) ends.1) ∙ here
      | inr ends ↦
          edge_of-swap g a b ∙ sym (ap (λ (n : ℕ). edge_of g n a) ends.0) ∙ sym (ap (λ (n : ℕ). edge_of g e.low n) ends.1) ∙ here
    ]

-- the second end is a cell
pub joins-inside : (g : Shape) (e : Edge) (a b : ℕ) → Joins g e a b → b < cells_of g
joins-inside g e a b joins =
    elim joins.ends [
      | inl ends ↦ subst (λ (n : ℕ). n < cells_of g) ends.1 (high-below g e joins.edge)
      | inr ends ↦ subst (λ (n : ℕ). n < cells_of g) ends.0 (edge-low g e joins.edge)
    ]

-- ---- cells that come behind others

-- further cells, each one step from this cell
pub record AddsSteps (g : Shape) (set : Edges) (cell : ℕ) (old new : List ℕ) : Type 0 where
  pub more : List ℕ
  pub grown : new ≡ old ++ more
  pub steps : All (StepsTo g set cell) more

module _ (g : Shape) (set : Edges) (cell : ℕ) where
  adds-none : (cells : List ℕ) → AddsSteps g set cell cells cells
  adds-none cells = record { more = []; grown = sym (append-nil cells); steps = All-nil (StepsTo g set cell) }

  adds-one : (cells : List ℕ) (n : ℕ) → StepsTo g set cell n → AddsSteps g set cell cells (with_number cells n)
  adds-one cells n step = one (has_number cells n)
    where
      one : (b : Bool) → AddsSteps g set cell cells (if b then cells else cells ++ n ∷ [])
      one true = adds-none cells
      one false = record { more = n ∷ []; grown = refl; steps = All-cons (StepsTo g set cell) n [] step (All-nil (StepsTo g set cell)) }

  adds-join : {old mid new : List ℕ} → AddsSteps g set cell old mid → AddsSteps g set cell mid new → AddsSteps g set cell old new
  adds-join {old} {mid} {new} first second = record {
    more = first.more ++ second.more;
    grown = second.grown ∙ ap (λ (xs : List ℕ). xs ++ second.more) first.grown ∙ append_assoc old first.more second.more;
    steps = All-append (StepsTo g set cell) first.more second.more first.steps second.steps;
  }

  has-append : (xs ys : List ℕ) (n : ℕ) → has_number xs n ≡ true → has_number (xs ++ ys) n ≡ true
  has-append [] ys n has = absurd (false≢true has)
  has-append (x ∷ xs) ys n has =
      elim (cases_Bool (n == x)) [
        | inl same ↦ rw same refl
        | inr other ↦
            let rest : has_number xs n ≡ true = rw other at has in
            rw other (has-append xs ys n rest)
      ]

  has-grown : {old new : List ℕ} (n : ℕ) → has_number old n ≡ true → AddsSteps g set cell old new → has_number new n ≡ true
  has-grown {old} n has spreads = ap (λ (xs : List ℕ). has_number xs n) spreads.grown ∙ has-append old spreads.more n has

  has-one : (cells : List ℕ) (n : ℕ) → has_number (with_number cells n) n ≡ true
  has-one cells n = has-with cells n n ∙ ap (λ (b : Bool). has_number cells n || b) (eq-eqb n n refl) ∙ or-true (has_number cells n)
    where
      or-true : (b : Bool) → (b || true) ≡ true
      or-true true = refl
      or-true false = refl

  module _ (within : LieIn g set) where
    onward-adds : (way : Way) (cells : List ℕ) → AddsSteps g set cell cells (onward g set way cell cells)
    onward-adds way cells =
        elim (cases_Bool (set (edge_at cell way))) [
          | inl on ↦ rw on (adds-one cells (high_of g (edge_at cell way))
              (record { edge = edge_at cell way; among = on; joins = record { edge = within (edge_at cell way) on; ends = inl (refl, refl) } }))
          | inr off ↦ rw off (adds-none cells)
        ]

    backward-adds : (way : Way) (cells : List ℕ) → AddsSteps g set cell cells (backward g set way cell cells)
    backward-adds way cells =
        elim (cases_Bool (nat_le (stride g way) cell && set (edge_at (cell - stride g way) way))) [
          | inl on ↦
              let parts = and_parts (nat_le (stride g way) cell) (set (edge_at (cell - stride g way) way)) on in
              let low : ℕ = cell - stride g way in
              let room : stride g way ≤ cell = let h = parts.0 in grind (arith, nat_tests) in
              let high : high_of g (edge_at low way) ≡ cell = omega arith in
              rw on (adds-one cells low
              (record { edge = edge_at low way; among = parts.1; joins = record { edge = within (edge_at low way) parts.1; ends = inr (refl, high) } }))
          | inr off ↦ rw off (adds-none cells)
        ]

    along-adds : (way : Way) (cells : List ℕ) → AddsSteps g set cell cells (spread_along g set way cell cells)
    along-adds way cells = adds-join (onward-adds way cells) (backward-adds way (onward g set way cell cells))

    pub from-adds : (cells : List ℕ) → AddsSteps g set cell cells (spread_from g set cell cells)
    from-adds cells =
        let east : List ℕ = spread_along g set East cell cells in
        let north : List ℕ = spread_along g set North cell east in
        adds-join (adds-join (along-adds East cells) (along-adds North east)) (along-adds Up north)

    -- the other end of an edge of the set at the cell is reached
    onward-has : (way : Way) (cells : List ℕ) → set (edge_at cell way) ≡ true → has_number (onward g set way cell cells) (high_of g (edge_at cell way)) ≡ true
    onward-has way cells on = rw on (has-one cells (high_of g (edge_at cell way)))

    backward-has : (way : Way) (cells : List ℕ) (low : ℕ) → high_of g (edge_at low way) ≡ cell → set (edge_at low way) ≡ true →
        has_number (backward g set way cell cells) low ≡ true
    backward-has way cells low high on =
        let is : cell - stride g way ≡ low = omega arith in
        let room : nat_le (stride g way) cell ≡ true = grind (arith, nat_tests) in
        let there : set (edge_at (cell - stride g way) way) ≡ true = ap (λ (n : ℕ). set (edge_at n way)) is ∙ on in
        rw (room, there) (ap (λ (n : ℕ). has_number (with_number cells n) low) is ∙ has-one cells low)

    along-has : (cells : List ℕ) (e : Edge) (b : ℕ) → Joins g e cell b → set e ≡ true → has_number (spread_along g set e.way cell cells) b ≡ true
    along-has cells e b at on =
        elim at.ends [
          | inl ends ↦
              let here : set (edge_at cell e.way) ≡ true = ap (λ (n : ℕ). set (edge_at n e.way)) (sym ends.0) ∙ on in
              let high : high_of g (edge_at cell e.way) ≡ b = ap (λ (n : ℕ). high_of g (edge_at n e.way)) (sym ends.0) ∙ ends.1 in
              has-grown b (ap (has_number (onward g set e.way cell cells)) (sym high) ∙ onward-has e.way cells here)
              (backward-adds e.way (onward g set e.way cell cells))
          | inr ends ↦
              let low : e.low ≡ b = ends.0 in
              backward-has e.way (onward g set e.way cell cells) b
              (ap (λ (n : ℕ). high_of g (edge_at n e.way)) (sym low) ∙ ends.1) (ap (λ (n : ℕ). set (edge_at n e.way)) (sym low) ∙ on)
        ]

    way-has : (cells : List ℕ) (way : Way) (low b : ℕ) → Joins g (edge_at low way) cell b → set (edge_at low way) ≡ true →
        has_number (spread_from g set cell cells) b ≡ true
    way-has cells East low b at on =
        let east : List ℕ = spread_along g set East cell cells in
        let north : List ℕ = spread_along g set North cell east in
        has-grown b (along-has cells (edge_at low East) b at on) (adds-join (along-adds North east) (along-adds Up north))
    way-has cells North low b at on =
        let east : List ℕ = spread_along g set East cell cells in
        let north : List ℕ = spread_along g set North cell east in
        has-grown b (along-has east (edge_at low North) b at on) (along-adds Up north)
    way-has cells Up low b at on =
        let east : List ℕ = spread_along g set East cell cells in
        let north : List ℕ = spread_along g set North cell east in
        along-has north (edge_at low Up) b at on

    pub from-has : (cells : List ℕ) (b : ℕ) → StepsTo g set cell b → has_number (spread_from g set cell cells) b ≡ true
    from-has cells b step =
        way-has cells step.edge.way step.edge.low b step.joins step.among

-- ---- the flood

-- the place of a number in a list that has it
pub record PlaceOf (xs : List ℕ) (n : ℕ) : Type 0 where
  pub at : ℕ
  pub below : at < length xs
  pub is : get_or xs at 0 ≡ n

pub place-of : (xs : List ℕ) (n : ℕ) → has_number xs n ≡ true → PlaceOf xs n
place-of [] n has = absurd (false≢true has)
place-of (x ∷ xs) n has =
    elim (or_cases (n == x) (has_number xs n) has) [
      | inl here ↦ record { at = 0; below = omega arith; is = sym (eqb-true n x here) }
      | inr later ↦
          let p = place-of xs n later in
          record { at = suc p.at; below = let b = p.below in omega arith; is = p.is }
    ]

pub has-at : (xs : List ℕ) (place : ℕ) → place < length xs → has_number xs (get_or xs place 0) ≡ true
has-at xs place below =
    list_any_at (λ other. get_or xs place 0 == other) xs place 0 below (eq-eqb (get_or xs place 0) (get_or xs place 0) refl)

pub flood-start : (g : Shape) (set : Edges) (first : ℕ) (cells parents : List ℕ) → first < cells_of g → cells ≡ first ∷ [] → length parents ≡ 1 →
    IsFlood g set first 0 cells parents
flood-start g set first cells parents below is one =
    subst (λ (xs : List ℕ). IsFlood g set first 0 xs parents) (sym is) (record {
      some = omega arith;
      start = refl;
      led = All-cons (Leads g set first) first [] Stays (All-nil (Leads g set first));
      inside = All-cons (λ cell. cell < cells_of g) first [] below (All-nil (λ cell. cell < cells_of g));
      long = one;
      came = λ place some below. absurd (omega (arith, some, below));
      within = omega arith;
      around = λ place cell less. absurd (omega arith);
    })

module _ (g : Shape) (set : Edges) (first at : ℕ) (cells parents new more : List ℕ) (within : LieIn g set) (flood : IsFlood g set first at cells parents) (below : at < length cells)
    (spread : new ≡ spread_from g set (get_or cells at 0) cells) (long : length more ≡ length new) (kept : (k : ℕ) → k < length new → k < length cells → get_or more k 0 ≡ get_or parents k 0)
    (from : (k : ℕ) → length cells ≤ k → k < length new → get_or more k 0 ≡ at) where
  abbrev here : ℕ
  here = get_or cells at 0

  adds : AddsSteps g set here cells new
  adds = subst (λ (xs : List ℕ). AddsSteps g set here cells xs) (sym spread) (from-adds g set here within cells)

  same : (k : ℕ) → k < length cells → get_or new k 0 ≡ get_or cells k 0
  same k less = ap (λ (xs : List ℕ). get_or xs k 0) adds.grown ∙ get_or-append cells adds.more 0 k less

  length-new : length new ≡ length cells + length adds.more
  length-new = ap (λ (xs : List ℕ). length xs) adds.grown ∙ length-append cells adds.more

  step-same : {a b c d : ℕ} → a ≡ b → c ≡ d → StepsTo g set b d → StepsTo g set a c
  step-same {a} {b} {c} {d} p q step = subst (λ (n : ℕ). StepsTo g set n c) (sym p) (subst (λ (n : ℕ). StepsTo g set b n) (sym q) step)

  came-now : (place : ℕ) → 0 < place → place < length new → CameFrom g set new place (get_or more place 0)
  came-now place some less =
      elim (cases_lt place (length cells)) [
        | inl old ↦
            let was = flood.came place some old in
            let early = was.earlier in
            subst (λ (n : ℕ). CameFrom g set new place n) (sym (kept place less old)) (record {
              earlier = early;
              step = step-same (same (get_or parents place 0) (omega (arith, early, old))) (same place old) was.step;
            })
        | inr later ↦
            let behind : get_or new place 0 ≡ get_or adds.more (place - length cells) 0 =
            ap (λ (xs : List ℕ). get_or xs place 0) adds.grown ∙ get_or-append_right cells adds.more place 0 later in
            let step = adds.steps (place - length cells) 0 (omega (arith, length-new, later, less)) in
            subst (λ (n : ℕ). CameFrom g set new place n) (sym (from place later less)) (record {
              earlier = omega (arith, below, later);
              step = step-same (same at below) behind step;
            })
      ]

  pub flood-next : IsFlood g set first (at + 1) new more
  flood-next = record {
    some = omega (arith, length-new, flood.some);
    start = same 0 flood.some ∙ flood.start;
    led =
        subst (λ (xs : List ℕ). All (Leads g set first) xs) (sym adds.grown)
        (All-append (Leads g set first) cells adds.more flood.led
        (λ k d less. let step = adds.steps k d less in Goes_on (flood.led at 0 below) (joins-edge_of g step.edge here _ step.joins) step.among));
    inside =
        subst (λ (xs : List ℕ). All (λ cell. cell < cells_of g) xs) (sym adds.grown)
        (All-append (λ cell. cell < cells_of g) cells adds.more flood.inside
        (λ k d less. let step = adds.steps k d less in joins-inside g step.edge here _ step.joins));
    long = long;
    came = came-now;
    within = omega (arith, length-new, below);
    around = λ place cell less step. elim (cases_lt place at) [
      | inl before ↦
          has-grown g set here cell (flood.around place cell before (step-same (sym (same place (omega arith))) refl step)) adds
      | inr now ↦
          let is : place ≡ at = omega arith in
          ap (λ (xs : List ℕ). has_number xs cell) spread
          ∙ from-has g set here within cells cell (step-same (sym (same at below) ∙ ap (λ (k : ℕ). get_or new k 0) (sym is)) refl step)
    ];
  }

-- what a step leads to from a cell that is reached is reached
pub flood-closed : (g : Shape) (set : Edges) (first : ℕ) (cells parents : List ℕ) → IsFlood g set first (length cells) cells parents → (cell other : ℕ) →
    has_number cells cell ≡ true → StepsTo g set cell other → has_number cells other ≡ true
flood-closed g set first cells parents flood cell other has step =
    let p = place-of cells cell has in
    flood.around p.at other p.below (subst (λ (n : ℕ). StepsTo g set n other) (sym p.is) step)

-- all that a walk leads to is reached
complete : (g : Shape) (set : Edges) (first : ℕ) (cells parents : List ℕ) → LieIn g set →
    IsFlood g set first (length cells) cells parents → (cell : ℕ) → Leads g set first cell → has_number cells cell ≡ true
complete g set first cells parents within flood cell Stays = subst (λ (n : ℕ). has_number cells n ≡ true) flood.start (has-at cells 0 flood.some)
complete g set first cells parents within flood cell (Goes_on {b = b} {e = e} walk edge among) =
    let has = complete g set first cells parents within flood b walk in
    let p = place-of cells b has in
    let below = subst (λ (n : ℕ). n < cells_of g) p.is (flood.inside p.at 0 p.below) in
    flood-closed g set first cells parents flood b cell has
    (record { edge = e; among = among; joins = joined g b cell e below edge (within e among) })

pub flood-leads : (g : Shape) (set : Edges) (first : ℕ) (cells parents : List ℕ) → LieIn g set →
    IsFlood g set first (length cells) cells parents → (cell : ℕ) → IsTrue (has_number cells cell) ↔ Leads g set first cell
flood-leads g set first cells parents within flood cell = (
  λ has. let p = place-of cells cell has in subst (λ (c : ℕ). Leads g set first c) p.is (flood.led p.at 0 p.below),
  λ walk. complete g set first cells parents within flood cell walk,
)

-- ---- pins

all-to : (P : ℕ → Type 0) (test : ℕ → Bool) (xs : List ℕ) → ((n : ℕ) → IsTrue (test n) ↔ P n) → list_all test xs ≡ true → All P xs
all-to P test [] decides all = λ k d below. absurd (omega arith)
all-to P test (x ∷ xs) decides all =
    let parts = and_parts (test x) (list_all test xs) all in
    All-cons P x xs ((decides x).0 parts.0) (all-to P test xs decides parts.1)

all-from : (P : ℕ → Type 0) (test : ℕ → Bool) (xs : List ℕ) → ((n : ℕ) → IsTrue (test n) ↔ P n) → All P xs → list_all test xs ≡ true
all-from P test [] decides all = refl
all-from P test (x ∷ xs) decides all =
    and_from (test x) (list_all test xs) ((decides x).1 (All-head P x xs all)) (all-from P test xs decides (All-tail P x xs all))

pub joined-is : (g : Shape) (set : Edges) (first : ℕ) (pins cells : List ℕ) (joined : Bool) → 0 < length pins → get_or pins 0 0 ≡ first →
    ((cell : ℕ) → IsTrue (has_number cells cell) ↔ Leads g set first cell) → joined ≡ list_all (has_number cells) pins →
    IsTrue joined ↔ IsJoined g set pins
joined-is g set first [] cells joined some at reached is = absurd (omega arith)
joined-is g set first (pin ∷ pins) cells joined some at reached is =
    let led : (cell : ℕ) → IsTrue (has_number cells cell) ↔ Leads g set pin cell =
    subst (λ (n : ℕ). (cell : ℕ) → IsTrue (has_number cells cell) ↔ Leads g set n cell) (sym at) reached in (
      λ yes. all-to (Leads g set pin) (has_number cells) (pin ∷ pins) led (sym is ∙ yes),
      λ all. is ∙ all-from (Leads g set pin) (has_number cells) (pin ∷ pins) led all,
    )
