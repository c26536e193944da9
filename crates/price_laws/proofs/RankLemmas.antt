-- The cells that walks from a driver reach can be ranked, and what falls from the driver to one of them falls along edges.
use Rattle.std.proofs.Common.{◌≡◌, ℕ, zero, suc, ◌+◌, ◌-◌, ◌<◌, ◌≤◌, ◌⊎◌, inl, inr, Bool, true, false, ◌&&◌, ◌||◌, ◌==◌, nat_lt, nat_le, List, [], ◌∷◌, All, slice_index_or, sum_by, if◌then◌else◌, IsTrue, refl, sym, ap, subst, ◌∙◌, arith}
use Rattle.std.proofs.lemmas.Bool.{cases_Bool, cases_eq, or_cases, eqb-true, eq-eqb, both_ways}
use Rattle.std.proofs.lemmas.Bool.Decides.{nat_tests}
use Rattle.std.proofs.lemmas.List.Elements.{All-nil, All-cons, All-head, All-tail, All-weaker}
use Rattle.gr_base.specs.EdgeSets.{Edges, Leads, IsJoined}
use Rattle.gr_base.specs.EdgeSets.Leads.{Stays, Goes_on}
use Rattle.gr_base.specs.Grid.{cells_of, high_of, has_edge, Joins}
use Rattle.gr_base.specs.declared.grid.Edge.{Edge}
use Rattle.gr_base.specs.declared.grid.Shape.{Shape}
use Rattle.price_laws.specs.Prices.{all_edges, sum_of}
use Rattle.price_laws.specs.Ranks.{ComesFrom, Ranks, Arcs, uphill, fall}
use Rattle.price_laws.proofs.EdgeSums.{sum-more}
use Rattle.route_evaluator.proofs.FloodLemmas.{joined}
use Rattle.wall_laws.proofs.SumLemmas.{sum-le}
use Rattle.wall_laws.proofs.WalkLemmas.{AreInGrid, walk-inside}

-- ---- ranks for the cells that walks lead to

-- ranks of at least the cells of others, all below a number
pub record Ranked (g : Shape) (set : Edges) (driver : ℕ) (had : ℕ → Bool) : Type 0 where
  pub ranks : Ranks g set driver
  pub above : ℕ
  pub below : (cell : ℕ) → IsTrue (ranks.has cell) → ranks.rank cell < above
  pub keeps : (cell : ℕ) → IsTrue (had cell) → IsTrue (ranks.has cell)

module _ (g : Shape) (set : Edges) (driver : ℕ) where
  -- the driver alone
  at-driver : Ranked g set driver (λ cell. cell == driver)
  at-driver = record {
    ranks = record {
      has = λ cell. cell == driver;
      rank = λ cell. 0;
      comes = λ cell is. inl (eqb-true cell driver is);
    };
    above = 1;
    below = λ cell is. omega arith;
    keeps = λ cell is. is;
  }

  -- one cell more
  with-cell : (had : ℕ → Bool) (r : Ranked g set driver had) (from cell : ℕ) (e : Edge) → IsTrue (r.ranks.has from) → IsTrue (set e) → Joins g e from cell →
      r.ranks.has cell ≡ false → Ranked g set driver r.ranks.has
  with-cell had r from cell e known among joins new = record {
    ranks = record { has = has'; rank = rank'; comes = comes' };
    above = r.above + 1;
    below = below';
    keeps = λ x is. kept x is;
  }
    where
      has : ℕ → Bool
      has = r.ranks.has

      rank : ℕ → ℕ
      rank = r.ranks.rank

      has' : ℕ → Bool
      has' x = x == cell || has x

      rank' : ℕ → ℕ
      rank' x = if x == cell then r.above else rank x

      kept : (x : ℕ) → IsTrue (has x) → IsTrue (has' x)
      kept x is = by (x == cell)
        where
          by : (b : Bool) → IsTrue (b || has x)
          by true = refl
          by false = is

      other : (x : ℕ) → IsTrue (has x) → (x == cell) ≡ false
      other x is =
          elim (cases_Bool (x == cell)) [
            | inl same ↦ absurd (both_ways (has cell) new (subst (λ (n : ℕ). IsTrue (has n)) (eqb-true x cell same) is))
            | inr apart ↦ apart
          ]

      old-rank : (x : ℕ) → IsTrue (has x) → rank' x ≡ rank x
      old-rank x is = ap (λ (b : Bool). if b then r.above else rank x) (other x is)

      new-rank : (x : ℕ) → (x == cell) ≡ true → rank' x ≡ r.above
      new-rank x same = ap (λ (b : Bool). if b then r.above else rank x) same

      below' : (x : ℕ) → IsTrue (has' x) → rank' x < r.above + 1
      below' x is =
          elim (or_cases (x == cell) (has x) is) [
            | inl same ↦ let at = new-rank x same in omega (arith, at)
            | inr old ↦ let at = old-rank x old in let low = r.below x old in omega (arith, at, low)
          ]

      comes' : (x : ℕ) → IsTrue (has' x) → (x ≡ driver) ⊎ ComesFrom g set has' rank' x
      comes' x is =
          elim (or_cases (x == cell) (has x) is) [
            | inl same ↦
                let low : rank' from < rank' x = let a = old-rank from known in let b = new-rank x same in let c = r.below from known in omega (arith, a, b, c) in
                inr (record {
                  before = from;
                  edge = e;
                  among = among;
                  joins = subst (λ (n : ℕ). Joins g e from n) (sym (eqb-true x cell same)) joins;
                  had = kept from known;
                  lower = low;
                })
            | inr old ↦ by-old x old (r.ranks.comes x old)
          ]
        where
          by-old : (x : ℕ) → IsTrue (has x) → (x ≡ driver) ⊎ ComesFrom g set has rank x → (x ≡ driver) ⊎ ComesFrom g set has' rank' x
          by-old x old (inl first) = inl first
          by-old x old (inr c) =
              let low : rank' c.before < rank' x = let a = old-rank c.before c.had in let b = old-rank x old in let d = c.lower in omega (arith, a, b, d) in
              inr (record { before = c.before; edge = c.edge; among = c.among; joins = c.joins; had = kept c.before c.had; lower = low })

  -- ranks of some cells with those of a walk
  with-walk : (within : AreInGrid g set) (had : ℕ → Bool) (r : Ranked g set driver had) (cell : ℕ) → driver < cells_of g → IsTrue (r.ranks.has driver) →
      Leads g set driver cell → (more : Ranked g set driver r.ranks.has) × IsTrue (more.ranks.has cell)
  unfolding with-cell
  with-walk within had r _ inside first Stays =
      (record { ranks = r.ranks; above = r.above; below = r.below; keeps = λ x is. is }, first)
  with-walk within had r cell inside first (Goes_on {b = b} {e = e} walk edge among) =
      let before = with-walk within had r b inside first walk in
      let joins = joined g b cell e (walk-inside g set within driver b inside walk) edge (within e among) in
      elim (cases_Bool (before.0.ranks.has cell)) [
        | inl known ↦ (before.0, known)
        | inr new ↦
            let one = with-cell r.ranks.has before.0 b cell e before.1 among joins new in (
              record { ranks = one.ranks; above = one.above; below = one.below; keeps = λ x is. one.keeps x (before.0.keeps x is) },
              last before.0 b cell e before.1 among joins new,
            )
      ]
    where
      last : (r' : Ranked g set driver r.ranks.has) (from x : ℕ) (e : Edge) (known : IsTrue (r'.ranks.has from)) (among : IsTrue (set e)) (joins : Joins g e from x)
          (new : r'.ranks.has x ≡ false) → IsTrue ((with-cell r.ranks.has r' from x e known among joins new).ranks.has x)
      last r' from x e known among joins new = ap (λ (b : Bool). b || r'.ranks.has x) (eq-eqb x x refl)

  with-walks : (within : AreInGrid g set) (pins : List ℕ) (had : ℕ → Bool) (r : Ranked g set driver had) → driver < cells_of g → IsTrue (r.ranks.has driver) →
      All (Leads g set driver) pins → (more : Ranked g set driver r.ranks.has) × All (λ pin. more.ranks.has pin ≡ true) pins
  with-walks within [] had r inside first walks =
      (record { ranks = r.ranks; above = r.above; below = r.below; keeps = λ x is. is }, All-nil (λ pin. r.ranks.has pin ≡ true))
  with-walks within (pin ∷ pins) had r inside first walks =
      let one = with-walk within had r pin inside first (All-head (Leads g set driver) pin pins walks) in
      let more = with-walks within pins r.ranks.has one.0 inside (one.0.keeps driver first) (All-tail (Leads g set driver) pin pins walks) in (
        record { ranks = more.0.ranks; above = more.0.above; below = more.0.below; keeps = λ x is. more.0.keeps x (one.0.keeps x is) },
        All-cons (λ x. more.0.ranks.has x ≡ true) pin pins (more.0.keeps pin one.1) more.1,
      )

  -- the cells of pins that walks lead to can be ranked
  pub rank-pins : AreInGrid g set → (pins : List ℕ) → driver < cells_of g → All (Leads g set driver) pins →
      (r : Ranks g set driver) × All (λ pin. r.has pin ≡ true) pins
  unfolding at-driver
  rank-pins within pins inside walks =
      let all = with-walks within pins (λ cell. cell == driver) at-driver inside (eq-eqb driver driver refl) walks in
      (all.0.ranks, all.1)

  -- ---- what falls along edges

  module _ (r : Ranks g set driver) (level : ℕ → ℕ) where
    -- both ends of an edge of the set are ranked up to a number
    abbrev is_up_to : ℕ → Edge → Bool
    is_up_to most e = set e && (nat_le (r.rank e.low) most && nat_le (r.rank (high_of g e)) most)

    abbrev falls : Edge → ℕ
    falls e = uphill g r.rank (fall g level) e

    abbrev part : ℕ → Edge → ℕ
    part most e = if is_up_to most e then falls e else 0

    up-to-more : (low high : ℕ) (e : Edge) → low ≤ high → IsTrue (is_up_to low e) → IsTrue (is_up_to high e)
    up-to-more low high e le is = grind (arith, nat_tests)

    part-more : (low high : ℕ) → low ≤ high → (e : Edge) → part low e ≤ part high e
    part-more low high le e = by (is_up_to low e) (is_up_to high e) (up-to-more low high e le)
      where
        by : (a b : Bool) → (IsTrue a → IsTrue b) → (if a then falls e else 0) ≤ (if b then falls e else 0)
        by false b more = omega arith
        by true true more = omega arith
        by true false more = absurd (both_ways false refl (more refl))

    falls-there : (e : Edge) (from cell : ℕ) → Joins g e from cell → r.rank from < r.rank cell → falls e ≡ level from - level cell
    falls-there e from cell joins lower =
        elim joins.ends [
          | inl ends ↦
              let up : nat_lt (r.rank e.low) (r.rank (high_of g e)) ≡ true =
              ap (λ (n : ℕ). nat_lt (r.rank n) (r.rank (high_of g e))) ends.0 ∙ ap (λ (n : ℕ). nat_lt (r.rank from) (r.rank n)) ends.1 ∙ lt-true (r.rank from) (r.rank cell) lower in
              ap (fall g level e) up ∙ ap (λ (n : ℕ). level n - level (high_of g e)) ends.0 ∙ ap (λ (n : ℕ). level from - level n) ends.1
          | inr ends ↦
              let down : nat_lt (r.rank e.low) (r.rank (high_of g e)) ≡ false =
              ap (λ (n : ℕ). nat_lt (r.rank n) (r.rank (high_of g e))) ends.0 ∙ ap (λ (n : ℕ). nat_lt (r.rank cell) (r.rank n)) ends.1 ∙ lt-false (r.rank cell) (r.rank from) lower in
              ap (fall g level e) down ∙ ap (λ (n : ℕ). level (high_of g e) - level n) ends.0 ∙ ap (λ (n : ℕ). level n - level cell) ends.1
        ]
      where
        lt-true : (a b : ℕ) → a < b → nat_lt a b ≡ true
        lt-true a b less = grind (arith, nat_tests)

        lt-false : (a b : ℕ) → b < a → nat_lt a b ≡ false
        lt-false a b less = grind (arith, nat_tests)

    -- an edge to a cell of higher rank counts from there on
    part-there : (e : Edge) (from cell : ℕ) → IsTrue (set e) → Joins g e from cell → r.rank from < r.rank cell →
        part (r.rank from) e + (level from - level cell) ≤ part (r.rank cell) e
    part-there e from cell among joins lower =
        let is = falls-there e from cell joins lower in
        let out : is_up_to (r.rank from) e ≡ false = elim joins.ends [ inl ends ↦ high-out ends.1 | inr ends ↦ low-out ends.0 ] in
        let in' : is_up_to (r.rank cell) e ≡ true = elim joins.ends [ inl ends ↦ both-in ends.0 ends.1 | inr ends ↦ both-in' ends.0 ends.1 ] in
        let zero : part (r.rank from) e ≡ 0 = ap (λ (b : Bool). if b then falls e else 0) out in
        let one : part (r.rank cell) e ≡ falls e = ap (λ (b : Bool). if b then falls e else 0) in' in
        omega (arith, is, zero, one)
      where
        high-out : high_of g e ≡ cell → is_up_to (r.rank from) e ≡ false
        high-out end = let same = ap r.rank end in grind (arith, nat_tests)

        low-out : e.low ≡ cell → is_up_to (r.rank from) e ≡ false
        low-out end = let same = ap r.rank end in grind (arith, nat_tests)

        both-in : e.low ≡ from → high_of g e ≡ cell → is_up_to (r.rank cell) e ≡ true
        both-in low high = let a = ap r.rank low in let b = ap r.rank high in grind (arith, nat_tests)

        both-in' : e.low ≡ cell → high_of g e ≡ from → is_up_to (r.rank cell) e ≡ true
        both-in' low high = let a = ap r.rank low in let b = ap r.rank high in grind (arith, nat_tests)

    -- what falls from the driver to a cell falls along edges up to its rank
    descends : (fuel cell : ℕ) → IsTrue (r.has cell) → r.rank cell < fuel → level driver ≤ level cell + sum_by (part (r.rank cell)) (all_edges g)
    descends zero cell known low = absurd (omega arith)
    descends (suc fuel) cell known low = by (descends fuel) (r.comes cell known)
      where
        by : ((x : ℕ) → IsTrue (r.has x) → r.rank x < fuel → level driver ≤ level x + sum_by (part (r.rank x)) (all_edges g)) →
            (cell ≡ driver) ⊎ ComesFrom g set r.has r.rank cell → level driver ≤ level cell + sum_by (part (r.rank cell)) (all_edges g)
        by each (inl first) = let same = ap level first in omega (arith, same)
        by each (inr c) =
            let less = c.lower in
            let before = each c.before c.had (omega (arith, less, low)) in
            let more =
            sum-more g (part (r.rank c.before)) (part (r.rank cell)) c.edge (level c.before - level cell) c.joins.edge
            (part-more (r.rank c.before) (r.rank cell) (omega (arith, less))) (part-there c.edge c.before cell c.among c.joins less) in
            omega (arith, before, more)

    pub falls-to-pin : (cell : ℕ) → IsTrue (r.has cell) → level driver ≤ level cell + sum_of g set (uphill g r.rank (fall g level))
    falls-to-pin cell known =
        let whole = descends (r.rank cell + 1) cell known (omega arith) in
        let le = sum-le (part (r.rank cell)) (λ e. if set e then falls e else 0) (all_edges g) (λ k d below. at (slice_index_or (all_edges g) k d)) in
        omega (arith, whole, le)
      where
        by : (e : Edge) (a b : Bool) → (if a && b then falls e else 0) ≤ (if a then falls e else 0)
        by e false b = omega arith
        by e true false = omega arith
        by e true true = omega arith

        at : (e : Edge) → part (r.rank cell) e ≤ (if set e then falls e else 0)
        at e = by e (set e) (nat_le (r.rank e.low) (r.rank cell) && nat_le (r.rank (high_of g e)) (r.rank cell))
