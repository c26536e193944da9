-- The chains once a net's runs are in them.
use Rattle.std.proofs.Common.{◌≡◌, ℕ, zero, suc, ◌+◌, ◌-◌, ◌<◌, ◌≤◌, inl, inr, Bool, true, false, ◌==◌, ◌&&◌, cond, List, [], ◌∷◌, ◌++◌, map, length, All, IsTrue, refl, sym, ap, subst, ◌∙◌, arith}
use Rattle.std.specs.List.{filter, range_with_len}
use Rattle.std.proofs.lemmas.Bool.{and_parts, cases_Bool, cases_eq}
use Rattle.std.proofs.lemmas.Bool.Decides.{nat_tests}
use Rattle.std.proofs.lemmas.List.Folds.{Any-from_list_any}
use Rattle.std.proofs.lemmas.List.{get_or_append_left, get_or-append-add, length-append}
use Rattle.gr_base.proofs.DesignLemmas.{routed-below}
use Rattle.gr_base.specs.Designs.{DesignView, is_routed}
use Rattle.gr_base.specs.EdgeSets.{Edges, set_of}
use Rattle.gr_base.specs.Grid.{cells_of, has_edge, high_of}
use Rattle.gr_base.specs.declared.grid.Shape.{Shape}
use Rattle.gr_base.specs.declared.grid.Way.{Way}
use Rattle.gr_base.specs.declared.grid.Way.TheVariants.{East, North, Up}
use Rattle.gr_base.specs.declared.grid.Edge.{Edge}
use Rattle.solution_text.specs.Covers.{covers, is_on}
use Rattle.solution_text.specs.declared.run.Run.{Run}
use Rattle.solution_text.specs.Runs.{LieIn, begins, run_from, runs_of, runs_of_way}
use Rattle.route_reader.specs.Solutions.{IsOf, SolutionView, edges_by, runs_at}
use Rattle.straight_runs.specs.Ends.{LiesInside}
use Rattle.straight_runs.proofs.EndLemmas.{all-inside}
use Rattle.panel_text.specs.declared.starts.Starts.{Starts}
use Rattle.panel_text.specs.Chains.{AreInGrid, HaveChains, IsChain, first_at, with_run, with_runs}
use Rattle.panel_text.specs.Gathered.{AreStarts}
use Rattle.panel_text.specs.PanelPieces.{starts_from}

module _ (net : ℕ) (f : ℕ → Run) (is : (c : ℕ) → (f c).from ≡ c) (t : ℕ → Bool) where
  run-elsewhere : (c cell : ℕ) (chains : ℕ → List (ℕ × ℕ)) → (c == cell) ≡ false → with_run net (f c) chains cell ≡ chains cell
  run-elsewhere c cell chains other =
      let e : ((f c).from == cell) ≡ false = ap (λ (n : ℕ). n == cell) (is c) ∙ other in rw e refl

  run-here : (c : ℕ) (chains : ℕ → List (ℕ × ℕ)) → with_run net (f c) chains c ≡ (net, (f c).to) ∷ chains c
  run-here c chains =
      let same : (c == c) ≡ true = grind (arith, nat_tests) in
      let e : ((f c).from == c) ≡ true = ap (λ (n : ℕ). n == c) (is c) ∙ same in rw e refl

  runs-past : (a n cell : ℕ) (chains : ℕ → List (ℕ × ℕ)) → cell < a → with_runs net (map f (filter t (range_with_len a n))) chains cell ≡ chains cell
  runs-past a zero cell chains past = refl
  runs-past a (suc n) cell chains past =
      let rest = runs-past (a + 1) n cell in
      elim (cases_Bool (t a)) [
        | inl on ↦ rw on (rest (with_run net (f a) chains) (omega (arith, past)) ∙ run-elsewhere a cell chains (grind (arith, nat_tests, past)))
        | inr off ↦ rw off (rest chains (omega (arith, past)))
      ]

  pub runs-within : (a n cell : ℕ) (chains : ℕ → List (ℕ × ℕ)) → a ≤ cell → cell < a + n →
      with_runs net (map f (filter t (range_with_len a n))) chains cell ≡ cond (t cell) ((net, (f cell).to) ∷ chains cell) (chains cell)
  runs-within a zero cell chains low high = absurd (omega (arith, low, high))
  runs-within a (suc n) cell chains low high =
      elim (cases_eq a cell) [
        | inl here ↦ subst (λ (c : ℕ). with_runs net (map f (filter t (range_with_len a (suc n)))) chains c ≡ cond (t c) ((net, (f c).to) ∷ chains c) (chains c)) here
            (elim (cases_Bool (t a)) [
              | inl on ↦ rw on (runs-past (a + 1) n a (with_run net (f a) chains) (omega arith) ∙ run-here a chains)
              | inr off ↦ rw off (runs-past (a + 1) n a chains (omega arith))
            ])
        | inr other ↦
            let rest = runs-within (a + 1) n cell in
            let up : a + 1 ≤ cell = grind (arith, low, other) in
            let in' : cell < a + 1 + n = omega (arith, high) in
            elim (cases_Bool (t a)) [
              | inl on ↦
                  let apart = run-elsewhere a cell chains (grind (arith, nat_tests, up)) in
                  rw on (rest (with_run net (f a) chains) up in'
                  ∙ ap (λ (starts : List (ℕ × ℕ)). cond (t cell) ((net, (f cell).to) ∷ starts) starts) apart)
              | inr off ↦ rw off (rest chains up in')
            ]
      ]

-- ---- the starts from a net on

module _ (d : DesignView) (sets : ℕ → Edges) (way : Way) where
  starts-first : (net cell : ℕ) → net < length d.nets →
      starts_from d sets way net cell ≡
      cond (is_routed d net && begins d.frame.shape (sets net) way cell)
      ((net, (run_from d.frame.shape (sets net) way cell).to) ∷ starts_from d sets way (net + 1) cell) (starts_from d sets way (net + 1) cell)
  starts-first net cell inside =
      let e : length d.nets - net ≡ suc (length d.nets - (net + 1)) = omega (arith, inside) in
      let p : ℕ → Bool = λ n. is_routed d n && begins d.frame.shape (sets n) way cell in
      let f : ℕ → ℕ × ℕ = λ n. (n, (run_from d.frame.shape (sets n) way cell).to) in
      ap (λ (k : ℕ). map f (filter p (range_with_len net k))) e
      ∙ elim (cases_Bool (p net)) [
        | inl on ↦ rw on refl
        | inr off ↦ rw off refl
      ]

  -- a net that isn't routed has none
  pub starts-without : (net cell : ℕ) → net < length d.nets → is_routed d net ≡ false → starts_from d sets way net cell ≡ starts_from d sets way (net + 1) cell
  starts-without net cell inside off = starts-first net cell inside ∙ rw off refl

  -- the runs of a routed net lead the chains of the cells where they begin
  pub starts-with : (net cell : ℕ) → net < length d.nets → is_routed d net ≡ true → cell < cells_of d.frame.shape →
      with_runs net (runs_of_way d.frame.shape (sets net) way) (starts_from d sets way (net + 1)) cell ≡ starts_from d sets way net cell
  starts-with net cell inside on within =
      let g = d.frame.shape in
      runs-within net (run_from g (sets net) way) (λ c. refl) (begins g (sets net) way) 0 (cells_of g) cell (starts_from d sets way (net + 1)) (omega arith) (omega (arith, within))
      ∙ sym (starts-first net cell inside ∙ rw on refl)

-- ---- the starts of all nets so far

-- no net yet
pub none-yet : (d : DesignView) (sets : ℕ → Edges) (way : Way) (g : Shape) (count : ℕ) (s : Starts) → g ≡ d.frame.shape → count ≡ length d.nets →
    ((net : ℕ) → LieIn d.frame.shape (sets net)) → AreInGrid g s → HaveChains (λ cell. []) s → AreStarts d sets way count s
none-yet d sets way g count s same all within grid empty = record {
  within = within;
  grid = subst (λ (h : Shape). AreInGrid h s) same grid;
  chains = λ cell inside.
      let none : length d.nets - count ≡ 0 = omega (arith, all) in
      let p : ℕ → Bool = λ n. is_routed d n && begins d.frame.shape (sets n) way cell in
      let f : ℕ → ℕ × ℕ = λ n. (n, (run_from d.frame.shape (sets n) way cell).to) in
      let is : starts_from d sets way count cell ≡ [] = ap (λ (k : ℕ). map f (filter p (range_with_len count k))) none in
      subst (λ (starts : List (ℕ × ℕ)). IsChain s.runs.items (first_at s.firsts.items cell) starts) (sym is) (empty cell inside);
}

-- a net that isn't routed
pub net-passed : (d : DesignView) (sets : ℕ → Edges) (way : Way) (net : ℕ) (s : Starts) → net < length d.nets → is_routed d net ≡ false →
    AreStarts d sets way (net + 1) s → AreStarts d sets way net s
net-passed d sets way net s inside off before = record {
  within = before.within;
  grid = before.grid;
  chains = λ cell in'. subst (λ (starts : List (ℕ × ℕ)). IsChain s.runs.items (first_at s.firsts.items cell) starts)
      (sym (starts-without d sets way net cell inside off)) (before.chains cell in');
}

-- a net whose runs were added
pub net-added : (d : DesignView) (sets : ℕ → Edges) (way : Way) (g : Shape) (set : Edges) (net : ℕ) (old new : Starts) → g ≡ d.frame.shape → set ≡ sets net →
    is_routed d net ≡ true → AreStarts d sets way (net + 1) old → AreInGrid g new →
    ((chains : ℕ → List (ℕ × ℕ)) → HaveChains chains old → HaveChains (with_runs net (runs_of_way g set way) chains) new) → AreStarts d sets way net new
net-added d sets way g set net old new same is on before grid added =
    let now = subst (λ (h : Shape). AreInGrid h new) same grid in
    let have = subst (λ (h : Shape). HaveChains (with_runs net (runs_of_way h (sets net) way) (starts_from d sets way (net + 1))) new) same
    (subst (λ (e : Edges). HaveChains (with_runs net (runs_of_way g e way) (starts_from d sets way (net + 1))) new) is
    (added (starts_from d sets way (net + 1)) before.chains)) in
    record {
      within = before.within;
      grid = now;
      chains = λ cell in'. subst (λ (starts : List (ℕ × ℕ)). IsChain new.runs.items (first_at new.firsts.items cell) starts)
          (starts-with d sets way net cell (routed-below d net on) on (omega (arith, in', now.cells))) (have cell in');
    }

-- ---- a net's runs lie inside the grid

left-part : {X : Type 0} (P : X → Type 0) (xs ys : List X) → All P (xs ++ ys) → All P xs
left-part P xs ys all k d inside = subst P (get_or_append_left xs ys d k inside) (all k d (omega (arith, length-append xs ys, inside)))

right-part : {X : Type 0} (P : X → Type 0) (xs ys : List X) → All P (xs ++ ys) → All P ys
right-part P xs ys all k d inside = subst P (get_or-append-add xs ys k d) (all (length xs + k) d (omega (arith, length-append xs ys, inside)))

pub way-inside : (g : Shape) (edges : List Edge) (way : Way) (runs : List Run) → All (λ e. IsTrue (has_edge g e)) edges → runs ≡ runs_of_way g (set_of edges) way →
    All (LiesInside g) runs
way-inside g edges way runs grid is = subst (λ (rs : List Run). All (LiesInside g) rs) (sym is) (part way)
  where
    all : All (LiesInside g) (runs_of g (set_of edges))
    all = all-inside g edges (runs_of g (set_of edges)) grid refl

    flat : All (LiesInside g) (runs_of_way g (set_of edges) East ++ runs_of_way g (set_of edges) North)
    flat = left-part (LiesInside g) (runs_of_way g (set_of edges) East ++ runs_of_way g (set_of edges) North) (runs_of_way g (set_of edges) Up) all

    part : (w : Way) → All (LiesInside g) (runs_of_way g (set_of edges) w)
    part East = left-part (LiesInside g) (runs_of_way g (set_of edges) East) (runs_of_way g (set_of edges) North) flat
    part North = right-part (LiesInside g) (runs_of_way g (set_of edges) East) (runs_of_way g (set_of edges) North) flat
    part Up = right-part (LiesInside g) (runs_of_way g (set_of edges) East ++ runs_of_way g (set_of edges) North) (runs_of_way g (set_of edges) Up) all

-- a solution's edges are the grid's
pub solution-within : (d : DesignView) (s : SolutionView) → IsOf d s → (net : ℕ) → LieIn d.frame.shape (edges_by s net)
solution-within d s of net e has =
    let some = Any-from_list_any (λ run. covers s.shape run e) (runs_at s net) has in
    let on = is_on s.shape some.1 in
    subst (λ (g : Shape). IsTrue (has_edge g e)) of.shape (and_parts (has_edge s.shape e) _ (and_parts (has_edge s.shape e && on e.low) (on (high_of s.shape e)) some.4).0).0
