-- Plans that stay the plans while only claims come.
use Rattle.std.proofs.Common.{◌≡◌, ℕ, zero, suc, ◌+◌, ◌*◌, ◌<◌, ◌≤◌, inl, inr, Bool, true, false, ◌&&◌, List, [], ◌∷◌, ◌++◌, length, sum_by, Option, Some, None, is_some, slice_get, take, if◌then◌else◌, Result, Ok, Err, IfOk, IsTrue, refl, sym, ap, subst, ◌∙◌, arith}
use Rattle.std.proofs.Math.Path.{fun_ext}
use Rattle.std.proofs.lemmas.Bool.{cases_Bool, both_ways}
use Rattle.std.proofs.lemmas.Bool.Decides.{nat_tests}
use Rattle.std.proofs.lemmas.List.{length_push}
use Rattle.std.proofs.lemmas.List.Sums.{sum_by-cons, sum_by-le-sum_by, sum_by_more}
use Rattle.std.proofs.lemmas.Option.{get_or_from_slice_get, none-some, same_Some, slice_get_within}
use Rattle.std.specs.List.{range_with_len}
use Rattle.std.specs.Option.{option_map}
use Rattle.cost_rules.specs.declared.site.Formula.{Formula}
use Rattle.gr_base.proofs.DesignLemmas.{routed-net}
use Rattle.gr_base.specs.Designs.{DesignView, is_routed, pins_at}
use Rattle.gr_base.specs.Grid.{edge_at, has_edge, high_of, is_wire, is_wire_way}
use Rattle.gr_base.specs.Trees.{TreeView, cell_at, has_cell, holds, node_from}
use Rattle.gr_base.specs.declared.grid.Edge.{Edge}
use Rattle.gr_base.specs.declared.grid.Shape.{Shape}
use Rattle.gr_base.specs.declared.grid.Way.{Way}
use Rattle.gr_base.specs.declared.grid.Way.TheVariants.{East, North, Up}
use Rattle.gr_base.specs.declared.tree.Node.{Node}
use Rattle.grid_demand.specs.LoadSums.{LoadsView, demand_at}
use Rattle.grid_demand.specs.Tables.{CapacityView, capacity_of}
use Rattle.net_plan.specs.Mazes.{window_of}
use Rattle.book_state.proofs.BookSteps.{booked-push, marks-idle}
use Rattle.book_state.proofs.HistoryLists.{slice_get-right}
use Rattle.book_state.specs.Books.{nets_of, booked, booked_by, share_of, demand, marks, reply_to, reply_to_free, AreLoadsOf}
use Rattle.book_state.specs.Entries.{is_full_reply}
use Rattle.book_state.specs.Still.{over_with}
use Rattle.book_state.specs.Views.{entry_of}
use Rattle.book_state.specs.declared.entry.Call.TheVariants.{Claim as Claims}
use Rattle.book_state.specs.declared.entry.Claim.{Claim}
use Rattle.book_state.specs.declared.entry.Entry.{Entry}
use Rattle.book_state.specs.declared.entry.Reply.{Reply}
use Rattle.book_state.specs.declared.entry.Reply.TheVariants.{Claimed, Taken, Full, Released, NotBooked, Marked}
use Rattle.run_histories.proofs.StillPlans.{StaysBestIn, still-maze-in}
use Rattle.run_histories.specs.Attempts.{kind_of}
use Rattle.run_histories.specs.Rounds.{IsPlanFor}
use Rattle.batch_rounds.proofs.HeldNets.{claim-books}
use Rattle.batch_rounds.proofs.RoundSteps.{IsAdded}
use Rattle.batch_rounds.specs.BatchedHistories.{Batching, capacity_in, claimant, after_claim, at_any_demand, IsClaimedAlone, IsTurn}
use Rattle.batch_rounds.specs.BatchedHistories.IsClaimedAlone.{Fits, Is_forced}
use Rattle.batch_rounds.specs.BatchedHistories.IsTurn.{Is_first, Goes_on}
use Rattle.batch_rounds.specs.SecondTries.{demand_if, demand_from_cell, demand_from, Grows, WasNoted, EndsWith, IsRefused}
use Rattle.batch_rounds.specs.declared.seat.Planned.{Planned}

-- booked nets keep their trees, and edges their marks, while only claims come
pub grows-none : (c : CapacityView) (h : List Entry) → Grows c h h
grows-none c h = record { kept = λ net tree is. is; marks = λ e. refl }

pub grows-both : (c : CapacityView) (h g k : List Entry) → Grows c h g → Grows c g k → Grows c h k
grows-both c h g k one two = record {
  kept = λ net tree is. two.kept net tree (one.kept net tree is);
  marks = λ e. two.marks e ∙ one.marks e;
}

pub claim-grows : (t : Batching) (h : List Entry) (claim : Claim) → Grows (capacity_in t) h (after_claim t h claim)
claim-grows t h claim = record {
  kept = λ net tree is. booked-push h (entry_of claimant (Claims claim) reply) net ∙ still net tree is ∙ is;
  marks = λ e. marks-idle (capacity_in t) h (entry_of claimant (Claims claim) reply) e refl;
}
  where
    reply : Reply
    reply = reply_to (capacity_in t) h (Claims claim)

    -- a net that is booked isn't booked again
    still : (net : ℕ) (tree : TreeView) → booked h net ≡ Some tree → booked_by net (booked h net) (Claims claim) reply ≡ booked h net
    still net tree is = elim (claim-books net (booked h net) claim reply) [
      | inl same ↦ same
      | inr new ↦
          ap (booked_by net (booked h net) (Claims claim))
          (ap (λ (b : Bool). if b then Taken else reply_to_free (capacity_in t) (demand (capacity_in t) h) claim claim.slack)
          (ap (λ (n : ℕ). is_some (booked h n)) new.0 ∙ ap is_some is))
    ]

alone-grows : (t : Batching) (round net : ℕ) (h after : List Entry) → IsClaimedAlone t round net h after → Grows (capacity_in t) h after
alone-grows t round net h _ (Fits claim of fits) = claim-grows t h claim
alone-grows t round net h _ (Is_forced claim of full) =
    grows-both (capacity_in t) h (after_claim t h claim) (after_claim t (after_claim t h claim) (at_any_demand (after_claim t h claim) claim))
    (claim-grows t h claim) (claim-grows t (after_claim t h claim) (at_any_demand (after_claim t h claim) claim))

pub turn-grows : (t : Batching) (round net : ℕ) (front h after : List Entry) → IsTurn t round front net h after → Grows (capacity_in t) h after
turn-grows t round net front h _ (Is_first claim of fits) = claim-grows t h claim
turn-grows t round net front h after (Goes_on claim of full alone) =
    grows-both (capacity_in t) h (after_claim t h claim) after (claim-grows t h claim) (alone-grows t round net (after_claim t h claim) after alone)

-- so demand only rises
demand-rises : (c : CapacityView) (h g : List Entry) → Grows c h g → (e : Edge) → demand c h e ≤ demand c g e
unfolding demand
demand-rises c h g grows e =
    sum_by-le-sum_by (λ net. share_of c net (booked h net) e) (λ net. share_of c net (booked g net) e) (range_with_len 0 (nets_of c))
    (λ net. by net (booked h net) refl)
  where
    by : (net : ℕ) (o : Option TreeView) → booked h net ≡ o → share_of c net (booked h net) e ≤ share_of c net (booked g net) e
    by net None is = let none : share_of c net (booked h net) e ≡ 0 = ap (λ (o : Option TreeView). share_of c net o e) is in omega (arith, none)
    by net (Some tree) is =
        let same : share_of c net (booked g net) e ≡ share_of c net (booked h net) e =
        ap (λ (o : Option TreeView). share_of c net o e) (grows.kept net tree is ∙ sym is) in
        omega (arith, same)

-- where a sum of parts that only rise is the same, so is each part
part-same : (f g : ℕ → ℕ) → ((cell : ℕ) → f cell ≤ g cell) → (number : ℕ) (nodes : List Node) (cell : ℕ) →
    sum_by (λ (node : Node). f node.cell) nodes ≡ sum_by (λ (node : Node). g node.cell) nodes → IsTrue (is_some (node_from number nodes cell)) → f cell ≡ g cell
part-same f g rises number [] cell same held = absurd cc
part-same f g rises number (node ∷ nodes) cell same held =
    by (λ rest_same rest_held. part-same f g rises (number + 1) nodes cell rest_same rest_held) (has_cell cell node) refl held
  where
    first : sum_by (λ (n : Node). f n.cell) (node ∷ nodes) ≡ f node.cell + sum_by (λ (n : Node). f n.cell) nodes
    first = sum_by-cons (λ (n : Node). f n.cell) node nodes

    second : sum_by (λ (n : Node). g n.cell) (node ∷ nodes) ≡ g node.cell + sum_by (λ (n : Node). g n.cell) nodes
    second = sum_by-cons (λ (n : Node). g n.cell) node nodes

    rest : sum_by (λ (n : Node). f n.cell) nodes ≤ sum_by (λ (n : Node). g n.cell) nodes
    rest = sum_by-le-sum_by (λ (n : Node). f n.cell) (λ (n : Node). g n.cell) nodes (λ n. rises n.cell)

    one : f node.cell ≤ g node.cell
    one = rises node.cell

    by : (sum_by (λ (n : Node). f n.cell) nodes ≡ sum_by (λ (n : Node). g n.cell) nodes → IsTrue (is_some (node_from (number + 1) nodes cell)) → f cell ≡ g cell) →
        (b : Bool) → has_cell cell node ≡ b → IsTrue (is_some (if b then Some number else node_from (number + 1) nodes cell)) → f cell ≡ g cell
    by later true is held =
        let here : node.cell ≡ cell = grind (arith, nat_tests) in
        let even : f node.cell ≡ g node.cell = omega (arith, first, second, rest, one, same) in
        ap f (sym here) ∙ even ∙ ap g here
    by later false is held = later (omega (arith, first, second, rest, one, same)) held

-- the demand from a cell only rises, and where it is the same, so is that for each edge from there
module _ (g : Shape) (p q : Edge → ℕ) (rises : (e : Edge) → p e ≤ q e) where
  if-rises : (e : Edge) → demand_if g p e ≤ demand_if g q e
  if-rises e = by (has_edge g e)
    where
      by : (b : Bool) → (if b then p e else 0) ≤ (if b then q e else 0)
      by true = rises e
      by false = omega arith

  cell-rises : (cell : ℕ) → demand_from_cell g p cell ≤ demand_from_cell g q cell
  cell-rises cell =
      let east = if-rises (edge_at cell East) in
      let north = if-rises (edge_at cell North) in
      omega (arith, east, north)

  edge-same : (e : Edge) → IsTrue (has_edge g e) → IsTrue (is_wire e) → demand_from_cell g p e.low ≡ demand_from_cell g q e.low → p e ≡ q e
  edge-same e edge wire same = sym (there p) ∙ by e.way refl wire ∙ there q
    where
      there : (r : Edge → ℕ) → demand_if g r e ≡ r e
      there r = ap (λ (b : Bool). if b then r e else 0) edge

      by : (way : Way) → e.way ≡ way → IsTrue (is_wire_way way) → demand_if g p e ≡ demand_if g q e
      by East is wire =
          let east = if-rises (edge_at e.low East) in
          let north = if-rises (edge_at e.low North) in
          let even : demand_if g p (edge_at e.low East) ≡ demand_if g q (edge_at e.low East) = omega (arith, east, north, same) in
          ap (λ (way : Way). demand_if g p (edge_at e.low way)) is ∙ even ∙ sym (ap (λ (way : Way). demand_if g q (edge_at e.low way)) is)
      by North is wire =
          let east = if-rises (edge_at e.low East) in
          let north = if-rises (edge_at e.low North) in
          let even : demand_if g p (edge_at e.low North) ≡ demand_if g q (edge_at e.low North) = omega (arith, east, north, same) in
          ap (λ (way : Way). demand_if g p (edge_at e.low way)) is ∙ even ∙ sym (ap (λ (way : Way). demand_if g q (edge_at e.low way)) is)
      by Up is wire = absurd cc

-- the demand from a tree's cells, by the loads and by the history whose loads they are
pub from-loads : (c : CapacityView) (h : List Entry) (l : LoadsView) (t : TreeView) → AreLoadsOf c h l → t.shape ≡ c.shape → demand_from (demand_at l) t ≡ demand_from (demand c h) t
from-loads c h l t of shape = ap (λ (f : Node → ℕ). sum_by f t.nodes) (fun_ext (λ node. cell-is node.cell))
  where
    edge-is : (cell : ℕ) (way : Way) → IsTrue (is_wire_way way) → demand_if t.shape (demand_at l) (edge_at cell way) ≡ demand_if t.shape (demand c h) (edge_at cell way)
    edge-is cell way wire = by (has_edge t.shape (edge_at cell way)) refl
      where
        by : (b : Bool) → has_edge t.shape (edge_at cell way) ≡ b → (if b then demand_at l (edge_at cell way) else 0) ≡ (if b then demand c h (edge_at cell way) else 0)
        by true is = of.demand (edge_at cell way) (subst (λ (g : Shape). IsTrue (has_edge g (edge_at cell way))) shape is) wire
        by false is = refl

    cell-is : (cell : ℕ) → demand_from_cell t.shape (demand_at l) cell ≡ demand_from_cell t.shape (demand c h) cell
    cell-is cell = let east = edge-is cell East refl in let north = edge-is cell North refl in omega (arith, east, north)

-- the last claim is for one tree
ends-same : (h : List Entry) (t u : TreeView) → EndsWith h t → EndsWith h u → t ≡ u
ends-same h t u one other = sym one.tree_is ∙ ap (λ (claim : Claim). claim.tree) claims ∙ other.tree_is
  where
    last : one.last ≡ other.last
    last = same_Some one.last other.last (sym one.there ∙ other.there)

    claims : one.claim ≡ other.claim
    claims = same-claims one.claim other.claim (sym one.call ∙ ap (λ (e : Entry). e.call) last ∙ other.call)
      where
        same-claims : (a b : Claim) → Claims a ≡ Claims b → a ≡ b
        same-claims a b is = cc

-- a refused plan is still the plan where the demand from its cells is the same
pub kept-plan : (d : DesignView) (formula : Formula) (round net sum : ℕ) (h : List Entry) (l : LoadsView) (u : TreeView) → 0 < round → IsTrue (is_routed d net) → AreLoadsOf (capacity_of d) h l →
    IsRefused d formula round net sum h → EndsWith h u → demand_from (demand_at l) u ≡ sum → IsPlanFor d formula h net (kind_of round) u
kept-plan d formula zero net sum h l u later routed of refused ends same = absurd (omega (arith, later))
kept-plan d formula (suc r) net sum h l u later routed of refused ends same =
    subst (IsPlanFor d formula h net (kind_of (suc r))) is (record {
      plan = record {
        loads = l;
        there = of;
        plan = still-maze-in c was.plan.loads l formula net (pins_at d net) (4 * suc r) tree first h was.plan.there of best was.plan.plan;
      };
      routes = was.routes;
    })
  where
    c : CapacityView
    c = capacity_of d

    first : List Entry
    first = refused.was.first

    tree : TreeView
    tree = refused.planned.tree

    was : IsPlanFor d formula first net (kind_of (suc r)) tree
    was = refused.was.noted.plan

    is : tree ≡ u
    is = ends-same h tree u refused.ends ends

    shape : tree.shape ≡ c.shape
    shape = let one = routed-net d net routed in (was.routes one.net one.there).shape

    rises : (e : Edge) → demand c first e ≤ demand c h e
    rises = demand-rises c first h refused.was.grows

    sums : demand_from (demand c first) tree ≡ demand_from (demand c h) tree
    sums =
        sym refused.was.noted.demand ∙ refused.demand_is ∙ sym same
        ∙ sym (ap (demand_from (demand_at l)) is) ∙ from-loads c h l tree of shape

    kept : (e : Edge) → IsTrue (has_edge c.shape e) → IsTrue (is_wire e) → IsTrue (holds tree e.low) → demand c first e ≡ demand c h e
    kept e edge wire held =
        edge-same tree.shape (demand c first) (demand c h) rises e (subst (λ (g : Shape). IsTrue (has_edge g e)) (sym shape) edge) wire
        (part-same (demand_from_cell tree.shape (demand c first)) (demand_from_cell tree.shape (demand c h))
        (cell-rises tree.shape (demand c first) (demand c h) rises) 0 tree.nodes e.low sums held)

    best : StaysBestIn c formula net (window_of c.shape (pins_at d net) (4 * suc r)) tree first h
    best = record {
      rises = λ e is_in wire. let more = rises e in omega (arith, more);
      stays = λ e is_in wire low high. ap (over_with c formula net e) (sym (kept e is_in.edge wire low));
      marks = λ e is_in wire. refused.was.grows.marks e;
    }

-- a claim that found no room leaves its net unbooked, and ends the history
pub refused-now : (t : Batching) (round net : ℕ) (h new : List Entry) (claim : Claim) (reply : Reply) (p : Planned) → WasNoted t.design t.formula round h net p → claim.net ≡ net → claim.tree ≡ p.tree →
    IsAdded t h claim reply new → is_full_reply reply ≡ true → IsRefused t.design t.formula round net p.demand new
refused-now t round net h new claim reply p was net_is tree_is added full = record {
  planned = p;
  demand_is = refl;
  was = record {
    first = was.first;
    noted = was.noted;
    grows = subst (Grows (capacity_in t) was.first) (sym added.after) (grows-both (capacity_in t) was.first h (after_claim t h claim) was.grows (claim-grows t h claim));
  };
  ends = subst (λ (k : List Entry). EndsWith k p.tree) (sym added.after) (record {
    last = last;
    claim = claim;
    there = ap (slice_get (after_claim t h claim)) (let long = length_push h last in omega (arith, long)) ∙ slice_get-right h (last ∷ []) (length h) 0 (omega arith);
    call = refl;
    tree_is = tree_is;
  });
  free = subst (λ (k : List Entry). booked k net ≡ None) (sym added.after) (subst (λ (n : ℕ). booked (after_claim t h claim) n ≡ None) net_is free);
}
  where
    answer : Reply
    answer = reply_to (capacity_in t) h (Claims claim)

    last : Entry
    last = entry_of claimant (Claims claim) answer

    refused : is_full_reply answer ≡ true
    refused = added.refused ∙ full

    free : booked (after_claim t h claim) claim.net ≡ None
    free = booked-push h last claim.net ∙ by answer refl refused
      where
        unbooked : is_some (booked h claim.net) ≡ false
        unbooked = elim (cases_Bool (is_some (booked h claim.net))) [
          | inl held ↦
              absurd (both_ways false refl (sym (ap (λ (b : Bool). is_full_reply (if b then Taken else reply_to_free (capacity_in t) (demand (capacity_in t) h) claim claim.slack)) held) ∙ refused))
          | inr not ↦ not
        ]

        none-of : (o : Option TreeView) → is_some o ≡ false → o ≡ None
        none-of None is = refl
        none-of (Some tree) is = absurd cc

        by : (r : Reply) → answer ≡ r → is_full_reply r ≡ true → booked_by claim.net (booked h claim.net) (Claims claim) answer ≡ None
        by (Full edge n) is full = ap (booked_by claim.net (booked h claim.net) (Claims claim)) is ∙ none-of (booked h claim.net) unbooked
        by Claimed is full = absurd cc
        by Taken is full = absurd cc
        by Released is full = absurd cc
        by NotBooked is full = absurd cc
        by (Marked n) is full = absurd cc

-- the demand from one more of a tree's cells
pub sum-more : (f : ℕ → ℕ) (nodes : List Node) (at cell : ℕ) → cell_at nodes at ≡ Some cell →
    sum_by (λ (node : Node). f node.cell) (take (at + 1) nodes) ≡ sum_by (λ (node : Node). f node.cell) (take at nodes) + f cell
sum-more f nodes at cell is = by (slice_get nodes at) refl
  where
    by : (o : Option Node) → slice_get nodes at ≡ o →
        sum_by (λ (node : Node). f node.cell) (take (at + 1) nodes) ≡ sum_by (λ (node : Node). f node.cell) (take at nodes) + f cell
    by None there = absurd (none-some cell (sym (ap (option_map (λ (node : Node). node.cell)) there) ∙ is))
    by (Some node) there =
        let here : node.cell ≡ cell = same_Some node.cell cell (sym (ap (option_map (λ (n : Node). n.cell)) there) ∙ is) in
        sum_by_more (λ (n : Node). f n.cell) nodes at node (slice_get_within nodes at node there)
        ∙ ap (λ (n : Node). sum_by (λ (m : Node). f m.cell) (take at nodes) + f n.cell) (get_or_from_slice_get nodes at node node there)
        ∙ ap (λ (n : ℕ). sum_by (λ (m : Node). f m.cell) (take at nodes) + f n) here

-- what holds of a tree holds of its copy
pub of-copy : {E : Type 0} (P : TreeView → Type 0) (t : TreeView) (r : Result TreeView E) → P t → IfOk r (λ u. u ≡ t) → IfOk r P
of-copy P t (Ok u) holds same = subst P (sym same) holds
of-copy P t (Err e) holds same = tt
