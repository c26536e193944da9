-- The demand that is booked, as that of sets of edges.
use Rattle.std.proofs.Common.{◌≡◌, ℕ, inl, inr, Bool, true, false, cond, List, [], ◌∷◌, filter, length, sum_by, Option, None, IsTrue, if◌then◌else◌, refl, sym, ap, ◌∙◌, arith}
use Rattle.std.specs.List.{range_with_len}
use Rattle.std.proofs.lemmas.Bool.{cases_Bool}
use Rattle.std.proofs.lemmas.List.{length-map}
use Rattle.std.proofs.lemmas.List.Sums.{sum_by-cons}
use Rattle.gr_base.specs.Capacities.{need}
use Rattle.gr_base.specs.Designs.{DesignView, is_routed}
use Rattle.gr_base.specs.EdgeSets.{Edges}
use Rattle.gr_base.specs.Sums.{demand as demand_by}
use Rattle.gr_base.specs.Trees.{TreeView, edges_or_none}
use Rattle.gr_base.specs.declared.frame.Net.{Net}
use Rattle.gr_base.specs.declared.grid.Edge.{Edge}
use Rattle.grid_demand.specs.Tables.{capacity_of}
use Rattle.book_state.specs.Books.{booked, share_of, demand}
use Rattle.book_state.specs.declared.entry.Entry.{Entry}

-- a sum whose other terms are nothing is the sum over what a test keeps
pub sum-kept : (p : ℕ → Bool) (f g : ℕ → ℕ) (xs : List ℕ) → ((x : ℕ) → p x ≡ true → f x ≡ g x) → ((x : ℕ) → p x ≡ false → f x ≡ 0) →
    sum_by f xs ≡ sum_by g (filter p xs)
sum-kept p f g [] same none = refl
sum-kept p f g (x ∷ xs) same none =
    let rest = sum-kept p f g xs same none in
    let all = sum_by-cons f x xs in
    elim (cases_Bool (p x)) [
      | inl on ↦
          let kept : sum_by g (cond (p x) (x ∷ filter p xs) (filter p xs)) ≡ sum_by g (x ∷ filter p xs) =
          ap (λ (b : Bool). sum_by g (cond b (x ∷ filter p xs) (filter p xs))) on in
          let first = same x on in
          omega (arith, all, rest, kept, first, sum_by-cons g x (filter p xs))
      | inr off ↦
          let kept : sum_by g (cond (p x) (x ∷ filter p xs) (filter p xs)) ≡ sum_by g (filter p xs) =
          ap (λ (b : Bool). sum_by g (cond b (x ∷ filter p xs) (filter p xs))) off in
          let first = none x off in
          omega (arith, all, rest, kept, first)
    ]

-- the demand for an edge is what the routed nets take of it by the edges of their booked trees
pub booked-demand : (d : DesignView) (h : List Entry) (sets : ℕ → Edges) → ((net : ℕ) → is_routed d net ≡ false → booked h net ≡ None) →
    ((net : ℕ) → IsTrue (is_routed d net) → (e : Edge) → sets net e ≡ edges_or_none (booked h net) e) → (e : Edge) →
    demand (capacity_of d) h e ≡ demand_by d sets e
unfolding demand
booked-demand d h sets free same e =
    ap (λ (n : ℕ). sum_by share (range_with_len 0 n)) (length-map d.nets (λ (net : Net). net.width))
    ∙ sum-kept (is_routed d) share taken (range_with_len 0 (length d.nets)) on off
  where
    share : ℕ → ℕ
    share net = share_of (capacity_of d) net (booked h net) e

    taken : ℕ → ℕ
    taken net = if sets net e then need d net e else 0

    on : (net : ℕ) → is_routed d net ≡ true → share net ≡ taken net
    on net routed = ap (λ (b : Bool). if b then need d net e else 0) (sym (same net routed e))

    off : (net : ℕ) → is_routed d net ≡ false → share net ≡ 0
    off net unrouted = ap (λ (o : Option TreeView). share_of (capacity_of d) net o e) (free net unrouted)
