-- What one more entry does to demand and marks.
use Rattle.std.proofs.Common.{◌≡◌, ℕ, suc, zero, ◌+◌, ◌*◌, ◌^◌, ◌<◌, ◌≤◌, inl, inr, min, Bool, true, false, cond, ◌&&◌, nat_lt, List, [], ◌∷◌, ◌++◌, length, take, Option, Some, None, slice_get, refl, sym, ap, subst, ◌∙◌, arith}
use Rattle.std.specs.List.{count_by, range_with_len}
use Rattle.std.proofs.lemmas.Bool.{cases_Bool}
use Rattle.std.proofs.lemmas.List.{length_push, take-append-le, take_at}
use Rattle.std.proofs.lemmas.List.Sums.{fold_push}
use Rattle.gr_base.specs.Limits.{most_width, most_nets}
use Rattle.gr_base.specs.Trees.{TreeView, edges_or_none}
use Rattle.gr_base.specs.declared.grid.Edge.{Edge}
use Rattle.grid_demand.proofs.OperationLemmas.{need-most}
use Rattle.gr_base.specs.Limits.{most_marks}
use Rattle.grid_demand.specs.LoadSums.{mark_of}
use Rattle.grid_demand.specs.Tables.{CapacityView, capacity_at, IsCapacity}
use Rattle.book_state.proofs.RangeSums.{sum-same, sum-change, sum-most, sum-part, count-same, count-more}
use Rattle.book_state.specs.Books.{nets_of, booked_by, booked_after, booked, share_of, demand, marks_over, marks}
use Rattle.book_state.specs.Entries.{is_mark, is_mark_in, is_mark_at}
use Rattle.book_state.specs.declared.entry.Entry.{Entry}

-- bookings after one more entry
pub booked-push : (h : List Entry) (e : Entry) (net : ℕ) → booked (h ++ e ∷ []) net ≡ booked_after net (booked h net) e
unfolding booked
booked-push h e net = fold_push (booked_after net) None h e

pub booked-none : (net : ℕ) → booked [] net ≡ None
unfolding booked
booked-none net = refl

-- an entry that changes no booking
pub booked-idle : (h : List Entry) (e : Entry) (net : ℕ) → booked_by net (booked h net) e.call e.reply ≡ booked h net → booked (h ++ e ∷ []) net ≡ booked h net
booked-idle h e net idle = booked-push h e net ∙ idle

-- demand is a sum over the nets
abbrev share_after : CapacityView → List Entry → Edge → ℕ → ℕ
share_after c h e net = share_of c net (booked h net) e

pub demand-same : (c : CapacityView) (h k : List Entry) (e : Edge) → ((net : ℕ) → booked k net ≡ booked h net) → demand c k e ≡ demand c h e
unfolding demand
demand-same c h k e same =
    sum-same (share_after c k e) (share_after c h e) 0 (nets_of c)
    (λ net low high. ap (λ (tree : Option TreeView). share_of c net tree e) (same net))

-- one net's booking changes
pub demand-change : (c : CapacityView) (h k : List Entry) (e : Edge) (net : ℕ) → net < nets_of c →
    ((other : ℕ) → (other ≡ net → ⊥) → booked k other ≡ booked h other) →
    demand c k e + share_of c net (booked h net) e ≡ demand c h e + share_of c net (booked k net) e
unfolding demand
demand-change c h k e net within same =
    sum-change (share_after c k e) (share_after c h e) 0 (nets_of c) net (omega arith) (omega arith)
    (λ other apart. ap (λ (tree : Option TreeView). share_of c other tree e) (same other apart))

share_of-most : (c : CapacityView) (net : ℕ) (tree : Option TreeView) (e : Edge) → IsCapacity c → share_of c net tree e ≤ 2 * most_width
share_of-most c net tree e tables =
    elim (cases_Bool (edges_or_none tree e)) [
      | inl inside ↦ rw inside (need-most c net e tables)
      | inr outside ↦ rw outside (omega arith)
    ]

-- no demand is great
pub demand-most : (c : CapacityView) (h : List Entry) (e : Edge) → IsCapacity c → nets_of c ≤ most_nets → demand c h e ≤ 2 ^ 47
unfolding demand
demand-most c h e tables few =
    let all = sum-most (share_after c h e) 0 (nets_of c) (2 * most_width) (λ net. share_of-most c net (booked h net) e tables) in
    omega (arith, all, few)

-- a booked net's share is in the demand
pub demand-part : (c : CapacityView) (h : List Entry) (e : Edge) (net : ℕ) → net < nets_of c → share_of c net (booked h net) e ≤ demand c h e
unfolding demand
demand-part c h e net within = sum-part (share_after c h e) 0 (nets_of c) net (omega arith) (omega arith)

pub demand-none : (c : CapacityView) (e : Edge) → demand c [] e ≡ 0
unfolding demand
demand-none c e =
    let all = sum-most (share_after c [] e) 0 (nets_of c) 0 (λ net. subst (λ (tree : Option TreeView). share_of c net tree e ≤ 0) (sym (booked-none net)) (omega arith)) in
    let nothing : nets_of c * 0 ≡ 0 = omega arith in
    omega (arith, all, nothing)

-- a place of the history before one more entry
slice_get-push : {X : Type 0} → (xs : List X) (y : X) (k : ℕ) → k < length xs → slice_get (xs ++ y ∷ []) k ≡ slice_get xs k
slice_get-push [] y k below = absurd (omega arith)
slice_get-push (x ∷ xs) y zero below = refl
slice_get-push (x ∷ xs) y (suc k) below = slice_get-push xs y k (omega arith)

slice_get-last : {X : Type 0} → (xs : List X) (y : X) → slice_get (xs ++ y ∷ []) (length xs) ≡ Some y
slice_get-last [] y = refl
slice_get-last (x ∷ xs) y = slice_get-last xs y

-- the last entry is a mark where it is one's
pub mark-last : (h : List Entry) (e : Entry) → is_mark_at (h ++ e ∷ []) (length h) ≡ is_mark e
mark-last h e = ap (λ (o : Option Entry). is_mark_in o) (slice_get-last h e)

marks_over-before : (c : CapacityView) (h : List Entry) (e : Entry) (x : Edge) (p : ℕ) → p < length h → marks_over c (h ++ e ∷ []) x p ≡ marks_over c h x p
marks_over-before c h e x p below =
    ap (λ (o : Option Entry). is_mark_in o && nat_lt (capacity_at c x) (demand c (take p (h ++ e ∷ [])) x)) (slice_get-push h e p below)
    ∙ ap (λ (k : List Entry). is_mark_in (slice_get h p) && nat_lt (capacity_at c x) (demand c k x)) (take-append-le p h (e ∷ []) (omega arith))

marks_over-last : (c : CapacityView) (h : List Entry) (e : Entry) (x : Edge) → marks_over c (h ++ e ∷ []) x (length h) ≡ (is_mark e && nat_lt (capacity_at c x) (demand c h x))
marks_over-last c h e x =
    ap (λ (o : Option Entry). is_mark_in o && nat_lt (capacity_at c x) (demand c (take (length h) (h ++ e ∷ [])) x)) (slice_get-last h e)
    ∙ ap (λ (k : List Entry). is_mark e && nat_lt (capacity_at c x) (demand c k x)) (take_at h (e ∷ []) (length h) refl)

-- how many marks were over, with one more entry
times-push : (c : CapacityView) (h : List Entry) (e : Entry) (x : Edge) →
    count_by (marks_over c (h ++ e ∷ []) x) (range_with_len 0 (length (h ++ e ∷ [])))
    ≡ count_by (marks_over c h x) (range_with_len 0 (length h)) + cond (is_mark e && nat_lt (capacity_at c x) (demand c h x)) 1 0
times-push c h e x =
    ap (λ (n : ℕ). count_by (marks_over c (h ++ e ∷ []) x) (range_with_len 0 n)) (length_push h e)
    ∙ count-more (marks_over c (h ++ e ∷ []) x) (length h)
    ∙ ap (λ (n : ℕ). n + cond (marks_over c (h ++ e ∷ []) x (length h)) 1 0)
    (count-same (marks_over c (h ++ e ∷ []) x) (marks_over c h x) 0 (length h) (λ p low high. marks_over-before c h e x p (omega arith)))
    ∙ ap (λ (b : Bool). count_by (marks_over c h x) (range_with_len 0 (length h)) + cond {A = ℕ} b 1 0) (marks_over-last c h e x)

-- an entry that isn't a mark leaves the marks
pub marks-idle : (c : CapacityView) (h : List Entry) (e : Entry) (x : Edge) → is_mark e ≡ false → marks c (h ++ e ∷ []) x ≡ marks c h x
unfolding marks
marks-idle c h e x other =
    ap (λ (n : ℕ). min most_marks n) (times-push c h e x
    ∙ ap (λ (b : Bool). count_by (marks_over c h x) (range_with_len 0 (length h)) + cond {A = ℕ} (b && nat_lt (capacity_at c x) (demand c h x)) 1 0) other
    ∙ omega arith)

mark-once : (demand capacity n : ℕ) → min most_marks (n + cond {A = ℕ} (nat_lt capacity demand) 1 0) ≡ mark_of demand capacity (min most_marks n)
mark-once demand capacity n =
    elim (cases_Bool (nat_lt capacity demand)) [
      | inl over ↦ rw over (omega arith)
      | inr within ↦ rw within (omega arith)
    ]

-- a mark marks the edges that are over
pub marks-mark : (c : CapacityView) (h : List Entry) (e : Entry) (x : Edge) → is_mark e ≡ true → marks c (h ++ e ∷ []) x ≡ mark_of (demand c h x) (capacity_at c x) (marks c h x)
unfolding marks
marks-mark c h e x mark =
    ap (λ (n : ℕ). min most_marks n) (times-push c h e x
    ∙ ap (λ (b : Bool). count_by (marks_over c h x) (range_with_len 0 (length h)) + cond {A = ℕ} (b && nat_lt (capacity_at c x) (demand c h x)) 1 0) mark)
    ∙ mark-once (demand c h x) (capacity_at c x) (count_by (marks_over c h x) (range_with_len 0 (length h)))

pub marks-none : (c : CapacityView) (e : Edge) → marks c [] e ≡ 0
unfolding marks
marks-none c e = refl
