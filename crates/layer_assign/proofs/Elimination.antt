-- Layers are eliminated node by node, from the last: what is left costs the least, and choices lead to the first.
use Rattle.std.proofs.Common.{Option, Some, None, ◌≡◌, ◌≢◌, ℕ, suc, zero, ◌+◌, ◌*◌, ◌<◌, ◌≤◌, ◌⊎◌, inl, inr, min, max, Bool, true, false, ◌&&◌, ◌||◌, ◌==◌, nat_lt, nat_le, if◌then◌else◌, IsTrue, refl, sym, ap, subst, ◌∙◌, arith}
use Rattle.std.proofs.lemmas.Bool.{cases_eq, cases_lt, cases_Bool, both_ways}
use Rattle.std.proofs.lemmas.Bool.Decides.{nat_tests}
use Rattle.layer_assign.specs.declared.span.Span.{Span}
use Rattle.layer_assign.specs.Spans.{widened, climb, IsWithin, span_by}
use Rattle.layer_assign.specs.Choices.{IsBest}
use Rattle.layer_assign.specs.Chosen.{is_near, holds_pins, may_precede}
use Rattle.layer_assign.proofs.Sums.{sums, sums-same, sums-changed, sums-at}

-- what assignments are judged by: the parents of nodes, what each node's edge costs on a layer,
-- the layers that it may have, and the span of the pins of each node's tile
pub record Problem : Type 0 where
  pub layers : ℕ
  pub nodes : ℕ
  pub parent : ℕ → ℕ
  pub wire : ℕ → ℕ → ℕ
  pub may : ℕ → ℕ → Bool
  pub base : ℕ → Option Span

pub record IsSound (p : Problem) : Type 0 where
  pub earlier : (v : ℕ) → 0 < v → v < p.nodes → p.parent v < v
  pub within : (u : ℕ) → IsWithin p.layers (p.base u)
  pub below : (v l : ℕ) → IsTrue (p.may v l) → l < p.layers
  pub root : (l : ℕ) → p.wire 0 l ≡ 0

abbrev pub ends : Problem → ℕ → ℕ → Bool
ends p u v = nat_lt 0 v && ((v == u) || (p.parent v == u))

-- the span of a node's tile, of the edges of nodes below a number
abbrev pub span : Problem → (ℕ → ℕ) → ℕ → ℕ → Option Span
span p a u i = span_by (ends p) p.base a u i

abbrev pub Assigned : Problem → (ℕ → ℕ) → Type 0
Assigned p a = (v : ℕ) → 0 < v → v < p.nodes → IsTrue (p.may v (a v))

-- the cost of the edges of nodes below a number, and of what E says of the tiles of these nodes
abbrev pub total : Problem → (ℕ → Option Span → ℕ) → (ℕ → ℕ) → ℕ → ℕ
total p E a i = sums (λ v. p.wire v (a v)) i + sums (λ u. E u (span p a u i)) i

abbrev pub whole : Problem → (ℕ → ℕ) → ℕ
whole p a = total p (λ u s. climb s) a p.nodes

-- from a node on each node's layer is the choice for its parent's span
abbrev pub FollowsFrom : Problem → (ℕ → Option Span → ℕ) → ℕ → (ℕ → ℕ) → Type 0
FollowsFrom p choice i a = (v : ℕ) → i ≤ v → 0 < v → v < p.nodes → a v ≡ choice v (span p a (p.parent v) v)

abbrev pub Alike : (ℕ → ℕ) → (ℕ → ℕ) → ℕ → Type 0
Alike a b v = (w : ℕ) → 0 < w → w < v → a w ≡ b w

-- a tile has this span before the edge of a node, where the layers of the nodes below are allowed
pub record Precedes (p : Problem) (u i : ℕ) (s : Option Span) : Type 0 where
  pub layers : ℕ → ℕ
  pub allowed : (w : ℕ) → 0 < w → w < i → IsTrue (p.may w (layers w))
  pub is : span p layers u i ≡ s

-- the layers of the nodes from a number on are eliminated: E tells what they cost at least, and the choices the first layers that cost this
pub record Eliminates (p : Problem) (i : ℕ) (E choice : ℕ → Option Span → ℕ) : Type 0 where
  pub bound : (a : ℕ → ℕ) → Assigned p a → total p E a i ≤ whole p a
  pub attained : (a : ℕ → ℕ) → Assigned p a → FollowsFrom p choice i a → whole p a ≡ total p E a i
  pub first : (a b : ℕ → ℕ) → Assigned p a → Assigned p b → FollowsFrom p choice i a → whole p b ≡ total p E b i →
      (v : ℕ) → i ≤ v → 0 < v → v < p.nodes → Alike a b v → a v ≤ b v
  pub allowed : (v : ℕ) → i ≤ v → 0 < v → v < p.nodes → (s : Option Span) → Precedes p (p.parent v) v s → IsTrue (p.may v (choice v s))

pub widened-within : (layers : ℕ) (s : Option Span) (l : ℕ) → IsWithin layers s → l < layers → IsWithin layers (widened s l)
widened-within layers None l within below = record { ordered = omega arith; high = below }
widened-within layers (Some s) l within below =
    let ordered = within.ordered in let high = within.high in record { ordered = omega arith; high = omega arith }

-- no climb costs more than 48
climb-low : (layers : ℕ) (s : Option Span) → layers ≤ 16 → IsWithin layers s → climb s ≤ 48
climb-low layers None few within = omega arith
climb-low layers (Some s) few within = let high = within.high in omega arith

-- an edge of a node above ends in none of the tiles of nodes below it but its parent's
pub ends-own : (p : Problem) (i : ℕ) → 0 < i → ends p i i ≡ true
ends-own p i later = grind (arith, nat_tests)

pub ends-parent : (p : Problem) (i : ℕ) → 0 < i → ends p (p.parent i) i ≡ true
ends-parent p i later = grind (arith, nat_tests)

pub ends-other : (p : Problem) (u i : ℕ) → u ≢ i → u ≢ p.parent i → ends p u i ≡ false
ends-other p u i own other = grind (arith, nat_tests)

pub ends-none : (p : Problem) (u : ℕ) → ends p u 0 ≡ false
ends-none p u = refl

span-more : (p : Problem) (a : ℕ → ℕ) (u i : ℕ) → ends p u i ≡ true → span p a u (suc i) ≡ widened (span p a u i) (a i)
span-more p a u i is = rw is refl

span-kept : (p : Problem) (a : ℕ → ℕ) (u i : ℕ) → ends p u i ≡ false → span p a u (suc i) ≡ span p a u i
span-kept p a u i is = rw is refl

-- before its own number a node's tile has the pins' span
pub span-base : (p : Problem) (a : ℕ → ℕ) (u i : ℕ) → IsSound p → u < p.nodes → i ≤ u → span p a u i ≡ p.base u
span-base p a u zero sound inside le = refl
span-base p a u (suc zero) sound inside le = refl
span-base p a u (suc (suc i)) sound inside le =
    let earlier = sound.earlier (suc i) (omega arith) (omega arith) in
    span-kept p a u (suc i) (ends-other p u (suc i) (λ e. omega arith) (λ e. omega arith)) ∙ span-base p a u (suc i) sound inside (omega arith)

pub span-within_below : (p : Problem) (a : ℕ → ℕ) (u i : ℕ) → IsSound p → ((w : ℕ) → 0 < w → w < i → a w < p.layers) → IsWithin p.layers (span p a u i)
span-within_below p a u zero sound each = sound.within u
span-within_below p a u (suc zero) sound each = sound.within u
span-within_below p a u (suc (suc i)) sound each =
    let before = span-within_below p a u (suc i) sound (λ w later lt. each w later (omega arith)) in
    let below = each (suc i) (omega arith) (omega arith) in
    elim (cases_Bool (ends p u (suc i))) [
      | inl is ↦ subst (λ (s : Option Span). IsWithin p.layers s) (sym (span-more p a u (suc i) is)) (widened-within p.layers (span p a u (suc i)) (a (suc i)) before below)
      | inr is ↦ subst (λ (s : Option Span). IsWithin p.layers s) (sym (span-kept p a u (suc i) is)) before
    ]

pub span-within : (p : Problem) (a : ℕ → ℕ) (u i : ℕ) → IsSound p → Assigned p a → i ≤ p.nodes → IsWithin p.layers (span p a u i)
span-within p a u i sound assigned le = span-within_below p a u i sound (λ w later lt. sound.below w (a w) (assigned w later (omega arith)))

-- spans that come before a node are within the grid
pub precedes-within : (p : Problem) (u i : ℕ) (s : Option Span) → IsSound p → Precedes p u i s → IsWithin p.layers s
precedes-within p u i s sound precedes =
    subst (λ (r : Option Span). IsWithin p.layers r) precedes.is
    (span-within_below p precedes.layers u i sound (λ w later lt. sound.below w (precedes.layers w) (precedes.allowed w later lt)))

pub span-precedes : (p : Problem) (a : ℕ → ℕ) (u i : ℕ) → Assigned p a → i ≤ p.nodes → Precedes p u i (span p a u i)
span-precedes p a u i assigned le = record {
  layers = a;
  allowed = λ w later lt. assigned w later (omega arith);
  is = refl;
}

-- a span ends where it did with one layer more or without
near-same : (f : Option Span) → is_near 0 f f ≡ true
near-same None = refl
near-same (Some f) = grind (arith, nat_tests)

near-widened : (layers parent : ℕ) (f : Option Span) (l : ℕ) → IsWithin layers f → 0 < parent → is_near parent f (widened f l) ≡ true
near-widened layers parent None l within later = grind (arith, nat_tests)
near-widened layers parent (Some f) l within later =
    let ordered = within.ordered in
    let other : (parent == 0) ≡ false = grind (arith, nat_tests) in
    elim (cases_lt l f.low) [
      | inl below ↦ let high : max f.high l ≡ f.high = omega arith in rw other (rw high (plain (min f.low l == f.low) f.high))
      | inr above ↦ let low : min f.low l ≡ f.low = omega arith in rw other (rw low (first f.low (max f.high l == f.high)))
    ]
  where
    plain : (b : Bool) (n : ℕ) → (b || (n == n)) ≡ true
    plain true n = refl
    plain false n = grind (arith, nat_tests)

    first : (n : ℕ) (b : Bool) → ((n == n) || b) ≡ true
    first n b = let is : (n == n) ≡ true = grind (arith, nat_tests) in rw is refl

near-first : (p : Problem) (a : ℕ → ℕ) (u : ℕ) → IsSound p → u < p.nodes → is_near u (p.base u) (span p a u (suc u)) ≡ true
near-first p a zero sound inside = near-same (p.base 0)
near-first p a (suc u) sound inside =
    let is : span p a (suc u) (suc (suc u)) ≡ widened (p.base (suc u)) (a (suc u)) =
    span-more p a (suc u) (suc u) (ends-own p (suc u) (omega arith)) ∙
    ap (λ (s : Option Span). widened s (a (suc u))) (span-base p a (suc u) (suc u) sound inside (omega arith)) in
    subst (λ (s : Option Span). is_near (suc u) (p.base (suc u)) s ≡ true) (sym is) (near-widened p.layers (suc u) (p.base (suc u)) (a (suc u)) (sound.within (suc u)) (omega arith))

-- a span holds the layers of the pins that it began with
holds-same : (f : Option Span) → holds_pins f f ≡ true
holds-same None = refl
holds-same (Some f) = grind (arith, nat_tests)

holds-widened : (f s : Option Span) (l : ℕ) → holds_pins f s ≡ true → holds_pins f (widened s l) ≡ true
holds-widened None s l holds = refl
holds-widened (Some f) None l holds = absurd (both_ways false refl holds)
holds-widened (Some f) (Some s) l holds =
    let parts : (s.low ≤ f.low) × (f.high ≤ s.high) = grind (arith, nat_tests) in
    let low = parts.0 in
    let high = parts.1 in
    let lower : min s.low l ≤ f.low = omega arith in
    let higher : f.high ≤ max s.high l = omega arith in
    both-hold (min s.low l) f.low f.high (max s.high l) lower higher
  where
    both-hold : (a b c d : ℕ) → a ≤ b → c ≤ d → (nat_le a b && nat_le c d) ≡ true
    both-hold a b c d first second = grind (arith, nat_tests)

holds-span : (p : Problem) (a : ℕ → ℕ) (u i : ℕ) → holds_pins (p.base u) (span p a u i) ≡ true
holds-span p a u zero = holds-same (p.base u)
holds-span p a u (suc i) =
    elim (cases_Bool (ends p u i)) [
      | inl is ↦
          subst (λ (s : Option Span). holds_pins (p.base u) s ≡ true) (sym (span-more p a u i is))
          (holds-widened (p.base u) (span p a u i) (a i) (holds-span p a u i))
      | inr is ↦ subst (λ (s : Option Span). holds_pins (p.base u) s ≡ true) (sym (span-kept p a u i is)) (holds-span p a u i)
    ]

-- what may come before a node is what does
pub precedes-may : (p : Problem) (v : ℕ) (s : Option Span) → IsSound p → 0 < v → v < p.nodes → Precedes p (p.parent v) v s →
    may_precede (p.parent v) v (p.base (p.parent v)) s ≡ true
precedes-may p v s sound later inside precedes =
    let up = p.parent v in
    let holds : holds_pins (p.base up) s ≡ true =
    subst (λ (r : Option Span). holds_pins (p.base up) r ≡ true) precedes.is (holds-span p precedes.layers up v) in
    elim (cases_eq (up + 1) v) [
      | inl next ↦
          let test : (up + 1 == v) ≡ true = grind (arith, nat_tests) in
          let at : suc up ≡ v = omega arith in
          let near : is_near up (p.base up) (span p precedes.layers up v) ≡ true =
          subst (λ (k : ℕ). is_near up (p.base up) (span p precedes.layers up k) ≡ true) at (near-first p precedes.layers up sound (omega arith)) in
          let here : is_near up (p.base up) s ≡ true = subst (λ (r : Option Span). is_near up (p.base up) r ≡ true) precedes.is near in
          rw holds (rw test (rw here refl))
      | inr other ↦ let test : (up + 1 == v) ≡ false = grind (arith, nat_tests) in rw holds (rw test refl)
    ]

pub span-alike : (p : Problem) (a b : ℕ → ℕ) (u i : ℕ) → Alike a b i → span p a u i ≡ span p b u i
span-alike p a b u zero alike = refl
span-alike p a b u (suc zero) alike = refl
span-alike p a b u (suc (suc i)) alike =
    let before = span-alike p a b u (suc i) (λ w later lt. alike w later (omega arith)) in
    let at = alike (suc i) (omega arith) (omega arith) in
    let choose : Option Span → ℕ → Option Span = λ s l. if ends p u (suc i) then widened s l else s in
    ap (λ (s : Option Span). choose s (a (suc i))) before ∙ ap (λ (l : ℕ). choose (span p b u (suc i)) l) at

-- what a node's layer adds where the others' are eliminated: its edge, and its tile's and its parent's tile's costs
abbrev pub onward : Problem → (ℕ → Option Span → ℕ) → ℕ → Option Span → ℕ → ℕ
onward p E v s l = p.wire v l + E v (widened (p.base v) l) + E (p.parent v) (widened s l)

-- one node's layer is eliminated: its parent's costs change, and its own are gone
pub record Step (p : Problem) (v : ℕ) (E F choice later : ℕ → Option Span → ℕ) : Type 0 where
  pub best : (s : Option Span) → Precedes p (p.parent v) v s → IsBest (onward p E v s) (p.may v) (choice v s) (F (p.parent v) s)
  pub either : (s : Option Span) → IsWithin p.layers s → IsBest (onward p E v s) (p.may v) (choice v s) (F (p.parent v) s) ⊎ (F (p.parent v) s ≡ E (p.parent v) s)
  pub others : (u : ℕ) (s : Option Span) → u < v → u ≢ p.parent v → IsWithin p.layers s → F u s ≡ E u s
  pub kept : (w : ℕ) (s : Option Span) → v < w → w < p.nodes → IsWithin p.layers s → choice w s ≡ later w s

-- what the step changes in the total
pub total-step : (p : Problem) (v : ℕ) (E F choice later : ℕ → Option Span → ℕ) (a : ℕ → ℕ) → IsSound p → 0 < v → v < p.nodes → Assigned p a →
    Step p v E F choice later →
    total p E a (suc v) + F (p.parent v) (span p a (p.parent v) v) ≡ total p F a v + onward p E v (span p a (p.parent v) v) (a v)
total-step p v E F choice later a sound positive below assigned step =
    let up = p.parent v in
    let earlier : up < v = sound.earlier v positive below in
    let f : ℕ → ℕ = λ u. E u (span p a u (suc v)) in
    let h : ℕ → ℕ = λ u. F u (span p a u v) in
    let changed : sums f v + h up ≡ sums h v + f up = sums-changed f h v up earlier (λ u lt other.
    ap (λ (s : Option Span). E u s) (span-kept p a u v (ends-other p u v (λ e. omega arith) other))
    ∙ sym (step.others u (span p a u v) lt other (span-within p a u v sound assigned (omega arith)))) in
    let own : f v ≡ E v (widened (p.base v) (a v)) =
    ap (λ (s : Option Span). E v s) (span-more p a v v (ends-own p v positive) ∙ ap (λ (s : Option Span). widened s (a v)) (span-base p a v v sound below (omega arith))) in
    let above : f up ≡ E up (widened (span p a up v) (a v)) = ap (λ (s : Option Span). E up s) (span-more p a up v (ends-parent p v positive)) in
    plain (sums (λ w. p.wire w (a w)) v) (p.wire v (a v)) (sums f v) (f v) (h up) (sums h v) (f up) (E v (widened (p.base v) (a v))) (E up (widened (span p a up v) (a v))) changed own above
  where
    plain : (ws w fs fv hu hs fu own above : ℕ) → fs + hu ≡ hs + fu → fv ≡ own → fu ≡ above → ws + w + (fs + fv) + hu ≡ ws + hs + (w + own + above)
    plain ws w fs fv hu hs fu own above changed is up = omega arith

-- a step goes on from what eliminates the layers of the later nodes
pub eliminates-more : (p : Problem) (v : ℕ) (E F choice later : ℕ → Option Span → ℕ) → IsSound p → 0 < v → v < p.nodes →
    Step p v E F choice later → Eliminates p (suc v) E later → Eliminates p v F choice
eliminates-more p v E F choice later sound positive below step done = record {
  bound = λ a assigned.
      let s = span p a (p.parent v) v in
      let best = step.best s (span-precedes p a (p.parent v) v assigned (omega arith)) in
      let least = best.least (a v) (assigned v positive below) in
      let change = total-step p v E F choice later a sound positive below assigned step in
      let rest = done.bound a assigned in
      low (total p F a v) (total p E a (suc v)) (whole p a) (F (p.parent v) s) (onward p E v s (a v)) least change rest;
  attained = λ a assigned follows.
      let s = span p a (p.parent v) v in
      let best = step.best s (span-precedes p a (p.parent v) v assigned (omega arith)) in
      let change = total-step p v E F choice later a sound positive below assigned step in
      let taken : onward p E v s (a v) ≡ F (p.parent v) s = ap (λ (l : ℕ). onward p E v s l) (follows v (omega arith) positive below) ∙ best.cost in
      let rest = done.attained a assigned (later-follows a assigned follows) in
      even (total p F a v) (total p E a (suc v)) (whole p a) (F (p.parent v) s) (onward p E v s (a v)) taken change rest;
  first = λ a b assigned other follows least w from later_node inside alike.
      let s = span p b (p.parent v) v in
      let best = step.best s (span-precedes p b (p.parent v) v other (omega arith)) in
      let change = total-step p v E F choice later b sound positive below other step in
      let over = best.least (b v) (other v positive below) in
      let rest = done.bound b other in
      elim (cases_eq v w) [
        | inl same ↦
            let agree : Alike a b v = λ k pos lt. alike k pos (omega arith) in
            let is : a v ≡ choice v s = follows v (omega arith) positive below ∙ ap (λ (t : Option Span). choice v t) (span-alike p a b (p.parent v) v agree) in
            let tight : onward p E v s (b v) ≡ F (p.parent v) s =
            tight_by (total p F b v) (total p E b (suc v)) (whole p b) (F (p.parent v) s) (onward p E v s (b v)) over change rest least in
            let le = best.first (b v) (other v positive below) tight in
            subst (λ (k : ℕ). a k ≤ b k) same (omega arith)
        | inr apart ↦
            let equal : whole p b ≡ total p E b (suc v) = equal_by (total p F b v) (total p E b (suc v)) (whole p b) (F (p.parent v) s) (onward p E v s (b v)) over change rest least in
            done.first a b assigned other (later-follows a assigned follows) equal w (omega arith) later_node inside alike
      ];
  allowed = λ w from positive_w inside s precedes.
      elim (cases_eq v w) [
        | inl same ↦
            let here : Precedes p (p.parent v) v s = subst (λ (k : ℕ). Precedes p (p.parent k) k s) (sym same) precedes in
            subst (λ (k : ℕ). IsTrue (p.may k (choice k s))) same (step.best s here).allowed
        | inr apart ↦
            let rest = done.allowed w (omega arith) positive_w inside s precedes in
            let within = precedes-within p (p.parent w) w s sound precedes in
            subst (λ (l : ℕ). IsTrue (p.may w l)) (sym (step.kept w s (omega arith) inside within)) rest
      ];
}
  where
    low : (f e all m o : ℕ) → m ≤ o → e + m ≡ f + o → e ≤ all → f ≤ all
    low f e all m o least change rest = omega arith

    even : (f e all m o : ℕ) → o ≡ m → e + m ≡ f + o → all ≡ e → all ≡ f
    even f e all m o taken change rest = omega arith

    tight_by : (f e all m o : ℕ) → m ≤ o → e + m ≡ f + o → e ≤ all → all ≡ f → o ≡ m
    tight_by f e all m o over change rest least = omega arith

    equal_by : (f e all m o : ℕ) → m ≤ o → e + m ≡ f + o → e ≤ all → all ≡ f → all ≡ e
    equal_by f e all m o over change rest least = omega arith

    later-follows : (a : ℕ → ℕ) → Assigned p a → FollowsFrom p choice v a → FollowsFrom p later (suc v) a
    later-follows a assigned follows = λ w from positive_w inside.
        follows w (omega arith) positive_w inside
        ∙ step.kept w (span p a (p.parent w) w) (omega arith) inside (span-within p a (p.parent w) w sound assigned (omega arith))

-- before any step the totals are the whole costs
pub eliminates-none : (p : Problem) (E choice : ℕ → Option Span → ℕ) → IsSound p →
    ((u : ℕ) (s : Option Span) → u < p.nodes → IsWithin p.layers s → E u s ≡ climb s) → Eliminates p p.nodes E choice
eliminates-none p E choice sound each = record {
  bound = λ a assigned. let e = same a assigned in omega (arith, e);
  attained = λ a assigned follows. sym (same a assigned);
  first = λ a b assigned other follows least w from positive inside alike. absurd (omega arith);
  allowed = λ w from positive inside s precedes. absurd (omega arith);
}
  where
    same : (a : ℕ → ℕ) → Assigned p a → total p E a p.nodes ≡ whole p a
    same a assigned =
        ap (λ (k : ℕ). sums (λ v. p.wire v (a v)) p.nodes + k)
        (sums-same (λ u. E u (span p a u p.nodes)) (λ u. climb (span p a u p.nodes)) p.nodes
        (λ u lt. each u (span p a u p.nodes) lt (span-within p a u p.nodes sound assigned (omega arith))))

-- where all layers are eliminated the choices lead to the first least assignment
pub eliminated-least : (p : Problem) (E choice : ℕ → Option Span → ℕ) → IsSound p → Eliminates p 1 E choice →
    (a : ℕ → ℕ) → Assigned p a → FollowsFrom p choice 1 a → (b : ℕ → ℕ) → Assigned p b → whole p a ≤ whole p b
eliminated-least p E choice sound done a assigned follows b other =
    let own = done.attained a assigned follows in
    let bound = done.bound b other in
    let first = sound.root (a 0) in
    let second = sound.root (b 0) in
    omega (arith, own, bound, first, second)

pub eliminated-first : (p : Problem) (E choice : ℕ → Option Span → ℕ) → IsSound p → Eliminates p 1 E choice →
    (a : ℕ → ℕ) → Assigned p a → FollowsFrom p choice 1 a → (b : ℕ → ℕ) → Assigned p b → whole p b ≡ whole p a →
    (v : ℕ) → 0 < v → v < p.nodes → Alike a b v → a v ≤ b v
eliminated-first p E choice sound done a assigned follows b other same v positive inside alike =
    let own = done.attained a assigned follows in
    let first = sound.root (a 0) in
    let second = sound.root (b 0) in
    let equal : whole p b ≡ total p E b 1 = omega (arith, own, same, first, second) in
    done.first a b assigned other follows equal v (omega arith) positive inside alike

-- layers that follow allowed choices are an assignment
pub follows-assigned : (p : Problem) (choice : ℕ → Option Span → ℕ) (a : ℕ → ℕ) → IsSound p → FollowsFrom p choice 1 a →
    ((v : ℕ) → 0 < v → v < p.nodes → (s : Option Span) → Precedes p (p.parent v) v s → IsTrue (p.may v (choice v s))) →
    (i : ℕ) → i ≤ p.nodes → (w : ℕ) → 0 < w → w < i → IsTrue (p.may w (a w))
follows-assigned p choice a sound follows allowed zero le w later lt = absurd (omega arith)
follows-assigned p choice a sound follows allowed (suc i) le w later lt =
    elim (cases_eq w i) [
      | inl same ↦
          let precedes : Precedes p (p.parent w) w (span p a (p.parent w) w) = record {
            layers = a;
            allowed = λ v positive less. follows-assigned p choice a sound follows allowed i (omega arith) v positive (omega arith);
            is = refl;
          } in
          subst (λ (l : ℕ). IsTrue (p.may w l)) (sym (follows w (omega arith) later (omega arith))) (allowed w later (omega arith) (span p a (p.parent w) w) precedes)
      | inr other ↦ follows-assigned p choice a sound follows allowed i (omega arith) w later (omega arith)
    ]

-- what the nodes not yet eliminated cost at most
pub record Weighed (p : Problem) (i : ℕ) (E : ℕ → Option Span → ℕ) : Type 0 where
  pub weight : ℕ → ℕ
  pub bound : (u : ℕ) (s : Option Span) → u < i → IsWithin p.layers s → E u s ≤ weight u
  pub few : sums weight i + i * 1048576 ≤ p.nodes * 1048624

pub weighed-none : (p : Problem) (E : ℕ → Option Span → ℕ) → p.layers ≤ 16 → ((u : ℕ) (s : Option Span) → u < p.nodes → IsWithin p.layers s → E u s ≡ climb s) → Weighed p p.nodes E
weighed-none p E few each = record {
  weight = λ u. 48;
  bound = λ u s lt within. let e = each u s lt within in let h = climb-low p.layers s few within in omega (arith, e, h);
  few = let h = all_alike p.nodes in omega (arith, h);
}
  where
    all_alike : (n : ℕ) → sums (λ u. 48) n ≡ n * 48
    all_alike zero = refl
    all_alike (suc n) = let h = all_alike n in omega (arith, h)

-- the weights after a step: the parent's tile weighs what the node did as well
abbrev pub heavier : (ℕ → ℕ) → ℕ → ℕ → ℕ → ℕ
heavier weight up v u = if u == up then weight up + weight v + 1048576 else weight u

pub weighed-more : (p : Problem) (v : ℕ) (E F choice later : ℕ → Option Span → ℕ) → IsSound p → 0 < v → v < p.nodes →
    ((l : ℕ) → IsTrue (p.may v l) → p.wire v l ≤ 1048576) → Step p v E F choice later → Weighed p (suc v) E → Weighed p v F
weighed-more p v E F choice later sound positive below cheap step so_far = record {
  weight = heavier w up v;
  bound = λ u s lt within.
      elim (cases_eq u up) [
        | inl same ↦
            let more : F up s ≤ w up + w v + 1048576 = elim (step.either s within) [
              | inl best ↦
                  let l = choice v s in
                  let wire = cheap l best.allowed in
                  let less = sound.below v l best.allowed in
                  let own = so_far.bound v (widened (p.base v) l) (omega arith) (widened-within p.layers (p.base v) l (sound.within v) less) in
                  let above = so_far.bound up (widened s l) (omega arith) (widened-within p.layers s l within less) in
                  let cost = best.cost in
                  omega (arith, wire, own, above, cost)
              | inr kept ↦ let above = so_far.bound up s (omega arith) within in omega (arith, kept, above)
            ] in
            subst (λ (k : ℕ). F k s ≤ heavier w up v k) (sym same) (rw at_up more)
        | inr other ↦
            let test : (u == up) ≡ false = grind (arith, nat_tests) in
            let kept = step.others u s lt other within in
            let old = so_far.bound u s (omega arith) within in
            rw test (omega (arith, kept, old))
      ];
  few =
      let changed = sums-changed (heavier w up v) w v up earlier (λ u lt other. let test : (u == up) ≡ false = grind (arith, nat_tests) in rw test refl) in
      let at : heavier w up v up ≡ w up + w v + 1048576 = rw at_up refl in
      let few = so_far.few in
      omega (arith, changed, at, few);
}
  where
    w : ℕ → ℕ
    w = so_far.weight

    up : ℕ
    up = p.parent v

    earlier : p.parent v < v
    earlier = sound.earlier v positive below

    at_up : (p.parent v == p.parent v) ≡ true
    at_up = grind (arith, nat_tests)

pub weighed-small : (p : Problem) (i : ℕ) (E : ℕ → Option Span → ℕ) → p.nodes ≤ 8388608 → Weighed p i E → (u : ℕ) (s : Option Span) → u < i → IsWithin p.layers s → E u s ≤ 1125899906842624
weighed-small p i E few weighed u s lt within =
    let bound = weighed.bound u s lt within in
    let all = sums-at weighed.weight i u lt in
    let most = weighed.few in
    omega (arith, bound, all, most)
