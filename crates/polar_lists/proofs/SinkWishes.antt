-- What sinks want, and the signals that suit them all.
use Rattle.std.proofs.Common.{◌≡◌, ℕ, Bool, true, false, not, ◌&&◌, ◌||◌, List, [], ◌∷◌, map, sum_by, arith, refl, sym, ap, ◌∙◌}
use Rattle.std.specs.List.{list_all, list_any}
use Rattle.std.proofs.lemmas.Bool.{or_parts, not_from_false, true≢false}
use Rattle.elmore_delay.specs.RcTrees.{Sink, RcTree, sinks_at, soonest, twice}
use Rattle.elmore_delay.specs.Loadings.{wants_of, wants_among}
use Rattle.elmore_delay.specs.declared.wants.Wants.{Wants}
use Rattle.elmore_delay.specs.declared.wants.Wants.TheVariants.{Any}
use Rattle.ginneken_lists.specs.declared.pair.Pair.{Pair}
use Rattle.polar_lists.specs.Signals.{suits, suits_all}
use Rattle.polar_lists.specs.BothLists.{all_in, pairs_of_sinks, suits_those, AreOfSinks, bare, side}
use Rattle.polar_lists.specs.declared.sides.Sides.{Sides}

-- all pass a test where none passes the other
all-none : (p q : Sink → Bool) (sinks : List Sink) → ((sink : Sink) → p sink ≡ not (q sink)) → list_all p sinks ≡ not (list_any q sinks)
all-none p q [] each = refl
all-none p q (sink ∷ sinks) each =
    ap (λ (b : Bool). b && list_all p sinks) (each sink)
    ∙ ap (λ (b : Bool). not (q sink) && b) (all-none p q sinks each)
    ∙ by (q sink) (list_any q sinks)
  where
    by : (x y : Bool) → (not x && not y) ≡ not (x || y)
    by true y = refl
    by false y = refl

twice-not : (b : Bool) → b ≡ not (not b)
twice-not true = refl
twice-not false = refl

those-plain : (a b : Bool) → suits_those (wants_of a b) false ≡ not b
those-plain true true = refl
those-plain true false = refl
those-plain false true = refl
those-plain false false = refl

those-inverse : (a b : Bool) → suits_those (wants_of a b) true ≡ not a
those-inverse true true = refl
those-inverse true false = refl
those-inverse false true = refl
those-inverse false false = refl

pub suits-those : (t : RcTree) (v : ℕ) (inverted : Bool) → suits_all t v inverted ≡ suits_those (wants_among (sinks_at t v)) inverted
suits-those t v false =
    let sinks = sinks_at t v in
    all-none (suits false) (λ (sink : Sink). sink.flipped) sinks (λ sink. refl)
    ∙ sym (those-plain (list_any (λ (sink : Sink). not sink.flipped) sinks) (list_any (λ (sink : Sink). sink.flipped) sinks))
suits-those t v true =
    let sinks = sinks_at t v in
    all-none (suits true) (λ (sink : Sink). not sink.flipped) sinks (λ sink. twice-not sink.flipped)
    ∙ sym (those-inverse (list_any (λ (sink : Sink). not sink.flipped) sinks) (list_any (λ (sink : Sink). sink.flipped) sinks))

-- where any signal is wanted, no sink is
no-wish : (a b : Bool) → wants_of a b ≡ Any → (a ≡ false) × (b ≡ false)
no-wish false false is = (refl, refl)
no-wish true false is = absurd (grind arith)
no-wish false true is = absurd (grind arith)
no-wish true true is = absurd (grind arith)

none-wish : (sinks : List Sink) → list_any (λ (sink : Sink). not sink.flipped) sinks ≡ false → list_any (λ (sink : Sink). sink.flipped) sinks ≡ false → sinks ≡ []
none-wish [] plain inverse = refl
none-wish (sink ∷ sinks) plain inverse =
    let first = (or_parts (not sink.flipped) (list_any (λ (s : Sink). not s.flipped) sinks) plain).0 in
    let second = (or_parts sink.flipped (list_any (λ (s : Sink). s.flipped) sinks) inverse).0 in
    absurd (true≢false (sym (not_from_false sink.flipped second) ∙ first))

no-sinks_at : (t : RcTree) (v : ℕ) → wants_among (sinks_at t v) ≡ Any → sinks_at t v ≡ []
no-sinks_at t v is =
    let sinks = sinks_at t v in
    let neither = no-wish (list_any (λ (sink : Sink). not sink.flipped) sinks) (list_any (λ (sink : Sink). sink.flipped) sinks) is in
    none-wish sinks neither.0 neither.1

-- the lists of a node without sinks, and of one with some
abbrev pair_of_sinks : List Sink → Pair
pair_of_sinks sinks = record { load = sum_by (λ (sink : Sink). sink.c) sinks; time = soonest (map twice sinks); mark = 0 }

pub of-none : (t : RcTree) (v : ℕ) (wants : Wants) → wants ≡ wants_among (sinks_at t v) → wants ≡ Any → AreOfSinks t v bare
of-none t v wants told is inverted =
    let none = no-sinks_at t v (sym told ∙ is) in
    let all : suits_all t v inverted ≡ true = ap (list_all (suits inverted)) none in
    by inverted ∙ ap (λ (sinks : List Sink). pair_of_sinks sinks ∷ []) (sym none) ∙ ap (pairs_of_sinks t v) (sym all)
  where
    by : (b : Bool) → side bare b ≡ pair_of_sinks [] ∷ []
    by true = refl
    by false = refl

pub of-those : (t : RcTree) (v : ℕ) (wants : Wants) (sides : Sides) (plain inverse : Bool) → wants ≡ wants_among (sinks_at t v) →
    plain ≡ suits_those wants false → inverse ≡ suits_those wants true →
    all_in sides.plain ≡ pairs_of_sinks t v plain → all_in sides.inverse ≡ pairs_of_sinks t v inverse → AreOfSinks t v sides
of-those t v wants sides plain inverse told plain_is inverse_is one two false =
    one ∙ ap (pairs_of_sinks t v) (plain_is ∙ ap (λ (w : Wants). suits_those w false) told ∙ sym (suits-those t v false))
of-those t v wants sides plain inverse told plain_is inverse_is one two true =
    two ∙ ap (pairs_of_sinks t v) (inverse_is ∙ ap (λ (w : Wants). suits_those w true) told ∙ sym (suits-those t v true))
