-- What is made at a node for both signals, and added.
use Rattle.std.proofs.Common.{◌≡◌, ℕ, zero, suc, ◌+◌, ◌<◌, ◌≤◌, inl, inr, Bool, true, false, List, [], ◌∷◌, ◌++◌, length, get_or, All, Option, Some, None, IfSome, option_map, option_and_then, unwrap_or, Result, Ok, Err, IfOk, if◌then◌else◌, refl, sym, ap, subst, ◌∙◌, arith}
use Rattle.std.specs.List.{cons_option, filter_map, range_with_len}
use Rattle.std.proofs.lemmas.Bool.{cases_eq}
use Rattle.std.proofs.lemmas.List.{get_or_at, get_or_append_left, length_push}
use Rattle.std.proofs.lemmas.List.Elements.{All-push, filter_map-append}
use Rattle.std.proofs.lemmas.List.Sums.{fold-append}
use Rattle.gr_base.proofs.General.{range-more}
use Rattle.rc_library.specs.Libraries.{LibraryView, kind_of, inverts_at}
use Rattle.rc_library.specs.declared.parts.Kind.{Kind}
use Rattle.ginneken_lists.specs.Candidates.{Chosen, Buffered, Candidate, with_one, thinned, with_buffer, with_kind}
use Rattle.ginneken_lists.specs.Offering.{with_all}
use Rattle.ginneken_lists.specs.Pairs.{seen_of, buffer_of, candidates, AreMarked}
use Rattle.ginneken_lists.specs.Thinning.{AreRising}
use Rattle.ginneken_lists.specs.Trails.{Keeps}
use Rattle.ginneken_lists.specs.declared.pair.Pair.{Pair}
use Rattle.ginneken_lists.proofs.ThinnedAgain.{thinned-stays}
use Rattle.ginneken_lists.proofs.TrailLemmas.{Keeps-through}
use Rattle.buffer_plan.proofs.Gathering.{candidates-kept}
use Rattle.polar_lists.specs.Polarity.{is_inverter}
use Rattle.polar_lists.specs.Signals.{BySignal, below_it, made_by, offers_by, with_both_offers}
use Rattle.polar_lists.specs.BothLists.{all_in, side, candidates_by, offer_at, all_offers, AreOffersMarked, with_some}
use Rattle.polar_lists.specs.declared.sides.Sides.{Sides}

-- what a kind makes for a signal, of its own list and of the other signal's
abbrev pub made_of : LibraryView → ℕ → (own other : List Candidate) → ℕ → Option Candidate
made_of lib node own other number = with_kind lib node (if is_inverter lib (Some number) then other else own) number

-- the pairs of which a kind makes its offer
pub record IsDriven (lib : LibraryView) (own other below : List Pair) (number : ℕ) : Type 0 where
  pub all : (trail : List Chosen) → (if is_inverter lib (Some number) then candidates trail other else candidates trail own) ≡ candidates trail below
  pub short : (most : ℕ) → length own ≤ most → length other ≤ most → length below ≤ most
  pub marks : (most : ℕ) → All (λ (pair : Pair). pair.mark ≤ most) own → All (λ (pair : Pair). pair.mark ≤ most) other →
      All (λ (pair : Pair). pair.mark ≤ most) below

pub driven-other : (lib : LibraryView) (own other : List Pair) (number : ℕ) (b : Bool) → inverts_at lib number ≡ Some b → b ≡ true →
    IsDriven lib own other other number
driven-other lib own other number b is inverts = record {
  all = λ trail. ap (λ (o : Option Bool). if unwrap_or o false then candidates trail other else candidates trail own) is
      ∙ ap (λ (b : Bool). if b then candidates trail other else candidates trail own) inverts;
  short = λ most one two. two;
  marks = λ most one two. two;
}

pub driven-own : (lib : LibraryView) (own other : List Pair) (number : ℕ) (b : Bool) → inverts_at lib number ≡ Some b → b ≡ false →
    IsDriven lib own other own number
driven-own lib own other number b is keeps = record {
  all = λ trail. ap (λ (o : Option Bool). if unwrap_or o false then candidates trail other else candidates trail own) is
      ∙ ap (λ (b : Bool). if b then candidates trail other else candidates trail own) keeps;
  short = λ most one two. one;
  marks = λ most one two. one;
}

-- what was made of the kinds before a number
pub record AreMade (lib : LibraryView) (own other : List Pair) (found : List (Option Pair)) (number : ℕ) : Type 0 where
  pub made : (trail : List Chosen) (node k : ℕ) → k < number →
      offer_at trail node found k ≡ made_of lib node (candidates trail own) (candidates trail other) k
  pub long : length found ≡ number
  pub marks : (most : ℕ) → All (λ (pair : Pair). pair.mark ≤ most) own → All (λ (pair : Pair). pair.mark ≤ most) other → AreOffersMarked most found

pub made-more : (lib : LibraryView) (own other below : List Pair) (found new : List (Option Pair)) (number : ℕ) (kind : Kind) (offer : Option Pair) →
    AreMade lib own other found number → new ≡ found ++ offer ∷ [] → kind_of lib number ≡ Some kind →
    ((trail : List Chosen) → (if is_inverter lib (Some number) then candidates trail other else candidates trail own) ≡ candidates trail below) →
    ((trail : List Chosen) (node n : ℕ) → with_buffer node n (candidates trail below) kind ≡ option_map (buffer_of trail node n) offer) →
    ((most : ℕ) → All (λ (pair : Pair). pair.mark ≤ most) own → All (λ (pair : Pair). pair.mark ≤ most) other → IfSome offer (λ pair. pair.mark ≤ most)) →
    AreMade lib own other new (number + 1)
made-more lib own other below found new number kind offer are pushed kind_is below_is driven mark =
    let long = are.long in
    record {
      made = λ trail node k inside.
          ap (λ (xs : List (Option Pair)). offer_at trail node xs k) pushed
          ∙ elim (cases_eq k number) [
            | inl same ↦
                ap (λ (n : ℕ). offer_at trail node (found ++ offer ∷ []) n) same
                ∙ ap (option_map (buffer_of trail node number)) (get_or_at found offer [] None number long)
                ∙ sym (driven trail node number)
                ∙ ap (λ (o : Option Kind). option_and_then (with_buffer node number (candidates trail below)) o) (sym kind_is)
                ∙ ap (λ (all : List Candidate). with_kind lib node all number) (sym (below_is trail))
                ∙ ap (made_of lib node (candidates trail own) (candidates trail other)) (sym same)
            | inr apart ↦
                ap (option_map (buffer_of trail node k)) (get_or_append_left found (offer ∷ []) None k (omega arith))
                ∙ are.made trail node k (omega arith)
          ];
      long = ap (λ (xs : List (Option Pair)). length xs) pushed ∙ length_push found offer ∙ ap (λ (n : ℕ). n + 1) long;
      marks = λ most one two. subst (AreOffersMarked most) (sym pushed)
          (All-push (λ (o : Option Pair). IfSome o (λ pair. pair.mark ≤ most)) found offer (are.marks most one two) (mark most one two));
    }

-- offers name the same over a trail that keeps what marks name
offer-kept : (trail now : List Chosen) (node number : ℕ) (offer : Option Pair) → Keeps trail now → IfSome offer (λ pair. pair.mark ≤ length trail) →
    option_map (buffer_of now node number) offer ≡ option_map (buffer_of trail node number) offer
offer-kept trail now node number None kept low = refl
offer-kept trail now node number (Some pair) kept low =
    ap (λ (c : Chosen). Some (record { seen = seen_of pair; chosen = Buffered node number c })) (kept.same pair.mark low)

pub offers-kept : (trail now : List Chosen) (node : ℕ) (offers : List (Option Pair)) (number : ℕ) → Keeps trail now → AreOffersMarked (length trail) offers →
    number < length offers → offer_at now node offers number ≡ offer_at trail node offers number
offers-kept trail now node offers number kept marks inside =
    offer-kept trail now node number (get_or offers number None) kept (marks number None inside)

-- the same from each number below another
range-same : {A : Type 0} (f g : ℕ → Option A) (from n : ℕ) → ((k : ℕ) → from ≤ k → k < from + n → f k ≡ g k) →
    filter_map f (range_with_len from n) ≡ filter_map g (range_with_len from n)
range-same f g from zero each = refl
range-same {A} f g from (suc n) each =
    ap (λ (o : Option A). cons_option o (filter_map f (range_with_len (from + 1) n))) (each from (omega arith) (omega arith))
    ∙ ap (cons_option (g from)) (range-same f g (from + 1) n (λ k low below. each k (omega arith) (omega arith)))

pub offers-same : {A : Type 0} (f g : ℕ → Option A) (m n : ℕ) → m ≡ n → ((k : ℕ) → k < n → f k ≡ g k) →
    filter_map f (range_with_len 0 m) ≡ filter_map g (range_with_len 0 n)
offers-same f g m n same each =
    ap (λ (k : ℕ). filter_map f (range_with_len 0 k)) same ∙ range-same f g 0 n (λ k low below. each k (omega arith))

-- one more offer
some-more : (kept : List Candidate) (o : Option Candidate) → with_all kept (cons_option o []) ≡ with_some o kept
some-more kept None = refl
some-more kept (Some o) = refl

offered-more : (f : ℕ → Option Candidate) (kept : List Candidate) (n : ℕ) →
    with_all kept (filter_map f (range_with_len 0 (n + 1))) ≡ with_some (f n) (with_all kept (filter_map f (range_with_len 0 n)))
offered-more f kept n =
    let here : 0 + n ≡ n = omega arith in
    ap (λ (ns : List ℕ). with_all kept (filter_map f ns)) (range-more 0 n)
    ∙ ap (λ (k : ℕ). with_all kept (filter_map f (range_with_len 0 n ++ k ∷ []))) here
    ∙ ap (with_all kept) (filter_map-append f (range_with_len 0 n) (n ∷ []))
    ∙ fold-append (λ (before : List Candidate) (o : Candidate). with_one o before) kept (filter_map f (range_with_len 0 n)) (filter_map f (n ∷ []))
    ∙ some-more (with_all kept (filter_map f (range_with_len 0 n))) (f n)

-- some of the offers are added to a list
pub record AreAdded (node : ℕ) (offers : List (Option Pair)) (trail : List Chosen) (old : List Pair) (now : List Chosen) (pairs : List Pair) (number : ℕ) : Type 0 where
  pub added : candidates now pairs ≡ with_all (candidates trail old) (filter_map (offer_at trail node offers) (range_with_len 0 number))
  pub kept : Keeps trail now
  pub marks : AreMarked now pairs
  pub short : length pairs ≤ length old + number

pub added-more : (node : ℕ) (offers : List (Option Pair)) (trail : List Chosen) (old : List Pair) (now next : List Chosen) (pairs new : List Pair) (number : ℕ) →
    AreAdded node offers trail old now pairs number → AreOffersMarked (length trail) offers → number < length offers →
    candidates next new ≡ with_some (offer_at now node offers number) (candidates now pairs) → Keeps now next → AreMarked next new →
    length new ≤ length pairs + 1 → AreAdded node offers trail old next new (number + 1)
added-more node offers trail old now next pairs new number are marked inside one kept marks short =
    let before = are.short in
    record {
      added =
          one
          ∙ ap (λ (o : Option Candidate). with_some o (candidates now pairs)) (offers-kept trail now node offers number are.kept marked inside)
          ∙ ap (with_some (offer_at trail node offers number)) are.added
          ∙ sym (offered-more (offer_at trail node offers) (candidates trail old) number);
      kept = Keeps-through trail now next are.kept kept;
      marks = marks;
      short = omega arith;
    }

-- candidates that rise are thinned with what is offered for both signals
all-thinned : (all found : List Candidate) → AreRising all → with_all all found ≡ thinned (all ++ found)
all-thinned all found rising =
    ap (λ (kept : List Candidate). with_all kept found) (sym (thinned-stays all rising))
    ∙ sym (fold-append (λ (kept : List Candidate) (o : Candidate). with_one o kept) [] all found)

made-by : (lib : LibraryView) (node : ℕ) (all : BySignal) (number : ℕ) (inverted : Bool) →
    made_of lib node (all inverted) (all (below_it true inverted)) number ≡ made_by lib node all inverted number
made-by lib node all number inverted = by (is_inverter lib (Some number)) inverted
  where
    by : (b inverted : Bool) → with_kind lib node (if b then all (below_it true inverted) else all inverted) number ≡ with_kind lib node (all (below_it b inverted)) number
    by true inverted = refl
    by false inverted = refl

pub both-offered : (lib : LibraryView) (node : ℕ) (trail : List Chosen) (sides : Sides) (inverted : Bool) (found : List (Option Pair)) (result : List Candidate) →
    AreRising (candidates_by trail sides inverted) → length found ≡ length lib.kinds →
    ((number : ℕ) → number < length lib.kinds →
    offer_at trail node found number ≡ made_of lib node (candidates_by trail sides inverted) (candidates_by trail sides (below_it true inverted)) number) →
    result ≡ with_all (candidates_by trail sides inverted) (all_offers trail node found) →
    result ≡ with_both_offers lib node (candidates_by trail sides) inverted
both-offered lib node trail sides inverted found result rising long made is =
    let all : BySignal = candidates_by trail sides in
    is
    ∙ ap (with_all (all inverted)) (offers-same (offer_at trail node found) (made_by lib node all inverted) (length found) (length lib.kinds) long
    (λ k below. made k below ∙ made-by lib node all k inverted))
    ∙ all-thinned (all inverted) (offers_by lib node all inverted) rising

-- the same for both signals, first for the plain one
pub added-sides : (node : ℕ) (trail one two : List Chosen) (sides new : Sides) (plain inverse : List (Option Pair)) → Keeps trail one → Keeps one two →
    ((inverted : Bool) → AreMarked trail (side sides inverted)) → AreOffersMarked (length trail) inverse → AreMarked one (all_in new.plain) →
    candidates one (all_in new.plain) ≡ with_all (candidates trail (all_in sides.plain)) (all_offers trail node plain) →
    candidates two (all_in new.inverse) ≡ with_all (candidates one (all_in sides.inverse)) (all_offers one node inverse) →
    (inverted : Bool) → candidates_by two new inverted
    ≡ with_all (candidates_by trail sides inverted) (all_offers trail node (if inverted then inverse else plain))
added-sides node trail one two sides new plain inverse first second marked offers_marked new_marked plain_is inverse_is false =
    candidates-kept one two (all_in new.plain) second new_marked ∙ plain_is
added-sides node trail one two sides new plain inverse first second marked offers_marked new_marked plain_is inverse_is true =
    inverse_is
    ∙ ap (λ (os : List Candidate). with_all os (all_offers one node inverse)) (candidates-kept trail one (all_in sides.inverse) first (marked true))
    ∙ ap (with_all (candidates trail (all_in sides.inverse))) (offers-same (offer_at one node inverse) (offer_at trail node inverse) (length inverse) (length inverse) refl
    (λ k below. offers-kept trail one node inverse k first offers_marked below))

pub offered-result : {E : Type 0} (lib : LibraryView) (node : ℕ) (trail now : List Chosen) (sides : Sides) (plain inverse : List (Option Pair)) (result : Result Sides E) →
    ((inverted : Bool) → AreRising (candidates_by trail sides inverted)) → length plain ≡ length lib.kinds → length inverse ≡ length lib.kinds →
    ((number : ℕ) → number < length lib.kinds →
    offer_at trail node plain number ≡ made_of lib node (candidates_by trail sides false) (candidates_by trail sides true) number) →
    ((number : ℕ) → number < length lib.kinds →
    offer_at trail node inverse number ≡ made_of lib node (candidates_by trail sides true) (candidates_by trail sides false) number) →
    IfOk result (λ new. (inverted : Bool) → candidates_by now new inverted
    ≡ with_all (candidates_by trail sides inverted) (all_offers trail node (if inverted then inverse else plain))) →
    IfOk result (λ new. (inverted : Bool) → candidates_by now new inverted ≡ with_both_offers lib node (candidates_by trail sides) inverted)
offered-result lib node trail now sides plain inverse (Err e) rising plain_long inverse_long plain_made inverse_made is = tt
offered-result lib node trail now sides plain inverse (Ok new) rising plain_long inverse_long plain_made inverse_made is = by
  where
    by : (b : Bool) → candidates_by now new b ≡ with_both_offers lib node (candidates_by trail sides) b
    by false = both-offered lib node trail sides false plain (candidates_by now new false) (rising false) plain_long plain_made (is false)
    by true = both-offered lib node trail sides true inverse (candidates_by now new true) (rising true) inverse_long inverse_made (is true)
