-- The written text, read back net by net.
use Rattle.std.proofs.Common.{◌≡◌, ℕ, zero, suc, ◌+◌, ◌*◌, ◌<◌, ◌≤◌, inl, inr, Bool, true, false, ◌&&◌, ◌||◌, ◌==◌, List, [], ◌∷◌, ◌++◌, map, length, Option, Some, None, slice_get, if◌then◌else◌, refl, sym, ap, ◌∙◌, subst, append_assoc, append-nil, arith}
use Rattle.std.specs.List.{AllByRecursion, list_any, filter, flat_map, range_with_len}
use Rattle.std.proofs.lemmas.Bool.{cases_Bool, cases_eq, and_parts, and_from, and_right, or_left, or_right, or_cases, false≢true}
use Rattle.std.proofs.lemmas.Bool.Decides.{nat_tests}
use Rattle.std.proofs.lemmas.List.Elements.{All-get_or}
use Rattle.std.proofs.lemmas.Option.{slice_get_within, get_or_from_slice_get, slice_get_cases}
use Rattle.gr_base.proofs.DesignLemmas.{routed-below}
use Rattle.gr_base.specs.declared.frame.Frame.{Frame}
use Rattle.gr_base.specs.declared.frame.Net.{Net}
use Rattle.gr_base.specs.declared.grid.Cell.{Cell}
use Rattle.gr_base.specs.declared.grid.Edge.{Edge}
use Rattle.gr_base.specs.declared.grid.Shape.{Shape}
use Rattle.gr_base.specs.declared.grid.Way.{Way}
use Rattle.gr_base.specs.declared.grid.Way.TheVariants.{East, North, Up}
use Rattle.gr_base.specs.Grid.{cells_of, place_at, edge_at, stride}
use Rattle.gr_base.specs.EdgeSets.{Edges}
use Rattle.gr_base.specs.Designs.{DesignView, IsDesign, IsNet, is_routed, is_routed_net}
use Rattle.gr_base.proofs.GridLemmas.{high-below}
use Rattle.gr_text.specs.Tokens.{tokens}
use Rattle.solution_text.specs.declared.run.Run.{Run}
use Rattle.solution_text.specs.Runs.{LieIn, begins, run_from, runs_of_way, runs_of}
use Rattle.solution_text.specs.Covers.{covers}
use Rattle.solution_text.specs.Grammar.{Between, is_straight}
use Rattle.solution_text.specs.Cover.{read, cover}
use Rattle.solution_text.specs.WrittenText.{record_text, text_of_net, written_text}
use Rattle.solution_text.specs.Laws.{WrittenTextCovers}
use Rattle.solution_text.proofs.RunLemmas.{moved, IsTrail, trail-place, reach-is}
use Rattle.solution_text.proofs.CoverLemmas.{any-append, bool-same, runs-cover}
use Rattle.solution_text.proofs.RecordLemmas.{IsGridRun, with_net, progress, record-tokens, record-read}

-- ---- the runs of a set of the grid's edges are straight runs of the grid

straight-moved : (p : Cell) (way : Way) (m : ℕ) → is_straight p (moved p way m) ≡ true
straight-moved p East m = grind (arith, nat_tests)
straight-moved p North m = grind (arith, nat_tests)
straight-moved p Up m = grind (arith, nat_tests)

all-made : (P : Run → Type 0) (f : ℕ → Run) (test : ℕ → Bool) (a n : ℕ) → ((c : ℕ) → c < a + n → P (f c)) →
    AllByRecursion P (map f (filter test (range_with_len a n)))
all-made P f test a zero each = tt
all-made P f test a (suc n) each =
    let rest = all-made P f test (a + 1) n (λ c lt. each c (omega arith)) in
    elim (cases_Bool (test a)) [
      | inl on ↦ rw on (each a (omega arith), rest)
      | inr off ↦ rw off rest
    ]

all-append : {X : Type 0} (P : X → Type 0) (xs ys : List X) → AllByRecursion P xs → AllByRecursion P ys → AllByRecursion P (xs ++ ys)
all-append P [] ys all more = more
all-append P (x ∷ xs) ys all more = (all.0, all-append P xs ys all.1 more)

module _ (frame : Frame) (set : Edges) (within : LieIn frame.shape set) where
  trail-end : (way : Way) (cell steps : ℕ) → cell < cells_of frame.shape → IsTrail frame.shape set way cell steps →
      cell + steps * stride frame.shape way < cells_of frame.shape
  trail-end way cell zero inside trail = omega arith
  trail-end way cell (suc n) inside trail =
      let e : Edge = edge_at (cell + n * stride frame.shape way) way in
      let high = high-below frame.shape e (within e (trail n (omega arith))) in
      omega arith

  run-good : (way : Way) (cell : ℕ) → cell < cells_of frame.shape → IsGridRun frame (run_from frame.shape set way cell)
  run-good way cell inside =
      let r = reach-is frame.shape set way (cells_of frame.shape) cell in
      let P : ℕ → Type 0 = λ n. n < cells_of frame.shape in
      let by_end : ℕ → Bool = λ n. is_straight (place_at frame.shape cell) (place_at frame.shape n) in
      let by_place : Cell → Bool = λ c. is_straight (place_at frame.shape cell) c in
      record {
        first = inside;
        last = subst P (sym r.is) (trail-end way cell r.steps inside r.trail);
        straight = ap by_end r.is ∙ ap by_place (trail-place frame.shape set within way cell r.steps r.trail) ∙ straight-moved (place_at frame.shape cell) way r.steps;
      }

  way-good : (way : Way) → AllByRecursion (IsGridRun frame) (runs_of_way frame.shape set way)
  way-good way = all-made (IsGridRun frame) (run_from frame.shape set way) (begins frame.shape set way) 0 (cells_of frame.shape) (λ c lt. run-good way c (omega arith))

  runs-good : AllByRecursion (IsGridRun frame) (runs_of frame.shape set)
  runs-good =
      all-append (IsGridRun frame) (runs_of_way frame.shape set East ++ runs_of_way frame.shape set North) (runs_of_way frame.shape set Up)
      (all-append (IsGridRun frame) (runs_of_way frame.shape set East) (runs_of_way frame.shape set North) (way-good East) (way-good North)) (way-good Up)

-- ---- all nets

-- what the records of a net's text say
abbrev said_by : Shape → ℕ → Option Net → Edges → List (ℕ × Run)
said_by g number None set = []
said_by g number (Some net) set = if is_routed_net (Some net) then map (with_net number) (runs_of g set) else []

module _ (d : DesignView) (ok : IsDesign d) (sets : ℕ → Edges) (within : (net : ℕ) → LieIn d.frame.shape (sets net)) where
  abbrev text_at : ℕ → List ℕ
  text_at net = text_of_net d.frame (slice_get d.nets net) (sets net)

  abbrev said : ℕ → List (ℕ × Run)
  said net = said_by d.frame.shape net (slice_get d.nets net) (sets net)

  -- no net from here on was met
  abbrev FreshFrom : ℕ → List ℕ → Type 0
  FreshFrom number met = (net : ℕ) → number ≤ net → list_any (λ other. other == net) met ≡ false

  fresh-more : (number : ℕ) (met : List ℕ) → FreshFrom number met → FreshFrom (number + 1) (number ∷ met)
  fresh-more number met fresh net above =
      let other : (number == net) ≡ false = grind (arith, nat_tests) in
      rw other (fresh net (omega arith))

  fresh-on : (number : ℕ) (met : List ℕ) → FreshFrom number met → FreshFrom (number + 1) met
  fresh-on number met fresh net above = fresh net (omega arith)

  -- the nets met behind the records of a net
  record Reads (number : ℕ) (met : List ℕ) (found : List (ℕ × Run)) (rest : List ℕ) : Type 0 where
    after : List ℕ
    fresh : FreshFrom (number + 1) after
    is : read d (progress Between met found) (tokens (text_at number ++ rest)) ≡ read d (progress Between after (found ++ said number)) (tokens rest)

  reads-none : (number : ℕ) (met : List ℕ) (found : List (ℕ × Run)) (rest : List ℕ) → FreshFrom number met → text_at number ≡ [] → said number ≡ [] →
      Reads number met found rest
  reads-none number met found rest fresh empty silent =
      let same : found ≡ found ++ said number = sym (ap (λ (f : List (ℕ × Run)). found ++ f) silent ∙ append-nil found) in
      record {
        after = met;
        fresh = fresh-on number met fresh;
        is = ap (λ (t : List ℕ). read d (progress Between met found) (tokens (t ++ rest))) empty ∙ ap (λ (f : List (ℕ × Run)). read d (progress Between met f) (tokens rest)) same;
      }

  reads-record : (number : ℕ) (net : Net) (met : List ℕ) (found : List (ℕ × Run)) (rest : List ℕ) → slice_get d.nets number ≡ Some net →
      is_routed_net (Some net) ≡ true → FreshFrom number met → Reads number met found rest
  reads-record number net met found rest at routed fresh =
      let P : Net → Type 0 = λ n. IsNet d.frame.shape n in
      let good : IsNet d.frame.shape net = subst P (get_or_from_slice_get d.nets number net net at) (All-get_or P d.nets number net (slice_get_within d.nets number net at) ok.nets) in
      let runs = runs_of d.frame.shape (sets number) in
      let straight = runs-good d.frame (sets number) (within number) in
      let text : text_at number ≡ record_text d.frame net (sets number) = rw at (rw routed refl) in
      let says : said number ≡ map (with_net number) runs = rw at (rw routed refl) in
      record {
        after = number ∷ met;
        fresh = fresh-more number met fresh;
        is =
            ap (λ (t : List ℕ). read d (progress Between met found) (tokens (t ++ rest))) text
            ∙ ap (λ (t : List (List ℕ)). read d (progress Between met found) t) (record-tokens d.frame ok.frame net (sets number) rest good straight)
            ∙ record-read d ok.frame number net runs met found (tokens rest) good at (ok.ids number net at) (fresh number (omega arith)) straight
            ∙ ap (λ (f : List (ℕ × Run)). read d (progress Between (number ∷ met) (found ++ f)) (tokens rest)) (sym says);
      }

  reads : (number : ℕ) (met : List ℕ) (found : List (ℕ × Run)) (rest : List ℕ) → FreshFrom number met → Reads number met found rest
  reads number met found rest fresh =
      elim (slice_get_cases d.nets number).1 [
        | inl here ↦ elim (cases_Bool (is_routed_net (Some here.0))) [
          | inl routed ↦ reads-record number here.0 met found rest here.2 routed fresh
          | inr other ↦ reads-none number met found rest fresh (rw here.2 (rw other refl)) (rw here.2 (rw other refl))
        ]
        | inr past ↦ reads-none number met found rest fresh (rw past.1 refl) (rw past.1 refl)
      ]

  read-all : (number count : ℕ) (met : List ℕ) (found : List (ℕ × Run)) → FreshFrom number met →
      (read d (progress Between met found) (tokens (flat_map text_at (range_with_len number count)))).found ≡ found ++ flat_map said (range_with_len number count)
  unfolding tokens
  read-all number zero met found fresh = sym (append-nil found)
  read-all number (suc count) met found fresh =
      let r = reads number met found (flat_map text_at (range_with_len (number + 1) count)) fresh in
      ap (λ p. p.found) r.is
      ∙ read-all (number + 1) count r.after (found ++ said number) r.fresh
      ∙ append_assoc found (said number) (flat_map said (range_with_len (number + 1) count))

  -- ---- the edges that the records give

  any-flat : {X : Type 0} {Y : Type 0} (p : Y → Bool) (f : X → List Y) (xs : List X) → list_any p (flat_map f xs) ≡ list_any (λ x. list_any p (f x)) xs
  any-flat p f [] = refl
  any-flat p f (x ∷ xs) = any-append p (f x) (flat_map f xs) ∙ ap (λ (b : Bool). list_any p (f x) || b) (any-flat p f xs)

  -- whether a net's records give it this edge
  said-is : (number net : ℕ) (e : Edge) →
      list_any (λ (segment : ℕ × Run). segment.0 == net && covers d.frame.shape segment.1 e) (said number)
      ≡ ((number == net) && (is_routed d number && sets number e))
  said-is number net e =
      elim (slice_get_cases d.nets number).1 [
        | inl here ↦ elim (cases_Bool (is_routed_net (Some here.0))) [
          | inl routed ↦
              rw here.2
              (rw routed (of-net number net e (runs_of d.frame.shape (sets number))
              ∙ ap (λ (b : Bool). (number == net) && b) (runs-cover d.frame.shape (sets number) (within number) e)))
          | inr other ↦ rw here.2 (rw other (sym (and_right (number == net) false refl)))
        ]
        | inr past ↦ rw past.1 (sym (and_right (number == net) false refl))
      ]
    where
      of-net : (number net : ℕ) (e : Edge) (runs : List Run) →
          list_any (λ (segment : ℕ × Run). segment.0 == net && covers d.frame.shape segment.1 e) (map (with_net number) runs)
          ≡ ((number == net) && list_any (λ run. covers d.frame.shape run e) runs)
      of-net number net e [] = sym (and_right (number == net) false refl)
      of-net number net e (run ∷ runs) =
          ap (λ (b : Bool). ((number == net) && covers d.frame.shape run e) || b) (of-net number net e runs)
          ∙ and-or (number == net) (covers d.frame.shape run e) (list_any (λ r. covers d.frame.shape r e) runs)
        where
          and-or : (a b c : Bool) → ((a && b) || (a && c)) ≡ (a && (b || c))
          and-or true b c = refl
          and-or false b c = refl

  in-range : (p : ℕ → Bool) (a n k : ℕ) → a ≤ k → k < a + n → p k ≡ true → list_any p (range_with_len a n) ≡ true
  in-range p a zero k low high h = absurd (omega arith)
  in-range p a (suc n) k low high h =
      elim (cases_eq a k) [
        | inl here ↦ let P : ℕ → Type 0 = λ j. p j ≡ true in or_left (p a) (list_any p (range_with_len (a + 1) n)) (subst P (sym here) h)
        | inr later ↦ or_right (p a) (list_any p (range_with_len (a + 1) n)) (in-range p (a + 1) n k (omega arith) (omega arith) h)
      ]

  from-range : (p : ℕ → Bool) (a n : ℕ) → list_any p (range_with_len a n) ≡ true → (k : ℕ) × (p k ≡ true)
  from-range p a zero h = absurd (false≢true h)
  from-range p a (suc n) h =
      elim (or_cases (p a) (list_any p (range_with_len (a + 1) n)) h) [
        | inl here ↦ (a, here)
        | inr later ↦ from-range p (a + 1) n later
      ]

  abbrev gives : ℕ → Edge → ℕ → Bool
  gives net e number = (number == net) && (is_routed d number && sets number e)

  any-same : {X : Type 0} (p q : X → Bool) (xs : List X) → ((x : X) → p x ≡ q x) → list_any p xs ≡ list_any q xs
  any-same p q [] each = refl
  any-same p q (x ∷ xs) each = ap (λ (b : Bool). b || list_any p xs) (each x) ∙ ap (λ (b : Bool). q x || b) (any-same p q xs each)

  one-net : (net : ℕ) (e : Edge) → list_any (gives net e) (range_with_len 0 (length d.nets)) ≡ (is_routed d net && sets net e)
  one-net net e =
      bool-same (list_any (gives net e) (range_with_len 0 (length d.nets))) (is_routed d net && sets net e)
      (λ some.
      let f = from-range (gives net e) 0 (length d.nets) some in
      let parts = and_parts (f.0 == net) (is_routed d f.0 && sets f.0 e) f.1 in
      let same : f.0 ≡ net = let t = parts.0 in grind (arith, nat_tests) in
      let P : ℕ → Type 0 = λ n. (is_routed d n && sets n e) ≡ true in
      subst P same parts.1)
      (λ h.
      let routed = (and_parts (is_routed d net) (sets net e) h).0 in
      let same : (net == net) ≡ true = grind (arith, nat_tests) in
      in-range (gives net e) 0 (length d.nets) net (omega arith) (let b = routed-below d net routed in omega arith)
      (and_from (net == net) (is_routed d net && sets net e) same h))

  law-at : (net : ℕ) (e : Edge) → cover d (written_text d sets) net e ≡ (is_routed d net && sets net e)
  law-at net e =
      let asks : ℕ × Run → Bool = λ segment. segment.0 == net && covers d.frame.shape segment.1 e in
      let by_number : ℕ → Bool = λ number. list_any asks (said number) in
      ap (λ (f : List (ℕ × Run)). list_any asks f) (read-all 0 (length d.nets) [] [] (λ n low. refl))
      ∙ any-flat asks said (range_with_len 0 (length d.nets))
      ∙ any-same by_number (gives net e) (range_with_len 0 (length d.nets)) (λ number. said-is number net e)
      ∙ one-net net e

pub written-text-covers : WrittenTextCovers
written-text-covers d ok sets within net e = law-at d ok sets within net e
