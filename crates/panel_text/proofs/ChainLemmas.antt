-- Chains with one more run.
use Rattle.std.proofs.Common.{◌≡◌, ◌≢◌, ℕ, zero, suc, ◌+◌, ◌<◌, ◌≤◌, inl, inr, ◌==◌, List, map, [], ◌∷◌, ◌++◌, length, get_or, set, take, All, Option, Some, None, slice_get, IsSomeAnd, refl, sym, ap, subst, ◌∙◌, append_assoc, append-nil, arith}
use Rattle.std.proofs.lemmas.Bool.{cases_Bool}
use Rattle.std.proofs.lemmas.Bool.Decides.{nat_tests}
use Rattle.std.proofs.lemmas.List.{get_or-set_same, get_or-set_other, get_or_default, length-set, take_more}
use Rattle.std.proofs.lemmas.List.Sums.{fold-append}
use Rattle.std.proofs.lemmas.List.Elements.{All-set, All-weaker}
use Rattle.std.proofs.lemmas.Option.{none-some}
use Rattle.gr_base.proofs.General.{and-some, some-and}
use Rattle.solution_text.specs.declared.run.Run.{Run}
use Rattle.track_panels.specs.declared.piece.Piece.{Piece}
use Rattle.panel_text.specs.declared.starts.Start.{Start}
use Rattle.panel_text.specs.Chains.{IsBelow, IsChain, first_at, with_run, with_runs}

-- what a value of which something holds is
pub value : {A : Type 0} (P : A → Type 0) (o : Option A) → IsSomeAnd o P → (x : A) × ((o ≡ Some x) × P x)
value P None h = absurd h
value P (Some x) h = (x, (refl, h))

pub below-more : (count more : ℕ) (number : Option ℕ) → count ≤ more → IsBelow count number → IsBelow more number
below-more count more None up h = tt
below-more count more (Some n) up h = omega (arith, h, up)

get-kept : {X : Type 0} (xs : List X) (y x : X) (n : ℕ) → slice_get xs n ≡ Some x → slice_get (xs ++ y ∷ []) n ≡ Some x
get-kept [] y x n is = absurd (none-some x is)
get-kept (z ∷ xs) y x zero is = is
get-kept (z ∷ xs) y x (suc n) is = get-kept xs y x n is

get-seam : {X : Type 0} (xs : List X) (y : X) → slice_get (xs ++ y ∷ []) (length xs) ≡ Some y
get-seam [] y = refl
get-seam (x ∷ xs) y = get-seam xs y

-- one more run leaves the chains as they were
pub chain-kept : (runs : List Start) (more : Start) (head : Option ℕ) (starts : List (ℕ × ℕ)) → IsChain runs head starts → IsChain (runs ++ more ∷ []) head starts
chain-kept runs more head [] is = is
chain-kept runs more None (start ∷ starts) is = absurd is
chain-kept runs more (Some number) (start ∷ starts) is =
    let P : List Start → Start → Type 0 = λ rs run. (run.net ≡ start.0) × (run.to ≡ start.1) × IsChain rs run.next starts in
    let at = value (P runs) (slice_get runs number) is in
    some-and (P (runs ++ more ∷ [])) (slice_get (runs ++ more ∷ []) number) at.0 (get-kept runs more at.0 number at.1.0)
    (at.1.1.0, at.1.1.1, chain-kept runs more at.0.next starts at.1.1.2)

-- the new run leads the chain of its cell
pub chain-new : (runs : List Start) (net to : ℕ) (next : Option ℕ) (starts : List (ℕ × ℕ)) → IsChain runs next starts →
    IsChain (runs ++ record { net = net; to = to; next = next } ∷ []) (Some (length runs)) ((net, to) ∷ starts)
chain-new runs net to next starts is =
    let new : Start = record { net = net; to = to; next = next } in
    some-and (λ (run : Start). (run.net ≡ net) × (run.to ≡ to) × IsChain (runs ++ new ∷ []) run.next starts) (slice_get (runs ++ new ∷ []) (length runs)) new
    (get-seam runs new) (refl, refl, chain-kept runs new next starts is)

pub added : (firsts : List (Option ℕ)) (runs : List Start) (net : ℕ) (run : Run) (next : Option ℕ) (chains : ℕ → List (ℕ × ℕ)) → run.from < length firsts →
    next ≡ first_at firsts run.from → ((cell : ℕ) → cell < length firsts → IsChain runs (first_at firsts cell) (chains cell)) →
    (cell : ℕ) → cell < length firsts →
    IsChain (runs ++ record { net = net; to = run.to; next = next } ∷ []) (first_at (set firsts run.from (Some (length runs))) cell) (with_run net run chains cell)
added firsts runs net run next chains inside is before cell within =
    let new : Start = record { net = net; to = run.to; next = next } in
    let more = runs ++ new ∷ [] in
    elim (cases_Bool (run.from == cell)) [
      | inl here ↦
          let same : run.from ≡ cell = grind (arith, nat_tests, here) in
          let head : first_at (set firsts run.from (Some (length runs))) cell ≡ Some (length runs) =
          subst (λ (c : ℕ). first_at (set firsts run.from (Some (length runs))) c ≡ Some (length runs)) same
          (get_or-set_same firsts run.from (Some (length runs)) None inside) in
          let old : IsChain runs next (chains cell) =
          subst (λ (c : ℕ). IsChain runs next (chains c)) same (subst (λ (o : Option ℕ). IsChain runs o (chains run.from)) (sym is) (before run.from inside)) in
          let now = chain-new runs net run.to next (chains cell) old in
          let grown : with_run net run chains cell ≡ (net, run.to) ∷ chains cell = rw here refl in
          subst (λ (starts : List (ℕ × ℕ)). IsChain more (first_at (set firsts run.from (Some (length runs))) cell) starts) (sym grown)
          (subst (λ (o : Option ℕ). IsChain more o ((net, run.to) ∷ chains cell)) (sym head) now)
      | inr other ↦
          let apart : cell ≢ run.from = λ same. grind (arith, nat_tests, other, same) in
          let head = get_or-set_other firsts run.from cell (Some (length runs)) None apart in
          let same : with_run net run chains cell ≡ chains cell = rw other refl in
          subst (λ (starts : List (ℕ × ℕ)). IsChain more (first_at (set firsts run.from (Some (length runs))) cell) starts) (sym same)
          (subst (λ (o : Option ℕ). IsChain more o (chains cell)) (sym head) (chain-kept runs new (first_at firsts cell) (chains cell) (before cell within)))
    ]

-- by what the calls say
pub added-by : (firsts : List (Option ℕ)) (runs more : List Start) (net number : ℕ) (run : Run) (next : Option ℕ) (chains : ℕ → List (ℕ × ℕ)) → run.from < length firsts →
    number ≡ length runs → more ≡ runs ++ record { net = net; to = run.to; next = next } ∷ [] → next ≡ get_or firsts run.from next →
    ((cell : ℕ) → cell < length firsts → IsChain runs (first_at firsts cell) (chains cell)) →
    (cell : ℕ) → cell < length (set firsts run.from (Some number)) → IsChain more (first_at (set firsts run.from (Some number)) cell) (with_run net run chains cell)
added-by firsts runs more net number run next chains inside count grown is before cell within =
    let new : Start = record { net = net; to = run.to; next = next } in
    subst (λ (rs : List Start). IsChain rs (first_at (set firsts run.from (Some number)) cell) (with_run net run chains cell)) (sym grown)
    (subst (λ (n : ℕ). IsChain (runs ++ new ∷ []) (first_at (set firsts run.from (Some n)) cell) (with_run net run chains cell)) (sym count)
    (added firsts runs net run next chains inside (is ∙ get_or_default firsts run.from next None inside) before cell
    (omega (arith, within, length-set firsts run.from (Some number)))))

-- the chains with one more run of a list
pub runs-more : (net : ℕ) (runs : List Run) (at : ℕ) (d : Run) (chains : ℕ → List (ℕ × ℕ)) → at < length runs →
    with_runs net (take (at + 1) runs) chains ≡ with_run net (get_or runs at d) (with_runs net (take at runs) chains)
runs-more net runs at d chains inside =
    ap (λ (rs : List Run). with_runs net rs chains) (take_more runs at d inside)
    ∙ fold-append (λ (so_far : ℕ → List (ℕ × ℕ)) (run : Run). with_run net run so_far) chains (take at runs) (get_or runs at d ∷ [])

-- ---- each run leads back

pub firsts-more : (firsts : List (Option ℕ)) (count cell : ℕ) → All (IsBelow count) firsts → All (IsBelow (count + 1)) (set firsts cell (Some count))
firsts-more firsts count cell all =
    All-set (IsBelow (count + 1)) firsts cell (Some count) (omega arith) (All-weaker (IsBelow count) (IsBelow (count + 1)) (λ o h. below-more count (count + 1) o (omega arith) h) firsts all)

-- ---- going along a chain

-- what is left of a chain, whose pieces come behind these
pub record IsLeft (runs : List Start) (at : Option ℕ) (piece_of : ℕ × ℕ → Piece) (pieces all : List Piece) : Type 0 where
  pub left : List (ℕ × ℕ)
  pub chain : IsChain runs at left
  pub same : pieces ++ map piece_of left ≡ all

abbrev pub past : Option ℕ → ℕ
past None = 0
past (Some number) = number + 1

pub past-below : (count : ℕ) (number : Option ℕ) → IsBelow count number → past number ≤ count
past-below count None h = omega arith
past-below count (Some n) h = omega (arith, h)

left-on : (runs : List Start) (number : ℕ) (run : Start) (f : ℕ × ℕ → Piece) (pieces all : List Piece) (left : List (ℕ × ℕ)) → slice_get runs number ≡ Some run →
    IsChain runs (Some number) left → pieces ++ map f left ≡ all → IsLeft runs run.next f (pieces ++ f (run.net, run.to) ∷ []) all
left-on runs number run f pieces all [] at chain same = absurd (none-some number (sym chain))
left-on runs number run f pieces all (start ∷ left) at chain same =
    let here = and-some (λ (r : Start). (r.net ≡ start.0) × (r.to ≡ start.1) × IsChain runs r.next left) (slice_get runs number) run at chain in
    let first : f (run.net, run.to) ≡ f start = ap (λ (n : ℕ). f (n, run.to)) here.0 ∙ ap (λ (n : ℕ). f (start.0, n)) here.1 in
    record {
      left = left;
      chain = here.2;
      same = append_assoc pieces (f (run.net, run.to) ∷ []) (map f left) ∙ ap (λ (p : Piece). pieces ++ p ∷ map f left) first ∙ same;
    }

pub left-step : (runs : List Start) (number : ℕ) (run : Start) (f : ℕ × ℕ → Piece) (pieces more all : List Piece) (at : Option ℕ) → at ≡ Some number →
    slice_get runs number ≡ Some run → more ≡ pieces ++ f (run.net, run.to) ∷ [] → IsLeft runs at f pieces all → IsLeft runs run.next f more all
left-step runs number run f pieces more all at is here grown was =
    subst (λ (ps : List Piece). IsLeft runs run.next f ps all) (sym grown)
    (left-on runs number run f pieces all was.left here (subst (λ (o : Option ℕ). IsChain runs o was.left) is was.chain) was.same)

nothing-left : (runs : List Start) (f : ℕ × ℕ → Piece) (pieces all : List Piece) (left : List (ℕ × ℕ)) → IsChain runs None left → pieces ++ map f left ≡ all → pieces ≡ all
nothing-left runs f pieces all [] chain same = sym (append-nil pieces) ∙ same
nothing-left runs f pieces all (start ∷ left) chain same = absurd chain

pub left-end : (runs : List Start) (f : ℕ × ℕ → Piece) (pieces all : List Piece) (at : Option ℕ) → at ≡ None → IsLeft runs at f pieces all → pieces ≡ all
left-end runs f pieces all at is was = nothing-left runs f pieces all was.left (subst (λ (o : Option ℕ). IsChain runs o was.left) is was.chain) was.same
