-- How far a text is read, from one token to the next.
use Rattle.std.proofs.Common.{◌≡◌, ℕ, suc, ◌+◌, ◌≤◌, inl, inr, Bool, true, false, if◌then◌else◌, List, [], ◌∷◌, ◌++◌, length, Result, Ok, Err, IfOk, IsTrue, refl, sym, ap, subst, ◌∙◌, arith, length-append, append_assoc, append-nil}
use Rattle.std.specs.List.{slice_split, onto_first, list_all}
use Rattle.std.proofs.lemmas.Bool.{cases_Bool}
use Rattle.std.proofs.lemmas.List.Folds.{list_all-append}
use Rattle.std.proofs.lemmas.List.Splits.{slice_split-cons_yes, slice_split-cons_no}
use Rattle.gr_base.specs.Names.{is_token}
use Rattle.gr_text.specs.declared.tokens.TokenError.{TokenError}
use Rattle.gr_text.specs.declared.tokens.TokenError.TheVariants.{Failed, TooLong, NoMemory}
use Rattle.gr_io.specs.declared.shelf.Slot.{Slot}
use Rattle.gr_text.specs.declared.source.ReadError.{ReadError}
use Rattle.gr_text.specs.declared.source.ReadError.TheVariants as error
use Rattle.gr_text.specs.Reads.{GoesThrough, AtFault}
use Rattle.gr_text.specs.Tokens.{Place, is_blank, some_runs, tokens}
use Rattle.gr_text.specs.Streams.{Stream, ReadsLittleAhead, IsCut, new_stream}
use Rattle.gr_text.specs.Steps.{GoesOn, ReadsLittle, ReadsOn, Steps}
use Rattle.gr_text.specs.Unread.{HasRead, IsReadTo}
use Rattle.gr_text.proofs.TokenLemmas.{both-right, some_runs-word, tokens-blanks, tokens-last, tokens-none, place-number}

-- ---- how many tokens two texts have together

abbrev tail : List (List ℕ) → List (List ℕ)
tail [] = []
tail (part ∷ parts) = parts

-- the tokens behind the first part
abbrev later : List ℕ → ℕ
later bytes = length (some_runs (tail (slice_split is_blank bytes)))

abbrev count : List ℕ → ℕ
count bytes = length (some_runs (slice_split is_blank bytes))

some_runs-le : (parts : List (List ℕ)) → length (some_runs (tail parts)) ≤ length (some_runs parts)
some_runs-le [] = omega arith
some_runs-le ([] ∷ parts) = omega arith
some_runs-le ((byte ∷ part) ∷ parts) =
    let is : length (some_runs ((byte ∷ part) ∷ parts)) ≡ suc (length (some_runs parts)) = ap length (some_runs-word (byte ∷ part) parts (omega arith)) in
    let below : length (some_runs parts) ≤ length (some_runs ((byte ∷ part) ∷ parts)) = omega arith in
    below

onto-tail : (byte : ℕ) (parts : List (List ℕ)) → tail (onto_first byte parts) ≡ tail parts
onto-tail byte [] = refl
onto-tail byte (part ∷ parts) = refl

onto-count : (byte : ℕ) (parts : List (List ℕ)) → length (some_runs (onto_first byte parts)) ≡ suc (length (some_runs (tail parts)))
onto-count byte [] = refl
onto-count byte (part ∷ parts) = ap length (some_runs-word (byte ∷ part) parts (omega arith))

count-blank : (byte : ℕ) (rest : List ℕ) → is_blank byte ≡ true → (count (byte ∷ rest) ≡ count rest) × (later (byte ∷ rest) ≡ count rest)
count-blank byte rest blank =
    let is = slice_split-cons_yes is_blank byte rest blank in
    (ap (λ parts. length (some_runs parts)) is, ap (λ parts. length (some_runs (tail parts))) is)

count-solid : (byte : ℕ) (rest : List ℕ) → is_blank byte ≡ false → (count (byte ∷ rest) ≡ suc (later rest)) × (later (byte ∷ rest) ≡ later rest)
count-solid byte rest other =
    let is = slice_split-cons_no is_blank byte rest other in (
      ap (λ parts. length (some_runs parts)) is ∙ onto-count byte (slice_split is_blank rest),
      ap (λ parts. length (some_runs (tail parts))) is ∙ ap (λ parts. length (some_runs parts)) (onto-tail byte (slice_split is_blank rest)),
    )

-- no more than each has alone
counts : (xs ys : List ℕ) → (count (xs ++ ys) ≤ count xs + count ys) × (later (xs ++ ys) ≤ later xs + count ys)
counts [] ys =
    let below = some_runs-le (slice_split is_blank ys) in
    let none : count [] ≡ 0 = refl in
    let no : later [] ≡ 0 = refl in
    (omega arith, omega arith)
counts (x ∷ xs) ys =
    let rest = counts xs ys in
    let one = rest.0 in
    let two = rest.1 in
    elim (cases_Bool (is_blank x)) [
      | inl blank ↦
          let whole = count-blank x (xs ++ ys) blank in
          let part = count-blank x xs blank in
          let a = whole.0 in let b = whole.1 in let c = part.0 in let d = part.1 in
          (omega arith, omega arith)
      | inr other ↦
          let whole = count-solid x (xs ++ ys) other in
          let part = count-solid x xs other in
          let a = whole.0 in let b = whole.1 in let c = part.0 in let d = part.1 in
          (omega arith, omega arith)
    ]

pub tokens-append : (xs ys : List ℕ) → length (tokens (xs ++ ys)) ≤ length (tokens xs) + length (tokens ys)
unfolding tokens
tokens-append xs ys = (counts xs ys).0

tokens-blank : (blanks : List ℕ) → list_all is_blank blanks ≡ true → length (tokens blanks) ≡ 0
tokens-blank blanks all =
    ap (λ bytes. length (tokens bytes)) (sym (append-nil blanks)) ∙ ap length (tokens-blanks blanks [] all) ∙ ap length tokens-none

-- ---- a source that goes on

pub read-none : (bytes : List ℕ) → HasRead bytes 0 [] bytes
read-none bytes = record {
  front = [];
  word = [];
  behind = [];
  is = refl;
  earlier = let none = ap length tokens-none in omega arith;
  so_far = let none = ap length tokens-none in omega arith;
  solid = refl;
  closed = refl;
  little = inl (omega arith);
}

-- behind the token in hand
pub read-here : (bytes : List ℕ) (number : ℕ) (pending left : List ℕ) → HasRead bytes number pending left → IsReadTo bytes number left
read-here bytes number pending left read = record {
  front = read.front;
  word = read.word;
  ahead = read.behind ++ pending;
  is = read.is ∙ ap (λ xs. read.front ++ (read.word ++ xs)) (sym (append_assoc read.behind pending left));
  earlier = read.earlier;
  solid = read.solid;
  little =
      elim read.little [
        | inl few ↦ inl few
        | inr ended ↦
            inr (
              ap (λ xs. list_all is_blank (read.behind ++ xs)) ended.0 ∙ ap (list_all is_blank) (append-nil read.behind) ∙ read.closed,
              ended.1,
            )
      ];
}

-- everything up to the token in hand, and the blanks behind it
abbrev done : (bytes : List ℕ) (number : ℕ) (pending left : List ℕ) → HasRead bytes number pending left → List ℕ → List ℕ
done bytes number pending left read blanks = read.front ++ (read.word ++ (read.behind ++ blanks))

done-few : (bytes : List ℕ) (number : ℕ) (pending left : List ℕ) (read : HasRead bytes number pending left) (blanks : List ℕ) → list_all is_blank blanks ≡ true →
    length (tokens (done bytes number pending left read blanks)) ≤ number
done-few bytes number pending left read blanks all =
    let parts : done bytes number pending left read blanks ≡ (read.front ++ read.word) ++ (read.behind ++ blanks) =
    sym (append_assoc read.front read.word (read.behind ++ blanks)) in
    let size = ap (λ xs. length (tokens xs)) parts in
    let sum = tokens-append (read.front ++ read.word) (read.behind ++ blanks) in
    let none = tokens-blank (read.behind ++ blanks) (list_all-append is_blank read.behind blanks ∙ rw (read.closed, all) refl) in
    let few = read.so_far in
    omega arith

done-is : (bytes : List ℕ) (number : ℕ) (pending left : List ℕ) (read : HasRead bytes number pending left) (blanks rest : List ℕ) →
    pending ++ left ≡ blanks ++ rest → bytes ≡ done bytes number pending left read blanks ++ rest
done-is bytes number pending left read blanks rest is =
    read.is ∙ ap (λ xs. read.front ++ (read.word ++ (read.behind ++ xs))) is ∙
    ap (λ xs. read.front ++ (read.word ++ xs)) (sym (append_assoc read.behind blanks rest)) ∙
    ap (λ xs. read.front ++ xs) (sym (append_assoc read.word (read.behind ++ blanks) rest)) ∙
    sym (append_assoc read.front (read.word ++ (read.behind ++ blanks)) rest)

-- behind the place where the next token is due
pub read-due : (bytes : List ℕ) (number : ℕ) (pending left : List ℕ) → HasRead bytes number pending left → IsReadTo bytes (number + 1) left
read-due bytes number pending left read = record {
  front = done bytes number pending left read [];
  word = [];
  ahead = pending;
  is = done-is bytes number pending left read [] (pending ++ left) refl;
  earlier = let few = done-few bytes number pending left read [] refl in omega arith;
  solid = refl;
  little =
      elim read.little [
        | inl few ↦ inl (let long = length-append read.behind pending in omega arith)
        | inr ended ↦ inl (let size = ap length ended.0 in omega arith)
      ];
}

word-one : (word : List ℕ) → is_token word ≡ true → length (tokens word) ≤ 1
word-one [] token = cc
word-one (byte ∷ word) token =
    let one : length (tokens (byte ∷ word)) ≡ 1 = ap length (tokens-last (byte ∷ word) (omega arith) (both-right _ _ token)) in
    omega arith

-- one more token is given
pub read-next : (bytes : List ℕ) (number : ℕ) (pending left word pending' left' : List ℕ) → is_token word ≡ true →
    ReadsLittleAhead (pending ++ left) word pending' left' → HasRead bytes number pending left → HasRead bytes (number + 1) pending' left'
read-next bytes number pending left word pending' left' token step read =
    let front = done bytes number pending left read step.blanks in
    let few = done-few bytes number pending left read step.blanks step.blank in
    let sum = tokens-append front word in
    let one = word-one word token in
    record {
      front = front;
      word = word;
      behind = step.behind;
      is = done-is bytes number pending left read step.blanks (word ++ (step.behind ++ (pending' ++ left'))) step.is;
      earlier = omega arith;
      so_far = omega arith;
      solid = both-right _ _ token;
      closed = step.closed;
      little = inl step.little;
    }

-- the text ended
pub read-end : (bytes : List ℕ) (number : ℕ) (pending left pending' left' : List ℕ) → ReadsOn (pending ++ left) (Ok false) pending' left' →
    HasRead bytes number pending left → HasRead bytes number pending' left'
read-end bytes number pending left pending' left' step read = record {
  front = read.front;
  word = read.word;
  behind = read.behind ++ (pending ++ left);
  is = read.is ∙
      ap (λ xs. read.front ++ (read.word ++ xs)) (sym (append-nil (read.behind ++ (pending ++ left)))) ∙
      ap (λ xs. read.front ++ (read.word ++ ((read.behind ++ (pending ++ left)) ++ xs))) (sym step.2) ∙
      ap (λ xs. read.front ++ (read.word ++ ((read.behind ++ (pending ++ left)) ++ (xs ++ left')))) (sym step.1);
  earlier = read.earlier;
  so_far = read.so_far;
  solid = read.solid;
  closed = list_all-append is_blank read.behind (pending ++ left) ∙ rw (read.closed, step.0) refl;
  little = inr (step.1, step.2);
}

-- the limit came first
pub read-cut : (bytes : List ℕ) (number : ℕ) (pending left left' : List ℕ) → IsCut (pending ++ left) left' →
    HasRead bytes number pending left → IsReadTo bytes (number + 1) left'
read-cut bytes number pending left left' cut read = record {
  front = done bytes number pending left read cut.blanks;
  word = cut.word;
  ahead = cut.ahead;
  is = done-is bytes number pending left read cut.blanks (cut.word ++ (cut.ahead ++ left')) cut.is;
  earlier = let few = done-few bytes number pending left read cut.blanks cut.blank in omega arith;
  solid = cut.solid;
  little = inl cut.little;
}

-- ---- a step over a shelf

module _ (before after : Stream) (left left' : Slot → List ℕ) (slot : after.slot ≡ before.slot) where
  same-number : (more : Bool) → GoesOn before left (Ok more) after left' → after.number ≡ (if more then before.number + 1 else before.number)
  same-number true step =
      sym (place-number after.room after.number (after.pending ++ left' before.slot)) ∙ step.number ∙
      ap (λ n. n + 1) (place-number before.room before.number (before.pending ++ left before.slot))
  same-number false step =
      sym (place-number after.room after.number (after.pending ++ left' before.slot)) ∙ ap (λ (p : Place). p.number) step.1 ∙
      place-number before.room before.number (before.pending ++ left before.slot)

  steps-more : (bytes : List ℕ) (more : Bool) → GoesOn before left (Ok more) after left' →
      (◌≡◌ {A = Result Bool TokenError} (Ok more) (Ok true) → ReadsLittle before left after.word after left') →
      ReadsOn (before.pending ++ left before.slot) (Ok more) after.pending (left' before.slot) → (IsTrue more → IsTrue (is_token after.word)) →
      HasRead bytes before.number before.pending (left before.slot) → HasRead bytes after.number after.pending (left' after.slot)
  steps-more bytes true step little on token read =
      subst (λ (n : ℕ). HasRead bytes n after.pending (left' after.slot)) (sym (same-number true step))
      (subst (λ (s : Slot). HasRead bytes (before.number + 1) after.pending (left' s)) (sym slot)
      (read-next bytes before.number before.pending (left before.slot) after.word after.pending (left' before.slot) (token refl) (little refl) read))
  steps-more bytes false step little on token read =
      subst (λ (n : ℕ). HasRead bytes n after.pending (left' after.slot)) (sym (same-number false step))
      (subst (λ (s : Slot). HasRead bytes before.number after.pending (left' s)) (sym slot)
      (read-end bytes before.number before.pending (left before.slot) after.pending (left' before.slot) on read))

  pub steps-onward : (tells : Bool) (bytes : List ℕ) (result : Result Bool TokenError) → (IsTrue tells → GoesOn before left result after left') →
      (IsTrue tells → result ≡ Ok true → ReadsLittle before left after.word after left') →
      (IsTrue tells → ReadsOn (before.pending ++ left before.slot) result after.pending (left' before.slot)) →
      IfOk result (λ more. IsTrue more → IsTrue (is_token after.word)) →
      (IsTrue tells → HasRead bytes before.number before.pending (left before.slot)) →
      Steps result (IsTrue tells → HasRead bytes after.number after.pending (left' after.slot)) (λ token. IsTrue tells → IsReadTo bytes token (left' after.slot))
  steps-onward tells bytes (Ok more) step little on token read =
      λ told. steps-more bytes more (step told) (little told) (on told) token (read told)
  steps-onward tells bytes (Err (TooLong number)) step little on token read =
      λ told.
      let numbered : number ≡ before.number + 1 =
      (step told).1 ∙ ap (λ n. n + 1) (place-number before.room before.number (before.pending ++ left before.slot)) in
      subst (λ (n : ℕ). IsReadTo bytes n (left' after.slot)) (sym numbered)
      (subst (λ (s : Slot). IsReadTo bytes (before.number + 1) (left' s)) (sym slot)
      (read-cut bytes before.number before.pending (left before.slot) (left' before.slot) (on told) (read told)))
  steps-onward tells bytes (Err Failed) step little on token read = tt
  steps-onward tells bytes (Err NoMemory) step little on token read = tt

-- ---- a whole text

pub fault-unread : {F V : Type 0} (tells : Bool) (result : Result V (ReadError F)) (before after : Stream) (left left' : Slot → List ℕ) (slot : Slot) (limit : ℕ) →
    before ≡ new_stream slot limit → after.slot ≡ before.slot → GoesThrough tells result before left after left' → IsTrue tells →
    AtFault result (λ token. IsReadTo (left slot) token (left' slot))
fault-unread tells (Ok value) before after left left' slot limit new same goes told = tt
fault-unread tells (Err (error.Fault fault token)) before after left left' slot limit new same goes told =
    let P : Stream → Type 0 = λ s. HasRead (left slot) s.number s.pending (left s.slot) in
    let start : HasRead (left slot) before.number before.pending (left before.slot) = subst P (sym new) (read-none (left slot)) in
    let at : after.slot ≡ slot = same ∙ ap (λ (s : Stream). s.slot) new in
    subst (λ (s : Slot). IsReadTo (left slot) token (left' s)) at (goes (left slot) (λ _. start) told)
fault-unread tells (Err error.Failed) before after left left' slot limit new same goes told = tt
fault-unread tells (Err error.NoMemory) before after left left' slot limit new same goes told = tt
