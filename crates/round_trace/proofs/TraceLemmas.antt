-- Rounds that are counted entry by entry.
use Rattle.std.proofs.Common.{◌≡◌, ℕ, ◌+◌, ◌≤◌, Bool, true, false, cond, List, [], ◌∷◌, ◌++◌, take, get_or, slice_get, count_by, Some, None, if◌then◌else◌, sym, ap, ◌∙◌, append-nil, arith}
use Rattle.std.specs.List.{flat_map}
use Rattle.std.specs.Option.{option_map, option_to_list}
use Rattle.std.proofs.lemmas.List.{append_assoc, length-append, take_more}
use Rattle.std.proofs.lemmas.Grind.{flat_map-append}
use Rattle.std.proofs.lemmas.List.Sums.{fold_push, sum_by_push}
use Rattle.std.proofs.lemmas.Option.{same_Some, slice_get-get_or, slice_get_within}
use Rattle.book_state.specs.Entries.{is_full_reply, is_mark}
use Rattle.book_state.specs.Marks.{overflow_in}
use Rattle.book_state.specs.declared.entry.Entry.{Entry}
use Rattle.book_state.specs.declared.entry.Reply.{Reply}
use Rattle.round_trace.specs.Counts.{ended_lines, IsCountOf}
use Rattle.round_trace.specs.RoundLines.{round_line}
use Rattle.round_trace.specs.Traces.{behind_mark, books, ended_by, finds_full, is_claimed_reply, round_done, rounds_from, rounds_of}
use Rattle.round_trace.specs.declared.counting.RoundsSoFar.{RoundsSoFar}
use Rattle.round_trace.specs.declared.done.RoundDone.{RoundDone}

-- the first entries and the next one
pub take-push : (h : List Entry) (n : ℕ) (e : Entry) → slice_get h n ≡ Some e → take (n + 1) h ≡ take n h ++ e ∷ []
take-push h n e there =
    let below = slice_get_within h n e there in
    take_more h n e below
    ∙ ap (λ (x : Entry). take n h ++ x ∷ []) (same_Some (get_or h n e) e (sym (slice_get-get_or h n e below) ∙ there))

count-push : (p : Entry → Bool) (xs : List Entry) (e : Entry) → count_by p (xs ++ e ∷ []) ≡ count_by p xs + cond (p e) 1 0
count-push p xs e = sum_by_push (λ (x : Entry). cond (p x) 1 0) xs e

rounds-push : (before xs : List Entry) (e : Entry) → rounds_from before (xs ++ e ∷ []) ≡ rounds_from before xs ++ option_to_list (ended_by (before ++ xs) e)
rounds-push before [] e =
    append-nil (option_to_list (ended_by before e)) ∙ ap (λ (h : List Entry). option_to_list (ended_by h e)) (sym (append-nil before))
rounds-push before (x ∷ xs) e =
    let first = option_to_list (ended_by before x) in
    let rest = rounds_from (before ++ x ∷ []) xs in
    ap (λ (ds : List RoundDone). first ++ ds) (rounds-push (before ++ x ∷ []) xs e)
    ∙ sym (append_assoc first rest (option_to_list (ended_by ((before ++ x ∷ []) ++ xs) e)))
    ∙ ap (λ (h : List Entry). (first ++ rest) ++ option_to_list (ended_by h e)) (append_assoc before (x ∷ []) xs)

lines-push : (h : List Entry) (e : Entry) → flat_map round_line (rounds_of (h ++ e ∷ [])) ≡ flat_map round_line (rounds_of h) ++ flat_map round_line (option_to_list (ended_by h e))
lines-push h e =
    ap (flat_map round_line) (rounds-push [] h e) ∙ flat_map-append round_line (rounds_of h) (option_to_list (ended_by h e))

pub count-none : (c : RoundsSoFar) → c.lines ≡ [] → c.marks ≡ 0 → c.nets ≡ 0 → c.full ≡ 0 → IsCountOf [] c
unfolding behind_mark
count-none c lines marks nets full = record { lines = lines; marks = marks; nets = nets; full = full; few = omega (arith, marks, nets, full) }

segment-push : (h : List Entry) (e : Entry) (b : Bool) → is_mark e ≡ b → behind_mark (h ++ e ∷ []) ≡ (if b then [] else behind_mark h ++ e ∷ [])
unfolding behind_mark
segment-push h e b is =
    fold_push (λ (segment : List Entry) (x : Entry). if is_mark x then [] else segment ++ x ∷ []) [] h e
    ∙ ap (λ (mark : Bool). if mark then [] else behind_mark h ++ e ∷ []) is

marks-push : (h : List Entry) (e : Entry) (b : Bool) → is_mark e ≡ b → count_by is_mark (h ++ e ∷ []) ≡ count_by is_mark h + cond b 1 0
marks-push h e b is = count-push is_mark h e ∙ ap (λ (mark : Bool). count_by is_mark h + cond mark 1 0) is

-- a call that isn't a mark
pub count-other : (old new : RoundsSoFar) (h : List Entry) (e : Entry) (reply : Reply) → is_mark e ≡ false → e.reply ≡ reply →
    new.lines ≡ old.lines → new.marks ≡ old.marks → new.nets ≡ old.nets + cond (is_claimed_reply reply) 1 0 →
    new.full ≡ old.full + cond (is_full_reply reply) 1 0 → IsCountOf h old → IsCountOf (h ++ e ∷ []) new
count-other old new h e reply other is lines marks nets full of =
    let now = segment-push h e false other in
    let round = marks-push h e false other in
    let claimed : cond {A = ℕ} (books e) 1 0 ≡ cond (is_claimed_reply reply) 1 0 = ap (λ (r : Reply). cond {A = ℕ} (is_claimed_reply r) 1 0) is in
    let fulls : cond {A = ℕ} (finds_full e) 1 0 ≡ cond (is_full_reply reply) 1 0 = ap (λ (r : Reply). cond {A = ℕ} (is_full_reply r) 1 0) is in
    record {
      lines =
          lines ∙ of.lines ∙ sym (append-nil (flat_map round_line (rounds_of h)))
          ∙ ap (λ (b : Bool). flat_map round_line (rounds_of h) ++ flat_map round_line (option_to_list (if b then option_map (round_done h) (overflow_in e.reply) else None))) (sym other)
          ∙ sym (lines-push h e);
      marks = omega (arith, marks, of.marks, round);
      nets =
          nets ∙ ap (λ (n : ℕ). n + cond (is_claimed_reply reply) 1 0) of.nets ∙ ap (λ (n : ℕ). count_by books (behind_mark h) + n) (sym claimed)
          ∙ sym (count-push books (behind_mark h) e) ∙ sym (ap (count_by books) now);
      full =
          full ∙ ap (λ (n : ℕ). n + cond (is_full_reply reply) 1 0) of.full ∙ ap (λ (n : ℕ). count_by finds_full (behind_mark h) + n) (sym fulls)
          ∙ sym (count-push finds_full (behind_mark h) e) ∙ sym (ap (count_by finds_full) now);
      few =
          let long = length-append h (e ∷ []) in
          let most = one-of reply in
          omega (arith, of.few, marks, nets, full, long, most);
    }
  where
    one-of : (r : Reply) → cond {A = ℕ} (is_claimed_reply r) 1 0 + cond (is_full_reply r) 1 0 ≤ 1
    one-of Reply.Claimed = omega arith
    one-of (Reply.Full edge demand) = omega arith
    one-of other = omega arith

-- a mark
pub count-mark : (old new : RoundsSoFar) (h : List Entry) (e : Entry) (reply : Reply) → is_mark e ≡ true → e.reply ≡ reply →
    new.lines ≡ old.lines ++ ended_lines reply old.marks old.nets old.full → new.marks ≡ old.marks + 1 → new.nets ≡ 0 → new.full ≡ 0 →
    IsCountOf h old → IsCountOf (h ++ e ∷ []) new
count-mark old new h e reply mark is lines marks nets full of =
    let now = segment-push h e true mark in
    let round = marks-push h e true mark in
    record {
      lines =
          lines ∙ ap (λ (text : List ℕ). text ++ ended_lines reply old.marks old.nets old.full) of.lines
          ∙ ap (λ (n : ℕ). before ++ ended_lines reply n old.nets old.full) of.marks
          ∙ ap (λ (n : ℕ). before ++ ended_lines reply (count_by is_mark h) n old.full) of.nets
          ∙ ap (λ (n : ℕ). before ++ ended_lines reply (count_by is_mark h) (count_by books (behind_mark h)) n) of.full
          ∙ ap (λ (r : Reply). before ++ flat_map round_line (option_to_list (option_map (round_done h) (overflow_in r)))) (sym is)
          ∙ ap (λ (b : Bool). before ++ flat_map round_line (option_to_list (if b then option_map (round_done h) (overflow_in e.reply) else None))) (sym mark)
          ∙ sym (lines-push h e);
      marks = omega (arith, marks, of.marks, round);
      nets = nets ∙ sym (ap (count_by books) now);
      full = full ∙ sym (ap (count_by finds_full) now);
      few = let long = length-append h (e ∷ []) in omega (arith, of.few, marks, nets, full, long);
    }
  where
    before : List ℕ
    before = flat_map round_line (rounds_of h)
