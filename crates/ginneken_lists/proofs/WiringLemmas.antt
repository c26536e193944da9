-- Pairs along an edge: one is kept where its time is later than that of the last one that was kept.
use Rattle.std.proofs.Common.{◌≡◌, ℕ, ◌+◌, ◌-◌, ◌<◌, ◌≤◌, inl, inr, Bool, true, false, not, List, [], ◌∷◌, ◌++◌, length, get_or, set, take, drop, map, All, refl, sym, ap, subst, ◌∙◌, arith}
use Rattle.std.proofs.lemmas.Bool.{cases_eq, not-true, not-false}
use Rattle.std.proofs.lemmas.List.{take_more, take_more_set, drop-set-lt, drop-drop, get_or-take, get_or-drop, get_or-set_same, get_or_default, get_or_append_left, get_or_at, length-append, length-map, length-set, length-take-le, map_push, take_all}
use Rattle.std.proofs.lemmas.List.Elements.{All-nil, All-push, All-map}
use Rattle.std.proofs.lemmas.List.Sums.{fold_push}
use Rattle.rc_library.specs.declared.parts.Wire.{Wire}
use Rattle.elmore_delay.specs.FromLeaves.{along}
use Rattle.elmore_delay.specs.declared.seen.Seen.{Seen}
use Rattle.ginneken_lists.specs.Candidates.{Chosen, Candidate, no_later, serves, with_one, along_edge, all_along}
use Rattle.ginneken_lists.specs.Thinning.{IsRising, AreRising}
use Rattle.ginneken_lists.specs.Pairs.{seen_of, IsList}
use Rattle.ginneken_lists.specs.StoredPairs.{pair_of, pairs_of, stored_candidate}
use Rattle.ginneken_lists.specs.Offering.{with_all}
use Rattle.ginneken_lists.specs.declared.stored.Stored.{Stored}
use Rattle.ginneken_lists.proofs.TimeOrder.{no_later-other, later-before}
use Rattle.ginneken_lists.proofs.Serving.{serves-from, pairs-none}
use Rattle.ginneken_lists.proofs.Thinned.{Before, with_all-all, with_all-rising}
use Rattle.ginneken_lists.proofs.ThinnedAgain.{with_one-last, with_one-dropped}
use Rattle.ginneken_lists.proofs.StoredLemmas.{all_of, sight, all_of-append, length-all_of, all_of-at, all_of-all, stored-rising, rising-all_of, candidate-is}

-- one whose load is greater than all, and whose time is later than the last one's, comes behind all
later-than_last : (kept : List Candidate) (o : Candidate) → AreRising kept → All (λ x. x.seen.load < o.seen.load) kept →
    ((d : Candidate) → 0 < length kept → no_later o.seen.time (get_or kept (length kept - 1) d).seen.time ≡ false) → All (λ x. Before x o) kept
later-than_last kept o rising less last k d inside =
    let low = less k d inside in
    let later = last d (omega arith) in
    elim (cases_eq k (length kept - 1)) [
      | inl here ↦ record {
        load = low;
        time = subst (λ (n : ℕ). no_later o.seen.time (get_or kept n d).seen.time ≡ false) (sym here) later;
      }
      | inr before ↦
          let x : Candidate = get_or kept k d in
          let y : Candidate = get_or kept (length kept - 1) d in
          let apart : Before x y = rising k (length kept - 1) d (omega arith) (omega arith) in
          record { load = low; time = later-before o.seen.time y.seen.time x.seen.time later (no_later-other y.seen.time x.seen.time apart.time) }
    ]

-- of pairs that are taken along an edge, the first `at` are done, and stand in the first `kept` places
pub record AreWired (wire : Wire) (old items : List Stored) (kept at : ℕ) : Type 0 where
  pub done : (trail : List Chosen) → all_of trail (take kept items) ≡ all_along wire (all_of trail (take at old))
  pub rest : drop at items ≡ drop at old
  pub behind : kept ≤ at
  pub long : length items ≡ length old
  pub marks : (most : ℕ) → All (λ pair. pair.mark ≤ most) old → All (λ pair. pair.mark ≤ most) (take kept items)

-- a pair is read where it stood
pub read-old : (wire : Wire) (old items : List Stored) (kept at : ℕ) (p : Stored) → AreWired wire old items kept at → at < length old → p ≡ get_or items at p →
    p ≡ get_or old at p
read-old wire old items kept at p are inside is =
    let place : at ≡ at + 0 = omega arith in
    is ∙ ap (λ (k : ℕ). get_or items k p) place ∙ sym (get_or-drop at items 0 p) ∙ ap (λ (xs : List Stored). get_or xs 0 p) are.rest
    ∙ get_or-drop at old 0 p ∙ ap (λ (k : ℕ). get_or old k p) (sym place)

-- one more candidate along the edge
along-more : (wire : Wire) (old : List Stored) (at : ℕ) (p : Stored) (trail : List Chosen) → at < length old → p ≡ get_or old at p →
    all_along wire (all_of trail (take (at + 1) old)) ≡ with_one (along_edge wire (stored_candidate trail p)) (all_along wire (all_of trail (take at old)))
along-more wire old at p trail inside is =
    let next : take (at + 1) old ≡ take at old ++ p ∷ [] = take_more old at p inside ∙ ap (λ (x : Stored). take at old ++ x ∷ []) (sym is) in
    let front = all_of trail (take at old) in
    ap (λ (xs : List Stored). all_along wire (all_of trail xs)) next
    ∙ ap (all_along wire) (all_of-append trail (take at old) (p ∷ []))
    ∙ ap (with_all []) (map_push (along_edge wire) front (stored_candidate trail p))
    ∙ fold_push (λ (before : List Candidate) (o : Candidate). with_one o before) [] (map (along_edge wire) front) (along_edge wire (stored_candidate trail p))

-- all that were taken along have smaller loads
along-less : (wire : Wire) (old : List Stored) (at : ℕ) (p : Stored) (trail : List Chosen) → IsRising sight old → at < length old → p ≡ get_or old at p →
    All (λ x. x.seen.load < p.load + wire.c) (all_along wire (all_of trail (take at old)))
along-less wire old at p trail rising inside is =
    let P : Candidate → Type 0 = λ x. x.seen.load < p.load + wire.c in
    with_all-all P (map (along_edge wire) (all_of trail (take at old))) []
    (All-map P (along_edge wire) (all_of trail (take at old))
    (all_of-all (λ o. o.seen.load + wire.c < p.load + wire.c) trail (take at old)
    (λ k d before.
    let short = length-take-le at old (omega arith) in
    let pair = (rising k at d (omega arith) inside).load in
    let one : (get_or (take at old) k d).load ≡ (get_or old k d).load = ap (λ (s : Stored). s.load) (get_or-take at old k d (omega arith)) in
    let two : (get_or old at d).load ≡ p.load = ap (λ (s : Stored). s.load) (get_or_default old at d p inside ∙ sym is) in
    omega arith)))
    (All-nil P)

along-rising : (wire : Wire) (all : List Candidate) → AreRising (all_along wire all)
along-rising wire all = with_all-rising (map (along_edge wire) all) [] (pairs-none Before)

-- the pair that is taken along
moved-is : (wire : Wire) (p m : Stored) (trail : List Chosen) → sight m ≡ along wire (sight p) → m.mark ≡ p.mark →
    stored_candidate trail m ≡ along_edge wire (stored_candidate trail p)
moved-is wire p m trail seen named = candidate-is trail m (along wire (sight p)) p.mark seen named

moved-load : (wire : Wire) (p m : Stored) → sight m ≡ along wire (sight p) → m.load ≡ p.load + wire.c
moved-load wire p m seen = ap (λ (s : Seen). s.load) seen

pub wired-keeps : (wire : Wire) (old items : List Stored) (kept at : ℕ) (p m : Stored) → IsRising sight old → AreWired wire old items kept at → at < length old →
    p ≡ get_or items at p → sight m ≡ along wire (sight p) → m.mark ≡ p.mark →
    (0 < kept → no_later (sight m).time (sight (get_or items (kept - 1) m)).time ≡ false) → AreWired wire old (set items kept m) (kept + 1) (at + 1)
wired-keeps wire old items kept at p m rising are inside is seen named later =
    let behind = are.behind in
    let long = are.long in
    let here = read-old wire old items kept at p are inside is in
    let more : take (kept + 1) (set items kept m) ≡ take kept items ++ m ∷ [] = take_more_set items kept m (omega arith) in
    let front : length (take kept items) ≡ kept = length-take-le kept items (omega arith) in
    record {
      done = λ trail.
          let done = are.done trail in
          let K : List Candidate = all_of trail (take kept items) in
          let o : Candidate = stored_candidate trail m in
          let size : length K ≡ kept = length-all_of trail (take kept items) ∙ front in
          let load = moved-load wire p m seen in
          let rises : AreRising K = subst AreRising (sym done) (along-rising wire (all_of trail (take at old))) in
          let less : All (λ x. x.seen.load < o.seen.load) K =
          subst (λ (n : ℕ). All (λ x. x.seen.load < n) K) (sym load)
          (subst (λ (xs : List Candidate). All (λ x. x.seen.load < p.load + wire.c) xs) (sym done) (along-less wire old at p trail rising inside here)) in
          let last : (d : Candidate) → 0 < length K → no_later o.seen.time (get_or K (length K - 1) d).seen.time ≡ false = λ d some.
          let place : length K - 1 ≡ kept - 1 = omega arith in
          let at_last : get_or K (length K - 1) d ≡ stored_candidate trail (get_or items (kept - 1) m) =
          ap (λ (k : ℕ). get_or K k d) place ∙ all_of-at trail (take kept items) (kept - 1) m d (omega arith)
          ∙ ap (stored_candidate trail) (get_or-take kept items (kept - 1) m (omega arith)) in
          subst (λ (x : Candidate). no_later o.seen.time x.seen.time ≡ false) (sym at_last) (later (omega arith)) in
          ap (all_of trail) more
          ∙ all_of-append trail (take kept items) (m ∷ [])
          ∙ sym (with_one-last o K (later-than_last K o rises less last))
          ∙ ap (λ (x : Candidate). with_one x K) (moved-is wire p m trail seen named)
          ∙ ap (with_one (along_edge wire (stored_candidate trail p))) done
          ∙ sym (along-more wire old at p trail inside here);
      rest = drop-set-lt (at + 1) items kept m (omega arith) ∙ sym (drop-drop 1 at items) ∙ ap (λ (xs : List Stored). drop 1 xs) are.rest ∙ drop-drop 1 at old;
      behind = omega arith;
      long = length-set items kept m ∙ long;
      marks = λ most all.
          let own : m.mark ≤ most = subst (λ (n : ℕ). n ≤ most) (sym (named ∙ ap (λ (s : Stored). s.mark) here)) (all at p inside) in
          subst (λ (xs : List Stored). All (λ pair. pair.mark ≤ most) xs) (sym more)
          (All-push (λ pair. pair.mark ≤ most) (take kept items) m (are.marks most all) own);
    }

pub wired-drops : (wire : Wire) (old items : List Stored) (kept at : ℕ) (p m : Stored) → IsRising sight old → AreWired wire old items kept at → at < length old →
    p ≡ get_or items at p → sight m ≡ along wire (sight p) → m.mark ≡ p.mark → 0 < kept →
    no_later (sight m).time (sight (get_or items (kept - 1) m)).time ≡ true → AreWired wire old items kept (at + 1)
wired-drops wire old items kept at p m rising are inside is seen named some earlier =
    let behind = are.behind in
    let long = are.long in
    let here = read-old wire old items kept at p are inside is in
    let j : ℕ = kept - 1 in
    let next : j + 1 ≡ kept = omega arith in
    let last : Stored = get_or items j m in
    let split : take kept items ≡ take j items ++ last ∷ [] = ap (λ (k : ℕ). take k items) (sym next) ∙ take_more items j m (omega arith) in
    record {
      done = λ trail.
          let done = are.done trail in
          let K : List Candidate = all_of trail (take kept items) in
          let F : List Candidate = all_of trail (take j items) in
          let o : Candidate = stored_candidate trail m in
          let load = moved-load wire p m seen in
          let parts : K ≡ F ++ stored_candidate trail last ∷ [] = ap (all_of trail) split ∙ all_of-append trail (take j items) (last ∷ []) in
          let less : All (λ x. x.seen.load < o.seen.load) K =
          subst (λ (n : ℕ). All (λ x. x.seen.load < n) K) (sym load)
          (subst (λ (xs : List Candidate). All (λ x. x.seen.load < p.load + wire.c) xs) (sym done) (along-less wire old at p trail rising inside here)) in
          let both : All (λ x. x.seen.load < o.seen.load) (F ++ stored_candidate trail last ∷ []) = subst (All (λ x. x.seen.load < o.seen.load)) parts less in
          let size = length-append F (stored_candidate trail last ∷ []) in
          let front : All (λ x. x.seen.load < o.seen.load) F = λ k d before.
          subst (λ (x : Candidate). x.seen.load < o.seen.load) (get_or_append_left F (stored_candidate trail last ∷ []) d k before) (both k d (omega arith)) in
          let end : last.load < o.seen.load =
          subst (λ (x : Candidate). x.seen.load < o.seen.load) (get_or_at F (stored_candidate trail last) [] o (length F) refl) (both (length F) o (omega arith)) in
          let served : serves (sight last) o.seen ≡ true = serves-from (sight last) o.seen (record { load = omega arith; time = earlier }) in
          parts
          ∙ sym (with_one-dropped o (stored_candidate trail last) F [] front served)
          ∙ ap (with_one o) (sym parts)
          ∙ ap (λ (x : Candidate). with_one x K) (moved-is wire p m trail seen named)
          ∙ ap (with_one (along_edge wire (stored_candidate trail p))) done
          ∙ sym (along-more wire old at p trail inside here);
      rest = sym (drop-drop 1 at items) ∙ ap (λ (xs : List Stored). drop 1 xs) are.rest ∙ drop-drop 1 at old;
      behind = omega arith;
      long = long;
      marks = are.marks;
    }

pub wired-none : (wire : Wire) (old : List Stored) → AreWired wire old old 0 0
wired-none wire old = record {
  done = λ trail. refl;
  rest = refl;
  behind = omega arith;
  long = refl;
  marks = λ most all. All-nil (λ (pair : Stored). pair.mark ≤ most);
}

pub wired-all : (wire : Wire) (old items : List Stored) (kept at : ℕ) (trail : List Chosen) → AreWired wire old items kept at → length old ≤ at →
    all_of trail (take kept items) ≡ all_along wire (all_of trail old)
wired-all wire old items kept at trail are end = are.done trail ∙ ap (λ (xs : List Stored). all_along wire (all_of trail xs)) (take_all at old end)

-- the two ways on, by what the code asks
pub wired-later : (wire : Wire) (old items : List Stored) (kept at : ℕ) (p m last : Stored) (later : Bool) → IsRising seen_of (pairs_of old) → AreWired wire old items kept at →
    at < length old → p ≡ get_or items at p → sight m ≡ along wire (sight p) → m.mark ≡ p.mark → last ≡ get_or items (kept - 1) last →
    later ≡ not (no_later (sight m).time (sight last).time) → later ≡ true → AreWired wire old (set items kept m) (kept + 1) (at + 1)
wired-later wire old items kept at p m last later rising are inside is seen named last_is later_is yes_later =
    let behind = are.behind in
    let long = are.long in
    let same : last ≡ get_or items (kept - 1) m = last_is ∙ get_or_default items (kept - 1) last m (omega arith) in
    let time : no_later (sight m).time (sight last).time ≡ false = not-true (no_later (sight m).time (sight last).time) (sym later_is ∙ yes_later) in
    wired-keeps wire old items kept at p m (stored-rising old rising) are inside is seen named
    (λ some. subst (λ (s : Stored). no_later (sight m).time (sight s).time ≡ false) same time)

pub wired-earlier : (wire : Wire) (old items : List Stored) (kept at : ℕ) (p m last : Stored) (later : Bool) → IsRising seen_of (pairs_of old) → AreWired wire old items kept at →
    at < length old → p ≡ get_or items at p → sight m ≡ along wire (sight p) → m.mark ≡ p.mark → last ≡ get_or items (kept - 1) last → 0 < kept →
    later ≡ not (no_later (sight m).time (sight last).time) → later ≡ false → AreWired wire old items kept (at + 1)
wired-earlier wire old items kept at p m last later rising are inside is seen named last_is some later_is not_later =
    let behind = are.behind in
    let long = are.long in
    let same : last ≡ get_or items (kept - 1) m = last_is ∙ get_or_default items (kept - 1) last m (omega arith) in
    let time : no_later (sight m).time (sight last).time ≡ true = not-false (no_later (sight m).time (sight last).time) (sym later_is ∙ not_later) in
    wired-drops wire old items kept at p m (stored-rising old rising) are inside is seen named some
    (subst (λ (s : Stored). no_later (sight m).time (sight s).time ≡ true) same time)

pub wired-first : (wire : Wire) (old : List Stored) (p m : Stored) → IsRising seen_of (pairs_of old) → 0 < length old → p ≡ get_or old 0 p →
    sight m ≡ along wire (sight p) → m.mark ≡ p.mark → AreWired wire old (set old 0 m) 1 1
wired-first wire old p m rising some is seen named =
    wired-keeps wire old old 0 0 p m (stored-rising old rising) (wired-none wire old) some is seen named (λ none. absurd (omega arith))

-- the last pair that was kept
pub last-later : (items new : List Stored) (kept next : ℕ) (m last : Stored) → new ≡ set items kept m → next ≡ kept + 1 → last ≡ m → kept < length items →
    last ≡ get_or new (next - 1) last
last-later items new kept next m last new_is next_is last_is inside =
    let place : kept ≡ next - 1 = omega arith in
    last_is ∙ sym (get_or-set_same items kept m last inside)
    ∙ ap (λ (k : ℕ). get_or (set items kept m) k last) place
    ∙ ap (λ (xs : List Stored). get_or xs (next - 1) last) (sym new_is)

pub last-stays : (items new : List Stored) (kept next : ℕ) (before last : Stored) → new ≡ items → next ≡ kept → last ≡ before →
    before ≡ get_or items (kept - 1) before → last ≡ get_or new (next - 1) last
last-stays items new kept next before last new_is next_is last_is is =
    last_is ∙ is
    ∙ ap (λ (d : Stored). get_or items (kept - 1) d) (sym last_is)
    ∙ ap (λ (k : ℕ). get_or items (k - 1) last) (sym next_is)
    ∙ ap (λ (xs : List Stored). get_or xs (next - 1) last) (sym new_is)

-- pairs that were taken along an edge are a list
pub along-list : (wire : Wire) (old new : List Stored) → 0 < length new → all_of [] new ≡ all_along wire (all_of [] old) → IsList (pairs_of new)
along-list wire old new some is = record {
  some = let long = length-map new pair_of in omega arith;
  rising = rising-all_of [] new (subst AreRising (sym is) (along-rising wire (all_of [] old)));
}
