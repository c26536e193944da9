-- The text that is written so far, and what is gathered of it.
use Rattle.std.proofs.Common.{◌≡◌, ℕ, zero, suc, ◌+◌, ◌-◌, ◌≤◌, true, false, List, [], ◌∷◌, ◌++◌, length, Option, Some, None, Result, Ok, Err, slice_get, refl, sym, ap, ◌∙◌, append_assoc, append-nil, arith}
use Rattle.std.specs.List.{flat_map, range_with_len}
use Rattle.std.proofs.lemmas.List.Concat.{flat_map-append}
use Rattle.gr_base.specs.declared.frame.Net.{Net}
use Rattle.gr_base.specs.Designs.{DesignView, is_routed, is_routed_net}
use Rattle.gr_base.specs.EdgeSets.{Edges}
use Rattle.gr_io.specs.Parts.{AppendsPart}
use Rattle.gr_base.specs.Trees.{TreeView, edges_of, tree_at, edges_or_none, route_edges}
use Rattle.std.specs.Result.{OnErr}
use Rattle.route_writer.specs.RouteTexts.{net_text, nets_text, routes_text}
use Rattle.solution_text.specs.WrittenText.{record_text, text_of_net, written_text}

-- the text of the first nets
abbrev pub text_before : DesignView → (ℕ → Edges) → ℕ → List ℕ
text_before d sets count = flat_map (λ net. text_of_net d.frame (slice_get d.nets net) (sets net)) (range_with_len 0 count)

range-split : (a m n : ℕ) → range_with_len a (m + n) ≡ range_with_len a m ++ range_with_len (a + m) n
range-split a zero n =
    let e : zero + n ≡ n = omega arith in
    let f : a + zero ≡ a = omega arith in
    ap (range_with_len a) e ∙ ap (λ (b : ℕ). range_with_len b n) (sym f)
range-split a (suc m) n =
    let e : suc m + n ≡ suc (m + n) = omega arith in
    let f : a + 1 + m ≡ a + suc m = omega arith in
    ap (range_with_len a) e ∙ ap (λ (xs : List ℕ). a ∷ xs) (range-split (a + 1) m n ∙ ap (λ (b : ℕ). range_with_len (a + 1) m ++ range_with_len b n) f)

module _ (d : DesignView) (sets : ℕ → Edges) where
  abbrev pub text_at : ℕ → List ℕ
  text_at net = text_of_net d.frame (slice_get d.nets net) (sets net)

  pub before-more : (count : ℕ) → text_before d sets (count + 1) ≡ text_before d sets count ++ text_at count
  before-more count =
      ap (flat_map text_at) (range-split 0 count 1)
      ∙ flat_map-append text_at (range_with_len 0 count) (range_with_len (0 + count) 1)
      ∙ ap (λ (t : List ℕ). text_before d sets count ++ t) (append-nil (text_at (0 + count)) ∙ ap text_at (let e : 0 + count ≡ count = omega arith in e))

  -- the text behind the first nets
  abbrev pub text_behind : ℕ → List ℕ
  text_behind count = flat_map text_at (range_with_len (0 + count) (length d.nets - count))

  pub before-behind : (count : ℕ) → count ≤ length d.nets → written_text d sets ≡ text_before d sets count ++ text_behind count
  before-behind count most =
      let e : length d.nets ≡ count + (length d.nets - count) = omega arith in
      ap (λ (n : ℕ). flat_map text_at (range_with_len 0 n)) e
      ∙ ap (flat_map text_at) (range-split 0 count (length d.nets - count))
      ∙ flat_map-append text_at (range_with_len 0 count) (range_with_len (0 + count) (length d.nets - count))

  pub text-skip : (net : ℕ) → is_routed d net ≡ false → text_at net ≡ []
  text-skip net off = skip (slice_get d.nets net) off
    where
      skip : (o : Option Net) → is_routed_net o ≡ false → text_of_net d.frame o (sets net) ≡ []
      skip None h = refl
      skip (Some n) h = rw h refl

  pub text-of : (net : ℕ) (value : Net) → slice_get d.nets net ≡ Some value → is_routed d net ≡ true → text_at net ≡ record_text d.frame value (sets net)
  text-of net value at on =
      let by : Option Net → List ℕ = λ o. text_of_net d.frame o (sets net) in
      ap by at ∙ rw (sym (ap is_routed_net at) ∙ on) refl

-- the record of a routed net with a tree
pub text-routed : (d : DesignView) (trees : List (Option TreeView)) (net : ℕ) (value : Net) (tree : TreeView) → slice_get d.nets net ≡ Some value →
    is_routed d net ≡ true → tree_at trees net ≡ Some tree → net_text d trees net ≡ record_text d.frame value (edges_of tree)
text-routed d trees net value tree at on has =
    text-of d (route_edges trees) net value at on ∙ ap (λ (o : Option TreeView). record_text d.frame value (edges_or_none o)) has

pub on-err : {A E : Type 0} (r : Result A E) (P : Type 0) → P → OnErr r P
on-err (Ok a) P p = tt
on-err (Err e) P p = p

-- what was written and what is gathered are together the text so far
pub record Stands (old written gathered text : List ℕ) : Type 0 where
  pub done : List ℕ
  pub is : written ≡ old ++ done
  pub whole : done ++ gathered ≡ text

pub stands-first : (old gathered text : List ℕ) → gathered ≡ [] → text ≡ [] → Stands old old gathered text
stands-first old gathered text none empty = record { done = []; is = sym (append-nil old); whole = none ∙ sym empty }

pub stands-put : {old written gathered text : List ℕ} (added next more : List ℕ) → next ≡ gathered ++ added → more ≡ text ++ added →
    Stands old written gathered text → Stands old written next more
stands-put {gathered = gathered} added next more put longer s = record {
  done = s.done;
  is = s.is;
  whole = ap (λ (t : List ℕ). s.done ++ t) put ∙ sym (append_assoc s.done gathered added) ∙ ap (λ (t : List ℕ). t ++ added) s.whole ∙ sym longer;
}

-- the record of one more net is gathered
pub stands-net : {old written gathered : List ℕ} (d : DesignView) (trees : List (Option TreeView)) (net : ℕ) (next : List ℕ) → next ≡ gathered ++ net_text d trees net →
    Stands old written gathered (text_before d (route_edges trees) net) → Stands old written next (text_before d (route_edges trees) (net + 1))
stands-net d trees net next put s =
    stands-put (net_text d trees net) next (text_before d (route_edges trees) (net + 1)) put (before-more d (route_edges trees) net) s

pub stands-flushed : {old written gathered text : List ℕ} (next left : List ℕ) → next ≡ written ++ gathered → left ≡ [] → Stands old written gathered text →
    Stands old next left text
stands-flushed {old} {written} {gathered} next left wrote none s = record {
  done = s.done ++ gathered;
  is = wrote ∙ ap (λ (t : List ℕ). t ++ gathered) s.is ∙ append_assoc old s.done gathered;
  whole = ap (λ (t : List ℕ). (s.done ++ gathered) ++ t) none ∙ append-nil (s.done ++ gathered) ∙ s.whole;
}

-- all is written
pub stands-whole : {old written gathered text : List ℕ} (next : List ℕ) → next ≡ written ++ gathered → Stands old written gathered text → next ≡ old ++ text
stands-whole {old} {written} {gathered} next wrote s =
    wrote ∙ ap (λ (t : List ℕ). t ++ gathered) s.is ∙ append_assoc old s.done gathered ∙ ap (λ (t : List ℕ). old ++ t) s.whole

-- nothing more is written
pub stands-part : {old written gathered text : List ℕ} (whole behind : List ℕ) → whole ≡ text ++ behind → Stands old written gathered text → AppendsPart old written whole
stands-part {gathered = gathered} whole behind is s = record {
  done = s.done;
  rest = gathered ++ behind;
  written = s.is;
  whole = sym (append_assoc s.done gathered behind) ∙ ap (λ (t : List ℕ). t ++ behind) s.whole ∙ sym is;
}

-- a part of what was gathered is written
pub stands-cut : {old written gathered text : List ℕ} (next whole behind : List ℕ) → whole ≡ text ++ behind → AppendsPart written next gathered →
    Stands old written gathered text → AppendsPart old next whole
stands-cut {old} next whole behind is part s = record {
  done = s.done ++ part.done;
  rest = part.rest ++ behind;
  written = part.written ∙ ap (λ (t : List ℕ). t ++ part.done) s.is ∙ append_assoc old s.done part.done;
  whole =
      append_assoc s.done part.done (part.rest ++ behind)
      ∙ ap (λ (t : List ℕ). s.done ++ t) (sym (append_assoc part.done part.rest behind) ∙ ap (λ (t : List ℕ). t ++ behind) part.whole)
      ∙ sym (append_assoc s.done _ behind) ∙ ap (λ (t : List ℕ). t ++ behind) s.whole ∙ sym is;
}

-- a first part of a text is one of a longer text
pub part-more : {old new text : List ℕ} (more whole : List ℕ) → whole ≡ text ++ more → AppendsPart old new text → AppendsPart old new whole
part-more more whole is part = record {
  done = part.done;
  rest = part.rest ++ more;
  written = part.written;
  whole = sym (append_assoc part.done part.rest more) ∙ ap (λ (t : List ℕ). t ++ more) part.whole ∙ sym is;
}

-- ---- the records of nets from one number on

module _ (d : DesignView) (trees : List (Option TreeView)) where
  pub nets-none : (first last : ℕ) → first ≡ last → nets_text d trees first last ≡ []
  nets-none first last is = let e : last - first ≡ 0 = omega arith in ap (λ (n : ℕ). flat_map (net_text d trees) (range_with_len first n)) e

  pub nets-join : (a b c : ℕ) → a ≤ b → b ≤ c → nets_text d trees a c ≡ nets_text d trees a b ++ nets_text d trees b c
  nets-join a b c low high =
      let e : c - a ≡ (b - a) + (c - b) = omega arith in
      let f : a + (b - a) ≡ b = omega arith in
      ap (λ (n : ℕ). flat_map (net_text d trees) (range_with_len a n)) e
      ∙ ap (flat_map (net_text d trees)) (range-split a (b - a) (c - b))
      ∙ flat_map-append (net_text d trees) (range_with_len a (b - a)) (range_with_len (a + (b - a)) (c - b))
      ∙ ap (λ (n : ℕ). nets_text d trees a b ++ flat_map (net_text d trees) (range_with_len n (c - b))) f

  pub nets-next : (a k : ℕ) → a ≤ k → nets_text d trees a (k + 1) ≡ nets_text d trees a k ++ net_text d trees k
  nets-next a k low =
      let e : (k + 1) - k ≡ 1 = omega arith in
      nets-join a k (k + 1) low (omega arith)
      ∙ ap (λ (t : List ℕ). nets_text d trees a k ++ t)
      (ap (λ (n : ℕ). flat_map (net_text d trees) (range_with_len k n)) e ∙ append-nil (net_text d trees k))

  pub nets-all : nets_text d trees 0 (length d.nets) ≡ routes_text d trees
  nets-all = let e : length d.nets - 0 ≡ length d.nets = omega arith in ap (λ (n : ℕ). flat_map (net_text d trees) (range_with_len 0 n)) e
