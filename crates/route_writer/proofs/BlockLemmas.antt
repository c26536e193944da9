-- The texts of blocks of nets.
use Rattle.std.proofs.Common.{◌≡◌, ℕ, zero, suc, ◌+◌, ◌*◌, ◌<◌, ◌≤◌, inl, inr, true, false, List, [], ◌∷◌, ◌++◌, length, get_or, drop, take, All, Option, slice_index_or, IsTrue, refl, sym, ap, subst, ◌∙◌, append_assoc, append-nil, arith}
use Rattle.std.proofs.lemmas.Bool.{cases_Bool, both_ways}
use Rattle.std.proofs.lemmas.List.{take_all, take_more}
use Rattle.std.proofs.lemmas.List.Elements.{All-head, All-tail, All-push, All-same}
use Rattle.beside_calls.specs.Blocks.{block_start}
use Rattle.gr_base.specs.Designs.{DesignView}
use Rattle.gr_base.specs.Trees.{TreeView}
use Rattle.gr_io.specs.Parts.{AppendsPart}
use Rattle.route_writer.specs.RouteTexts.{nets_text, routes_text}
use Rattle.route_writer.specs.Blocks.{IsPut, ArePut, texts_of}
use Rattle.route_writer.specs.declared.blocks.BlockRecords.{BlockRecords}
use Rattle.route_writer.proofs.WriteLemmas.{Stands, stands-cut, part-more, nets-none, nets-join, nets-all}

-- blocks begin one behind the other
pub starts-rise : (d : DesignView) (from size k more : ℕ) → block_start (length d.nets) from size k ≤ block_start (length d.nets) from size (k + more)
starts-rise d from size k more = let e : (k + more) * size ≡ k * size + more * size = omega arith in omega arith

-- the texts from a block on
from-whole : (blocks : List BlockRecords) (i : ℕ) (d : BlockRecords) → i < length blocks → (get_or blocks i d).whole ≡ true →
    texts_of (drop i blocks) ≡ (get_or blocks i d).draft.text ++ texts_of (drop (i + 1) blocks)
from-whole [] i d below whole = absurd (omega arith)
from-whole (b ∷ bs) zero d below whole = rw whole refl
from-whole (b ∷ bs) (suc i) d below whole =
    let e : suc (i + 1) ≡ suc i + 1 = omega arith in
    from-whole bs i d (omega arith) whole ∙ ap (λ (n : ℕ). (get_or bs i d).draft.text ++ texts_of (drop n (b ∷ bs))) e

pub texts-cut : (blocks : List BlockRecords) (i : ℕ) (d : BlockRecords) → i < length blocks → (get_or blocks i d).whole ≡ false → texts_of (drop i blocks) ≡ []
texts-cut [] i d below cut = absurd (omega arith)
texts-cut (b ∷ bs) zero d below cut = rw cut refl
texts-cut (b ∷ bs) (suc i) d below cut = texts-cut bs i d (omega arith) cut

-- a turn of the loop over blocks that comes to a whole block
module _ (blocks : List BlockRecords) (i : ℕ) (b : BlockRecords) (below : i < length blocks) (at : b ≡ get_or blocks i b) (whole : b.whole ≡ true) where
  texts-next : texts_of (drop i blocks) ≡ b.draft.text ++ texts_of (drop (i + 1) blocks)
  texts-next =
      from-whole blocks i b below (sym (ap (λ (x : BlockRecords). x.whole) at) ∙ whole)
      ∙ ap (λ (x : BlockRecords). x.draft.text ++ texts_of (drop (i + 1) blocks)) (sym at)

  pub whole-next : All (λ x. IsTrue x.whole) (take i blocks) → All (λ x. IsTrue x.whole) (take (i + 1) blocks)
  whole-next before =
      All-same (λ x. IsTrue x.whole) (take (i + 1) blocks) (take i blocks ++ get_or blocks i b ∷ []) (take_more blocks i b below)
      (All-push (λ x. IsTrue x.whole) (take i blocks) (get_or blocks i b) before (sym (ap (λ (x : BlockRecords). x.whole) at) ∙ whole))

  -- its text is written
  pub stands-block : {old now text : List ℕ} (next bytes : List ℕ) → bytes ≡ b.draft.text → next ≡ now ++ bytes →
      Stands old now (texts_of (drop i blocks)) text → Stands old next (texts_of (drop (i + 1) blocks)) text
  stands-block {old} {now} {text} next bytes is wrote s = record {
    done = s.done ++ bytes;
    is = wrote ∙ ap (λ (t : List ℕ). t ++ bytes) s.is ∙ append_assoc old s.done bytes;
    whole =
        append_assoc s.done bytes (texts_of (drop (i + 1) blocks))
        ∙ ap (λ (t : List ℕ). s.done ++ (t ++ texts_of (drop (i + 1) blocks))) is
        ∙ ap (λ (t : List ℕ). s.done ++ t) (sym texts-next) ∙ s.whole;
  }

  -- a part of it is written
  pub block-cut : {old now : List ℕ} (next bytes : List ℕ) → bytes ≡ b.draft.text → AppendsPart now next bytes →
      Stands old now (texts_of (drop i blocks)) (texts_of blocks) → AppendsPart old next (texts_of blocks)
  block-cut next bytes is part s =
      stands-cut next (texts_of blocks) [] (sym (append-nil (texts_of blocks)))
      (part-more (texts_of (drop (i + 1) blocks)) (texts_of (drop i blocks))
      (texts-next ∙ ap (λ (t : List ℕ). t ++ texts_of (drop (i + 1) blocks)) (sym is)) part) s

-- all blocks are whole
pub whole-all : (blocks : List BlockRecords) (i : ℕ) → length blocks ≤ i → All (λ x. IsTrue x.whole) (take i blocks) → All (λ x. IsTrue x.whole) blocks
whole-all blocks i done all = All-same (λ x. IsTrue x.whole) blocks (take i blocks) (sym (take_all i blocks done)) all

-- the texts of blocks are a first part of the records of their nets, and all of them where the blocks are whole
pub record AreTexts (d : DesignView) (trees : List (Option TreeView)) (first last : ℕ) (blocks : List BlockRecords) : Type 0 where
  pub rest : List ℕ
  pub is : nets_text d trees first last ≡ texts_of blocks ++ rest
  pub none : All (λ b. IsTrue b.whole) blocks → rest ≡ []

pub texts-put : (d : DesignView) (trees : List (Option TreeView)) (from size k : ℕ) (blocks : List BlockRecords) →
    ((at : ℕ) (b : BlockRecords) → at < length blocks →
    IsPut d trees (block_start (length d.nets) from size (k + at)) (block_start (length d.nets) from size (k + at + 1)) (slice_index_or blocks at b)) →
    AreTexts d trees (block_start (length d.nets) from size k) (block_start (length d.nets) from size (k + length blocks)) blocks
texts-put d trees from size k [] put = record {
  rest = [];
  is = let e : k ≡ k + 0 = omega arith in nets-none d trees (block_start (length d.nets) from size k) (block_start (length d.nets) from size (k + 0)) (ap (block_start (length d.nets) from size) e);
  none = λ all. refl;
}
texts-put d trees from size k (b ∷ bs) put =
    let start : ℕ → ℕ = block_start (length d.nets) from size in
    let last : ℕ = k + length (b ∷ bs) in
    let end : (k + 1) + length bs ≡ last = omega arith in
    elim (cases_Bool b.whole) [
      | inl whole ↦
          let none : k ≡ k + 0 = omega arith in
          let own : b.draft.text ≡ nets_text d trees (start k) (start (k + 1)) =
          put 0 b (omega arith) whole ∙ ap (λ (n : ℕ). nets_text d trees (start n) (start (n + 1))) (sym none) in
          let more = texts-put d trees from size (k + 1) bs (λ at other below wh.
          let e : k + suc at ≡ (k + 1) + at = omega arith in
          put (suc at) other (omega arith) wh ∙ ap (λ (n : ℕ). nets_text d trees (start n) (start (n + 1))) e) in
          record {
            rest = more.rest;
            is =
                nets-join d trees (start k) (start (k + 1)) (start last) (starts-rise d from size k 1)
                (subst (λ (n : ℕ). start (k + 1) ≤ start n) end (starts-rise d from size (k + 1) (length bs)))
                ∙ ap (λ (t : List ℕ). t ++ nets_text d trees (start (k + 1)) (start last)) (sym own)
                ∙ ap (λ (n : ℕ). b.draft.text ++ nets_text d trees (start (k + 1)) (start n)) (sym end)
                ∙ ap (λ (t : List ℕ). b.draft.text ++ t) more.is
                ∙ sym (append_assoc b.draft.text (texts_of bs) more.rest)
                ∙ ap (λ (t : List ℕ). t ++ more.rest) (rw whole refl);
            none = λ all. more.none (All-tail (λ c. IsTrue c.whole) b bs all);
          }
      | inr cut ↦ record {
        rest = nets_text d trees (start k) (start last);
        is = rw cut refl;
        none = λ all. absurd (both_ways b.whole cut (All-head (λ c. IsTrue c.whole) b bs all));
      }
    ]

-- ---- a batch of blocks, from a net on

module _ (d : DesignView) (trees : List (Option TreeView)) (from size count : ℕ) (blocks : List BlockRecords) (within : from ≤ length d.nets)
    (long : length blocks ≡ count) (put : ArePut d trees from size blocks) where
  batch : AreTexts d trees from (block_start (length d.nets) from size count) blocks
  batch =
      let start : ℕ → ℕ = block_start (length d.nets) from size in
      let first : start 0 ≡ from = omega arith in
      let last : 0 + length blocks ≡ count = omega arith in
      let texts = texts-put d trees from size 0 blocks (λ at b below.
      let e : at ≡ 0 + at = omega arith in subst (λ (n : ℕ). IsPut d trees (start n) (start (n + 1)) (slice_index_or blocks at b)) e (put at b below)) in
      subst (λ (n : ℕ). AreTexts d trees n (start count) blocks) first (subst (λ (n : ℕ). AreTexts d trees (start 0) (start n) blocks) last texts)

  rises : from ≤ block_start (length d.nets) from size count
  rises = omega arith

  -- all of them are written
  pub batch-written : (old now next : List ℕ) → now ≡ old ++ nets_text d trees 0 from → next ≡ now ++ texts_of blocks → All (λ b. IsTrue b.whole) blocks →
      next ≡ old ++ nets_text d trees 0 (block_start (length d.nets) from size count)
  batch-written old now next before wrote whole =
      let own : texts_of blocks ≡ nets_text d trees from (block_start (length d.nets) from size count) =
      sym (batch.is ∙ ap (λ (t : List ℕ). texts_of blocks ++ t) (batch.none whole) ∙ append-nil (texts_of blocks)) in
      wrote ∙ ap (λ (t : List ℕ). t ++ texts_of blocks) before ∙ append_assoc old (nets_text d trees 0 from) (texts_of blocks)
      ∙ ap (λ (t : List ℕ). old ++ (nets_text d trees 0 from ++ t)) own
      ∙ ap (λ (t : List ℕ). old ++ t) (sym (nets-join d trees 0 from (block_start (length d.nets) from size count) (omega arith) rises))

  -- a first part of them is written
  pub batch-cut : (old now next : List ℕ) → now ≡ old ++ nets_text d trees 0 from → AppendsPart now next (texts_of blocks) →
      AppendsPart old next (routes_text d trees)
  batch-cut old now next before part =
      let last : ℕ = block_start (length d.nets) from size count in
      let most : last ≤ length d.nets = omega arith in
      let low : from ≤ last = rises in
      let none : 0 ≤ from = omega arith in
      let whole : routes_text d trees ≡ nets_text d trees 0 from ++ nets_text d trees from (length d.nets) =
      sym (nets-all d trees) ∙ nets-join d trees 0 from (length d.nets) none within in
      let rest : nets_text d trees from (length d.nets) ≡ texts_of blocks ++ (batch.rest ++ nets_text d trees last (length d.nets)) =
      nets-join d trees from last (length d.nets) low most ∙ ap (λ (t : List ℕ). t ++ nets_text d trees last (length d.nets)) batch.is
      ∙ append_assoc (texts_of blocks) batch.rest (nets_text d trees last (length d.nets)) in
      let stands : Stands old now (nets_text d trees from (length d.nets)) (routes_text d trees) = record { done = nets_text d trees 0 from; is = before; whole = sym whole } in
      stands-cut next (routes_text d trees) [] (sym (append-nil (routes_text d trees)))
      (part-more (batch.rest ++ nets_text d trees last (length d.nets)) (nets_text d trees from (length d.nets)) rest part) stands
