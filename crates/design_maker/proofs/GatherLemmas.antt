-- The text that is written and gathered while a made design is written.
use Rattle.std.proofs.Common.{◌≡◌, ℕ, ◌+◌, ◌-◌, ◌≤◌, List, [], ◌++◌, refl, sym, ap, ◌∙◌, append-nil, arith}
use Rattle.gr_io.specs.Parts.{AppendsPart}
use Rattle.route_writer.proofs.WriteLemmas.{Stands, stands-put, stands-part, stands-cut}
use Rattle.design_maker.specs.Nets.{net}
use Rattle.design_maker.specs.Texts.{line, lines_text, head_lines, last_line, text_of}
use Rattle.design_maker.specs.declared.made.Made.{Made}
use Rattle.design_maker.proofs.TextLemmas.{nets_before, net_text, text_before, text_behind, text-first, text-more, text-whole, text-parts}

-- nothing is written
pub nothing-yet : (old text : List ℕ) → AppendsPart old old text
nothing-yet old text = record { done = []; rest = text; written = sym (append-nil old); whole = refl }

module _ (made : Made) where
  -- the lines before the nets are gathered
  pub stands-head : (old empty start : List ℕ) → empty ≡ [] → start ≡ empty ++ lines_text (head_lines made) → Stands old old start (text_before made 0)
  stands-head old empty start none put = record { done = []; is = sym (append-nil old); whole = text-first made empty start none put }

  -- the lines of one more net are gathered
  pub stands-more : {old written gathered : List ℕ} (count state : ℕ) (next : List ℕ) → state ≡ (nets_before made count).1 →
      next ≡ gathered ++ net_text made (net made count state).0 → Stands old written gathered (text_before made count) → Stands old written next (text_before made (count + 1))
  stands-more count state next is put s =
      stands-put (net_text made (net made count state).0) next (text_before made (count + 1)) put (text-more made count state is) s

  -- the last line is gathered
  pub stands-end : {old written gathered : List ℕ} (count : ℕ) (next : List ℕ) → count ≡ made.nets → next ≡ gathered ++ line last_line →
      Stands old written gathered (text_before made count) → Stands old written next (text_of made)
  stands-end count next all put s =
      stands-put (line last_line) next (text_of made) put (text-whole made ∙ ap (λ (n : ℕ). text_before made n ++ line last_line) (sym all)) s

  parts : (count : ℕ) → count ≤ made.nets → text_of made ≡ text_before made count ++ text_behind made count (made.nets - count)
  parts count most = text-parts made count (made.nets - count) (omega arith)

  -- nothing more is written
  pub part-written : {old written gathered : List ℕ} (count : ℕ) → count ≤ made.nets → Stands old written gathered (text_before made count) →
      AppendsPart old written (text_of made)
  part-written count most s = stands-part (text_of made) (text_behind made count (made.nets - count)) (parts count most) s

  -- a part of what was gathered is written
  pub part-cut : {old written gathered : List ℕ} (count : ℕ) (next : List ℕ) → count ≤ made.nets → AppendsPart written next gathered →
      Stands old written gathered (text_before made count) → AppendsPart old next (text_of made)
  part-cut count next most part s = stands-cut next (text_of made) (text_behind made count (made.nets - count)) (parts count most) part s

  -- and likewise at the end
  pub end-cut : {old written gathered : List ℕ} (next : List ℕ) → AppendsPart written next gathered → Stands old written gathered (text_of made) → AppendsPart old next (text_of made)
  end-cut next part s = stands-cut next (text_of made) [] (sym (append-nil (text_of made))) part s
