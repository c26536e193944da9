-- The record of a net: its tokens, and what is read of them.
use Rattle.std.specs.Prelude.{codes}
use Rattle.std.proofs.Common.{◌≡◌, ℕ, ◌^◌, ◌<◌, true, false, ◌&&◌, ◌==◌, nat_lt, nat_eq, List, [], ◌∷◌, ◌++◌, map, length, Some, Ok, slice_get, refl, sym, ap, ◌∙◌, append_assoc, append-nil, arith}
use Rattle.std.specs.List.{AllByRecursion, list_any, flat_map}
use Rattle.std.specs.Str.{bytes_eq}
use Rattle.std.specs.Fmt.{decimal, signed_decimal}
use Rattle.std.proofs.lemmas.Bool.{and_from, and_right}
use Rattle.std.proofs.lemmas.Bool.Decides.{nat_tests}
use Rattle.std.proofs.lemmas.Fmt.{decimal_nonempty}
use Rattle.gr_base.specs.declared.frame.Frame.{Frame}
use Rattle.gr_base.specs.declared.frame.Net.{Net}
use Rattle.gr_base.specs.Grid.{cells_of, place_at}
use Rattle.gr_base.specs.EdgeSets.{Edges}
use Rattle.gr_base.specs.Designs.{DesignView, IsNet, IsFrame, net_with_id, centre_of}
use Rattle.gr_text.specs.Tokens.{is_blank, tokens}
use Rattle.gr_text.specs.Numbers.{all_digits, decimal_value, number_in}
use Rattle.solution_text.specs.declared.run.Run.{Run}
use Rattle.solution_text.specs.Runs.{runs_of}
use Rattle.solution_text.specs.Grammar.{Mode, Between, Named, First, Within, Progress, net_of, is_number, is_straight, step}
use Rattle.solution_text.specs.Cover.{go_on, read}
use Rattle.solution_text.specs.WrittenText.{point_text, segment_text, segment_line, record_text}
use Rattle.solution_text.proofs.TokenLemmas.{NonePass, none-append, token-first, name-some, name-is-clear}
use Rattle.solution_text.proofs.NumberLemmas.{id-back, natural-blank, whole-blank}
use Rattle.solution_text.proofs.CentreLemmas.{x-small, y-small, few-layers}
use Rattle.solution_text.proofs.SegmentLemmas.{segment-back}

-- a straight run between cells of the grid
pub record IsGridRun (frame : Frame) (run : Run) : Type 0 where
  pub first : run.from < cells_of frame.shape
  pub last : run.to < cells_of frame.shape
  pub straight : is_straight (place_at frame.shape run.from) (place_at frame.shape run.to) ≡ true

-- ---- the tokens of a record

module _ (frame : Frame) (ok : IsFrame frame) where
  point-blank : (cell : ℕ) → cell < cells_of frame.shape → NonePass is_blank (point_text (centre_of frame cell))
  point-blank cell inside =
      let p = centre_of frame cell in
      let x = x-small frame ok cell inside in
      let y = y-small frame ok cell inside in
      let layer = few-layers frame ok cell inside in
      none-append is_blank (codes "(" ++ signed_decimal p.x ++ codes "," ++ signed_decimal p.y ++ codes "," ++ decimal p.layer) (codes ")")
      (none-append is_blank (codes "(" ++ signed_decimal p.x ++ codes "," ++ signed_decimal p.y ++ codes ",") (decimal p.layer)
      (none-append is_blank (codes "(" ++ signed_decimal p.x ++ codes "," ++ signed_decimal p.y) (codes ",")
      (none-append is_blank (codes "(" ++ signed_decimal p.x ++ codes ",") (signed_decimal p.y)
      (none-append is_blank (codes "(" ++ signed_decimal p.x) (codes ",")
      (none-append is_blank (codes "(") (signed_decimal p.x) (refl, tt) (whole-blank p.x (omega arith)))
      (refl, tt)) (whole-blank p.y (omega arith))) (refl, tt)) (natural-blank p.layer (omega arith))) (refl, tt)

  segment-blank : (run : Run) → IsGridRun frame run → NonePass is_blank (segment_text frame run)
  segment-blank run good =
      none-append is_blank (point_text (centre_of frame run.from) ++ codes "-") (point_text (centre_of frame run.to))
      (none-append is_blank (point_text (centre_of frame run.from)) (codes "-") (point-blank run.from good.first) (refl, tt))
      (point-blank run.to good.last)

  line-first : (run : Run) (rest : List ℕ) → IsGridRun frame run → tokens (segment_line frame run ++ rest) ≡ segment_text frame run ∷ tokens rest
  line-first run rest good =
      ap tokens (append_assoc (segment_text frame run) (codes "\n") rest)
      ∙ token-first (segment_text frame run) 10 rest (omega arith) (segment-blank run good) refl

  pub lines-tokens : (runs : List Run) (rest : List ℕ) → AllByRecursion (IsGridRun frame) runs →
      tokens (flat_map (segment_line frame) runs ++ rest) ≡ map (segment_text frame) runs ++ tokens rest
  lines-tokens [] rest good = refl
  lines-tokens (run ∷ runs) rest good =
      ap tokens (append_assoc (segment_line frame run) (flat_map (segment_line frame) runs) rest)
      ∙ line-first run (flat_map (segment_line frame) runs ++ rest) good.0
      ∙ ap (λ (t : List (List ℕ)). segment_text frame run ∷ t) (lines-tokens runs rest good.1)

  pub record-tokens : (net : Net) (set : Edges) (rest : List ℕ) → IsNet frame.shape net → AllByRecursion (IsGridRun frame) (runs_of frame.shape set) →
      tokens (record_text frame net set ++ rest) ≡ net.name ∷ decimal net.id ∷ (map (segment_text frame) (runs_of frame.shape set) ++ codes "!" ∷ tokens rest)
  record-tokens net set rest good runs =
      let lines = flat_map (segment_line frame) (runs_of frame.shape set) in
      let small : net.id < 2 ^ 64 = let i = good.id in omega arith in
      let apart : record_text frame net set ++ rest ≡ net.name ++ 32 ∷ (decimal net.id ++ 10 ∷ (lines ++ (codes "!" ++ 10 ∷ rest))) = simp append_assoc in
      ap tokens apart
      ∙ token-first net.name 32 (decimal net.id ++ 10 ∷ (lines ++ (codes "!" ++ 10 ∷ rest))) (name-some net.name good.name) (name-is-clear net.name good.name) refl
      ∙ ap (λ (t : List (List ℕ)). net.name ∷ t)
      (token-first (decimal net.id) 10 (lines ++ (codes "!" ++ 10 ∷ rest)) (decimal_nonempty net.id small) (natural-blank net.id small) refl
      ∙ ap (λ (t : List (List ℕ)). decimal net.id ∷ t)
      (lines-tokens (runs_of frame.shape set) (codes "!" ++ 10 ∷ rest) runs
      ∙ ap (λ (t : List (List ℕ)). map (segment_text frame) (runs_of frame.shape set) ++ t) (token-first (codes "!") 10 rest (omega arith) (refl, tt) refl)))

-- ---- the record read back

pub read-step : (d : DesignView) (s next : Progress) (token : List ℕ) (rest : List (List ℕ)) → step d s token ≡ Ok next →
    read d s (token ∷ rest) ≡ read d next rest
read-step d s next token rest h = ap (go_on s (λ progress. read d progress rest)) h

bracket-number : (rest : List ℕ) → is_number (40 ∷ rest) ≡ false
unfolding number_in decimal_value
bracket-number rest =
    let other : (nat_lt 0 (length (40 ∷ rest)) && all_digits (40 ∷ rest)) ≡ false = and_right (nat_lt 0 (length (40 ∷ rest))) (all_digits (40 ∷ rest)) refl in
    rw other refl

same-bytes : (bytes : List ℕ) → bytes_eq bytes bytes ≡ true
same-bytes [] = refl
same-bytes (byte ∷ bytes) = and_from (nat_eq byte byte) (bytes_eq bytes bytes) (grind (arith, nat_tests)) (same-bytes bytes)

-- a run of a net, beside its number
abbrev pub with_net : ℕ → Run → ℕ × Run
with_net net run = (net, run)

abbrev pub progress : Mode → List ℕ → List (ℕ × Run) → Progress
progress mode met found = record { mode = mode; met = met; found = found }

module _ (d : DesignView) (ok : IsFrame d.frame) where
  -- in this mode of a net's record, "!" ends it, and a segment is one more run of the net
  record GoesOn (net : ℕ) (mode : Mode) : Type 0 where
    ends : (met : List ℕ) (found : List (ℕ × Run)) →
        step d (progress mode met found) (codes "!") ≡ Ok (progress Between met found)
    adds : (met : List ℕ) (found : List (ℕ × Run)) (run : Run) → IsGridRun d.frame run →
        step d (progress mode met found) (segment_text d.frame run)
        ≡ Ok (progress (Within net) met (found ++ (net, run) ∷ []))

  on-within : (net : ℕ) → GoesOn net (Within net)
  on-within net = record {
    ends = λ met found. refl;
    adds = λ met found run good. rw (segment-back d.frame ok run good.first good.last good.straight) refl;
  }

  on-first : (net : ℕ) → GoesOn net (First net)
  on-first net = record {
    ends = λ met found. refl;
    adds = λ met found run good.
        rw (bracket-number _, segment-back d.frame ok run good.first good.last good.straight) refl;
  }

  runs-read : (net : ℕ) (mode : Mode) (met : List ℕ) (found : List (ℕ × Run)) (runs : List Run) (rest : List (List ℕ)) →
      GoesOn net mode → AllByRecursion (IsGridRun d.frame) runs →
      read d (progress mode met found) (map (segment_text d.frame) runs ++ codes "!" ∷ rest)
      ≡ read d (progress Between met (found ++ map (with_net net) runs)) rest
  runs-read net mode met found [] rest on good =
      read-step d (progress mode met found) (progress Between met found) (codes "!") rest (on.ends met found)
      ∙ ap (λ (f : List (ℕ × Run)). read d (progress Between met f) rest) (sym (append-nil found))
  runs-read net mode met found (run ∷ runs) rest on good =
      read-step d (progress mode met found) (progress (Within net) met (found ++ (net, run) ∷ []))
      (segment_text d.frame run) (map (segment_text d.frame) runs ++ codes "!" ∷ rest) (on.adds met found run good.0)
      ∙ runs-read net (Within net) met (found ++ (net, run) ∷ []) runs rest (on-within net) good.1
      ∙ ap (λ (f : List (ℕ × Run)). read d (progress Between met f) rest)
      (append_assoc found ((net, run) ∷ []) (map (with_net net) runs))

  net-back : (number : ℕ) (net : Net) (met : List ℕ) → IsNet d.frame.shape net → slice_get d.nets number ≡ Some net →
      net_with_id d net.id ≡ Some number → list_any (λ other. other == number) met ≡ false → net_of d met net.name (decimal net.id) ≡ Ok number
  net-back number net met good at id fresh =
      rw (id-back net.id good.id) (rw (id) (rw (at, same-bytes net.name, fresh) refl))

  -- a routed net's record adds its runs
  pub record-read : (number : ℕ) (net : Net) (runs : List Run) (met : List ℕ) (found : List (ℕ × Run)) (rest : List (List ℕ)) →
      IsNet d.frame.shape net → slice_get d.nets number ≡ Some net → net_with_id d net.id ≡ Some number →
      list_any (λ other. other == number) met ≡ false → AllByRecursion (IsGridRun d.frame) runs →
      read d (progress Between met found) (net.name ∷ decimal net.id ∷ (map (segment_text d.frame) runs ++ codes "!" ∷ rest))
      ≡ read d (progress Between (number ∷ met) (found ++ map (with_net number) runs)) rest
  record-read number net runs met found rest good at id fresh straight =
      let after = map (segment_text d.frame) runs ++ codes "!" ∷ rest in
      let named : step d (progress (Named net.name) met found) (decimal net.id) ≡ Ok (progress (First number) (number ∷ met) found) =
      rw (net-back number net met good at id fresh) refl in
      read-step d (progress Between met found) (progress (Named net.name) met found) net.name (decimal net.id ∷ after) refl
      ∙ read-step d (progress (Named net.name) met found) (progress (First number) (number ∷ met) found) (decimal net.id) after named
      ∙ runs-read number (First number) (number ∷ met) found runs rest (on-first number) straight
