-- A written segment is read back.
use Rattle.std.specs.Prelude.{codes}
use Rattle.std.proofs.Common.{◌≡◌, ℕ, ◌<◌, Bool, true, ◌&&◌, List, [], ◌∷◌, ◌++◌, Ok, refl, ap, ◌∙◌, append_assoc, arith}
use Rattle.std.specs.List.{filter, slice_split, onto_first}
use Rattle.std.specs.Fmt.{decimal, signed_decimal}
use Rattle.std.proofs.lemmas.Bool.{and_from}
use Rattle.gr_base.specs.declared.frame.Frame.{Frame}
use Rattle.gr_base.specs.declared.frame.Point.{Point}
use Rattle.gr_base.specs.Grid.{cells_of, place_at}
use Rattle.gr_base.specs.Designs.{IsFrame, centre_of}
use Rattle.solution_text.specs.declared.run.Run.{Run}
use Rattle.solution_text.specs.Grammar.{Spot, is_in_range, spot_of, cell_of, is_straight, is_mark, segment}
use Rattle.solution_text.specs.WrittenText.{point_text, segment_text}
use Rattle.solution_text.proofs.TokenLemmas.{NonePass, split-part}
use Rattle.solution_text.proofs.NumberLemmas.{natural-back, whole-back, natural-mark, whole-mark}
use Rattle.solution_text.proofs.CentreLemmas.{centre_spot, centre-readable, centre-cell, x-small, y-small, few-layers}

-- ---- the form of a segment

-- a point in front of further bytes
abbrev point_onto : (x y layer rest : List ℕ) → List ℕ
point_onto x y layer rest = 40 ∷ (x ++ 44 ∷ (y ++ 44 ∷ (layer ++ 41 ∷ rest)))

-- what stands between marks
record Clear (x y layer : List ℕ) : Type 0 where
  first : NonePass is_mark x
  second : NonePass is_mark y
  third : NonePass is_mark layer

point-split : (x y layer rest : List ℕ) → Clear x y layer →
    slice_split is_mark (point_onto x y layer rest) ≡ [] ∷ x ∷ y ∷ layer ∷ slice_split is_mark rest
point-split x y layer rest clear =
    ap (λ (t : List (List ℕ)). let r : List (List ℕ) = [] ∷ t in r)
    (split-part is_mark x 44 (y ++ 44 ∷ (layer ++ 41 ∷ rest)) clear.first refl
    ∙ ap (λ (t : List (List ℕ)). x ∷ t)
    (split-part is_mark y 44 (layer ++ 41 ∷ rest) clear.second refl
    ∙ ap (λ (t : List (List ℕ)). y ∷ t) (split-part is_mark layer 41 rest clear.third refl)))

filter-none : (test : ℕ → Bool) (xs ys : List ℕ) → NonePass test xs → filter test (xs ++ ys) ≡ filter test ys
filter-none test [] ys none = refl
filter-none test (x ∷ xs) ys none = rw (none.0) (filter-none test xs ys none.1)

point-marks : (x y layer rest : List ℕ) → Clear x y layer → filter is_mark (point_onto x y layer rest) ≡ 40 ∷ 44 ∷ 44 ∷ 41 ∷ filter is_mark rest
point-marks x y layer rest clear =
    ap (λ (t : List ℕ). 40 ∷ t)
    (filter-none is_mark x (44 ∷ (y ++ 44 ∷ (layer ++ 41 ∷ rest))) clear.first
    ∙ ap (λ (t : List ℕ). 44 ∷ t)
    (filter-none is_mark y (44 ∷ (layer ++ 41 ∷ rest)) clear.second
    ∙ ap (λ (t : List ℕ). 44 ∷ t) (filter-none is_mark layer (41 ∷ rest) clear.third)))

-- ---- the segment that is written

module _ (frame : Frame) (ok : IsFrame frame) (cell : ℕ) (inside : cell < cells_of frame.shape) where
  abbrev x_text : List ℕ
  x_text = signed_decimal (centre_of frame cell).x

  abbrev y_text : List ℕ
  y_text = signed_decimal (centre_of frame cell).y

  abbrev layer_text : List ℕ
  layer_text = decimal (centre_of frame cell).layer

  point-clear : Clear x_text y_text layer_text
  point-clear =
      let x = x-small frame ok cell inside in
      let y = y-small frame ok cell inside in
      let layer = few-layers frame ok cell inside in
      record {
        first = whole-mark (centre_of frame cell).x (omega arith);
        second = whole-mark (centre_of frame cell).y (omega arith);
        third = natural-mark (centre_of frame cell).layer (omega arith);
      }

  spot-back : spot_of x_text y_text layer_text ≡ Ok (centre_spot frame ok cell inside)
  spot-back =
      let x = x-small frame ok cell inside in
      let y = y-small frame ok cell inside in
      let layer = few-layers frame ok cell inside in
      rw (whole-back (centre_of frame cell).x (omega arith), whole-back (centre_of frame cell).y (omega arith), natural-back (centre_of frame cell).layer (omega arith)) refl

point-onto : (p : Point) (rest : List ℕ) → point_text p ++ rest ≡ point_onto (signed_decimal p.x) (signed_decimal p.y) (decimal p.layer) rest
point-onto p rest = simp append_assoc

-- what the checks of a segment give, one after another
run-parts : (frame : Frame) (token : List ℕ) (x y layer u v level : List ℕ) (a b : Spot) (from to : ℕ) →
    filter is_mark token ≡ codes "(,,)(,,)" →
    slice_split is_mark token ≡ [] ∷ x ∷ y ∷ layer ∷ codes "-" ∷ u ∷ v ∷ level ∷ [] ∷ [] →
    spot_of x y layer ≡ Ok a → spot_of u v level ≡ Ok b → (is_in_range a && is_in_range b) ≡ true → cell_of frame a ≡ Ok from → cell_of frame b ≡ Ok to →
    is_straight (place_at frame.shape from) (place_at frame.shape to) ≡ true → segment frame token ≡ Ok (record { from = from; to = to })
unfolding segment
run-parts frame token x y layer u v level a b from to marks parts first second range start end straight =
    rw (marks, parts) (rw (first, second) (rw range (rw (start, end) (rw straight refl))))

pub segment-back : (frame : Frame) → IsFrame frame → (run : Run) → run.from < cells_of frame.shape → run.to < cells_of frame.shape →
    is_straight (place_at frame.shape run.from) (place_at frame.shape run.to) ≡ true → segment frame (segment_text frame run) ≡ Ok run
segment-back frame ok run from to straight =
    let a = centre_spot frame ok run.from from in
    let b = centre_spot frame ok run.to to in
    let clear_a = point-clear frame ok run.from from in
    let clear_b = point-clear frame ok run.to to in
    let x = x_text frame ok run.from from in
    let y = y_text frame ok run.from from in
    let layer = layer_text frame ok run.from from in
    let u = x_text frame ok run.to to in
    let v = y_text frame ok run.to to in
    let level = layer_text frame ok run.to to in
    let second : point_text (centre_of frame run.to) ≡ point_onto u v level [] = simp append_assoc in
    let token : segment_text frame run ≡ point_onto x y layer (45 ∷ point_onto u v level []) =
    append_assoc (point_text (centre_of frame run.from)) (codes "-") (point_text (centre_of frame run.to))
    ∙ point-onto (centre_of frame run.from) (codes "-" ++ point_text (centre_of frame run.to))
    ∙ ap (λ (t : List ℕ). point_onto x y layer (45 ∷ t)) second in
    let marks = point-marks x y layer (45 ∷ point_onto u v level []) clear_a ∙ ap (λ (t : List ℕ). 40 ∷ 44 ∷ 44 ∷ 41 ∷ t) (point-marks u v level [] clear_b) in
    let hyphen : slice_split is_mark (45 ∷ point_onto u v level []) ≡ codes "-" ∷ u ∷ v ∷ level ∷ [] ∷ [] =
    ap (λ (t : List (List ℕ)). onto_first 45 t) (point-split u v level [] clear_b) in
    let parts = point-split x y layer (45 ∷ point_onto u v level []) clear_a ∙ ap (λ (t : List (List ℕ)). let r : List (List ℕ) = [] ∷ x ∷ y ∷ layer ∷ t in r) hyphen in
    run-parts frame (segment_text frame run) x y layer u v level a b run.from run.to
    (ap (filter is_mark) token ∙ marks) (ap (slice_split is_mark) token ∙ parts)
    (spot-back frame ok run.from from) (spot-back frame ok run.to to)
    (and_from (is_in_range a) (is_in_range b) (centre-readable frame ok run.from from) (centre-readable frame ok run.to to))
    (centre-cell frame ok run.from from) (centre-cell frame ok run.to to) straight
