-- What is counted of a net's pins, layer by layer.
use Rattle.std.proofs.Common.{◌≡◌, ℕ, ◌+◌, ◌*◌, ◌<◌, ◌≤◌, ◌==◌, ◌&&◌, nat_le, nat_lt, Bool, true, List, [], ◌∷◌, ◌++◌, length, map, filter, sum_by, if◌then◌else◌, refl, sym, ap, ◌∙◌, arith}
use Rattle.std.specs.List.{list_all, range_with_len}
use Rattle.std.proofs.lemmas.List.{length-map}
use Rattle.std.proofs.lemmas.List.Sums.{length-filter, count_by-le-length, sum_by_push}
use Rattle.gr_base.proofs.General.{range-more}
use Rattle.gr_base.specs.declared.frame.Frame.{Frame}
use Rattle.gr_base.specs.declared.grid.Shape.{Shape}
use Rattle.gr_base.specs.declared.grid.Way.{Way}
use Rattle.span_bounds.proofs.SortedLemmas.{all-left}
use Rattle.wall_laws.proofs.CutLemmas.{parted-between}
use Rattle.wall_laws.specs.Spans.{different, forced, forced_by, is_blocked, is_low, layer_of, least_of, most_of, vias_above}
use Rattle.wall_laws.specs.Walls.{is_parted}

-- the lines of low pins are no more than the pins
pub few-lines : (line : ℕ → ℕ) (low : ℕ → Bool) (pins : List ℕ) → length (map line (filter low pins)) ≤ length pins
few-lines line low pins =
    let mapped = length-map (filter low pins) line in
    let kept = length-filter low pins in
    let few = count_by-le-length low pins in
    omega (arith, mapped, kept, few)

pub forced-is : (frame : Frame) (way : Way) (line : ℕ → ℕ) (pins numbers : List ℕ) (layer count lines : ℕ) →
    is_blocked frame way layer ≡ true → numbers ≡ map line (filter (is_low frame.shape layer) pins) → count ≡ length numbers →
    lines ≡ different numbers → forced_by (count == length pins) lines ≡ forced frame way line pins layer
forced-is frame way line pins numbers layer count lines blocked is counted many =
    let low : ℕ → Bool = is_low frame.shape layer in
    let long : count ≡ length (filter low pins) =
    counted ∙ ap (λ (ns : List ℕ). length ns) is ∙ length-map (filter low pins) line in
    let all : (count == length pins) ≡ list_all low pins = ap (λ (n : ℕ). n == length pins) long ∙ all-left low pins in
    let each : lines ≡ different (map line (filter low pins)) = many ∙ ap different is in
    rw blocked (ap (λ (b : Bool). forced_by b lines) all ∙ ap (forced_by (list_all low pins)) each)

-- the layers up to one part pins just where it is between their least and greatest
pub layers-part : (g : Shape) (layer least most : ℕ) (pins numbers : List ℕ) (parted : Bool) →
    parted ≡ (nat_le least layer && nat_lt layer most) → numbers ≡ map (layer_of g) pins → least ≡ least_of numbers → most ≡ most_of numbers →
    parted ≡ is_parted (is_low g layer) pins
layers-part g layer least most pins numbers parted is listed low high =
    is ∙ ap (λ (n : ℕ). nat_le n layer && nat_lt layer most) (low ∙ ap least_of listed)
    ∙ ap (λ (n : ℕ). nat_le (least_of (map (layer_of g) pins)) layer && nat_lt layer n) (high ∙ ap most_of listed)
    ∙ sym (parted-between (layer_of g) layer pins)

-- one more number of a range
pub sum-next : (f : ℕ → ℕ) (count total more : ℕ) → total ≡ sum_by f (range_with_len 0 count) → more ≡ f count →
    total + more ≡ sum_by f (range_with_len 0 (count + 1))
sum-next f count total more is one =
    let range = ap (sum_by f) (range-more 0 count) in
    let push = sum_by_push f (range_with_len 0 count) (0 + count) in
    let same : f (0 + count) ≡ f count = let e : 0 + count ≡ count = omega arith in ap f e in
    omega (arith, is, one, range, push, same)
