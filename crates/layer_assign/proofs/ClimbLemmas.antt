-- Rows of climbs.
use Rattle.std.proofs.Common.{◌≡◌, ℕ, ◌+◌, ◌-◌, ◌*◌, ◌<◌, ◌≤◌, inl, inr, List, ◌++◌, length, take, get_or, ap, ◌∙◌, arith}
use Rattle.std.proofs.lemmas.Bool.{cases_lt}
use Rattle.std.proofs.lemmas.List.{get_or_append_left, get_or-append_right, get_or-take, length-append, length-take-le}
use Rattle.std.proofs.Math.Nat.{mul-le-mul_left}
use Rattle.layer_assign.specs.Spans.{span_number, spans_of}
use Rattle.layer_assign.specs.Choices.{entry}
use Rattle.layer_assign.specs.Tables.{HasRows, AreClimbs}
use Rattle.layer_assign.proofs.TableLemmas.{in_row, number-within, place-within}

-- the climbs of some nodes more, by a copy of so many rows of climbs
pub climbs-more : (layers n m count : ℕ) (xs table new : List ℕ) → count ≤ m → AreClimbs layers n xs → AreClimbs layers m table → new ≡ xs ++ take (count * spans_of layers) table →
    AreClimbs layers (n + count) new
climbs-more layers n m count xs table new le so_far whole copied =
    let rows = so_far.rows in
    let all : count * spans_of layers ≤ length table = fits layers m count table le whole.rows in
    let long : length (take (count * spans_of layers) table) ≡ count * spans_of layers = length-take-le (count * spans_of layers) table all in
    record {
      rows =
          ap (λ (ys : List ℕ). length ys) copied ∙ length-append xs (take (count * spans_of layers) table) ∙ omega (arith, rows, long) ∙ joined n count (spans_of layers);
      climbs = λ node s lt within.
          let number = span_number layers s in
          ap (λ (ys : List ℕ). entry layers ys node s) copied ∙
          elim (cases_lt node n) [
            | inl before ↦
                get_or_append_left xs (take (count * spans_of layers) table) 0 (node * spans_of layers + number)
                (place-within layers n node s xs rows before within) ∙
                so_far.climbs node s before within
            | inr later ↦
                let over : node ≡ n + (node - n) = omega arith in
                let behind : node * spans_of layers + number - n * spans_of layers ≡ (node - n) * spans_of layers + number =
                ap (λ (k : ℕ). k * spans_of layers + number - n * spans_of layers) over ∙ apart n (node - n) (spans_of layers) number in
                let past : n * spans_of layers ≤ node * spans_of layers + number = ahead n (node - n) node (spans_of layers) number over in
                let inside : (node - n) * spans_of layers + number < count * spans_of layers =
                in_row (node - n) (spans_of layers) number count (omega arith) (number-within layers s within) in
                get_or-append_right xs (take (count * spans_of layers) table) (n * spans_of layers) (node * spans_of layers + number) 0 rows past ∙
                ap (λ (k : ℕ). get_or (take (count * spans_of layers) table) k 0) behind ∙
                get_or-take (count * spans_of layers) table ((node - n) * spans_of layers + number) 0 inside ∙
                whole.climbs (node - n) s (omega arith) within
          ];
    }
  where
    joined : (n count spans : ℕ) → n * spans + count * spans ≡ (n + count) * spans
    joined n count spans = omega arith

    apart : (n d spans number : ℕ) → (n + d) * spans + number - n * spans ≡ d * spans + number
    apart n d spans number = let e = joined n d spans in omega (arith, e)

    ahead : (n d node spans number : ℕ) → node ≡ n + d → n * spans ≤ node * spans + number
    ahead n d node spans number is = let e = joined n d spans in let f = ap (λ (k : ℕ). k * spans) is in omega (arith, e, f)

    fits : (layers m count : ℕ) (table : List ℕ) → count ≤ m → HasRows layers m table → count * spans_of layers ≤ length table
    fits layers m count table le rows = let h = mul-le-mul_left (spans_of layers) le in omega (arith, rows, h)
