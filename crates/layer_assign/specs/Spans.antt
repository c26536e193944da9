-- Spans of layers, their numbers in a table, and the spans to which the tiles of a tree grow.
use Rattle.std.specs.Prelude.{ℕ, zero, suc, ◌+◌, ◌-◌, ◌*◌, ◌<◌, ◌≤◌, ◌==◌, min, max, nat_lt, Bool, List, fold, Option, Some, None, unwrap_or, slice_get, if◌then◌else◌}
use Rattle.std.specs.Option.{option_and_then}
use Rattle.cost_rules.specs.Formulas.{via_price}
use Rattle.layer_assign.specs.declared.span.Span.{Span}

-- the span with one more layer, where there is one so far
abbrev pub widened : Option Span → ℕ → Option Span
widened None layer = Some (record { low = layer; high = layer })
widened (Some s) layer = Some (record { low = min s.low layer; high = max s.high layer })

-- the span of some layers, from the least to the greatest; of none there is none
abbrev pub span_of : List ℕ → Option Span
span_of layers = fold widened None layers

-- the span of a tile, from a first span and the layers of the edges of nodes below a number that end in it
abbrev pub span_by : (ℕ → ℕ → Bool) → (ℕ → Option Span) → (ℕ → ℕ) → ℕ → ℕ → Option Span
span_by ends first a node zero = first node
span_by ends first a node (suc below) =
    if ends node below then widened (span_by ends first a node below) (a below) else span_by ends first a node below

-- the span of a node in a list of those so far, and in a list of whole ones
abbrev pub growing : List (Option Span) → ℕ → Option Span
growing spans node = option_and_then (λ s. s) (slice_get spans node)

abbrev pub span_in : List Span → ℕ → Span
span_in spans node = unwrap_or (slice_get spans node) (record { low = 0; high = 0 })

-- a climb by one layer costs as much as a via edge
abbrev pub climb : Option Span → ℕ
climb None = 0
climb (Some s) = via_price * (s.high - s.low)

-- the span is one of layers of a grid
pub record IsSpan (layers : ℕ) (s : Span) : Type 0 where
  pub ordered : s.low ≤ s.high
  pub high : s.high < layers

-- there is no span, or it is one of layers of a grid
abbrev pub IsWithin : ℕ → Option Span → Type 0
IsWithin layers None = Unit {0}
IsWithin layers (Some s) = IsSpan layers s

-- the sum of the numbers up to one
unfoldable pub triangle : ℕ → ℕ
triangle zero = 0
triangle (suc n) = triangle n + suc n

-- spans by number: first none, then by falling low and rising high, so that a wider span has a greater number
abbrev pub span_number : ℕ → Option Span → ℕ
span_number layers None = 0
span_number layers (Some s) = 1 + triangle (layers - 1 - s.low) + (s.high - s.low)

-- how many spans there are, with none
abbrev pub spans_of : ℕ → ℕ
spans_of layers = 1 + triangle layers

-- the span of the next number, and none after the widest
abbrev pub next_span : ℕ → Option Span → Option Span
next_span layers None = Some (record { low = layers - 1; high = layers - 1 })
next_span layers (Some s) =
    if nat_lt (s.high + 1) layers then Some (record { low = s.low; high = s.high + 1 })
    else if s.low == 0 then None
    else Some (record { low = s.low - 1; high = s.low - 1 })

-- the span with a number, over and over
unfoldable pub span_at : ℕ → ℕ → Option Span
span_at layers zero = None
span_at layers (suc number) = next_span layers (span_at layers number)
