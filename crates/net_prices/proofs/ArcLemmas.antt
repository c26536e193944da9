-- What is taken of arcs stays taken.
use Rattle.std.proofs.Common.{◌≡◌, ℕ, ◌+◌, ◌-◌, ◌<◌, ◌≤◌, inl, inr, ◌⊎◌, ◌∷◌, ◌||◌, ◌==◌, [], take, get_or, true, false, List, length, slice_index, IsTrue, refl, sym, ap, subst, ◌∙◌, arith}
use Rattle.std.proofs.lemmas.Bool.{cases_lt, cases_Bool}
use Rattle.std.proofs.lemmas.Bool.Decides.{nat_tests}
use Rattle.std.proofs.lemmas.List.{take_more}
use Rattle.std.proofs.lemmas.List.Folds.{list_any-append}
use Rattle.gr_base.specs.Grid.{cells_of, stride}
use Rattle.gr_base.specs.Trees.{is_among}
use Rattle.gr_base.specs.declared.grid.Shape.{Shape}
use Rattle.gr_base.specs.declared.grid.Way.{Way}
use Rattle.gr_base.specs.declared.grid.Way.TheVariants.{East, North, Up}
use Rattle.net_prices.specs.Arcs.{nothing, arc_up, arc_down, level_at, AreLower, IsPaidUp, IsPaidDown, IsPaidAt, ArePaid}
use Rattle.net_prices.specs.LabelTables.{LabelsView, AreLabels}

pub lower-same : (xs : List ℕ) → AreLower xs xs
lower-same xs = record { long = refl; each = λ n. omega arith }

pub lower-more : (a b c : List ℕ) → AreLower a b → AreLower b c → AreLower a c
lower-more a b c one two = record {
  long = two.long ∙ one.long;
  each = λ n. let x = one.each n in let y = two.each n in omega (arith, x, y);
}

module _ (g : Shape) (level : ℕ → ℕ) (cell : ℕ) where
  up-within : (way : Way) (z a b y : List ℕ) → AreLower z a → IsPaidUp g level a b cell way → AreLower b y → IsPaidUp g level z y cell way
  up-within way z a b y one paid two high some =
      let x = one.each (arc_up cell way) in
      let v = two.each (arc_up cell way) in
      let is = paid high (omega (arith, x, some)) in
      omega (arith, x, v, is)

  down-within : (way : Way) (z a b y : List ℕ) → AreLower z a → IsPaidDown g level a b cell way → AreLower b y → IsPaidDown g level z y cell way
  down-within way z a b y one paid two high some =
      let x = one.each (arc_down cell way) in
      let v = two.each (arc_down cell way) in
      let is = paid high (omega (arith, x, some)) in
      omega (arith, x, v, is)

  pub paid-within : (z a b y : List ℕ) → AreLower z a → IsPaidAt g level a b cell → AreLower b y → IsPaidAt g level z y cell
  paid-within z a b y one paid two = record {
    up = λ way. up-within way z a b y one (paid.up way) two;
    down = λ way. down-within way z a b y one (paid.down way) two;
  }

  pub paid-by-ways : (z a b y : List ℕ) → AreLower z a → AreLower a b → AreLower b y →
      IsPaidUp g level z a cell East → IsPaidDown g level z a cell East → IsPaidUp g level a b cell North → IsPaidDown g level a b cell North →
      IsPaidUp g level b y cell Up → IsPaidDown g level b y cell Up → IsPaidAt g level z y cell
  paid-by-ways z a b y one two three up_east down_east up_north down_north up_up down_up = record { up = up'; down = down' }
    where
      up' : (way : Way) → IsPaidUp g level z y cell way
      up' East = up-within East z z a y (lower-same z) up_east (lower-more a b y two three)
      up' North = up-within North z a b y one up_north three
      up' Up = up-within Up z b y y (lower-more z a b one two) up_up (lower-same y)

      down' : (way : Way) → IsPaidDown g level z y cell way
      down' East = down-within East z z a y (lower-same z) down_east (lower-more a b y two three)
      down' North = down-within North z a b y one down_north three
      down' Up = down-within Up z b y y (lower-more z a b one two) down_up (lower-same y)

-- a cell whose level is the greatest: nothing falls along the arcs into it
level-top : (table : List ℕ) (bound cell : ℕ) → bound ≤ slice_index table cell → level_at table bound cell ≡ bound
level-top table bound cell high = omega arith

pub paid-top : (g : Shape) (table : List ℕ) (bound cell : ℕ) (old new : List ℕ) → bound ≤ slice_index table cell → AreLower old new →
    IsPaidAt g (level_at table bound) old new cell
paid-top g table bound cell old new high lower = record {
  up = λ way low some.
      let x = lower.each (arc_up cell way) in
      let top = level-top table bound cell high in
      let none : level_at table bound (cell - stride g way) ≤ bound = omega arith in
      omega (arith, x, top, none);
  down = λ way low some.
      let x = lower.each (arc_down cell way) in
      let top = level-top table bound cell high in
      let none : level_at table bound (cell + stride g way) ≤ bound = omega arith in
      omega (arith, x, top, none);
}

-- each cell that isn't listed has no label
pub all-paid : (g : Shape) (l : LabelsView) (bound : ℕ) (old new : List ℕ) → AreLabels l → length l.table ≡ cells_of g → bound ≤ nothing →
    AreLower old new → ((cell : ℕ) → IsTrue (is_among l.cells cell) → IsPaidAt g (level_at l.table bound) old new cell) →
    ArePaid g (level_at l.table bound) old new
all-paid g l bound old new labels long few lower listed cell inside =
    elim (cases_lt (slice_index l.table cell) nothing) [
      | inl some ↦ listed cell (labels.listed cell (omega (arith, long, inside)) some)
      | inr none ↦ paid-top g l.table bound cell old new (omega (arith, none, few)) lower
    ]

-- one of some cells, or the one behind them
among-cases : (cells : List ℕ) (i n : ℕ) → i < length cells → IsTrue (is_among (take (i + 1) cells) n) →
    IsTrue (is_among (take i cells) n) ⊎ (get_or cells i 0 ≡ n)
among-cases cells i n below among =
    let x : ℕ = get_or cells i 0 in
    let e : (is_among (take i cells) n || ((x == n) || false)) ≡ true =
    sym (list_any-append (λ other. other == n) (take i cells) (x ∷ [])) ∙ ap (λ (xs : List ℕ). is_among xs n) (sym (take_more cells i 0 below)) ∙ among in
    elim (cases_Bool (is_among (take i cells) n)) [
      | inl is ↦ inl is
      | inr isnt ↦ inr (grind (arith, nat_tests))
    ]

-- a further cell is paid for
pub one-more-paid : (g : Shape) (level : ℕ → ℕ) (cells a b c : List ℕ) (i : ℕ) → i < length cells → AreLower a b → AreLower b c →
    ((cell : ℕ) → IsTrue (is_among (take i cells) cell) → IsPaidAt g level a b cell) → IsPaidAt g level b c (get_or cells i 0) →
    (cell : ℕ) → IsTrue (is_among (take (i + 1) cells) cell) → IsPaidAt g level a c cell
one-more-paid g level cells a b c i below one two done here cell among =
    elim (among-cases cells i cell below among) [
      | inl before ↦ paid-within g level cell a a b c (lower-same a) (done cell before) two
      | inr last ↦ subst (λ (n : ℕ). IsPaidAt g level a c n) last (paid-within g level (get_or cells i 0) a b c c one here (lower-same c))
    ]
