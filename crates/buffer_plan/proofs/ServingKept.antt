-- What serves as well as something else still does so through buffers, wires and branches.
use Rattle.std.proofs.Common.{◌≡◌, ℕ, ◌+◌, ◌*◌, ◌≤◌, ℤ, pos, ◌-ℤ◌, ◌≤ℤ◌, true, Option, Some, None, is_some, unwrap_or, unsigned_abs, refl, sym, subst, arith, le_refl, mul-le-mul}
use Rattle.std.specs.Prelude.{int_le}
use Rattle.std.proofs.lemmas.Bool.{false≢true}
use Rattle.std.proofs.lemmas.Int.{ints}
use Rattle.rc_library.specs.declared.parts.Kind.{Kind}
use Rattle.rc_library.specs.declared.parts.Wire.{Wire}
use Rattle.elmore_delay.specs.RcTrees.{edge_delay, sooner}
use Rattle.elmore_delay.specs.FromLeaves.{less, behind, along, joined}
use Rattle.elmore_delay.specs.declared.seen.Seen.{Seen}
use Rattle.elmore_delay.proofs.Ranges.{less-twice}
use Rattle.ginneken_lists.specs.Candidates.{no_later, serves, driven_time}
use Rattle.ginneken_lists.proofs.TimeOrder.{no_later-through, sooner-first, sooner-second, sooner-greatest}
use Rattle.ginneken_lists.proofs.Serving.{serves-says, serves-from}

-- delays that are taken from two times, and the lesser of two times each
int-kept : (d e : ℕ) (x y : ℤ) → d ≤ e → int_le x y ≡ true → int_le (x -ℤ pos e) (y -ℤ pos d) ≡ true
int-kept d e x y le first = grind (arith, ints)

pub less-kept : (d e : ℕ) (x y : Option ℤ) → d ≤ e → no_later x y ≡ true → no_later (less e x) (less d y) ≡ true
less-kept d e x None le first = refl
less-kept d e None (Some y) le first = absurd (false≢true first)
less-kept d e (Some x) (Some y) le first = int-kept d e x y le first

sooner-kept : (x y z w : Option ℤ) → no_later x z ≡ true → no_later y w ≡ true → no_later (sooner x y) (sooner z w) ≡ true
sooner-kept x y z w first second =
    sooner-greatest z w (sooner x y) (no_later-through (sooner x y) x z (sooner-first x y) first)
    (no_later-through (sooner x y) y w (sooner-second x y) second)

-- required times, where both are there or neither
pub unwrap-kept : (x y : Option ℤ) → no_later x y ≡ true → is_some x ≡ is_some y → unwrap_or x (pos 0) ≤ℤ unwrap_or y (pos 0)
unwrap-kept None None first same = omega (arith, ints)
unwrap-kept None (Some y) first same = absurd (false≢true first)
unwrap-kept (Some x) None first same = absurd (false≢true (sym same))
unwrap-kept (Some x) (Some y) first same = grind (arith, ints)

-- at the upper end of an edge, and where branches meet
pub along-kept : (wire : Wire) (s u : Seen) → serves s u ≡ true → serves (along wire s) (along wire u) ≡ true
along-kept wire s u h =
    let says = serves-says s u h in
    let low = says.load in
    let driven : wire.c + 2 * s.load ≤ wire.c + 2 * u.load = omega arith in
    let delay : edge_delay wire s.load ≤ edge_delay wire u.load = mul-le-mul (le_refl wire.r) driven in
    serves-from (along wire s) (along wire u)
    (record { load = omega arith; time = less-kept (edge_delay wire s.load) (edge_delay wire u.load) u.time s.time delay says.time })

pub joined-kept : (s u t w : Seen) → serves s u ≡ true → serves t w ≡ true → serves (joined s t) (joined u w) ≡ true
joined-kept s u t w h k =
    let first = serves-says s u h in
    let second = serves-says t w k in
    let low = first.load in
    let lower = second.load in
    serves-from (joined s t) (joined u w) (record { load = omega arith; time = sooner-kept u.time w.time s.time t.time first.time second.time })

-- what serves as well is driven as well
pub driven-kept : (r : ℕ) (s u : Seen) → serves s u ≡ true → no_later (driven_time r u) (driven_time r s) ≡ true
driven-kept r s u h =
    let says = serves-says s u h in
    let delay : 2 * r * s.load ≤ 2 * r * u.load = mul-le-mul (le_refl (2 * r)) says.load in
    less-kept (2 * r * s.load) (2 * r * u.load) u.time s.time delay says.time

-- behind a buffer by which it is driven as well
pub behind-kept : (kind : Kind) (s u : Seen) → no_later (driven_time kind.r u) (driven_time kind.r s) ≡ true →
    serves (behind (Some kind) s) (behind (Some kind) u) ≡ true
behind-kept kind s u h =
    let own : ℕ = 2 * unsigned_abs kind.delay in
    let time = less-kept own own (driven_time kind.r u) (driven_time kind.r s) (le_refl own) h in
    serves-from (behind (Some kind) s) (behind (Some kind) u) (record {
      load = le_refl kind.c;
      time = subst (λ (x : Option ℤ). no_later x (behind (Some kind) s).time ≡ true) (less-twice (2 * kind.r * u.load) own u.time)
          (subst (λ (x : Option ℤ). no_later (less own (driven_time kind.r u)) x ≡ true) (less-twice (2 * kind.r * s.load) own s.time) time);
    })
