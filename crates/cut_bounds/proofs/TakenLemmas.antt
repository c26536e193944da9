-- Walls that are taken one after another.
use Rattle.std.proofs.Common.{◌≡◌, ℕ, ◌<◌, Bool, true, false, List, ◌∷◌, [], ◌++◌, All, length, get_or, sym, ap, subst, ◌∙◌, refl}
use Rattle.std.specs.List.{list_any}
use Rattle.gr_base.specs.declared.grid.Shape.{Shape}
use Rattle.cut_bounds.specs.Places.{places_of, IsWallOf}
use Rattle.cut_bounds.specs.Taken.{AreMarks, is_blocked_by, take_apart}
use Rattle.cut_bounds.specs.declared.wall.MeasuredWall.{MeasuredWall}
use Rattle.cut_bounds.proofs.PlacesSmall.{places-small}
use Rattle.cut_bounds.proofs.ShareLemmas.{blocked-is}

-- the places as the code reads them lie below the marks
pub within : (g : Shape) (walls : List MeasuredWall) (marks items : List Bool) (places read : List ℕ) (m : MeasuredWall) → AreMarks g walls marks → IsWallOf g m.wall →
    items ≡ marks → places ≡ places_of g m.wall → read ≡ places → All (λ p. p < length items) read
within g walls marks items places read m are is marks-are gathered reads =
    subst (λ (ns : List ℕ). All (λ p. p < length items) ns) (sym (reads ∙ gathered))
    (subst (λ (n : ℕ). All (λ p. p < n) (places_of g m.wall)) (sym (ap (λ (bs : List Bool). length bs) marks-are ∙ are.long)) (places-small g m.wall is))

pub is-blocked : (g : Shape) (walls : List MeasuredWall) (marks items : List Bool) (places read : List ℕ) (m : MeasuredWall) (result : Bool) → AreMarks g walls marks → IsWallOf g m.wall →
    items ≡ marks → places ≡ places_of g m.wall → read ≡ places → result ≡ list_any (λ p. get_or items p false) read → is_blocked_by g walls m ≡ result
is-blocked g walls marks items places read m result are is marks-are gathered reads answer =
    sym (answer ∙ ap (λ (bs : List Bool). list_any (λ p. get_or bs p false) read) marks-are
    ∙ ap (λ (ns : List ℕ). list_any (λ p. get_or marks p false) ns) (reads ∙ gathered)
    ∙ blocked-is g walls marks m are is (places-small g m.wall is))

pub passed : (g : Shape) (walls : List MeasuredWall) (m : MeasuredWall) → is_blocked_by g walls m ≡ true → walls ≡ take_apart g walls m
passed g walls m on = sym (rw on refl)

pub taken-more : (g : Shape) (walls new : List MeasuredWall) (m : MeasuredWall) → is_blocked_by g walls m ≡ false → new ≡ walls ++ m ∷ [] → new ≡ take_apart g walls m
taken-more g walls new m off is = is ∙ sym (rw off refl)
