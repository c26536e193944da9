-- What is told of panels, one after another.
use Rattle.std.proofs.Common.{◌≡◌, ℕ, zero, suc, ◌+◌, ◌*◌, ◌<◌, ◌≤◌, ◌^◌, Bool, true, false, cond, List, [], ◌∷◌, ◌++◌, map, length, get_or, take, Some, slice_get, fold, count_by, sum_by, refl, sym, ap, subst, ◌∙◌, append_assoc, append-nil, arith}
use Rattle.std.specs.Fmt.{decimal}
use Rattle.std.specs.List.{flat_map, range_with_len, zip}
use Rattle.std.proofs.lemmas.Grind.{flat_map-append}
use Rattle.std.proofs.lemmas.List.{length-take, map-append, take_more}
use Rattle.std.proofs.lemmas.Option.{get_or_from_slice_get}
use Rattle.std.proofs.lemmas.List.Sums.{fold-append, sum_by-cons, count_by-le-length}
use Rattle.gr_base.specs.Designs.{DesignView}
use Rattle.gr_base.specs.EdgeSets.{Edges}
use Rattle.gr_base.specs.declared.grid.Shape.{Shape}
use Rattle.gr_base.specs.declared.grid.Way.{Way}
use Rattle.gr_base.specs.declared.grid.Way.TheVariants.{East, North}
use Rattle.gr_base.proofs.General.{range-more}
use Rattle.track_panels.proofs.NumberingLemmas.{zip-more}
use Rattle.track_panels.specs.declared.piece.Piece.{Piece}
use Rattle.track_panels.specs.Numberings.{IsPanel, left_edge, point_of, tracks_of}
use Rattle.track_panels.specs.Panels.{PanelView}
use Rattle.track_panels.specs.Pieces.{covers}
use Rattle.panel_text.specs.declared.place.PanelPlace.{PanelPlace}
use Rattle.panel_text.specs.declared.starts.Starts.{Starts}
use Rattle.panel_text.specs.declared.told.Told.{Told}
use Rattle.panel_text.specs.Gathered.{AreStarts}
use Rattle.panel_text.specs.PanelPieces.{pieces_of}
use Rattle.panel_text.specs.Places.{places_of, places_on, places_along}
use Rattle.panel_text.specs.Texts.{has_some, panel_line, panel_lines, panels_text, panels_used, piece_line, tracks_in}
use Rattle.panel_text.specs.Told.{Tell, IsWithin, told_text, with_panel, with_panels, with_pieces}

-- one more number of a range
pub flat-more : {X : Type 0} (f : ℕ → List X) (n : ℕ) → flat_map f (range_with_len 0 (n + 1)) ≡ flat_map f (range_with_len 0 n) ++ f n
flat-more f n =
    ap (flat_map f) (range-more 0 n ∙ ap (λ (k : ℕ). range_with_len 0 n ++ k ∷ []) (omega arith))
    ∙ flat_map-append f (range_with_len 0 n) (n ∷ []) ∙ ap (λ xs. flat_map f (range_with_len 0 n) ++ xs) (append-nil (f n))

-- ---- a panel's lines

-- the lines of one more piece
pub pieces-more : (d : DesignView) (pieces : List Piece) (numbers text before : List ℕ) (at track : ℕ) (e : Piece) → at < length pieces → length numbers ≡ length pieces →
    slice_get numbers at ≡ Some track → text ≡ before ++ flat_map (piece_line d) (zip (take at pieces) (take at numbers)) →
    text ++ piece_line d (get_or pieces at e, track) ≡ before ++ flat_map (piece_line d) (zip (take (at + 1) pieces) (take (at + 1) numbers))
pieces-more d pieces numbers text before at track e inside long here so_far =
    let grown : take (at + 1) numbers ≡ take at numbers ++ track ∷ [] =
    take_more numbers at track (omega (arith, inside, long)) ∙ ap (λ (n : ℕ). take at numbers ++ n ∷ []) (get_or_from_slice_get numbers at track track here) in
    let zipped = zip-more pieces (take at numbers) (take (at + 1) numbers) at e track inside (omega (arith, length-take at numbers, inside, long)) grown in
    let done = zip (take at pieces) (take at numbers) in
    let line = piece_line d (get_or pieces at e, track) in
    ap (λ (t : List ℕ). t ++ line) so_far
    ∙ append_assoc before (flat_map (piece_line d) done) line
    ∙ ap (λ (t : List ℕ). before ++ t) (sym (ap (flat_map (piece_line d)) zipped ∙ flat_map-append (piece_line d) done ((get_or pieces at e, track) ∷ [])
    ∙ ap (λ (t : List ℕ). flat_map (piece_line d) done ++ t) (append-nil line)))

lines-told : (d : DesignView) (place : PanelPlace) (p : Piece) (ps : List Piece) (numbers : List ℕ) (tracks point : ℕ) → numbers ≡ left_edge (p ∷ ps) →
    tracks ≡ tracks_of (p ∷ ps) → point ≡ point_of (p ∷ ps) →
    panel_line place tracks point ++ flat_map (piece_line d) (zip (p ∷ ps) numbers) ≡
    panel_line place (tracks_of (p ∷ ps)) (point_of (p ∷ ps)) ++ flat_map (piece_line d) (zip (p ∷ ps) (left_edge (p ∷ ps)))
lines-told d place p ps numbers tracks point a b c =
    ap (λ (n : ℕ). panel_line place n point ++ flat_map (piece_line d) (zip (p ∷ ps) numbers)) b
    ∙ ap (λ (n : ℕ). panel_line place (tracks_of (p ∷ ps)) n ++ flat_map (piece_line d) (zip (p ∷ ps) numbers)) c
    ∙ ap (λ (ns : List ℕ). panel_line place (tracks_of (p ∷ ps)) (point_of (p ∷ ps)) ++ flat_map (piece_line d) (zip (p ∷ ps) ns)) a

abbrev told-of : List ℕ → ℕ → ℕ → Told
told-of lines panels tracks = record { lines = lines; panels = panels; tracks = tracks }

same-told : (lines lines' : List ℕ) (panels panels' tracks tracks' : ℕ) → lines ≡ lines' → panels ≡ panels' → tracks ≡ tracks' →
    told-of lines panels tracks ≡ told-of lines' panels' tracks'
same-told lines lines' panels panels' tracks tracks' a b c =
    ap (λ (l : List ℕ). told-of l panels tracks) a
    ∙ ap (λ (n : ℕ). told-of lines' n tracks) b
    ∙ ap (λ (n : ℕ). told-of lines' panels' n) c

no-tracks : tracks_of [] ≡ 0
unfolding tracks_of left_edge
no-tracks = refl

-- nothing is told of a panel without a piece
pub told-none : (d : DesignView) (place : PanelPlace) (pieces : List Piece) (told : Told) → length pieces ≡ 0 → told ≡ with_pieces d place pieces told
told-none d place [] told none =
    same-told told.lines (told.lines ++ []) told.panels (told.panels + 0) told.tracks (told.tracks + tracks_of []) (sym (append-nil told.lines)) (omega arith) (omega (arith, no-tracks))
told-none d place (p ∷ ps) told none = absurd (omega (arith, none))

pub told-some : (d : DesignView) (place : PanelPlace) (pieces : List Piece) (panel : PanelView) (old new : Told) (lines : List ℕ) → 0 < length pieces →
    IsPanel pieces panel → lines ≡ old.lines ++ panel_line place panel.tracks panel.point →
    new.lines ≡ lines ++ flat_map (piece_line d) (zip pieces panel.numbers) → new.panels ≡ old.panels + 1 → new.tracks ≡ old.tracks + panel.tracks →
    new ≡ with_pieces d place pieces old
told-some d place [] panel old new lines some is first rest count sum = absurd (omega (arith, some))
told-some d place (p ∷ ps) panel old new lines some is first rest count sum =
    same-told new.lines (with_pieces d place (p ∷ ps) old).lines new.panels (old.panels + 1) new.tracks (old.tracks + tracks_of (p ∷ ps))
    (rest ∙ ap (λ (l : List ℕ). l ++ flat_map (piece_line d) (zip (p ∷ ps) panel.numbers)) first
    ∙ append_assoc old.lines (panel_line place panel.tracks panel.point) (flat_map (piece_line d) (zip (p ∷ ps) panel.numbers))
    ∙ ap (λ (l : List ℕ). old.lines ++ l) (lines-told d place p ps panel.numbers panel.tracks panel.point is.numbers is.tracks is.point))
    count
    (sum ∙ ap (λ (n : ℕ). old.tracks + n) is.tracks)

-- a panel has as many tracks as pieces at most
pub few-tracks : (pieces : List Piece) (panel : PanelView) → IsPanel pieces panel → panel.tracks ≤ length pieces
few-tracks pieces panel is =
    let covered = is.fullest.covered in
    let few = count_by-le-length (covers panel.point) pieces in
    omega (arith, covered, few)

-- ---- panels one after another

-- first some panels, then more
pub told-more : (d : DesignView) (way : Way) (s : Starts) (some more : List PanelPlace) (old mid new : Told) → Tell d way s some old mid → Tell d way s more mid new →
    Tell d way s (some ++ more) old new
told-more d way s some more old mid new first rest sets are =
    rest sets are ∙ ap (λ (told : Told). with_panels d sets told more) (first sets are) ∙ sym (fold-append (with_panel d sets) old some more)

pub layer-more : (d : DesignView) (way : Way) (s : Starts) (f : ℕ → PanelPlace) (line : ℕ) (old mid new : Told) → Tell d way s (map f (range_with_len 0 line)) old mid →
    Tell d way s (f line ∷ []) mid new → Tell d way s (map f (range_with_len 0 (line + 1))) old new
layer-more d way s f line old mid new first rest =
    subst (λ (places : List PanelPlace). Tell d way s places old new)
    (sym (ap (map f) (range-more 0 line ∙ ap (λ (n : ℕ). range_with_len 0 line ++ n ∷ []) (omega arith)) ∙ map-append f (range_with_len 0 line) (line ∷ [])))
    (told-more d way s (map f (range_with_len 0 line)) (f line ∷ []) old mid new first rest)

pub way-more : (d : DesignView) (way : Way) (s : Starts) (f : ℕ → List PanelPlace) (layer : ℕ) (old mid new : Told) → Tell d way s (flat_map f (range_with_len 0 layer)) old mid →
    Tell d way s (f layer) mid new → Tell d way s (flat_map f (range_with_len 0 (layer + 1))) old new
way-more d way s f layer old mid new first rest =
    subst (λ (places : List PanelPlace). Tell d way s places old new)
    (sym (flat-more f layer))
    (told-more d way s (flat_map f (range_with_len 0 layer)) (f layer) old mid new first rest)

-- ---- what is told of all is the text

module _ (d : DesignView) (sets : ℕ → Edges) where
  all-told : (places : List PanelPlace) (told : Told) → with_panels d sets told places ≡
      told-of (told.lines ++ flat_map (panel_lines d sets) places) (told.panels + panels_used d sets places) (told.tracks + tracks_in d sets places)
  all-told [] told = same-told told.lines (told.lines ++ []) told.panels (told.panels + 0) told.tracks (told.tracks + 0) (sym (append-nil told.lines)) (omega arith) (omega arith)
  all-told (place ∷ places) told =
      let pieces = pieces_of d sets place in
      let next = with_panel d sets told place in
      let count = sum_by-cons (λ (q : PanelPlace). cond (has_some (pieces_of d sets q)) 1 0) place places in
      let sum = sum_by-cons (λ (q : PanelPlace). tracks_of (pieces_of d sets q)) place places in
      all-told places next
      ∙ same-told (next.lines ++ flat_map (panel_lines d sets) places) (told.lines ++ flat_map (panel_lines d sets) (place ∷ places))
      (next.panels + panels_used d sets places) (told.panels + panels_used d sets (place ∷ places))
      (next.tracks + tracks_in d sets places) (told.tracks + tracks_in d sets (place ∷ places))
      (append_assoc told.lines (panel_lines d sets place) (flat_map (panel_lines d sets) places))
      (omega (arith, count)) (omega (arith, sum))

  pub text-told : told_text (with_panels d sets (told-of [] 0 0) (places_of d.frame.shape)) ≡ panels_text d sets
  text-told =
      let lines = flat_map (panel_lines d sets) (places_of d.frame.shape) in
      let panels = panels_used d sets (places_of d.frame.shape) in
      let tracks = tracks_in d sets (places_of d.frame.shape) in
      ap told_text (all-told (places_of d.frame.shape) (told-of [] 0 0) ∙ same-told lines lines (0 + panels) panels (0 + tracks) tracks refl (omega arith) (omega arith))

-- ---- how many panels are told

pub more-within : (count most : ℕ) (told : Told) → count ≤ most → IsWithin count told → IsWithin most told
more-within count most told up is = let a = is.panels in let b = is.tracks in record { panels = omega (arith, a, up); tracks = omega (arith, b, up) }

-- ---- the whole text

pub both-told : (d : DesignView) (sets : ℕ → Edges) (lines : List ℕ) (mid new : Told) → lines ≡ [] →
    mid ≡ with_panels d sets (told-of lines 0 0) (places_along d.frame.shape East) → new ≡ with_panels d sets mid (places_along d.frame.shape North) →
    told_text new ≡ panels_text d sets
both-told d sets lines mid new none first second =
    ap told_text (second ∙ ap (λ (told : Told). with_panels d sets told (places_along d.frame.shape North)) first
    ∙ sym (fold-append (with_panel d sets) (told-of lines 0 0) (places_along d.frame.shape East) (places_along d.frame.shape North))
    ∙ ap (λ (l : List ℕ). with_panels d sets (told-of l 0 0) (places_of d.frame.shape)) none)
    ∙ text-told d sets
