-- The shape of the grid, and the numbers of its layers.
use Rattle.std.proofs.Common.{◌≡◌, ℕ, ◌+◌, ◌-◌, ◌<◌, ◌≤◌, ◌↔◌, Bool, true, false, Option, Some, None, IsSome, IfSome, IsTrue, List, [], ◌++◌, length, take, drop, set, replicate, All, Any, ◌||◌, nat_lt, get_or, map, Ok, Err, refl, sym, ap, ◌∙◌, subst, arith}
use Rattle.std.proofs.Math.Bool.{Bool-set}
use Rattle.std.proofs.lemmas.List.{take_more_set, drop-set-lt, drop-drop, drop-replicate, get_or-take, get_or_default, length-take-le, take-append-drop}
use Rattle.gr_text.specs.Tokens.{Place}
use Rattle.gr_text.specs.Reading.{Reader, natural, several}
use Rattle.ispd_reader.specs.Faults.{ends}
use Rattle.ispd_reader.specs.declared.fault.DesignFault.{DesignFault}
use Rattle.ispd_reader.specs.declared.fault.DesignFault.TheVariants.{Number}
use Rattle.gr_text.proofs.SeveralLemmas.{several-next, several-fails, several-done}
use Rattle.gr_base.specs.Limits.{is_grid, most_capacity, most_width}
use Rattle.gr_base.specs.Designs.{IsLayer}
use Rattle.gr_base.specs.declared.frame.Layer.{Layer}
use Rattle.gr_base.specs.declared.grid.Shape.{Shape}
use Rattle.std.specs.List.{list_any, range_with_len}
use Rattle.std.proofs.lemmas.Bool.{ltb-true}
use Rattle.std.proofs.lemmas.List.Elements.{All-replicate, All-get_or}
use Rattle.std.proofs.lemmas.List.Folds.{list_any_none, list_any-append, Any-from_list_any}
use Rattle.std.proofs.lemmas.List.FromFn.{length-map-range_with_len, get_or-map-range_with_len}
use Rattle.ispd_reader.specs.Header.{shape_where, shape_of, padded, by_layer, layer_at, stack_of, IsStack}

shape_where-valid : (columns rows layers : ℕ) (valid : Bool) (is : is_grid columns rows layers ≡ valid) (grid : is_grid columns rows layers ≡ true) →
    shape_where columns rows layers valid is ≡ Some (record { columns = columns; rows = rows; layers = layers; valid = grid })
shape_where-valid columns rows layers true is grid =
    let shape : is_grid columns rows layers ≡ true → Option Shape = λ (v : is_grid columns rows layers ≡ true). Some (record { columns = columns; rows = rows; layers = layers; valid = v }) in
    ap shape (Bool-set (is_grid columns rows layers) true is grid)
shape_where-valid columns rows layers false is grid = let no : true ≡ false = sym grid ∙ is in cc

shape_where-none : (columns rows layers : ℕ) (valid : Bool) (is : is_grid columns rows layers ≡ valid) →
    ¬ (is_grid columns rows layers ≡ true) → None ≡ shape_where columns rows layers valid is
shape_where-none columns rows layers true is not = absurd (not is)
shape_where-none columns rows layers false is not = refl

-- what the grid's constructor promises says which shape it gives
pub shape_of-new : (columns rows layers : ℕ) (made : Option Shape) → (IsSome made ↔ IsTrue (is_grid columns rows layers)) →
    IfSome made (λ shape. shape.columns ≡ columns) → IfSome made (λ shape. shape.rows ≡ rows) → IfSome made (λ shape. shape.layers ≡ layers) →
    made ≡ shape_of columns rows layers
shape_of-new columns rows layers None some is_columns is_rows is_layers =
    shape_where-none columns rows layers (is_grid columns rows layers) refl (λ grid. let no = some.1 grid in cc)
shape_of-new columns rows layers (Some shape) some is_columns is_rows is_layers =
    subst (λ (n : ℕ). Some shape ≡ shape_of n rows layers) is_columns
    (subst (λ (n : ℕ). Some shape ≡ shape_of shape.columns n layers) is_rows
    (subst (λ (n : ℕ). Some shape ≡ shape_of shape.columns shape.rows n) is_layers
    (sym (shape_where-valid shape.columns shape.rows shape.layers (is_grid shape.columns shape.rows shape.layers) refl shape.valid))))

-- numbers for the layers, one after another

abbrev pub one_number : ℕ → List ℕ → Reader DesignFault ℕ
one_number most = λ _. natural ends Number most

pub by_layer-fails : (layers most at : ℕ) (numbers : List ℕ) (start place : Place) (fault : DesignFault × ℕ) → at < layers →
    several (one_number most) (layers - at) (take at numbers) place ≡ several (one_number most) layers [] start →
    natural ends Number most place ≡ Err fault → by_layer layers most start ≡ Err fault
unfolding by_layer
by_layer-fails layers most at numbers start place fault below reads fails =
    let all : several (one_number most) layers [] start ≡ Err fault =
    sym reads ∙ several-fails (one_number most) (layers - at) (layers - (at + 1)) (take at numbers) place fault (omega arith) fails in
    rw all refl

pub by_layer-next : (layers most at : ℕ) (numbers : List ℕ) (start place after : Place) (n : ℕ) → at < layers → at < length numbers →
    several (one_number most) (layers - at) (take at numbers) place ≡ several (one_number most) layers [] start →
    natural ends Number most place ≡ Ok (n, after) →
    several (one_number most) (layers - (at + 1)) (take (at + 1) (set numbers at n)) after ≡ several (one_number most) layers [] start
by_layer-next layers most at numbers start place after n below within reads is =
    rw (take_more_set numbers at n within)
    (sym (several-next (one_number most) (layers - at) (layers - (at + 1)) (take at numbers) place after n (omega arith) is) ∙ reads)

pub by_layer-done : (layers most at : ℕ) (numbers : List ℕ) (start place : Place) → at ≡ layers → layers ≤ 16 → length numbers ≡ 16 →
    drop at numbers ≡ replicate (16 - at) 0 →
    several (one_number most) (layers - at) (take at numbers) place ≡ several (one_number most) layers [] start →
    by_layer layers most start ≡ Ok (numbers, place)
unfolding by_layer
by_layer-done layers most at numbers start place end few count others reads =
    let all : several (one_number most) layers [] start ≡ Ok (take at numbers, place) =
    sym reads ∙ several-done (one_number most) (layers - at) (take at numbers) place (omega arith) in
    let counted : length (take at numbers) ≡ at = length-take-le at numbers (omega arith) in
    let whole : padded (take at numbers) ≡ numbers =
    ap (λ (n : ℕ). take at numbers ++ replicate (16 - n) 0) counted ∙ ap (λ (rest : List ℕ). take at numbers ++ rest) (sym others) ∙ take-append-drop at numbers in
    rw all (ap (λ (ns : List ℕ). Ok (ns, place)) whole)

-- a number is put in the place of the first 0
pub others-next : (numbers : List ℕ) (at n : ℕ) → at < length numbers → length numbers ≡ 16 → drop at numbers ≡ replicate (16 - at) 0 →
    drop (at + 1) (set numbers at n) ≡ replicate (16 - (at + 1)) 0
others-next numbers at n within count others =
    drop-set-lt (at + 1) numbers at n (omega arith) ∙ sym (drop-drop 1 at numbers) ∙ ap (drop 1) others ∙ drop-replicate 1 (16 - at) 0 ∙ ap (λ (k : ℕ). replicate k 0) (omega arith)

-- where a number isn't 0, it stands before the zeros of the layers that the grid hasn't
pub Any-some : (layers count : ℕ) (numbers : List ℕ) → drop layers numbers ≡ replicate count 0 → list_any (nat_lt 0) numbers ≡ true →
    Any (λ n. 0 < n) (take layers numbers)
Any-some layers count numbers others some =
    let zeros : list_any (nat_lt 0) (replicate count 0) ≡ false = list_any_none (nat_lt 0) (replicate count 0) (All-replicate (λ (n : ℕ). nat_lt 0 n ≡ false) count 0 refl) in
    let parts : list_any (nat_lt 0) numbers ≡ (list_any (nat_lt 0) (take layers numbers) || list_any (nat_lt 0) (drop layers numbers)) =
    ap (list_any (nat_lt 0)) (sym (take-append-drop layers numbers)) ∙ list_any-append (nat_lt 0) (take layers numbers) (drop layers numbers) in
    let rest : list_any (nat_lt 0) (drop layers numbers) ≡ false = ap (list_any (nat_lt 0)) others ∙ zeros in
    let here : list_any (nat_lt 0) (take layers numbers) ≡ true = or_false (list_any (nat_lt 0) (take layers numbers)) (list_any (nat_lt 0) (drop layers numbers)) (sym parts ∙ some) rest in
    let found = Any-from_list_any (nat_lt 0) (take layers numbers) here in
    (found.0, found.1, found.2, found.3, ltb-true 0 found.1 found.4)
  where
    or_false : (a b : Bool) → (a || b) ≡ true → b ≡ false → a ≡ true
    or_false true b either is = refl
    or_false false b either is = let e : false ≡ true = sym is ∙ either in cc

-- what holds of a layer's number out of a list of the numbers of all layers holds of some layer
pub Any-stack : (f : ℕ → Layer) (number : Layer → ℕ) (layers : ℕ) (numbers : List ℕ) → layers ≤ 16 → length numbers ≡ 16 →
    ((at : ℕ) → number (f at) ≡ get_or numbers at 0) → Any (λ n. 0 < n) (take layers numbers) →
    Any (λ layer. 0 < number layer) (take layers (map f (range_with_len 0 16)))
Any-stack f number layers numbers few count reads any =
    let at : ℕ = any.0 in
    let below : at < layers = let e = length-take-le layers numbers (omega arith) in let h = any.2 in omega arith in
    let is : get_or numbers at 0 ≡ any.1 =
    get_or_default numbers at 0 any.1 (omega arith) ∙ sym (get_or-take layers numbers at any.1 below) ∙ any.3 in
    let long : at < length (take layers (map f (range_with_len 0 16))) =
    let e = length-take-le layers (map f (range_with_len 0 16)) (let l = length-map-range_with_len f 0 16 in omega arith) in omega arith in
    let here : get_or (take layers (map f (range_with_len 0 16))) at (f at) ≡ f at =
    get_or-take layers (map f (range_with_len 0 16)) at (f at) below ∙ get_or-map-range_with_len f 0 16 at at (f at) (omega arith) (omega arith) in
    (at, f at, long, here, let e = reads at in let p = any.4 in omega arith)

pub IsStack-of : (shape : Shape) (vertical horizontal width spacing via : List ℕ) → shape.layers ≤ 16 →
    length vertical ≡ 16 → length horizontal ≡ 16 → length width ≡ 16 → length spacing ≡ 16 → length via ≡ 16 →
    All (λ n. n ≤ most_capacity) vertical → All (λ n. n ≤ most_capacity) horizontal →
    All (λ n. n ≤ most_width) width → All (λ n. n ≤ most_width) spacing → All (λ n. n ≤ most_width) via →
    (1 < shape.columns → Any (λ n. 0 < n) (take shape.layers horizontal)) → (1 < shape.rows → Any (λ n. 0 < n) (take shape.layers vertical)) →
    IsStack shape (stack_of vertical horizontal width spacing via)
unfolding stack_of
IsStack-of shape vertical horizontal width spacing via few v h w s a all_v all_h all_w all_s all_a across along =
    let f : ℕ → Layer = layer_at vertical horizontal width spacing via in
    let inside : (k : ℕ) → k < 16 → IsLayer (f k) = λ k below. record {
      vertical = All-get_or (λ (n : ℕ). n ≤ most_capacity) vertical k 0 (omega arith) all_v;
      horizontal = All-get_or (λ (n : ℕ). n ≤ most_capacity) horizontal k 0 (omega arith) all_h;
      width = All-get_or (λ (n : ℕ). n ≤ most_width) width k 0 (omega arith) all_w;
      spacing = All-get_or (λ (n : ℕ). n ≤ most_width) spacing k 0 (omega arith) all_s;
      via = All-get_or (λ (n : ℕ). n ≤ most_width) via k 0 (omega arith) all_a;
    } in
    record {
      count = length-map-range_with_len f 0 16;
      layers = λ k d below.
          let e = length-map-range_with_len f 0 16 in
          let lt : k < 16 = omega arith in
          let is = get_or-map-range_with_len f 0 16 k k d lt (omega arith) in
          subst IsLayer (sym is) (inside k lt);
      horizontal = λ wide. Any-stack f (λ (layer : Layer). layer.horizontal) shape.layers horizontal few h (λ at. refl) (across wide);
      vertical = λ wide. Any-stack f (λ (layer : Layer). layer.vertical) shape.layers vertical few v (λ at. refl) (along wide);
    }
