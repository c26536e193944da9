-- The text of a made design: lines of words.
use Rattle.std.specs.Prelude.{◌≡◌, ℕ, ◌≤◌, ◌+◌, ◌*◌, ◌%◌, ◌==◌, List, [], ◌∷◌, ◌++◌, length, map, codes, if◌then◌else◌}
use Rattle.std.specs.Fmt.{decimal}
use Rattle.std.specs.List.{flat_map, range_with_len}
use Rattle.design_maker.specs.Nets.{MadeNet, nets_of}
use Rattle.design_maker.specs.declared.made.Made.{Made}
use Rattle.design_maker.specs.declared.nets.Tile.{Tile}

-- a word with a blank before it
abbrev pub spaced : List ℕ → List ℕ
spaced word = codes " " ++ word

-- words with one blank between them, and the line's end
abbrev pub line : List (List ℕ) → List ℕ
line [] = codes "\n"
line (word ∷ words) = word ++ flat_map spaced words ++ codes "\n"

-- one number for the odd layers, counted from 1, and one for the even ones
abbrev pub alternating : (odd even : ℕ) → ℕ → ℕ
alternating odd even layer = if layer % 2 == 1 then odd else even

-- a number for each layer, written
abbrev pub layer_words : (ℕ → ℕ) → (layers : ℕ) → List (List ℕ)
layer_words number layers = map (λ layer. decimal (number layer)) (range_with_len 1 layers)

abbrev pub grid_line : Made → List (List ℕ)
grid_line made = codes "grid" ∷ decimal made.columns ∷ decimal made.rows ∷ decimal made.layers ∷ []

-- the layers' capacities along the columns and along the rows, and their widths and spacings
unfoldable pub layer_lines : ℕ → List (List (List ℕ))
layer_lines layers =
    (codes "vertical" ∷ codes "capacity" ∷ layer_words (alternating 0 20) layers) ∷
    (codes "horizontal" ∷ codes "capacity" ∷ layer_words (alternating 20 0) layers) ∷
    (codes "minimum" ∷ codes "width" ∷ layer_words (λ _. 1) layers) ∷
    (codes "minimum" ∷ codes "spacing" ∷ layer_words (λ _. 1) layers) ∷
    (codes "via" ∷ codes "spacing" ∷ layer_words (λ _. 1) layers) ∷
    []

-- where the tiles lie and how wide and high they are, and how many nets there are
unfoldable pub last_head_lines : ℕ → List (List (List ℕ))
last_head_lines nets =
    (codes "0" ∷ codes "0" ∷ codes "10" ∷ codes "10" ∷ []) ∷
    (codes "num" ∷ codes "net" ∷ decimal nets ∷ []) ∷
    []

-- the lines before the nets
unfoldable pub head_lines : Made → List (List (List ℕ))
head_lines made = grid_line made ∷ (layer_lines made.layers ++ last_head_lines made.nets)

-- the coordinate of a tile's middle: tiles are 10 wide and 10 high
abbrev pub middle_of : ℕ → ℕ
middle_of tile = 10 * tile + 5

-- the middles of so many tiles, written
abbrev pub written_middles : ℕ → List (List ℕ)
written_middles tiles = map (λ tile. decimal (middle_of tile)) (range_with_len 0 tiles)

-- the middles of the grid's columns and rows, and perhaps more, written
pub record AreMiddles (made : Made) (middles : List (List ℕ)) : Type 0 where
  pub written : middles ≡ written_middles (length middles)
  pub columns : made.columns ≤ length middles
  pub rows : made.rows ≤ length middles

-- a pin on the first layer, in the middle of its tile
abbrev pub pin_line : Tile → List (List ℕ)
pin_line tile = decimal (middle_of tile.column) ∷ decimal (middle_of tile.row) ∷ codes "1" ∷ []

-- a net's name, id, number of pins and width
abbrev pub heading_line : (number pins : ℕ) → List (List ℕ)
heading_line number pins = (codes "n" ++ decimal number) ∷ decimal number ∷ decimal pins ∷ codes "1" ∷ []

abbrev pub net_lines : MadeNet → List (List (List ℕ))
net_lines net = heading_line net.number (length net.pins) ∷ map pin_line net.pins

-- there are no adjustments
abbrev pub last_line : List (List ℕ)
last_line = codes "0" ∷ []

abbrev pub lines_text : List (List (List ℕ)) → List ℕ
lines_text = flat_map line

-- the text of a made design
unfoldable pub text_of : Made → List ℕ
text_of made = lines_text (head_lines made) ++ flat_map (λ net. lines_text (net_lines net)) (nets_of made) ++ line last_line
