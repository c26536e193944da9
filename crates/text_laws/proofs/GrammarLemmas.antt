-- Each part of the design's grammar depends on the tokens that are read for it.
use Rattle.std.proofs.Common.{ℕ, List, []}
use Rattle.gr_base.specs.declared.frame.Frame.{Frame}
use Rattle.gr_base.specs.declared.frame.Net.{Net}
use Rattle.gr_base.specs.declared.grid.Shape.{Shape}
use Rattle.ispd_reader.specs.Faults.{ends}
use Rattle.ispd_reader.specs.Steps.{words, layer_in}
use Rattle.ispd_reader.specs.Header.{grid, by_layer, capacities, measures, layers, corner, above_zero, frame}
use Rattle.ispd_reader.specs.Nets.{coordinate, pin, net_id, pin_count, net, net_count, nets}
use Rattle.ispd_reader.specs.Adjustments.{place, adjustment, adjustment_count, counted_adjustments, adjustments, adjustments_from}
use Rattle.ispd_reader.specs.DesignText.{design}
use Rattle.ispd_reader.specs.declared.fault.DesignFault.{DesignFault}
use Rattle.text_laws.proofs.EarlyLemmas.{IsEarly, IsCausal, IsEarly-bind, IsCausal-bind, IsEarly-sure, IsSure-pure, IsCausal-pure, IsCausal-check, IsCausal-given, IsCausal-token, IsEarly-last, IsCausal-word, IsCausal-number, IsCausal-natural, IsCausal-several, IsEarly-end}

IsCausal-words : (first second : List ℕ) → IsCausal (words first second)
unfolding words
IsCausal-words first second = IsCausal-bind _ _ (IsCausal-word _ _ _) (λ _. IsCausal-word _ _ _)

IsCausal-layer_in : (shape : Shape) (fault : DesignFault) → IsCausal (layer_in shape fault)
unfolding layer_in
IsCausal-layer_in shape fault = IsCausal-bind _ _ (IsCausal-natural _ _ _) (λ layer. IsCausal-bind _ _ (IsCausal-check _ _) (λ _. IsCausal-pure _))

IsCausal-above_zero : (most : ℕ) (fault : DesignFault) → IsCausal (above_zero most fault)
unfolding above_zero
IsCausal-above_zero most fault = IsCausal-bind _ _ (IsCausal-natural _ _ _) (λ n. IsCausal-bind _ _ (IsCausal-check _ _) (λ _. IsCausal-pure _))

IsCausal-grid : IsCausal grid
unfolding grid
IsCausal-grid =
    IsCausal-bind _ _ (IsCausal-word _ _ _) (λ _. IsCausal-bind _ _ (IsCausal-above_zero _ _) (λ columns. IsCausal-bind _ _ (IsCausal-above_zero _ _)
    (λ rows. IsCausal-bind _ _ (IsCausal-above_zero _ _) (λ layers. IsCausal-given _ _))))

IsCausal-by_layer : (layers most : ℕ) → IsCausal (by_layer layers most)
unfolding by_layer
IsCausal-by_layer layers most = IsCausal-bind _ _ (IsCausal-several _ (λ _. IsCausal-natural _ _ _) _ _) (λ numbers. IsCausal-pure _)

IsCausal-capacities : (way : List ℕ) (tiles layers : ℕ) → IsCausal (capacities way tiles layers)
unfolding capacities
IsCausal-capacities way tiles layers =
    IsCausal-bind _ _ (IsCausal-words _ _) (λ _. IsCausal-bind _ _ (IsCausal-by_layer _ _) (λ numbers. IsCausal-bind _ _ (IsCausal-check _ _) (λ _. IsCausal-pure _)))

IsCausal-measures : (first second : List ℕ) (layers : ℕ) → IsCausal (measures first second layers)
unfolding measures
IsCausal-measures first second layers = IsCausal-bind _ _ (IsCausal-words _ _) (λ _. IsCausal-by_layer _ _)

IsCausal-layers : (shape : Shape) → IsCausal (layers shape)
unfolding layers
IsCausal-layers shape =
    IsCausal-bind _ _ (IsCausal-capacities _ _ _) (λ vertical. IsCausal-bind _ _ (IsCausal-capacities _ _ _) (λ horizontal. IsCausal-bind _ _ (IsCausal-measures _ _ _)
    (λ width. IsCausal-bind _ _ (IsCausal-measures _ _ _) (λ spacing. IsCausal-bind _ _ (IsCausal-measures _ _ _) (λ via. IsCausal-pure _)))))

IsCausal-corner : IsCausal corner
unfolding corner
IsCausal-corner = IsCausal-number _ _ _ _

IsCausal-frame : IsCausal frame
unfolding frame
IsCausal-frame =
    IsCausal-bind _ _ IsCausal-grid (λ shape. IsCausal-bind _ _ (IsCausal-layers _) (λ layers. IsCausal-bind _ _ IsCausal-corner (λ lower_x. IsCausal-bind _ _ IsCausal-corner
    (λ lower_y. IsCausal-bind _ _ (IsCausal-above_zero _ _) (λ tile_width. IsCausal-bind _ _ (IsCausal-above_zero _ _) (λ tile_height. IsCausal-pure _))))))

IsCausal-coordinate : IsCausal coordinate
unfolding coordinate
IsCausal-coordinate = IsCausal-number _ _ _ _

IsCausal-pin : (f : Frame) → IsCausal (pin f)
unfolding pin
IsCausal-pin f =
    IsCausal-bind _ _ IsCausal-coordinate (λ x. IsCausal-bind _ _ (IsCausal-given _ _) (λ column.
    IsCausal-bind _ _ IsCausal-coordinate (λ y. IsCausal-bind _ _ (IsCausal-given _ _) (λ row.
    IsCausal-bind _ _ (IsCausal-layer_in _ _) (λ layer. IsCausal-pure _)))))

IsCausal-net_id : (found : List Net) → IsCausal (net_id found)
unfolding net_id
IsCausal-net_id found = IsCausal-bind _ _ (IsCausal-natural _ _ _) (λ id. IsCausal-bind _ _ (IsCausal-check _ _) (λ _. IsCausal-pure _))

IsCausal-pin_count : (before : ℕ) → IsCausal (pin_count before)
unfolding pin_count
IsCausal-pin_count before = IsCausal-bind _ _ (IsCausal-natural _ _ _) (λ count. IsCausal-bind _ _ (IsCausal-check _ _) (λ _. IsCausal-pure _))

IsCausal-net : (f : Frame) (found : List Net) → IsCausal (net f found)
unfolding net
IsCausal-net f found =
    IsCausal-bind _ _ (IsCausal-token _) (λ name. IsCausal-bind _ _ (IsCausal-net_id _) (λ id. IsCausal-bind _ _ (IsCausal-pin_count _) (λ count. IsCausal-bind _ _ (IsCausal-natural _ _ _)
    (λ width. IsCausal-bind _ _ (IsCausal-several _ (λ _. IsCausal-pin _) _ _) (λ pins. IsCausal-pure _)))))

IsCausal-net_count : IsCausal net_count
unfolding net_count
IsCausal-net_count = IsCausal-bind _ _ (IsCausal-words _ _) (λ _. IsCausal-natural _ _ _)

IsCausal-nets : (f : Frame) → IsCausal (nets f)
unfolding nets
IsCausal-nets f = IsCausal-bind _ _ IsCausal-net_count (λ count. IsCausal-several _ (λ found. IsCausal-net _ found) _ _)

IsCausal-place : (shape : Shape) → IsCausal (place shape)
unfolding place
IsCausal-place shape =
    IsCausal-bind _ _ (IsCausal-natural _ _ _) (λ column. IsCausal-bind _ _ (IsCausal-check _ _) (λ _. IsCausal-bind _ _ (IsCausal-natural _ _ _)
    (λ row. IsCausal-bind _ _ (IsCausal-check _ _) (λ _. IsCausal-bind _ _ (IsCausal-layer_in _ _) (λ layer. IsCausal-pure _)))))

IsCausal-adjustment : (shape : Shape) → IsCausal (adjustment shape)
unfolding adjustment
IsCausal-adjustment shape =
    IsCausal-bind _ _ (IsCausal-place _) (λ from. IsCausal-bind _ _ (IsCausal-place _) (λ to. IsCausal-bind _ _ (IsCausal-given _ _) (λ edge. IsCausal-bind _ _ (IsCausal-natural _ _ _) (λ capacity. IsCausal-pure _))))

IsCausal-adjustment_count : (word : List ℕ) → IsCausal (adjustment_count word)
unfolding adjustment_count
IsCausal-adjustment_count word = IsCausal-bind _ _ (IsCausal-given _ _) (λ count. IsCausal-pure _)

IsEarly-counted_adjustments : (shape : Shape) (word : List ℕ) → IsEarly (counted_adjustments shape word)
unfolding counted_adjustments
IsEarly-counted_adjustments shape word =
    IsEarly-bind _ _ (IsCausal-adjustment_count _) (λ count. IsEarly-bind _ _ (IsCausal-several _ (λ _. IsCausal-adjustment _) _ _) (λ all. IsEarly-sure _ _ (IsEarly-end _ _) (λ _. IsSure-pure _)))

IsEarly-adjustments : (shape : Shape) → IsEarly (adjustments shape)
unfolding adjustments
IsEarly-adjustments shape = IsEarly-last ends (adjustments_from shape) (λ word. IsEarly-counted_adjustments shape word) (IsSure-pure [])

pub IsEarly-design : IsEarly design
unfolding design
IsEarly-design =
    IsEarly-bind _ _ IsCausal-frame (λ f. IsEarly-bind _ _ (IsCausal-nets f) (λ all. IsEarly-sure _ _ (IsEarly-adjustments _) (λ adjustments. IsSure-pure _)))
