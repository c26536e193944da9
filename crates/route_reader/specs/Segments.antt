-- How the token of a segment is taken apart.
use Rattle.std.specs.Prelude.{ℕ, List, ◌∷◌, Option, Some, None, option_map, Err, if◌then◌else◌}
use Rattle.std.specs.List.{filter, slice_split}
use Rattle.std.specs.Str.{bytes_eq}
use Rattle.gr_base.specs.declared.frame.Frame.{Frame}
use Rattle.solution_text.specs.declared.run.Run.{Run}
use Rattle.solution_text.specs.declared.fault.SolutionFault.TheVariants.{Form}
use Rattle.solution_text.specs.Grammar.{Checked, ◌>>=◌, is_mark, spot_of, run_between}
use Rattle.route_reader.specs.declared.segment.SplitText.{SplitText}
use Rattle.route_reader.specs.declared.segment.Written.{Written}
use Rattle.route_reader.specs.declared.segment.Points.{Points}

-- the parts between the marks of a text, if its marks are these
abbrev pub parted : (marks : List ℕ) → List ℕ → Option (List (List ℕ))
parted marks text = if bytes_eq (filter is_mark text) marks then Some (slice_split is_mark text) else None

-- the part before the first mark, and the parts of what follows the mark
abbrev pub after_cut : (marks : List ℕ) → Option SplitText → Option (List (List ℕ))
after_cut marks None = None
after_cut marks (Some cut) = option_map (λ parts. cut.before.now ∷ parts) (parted marks cut.rest.now)

-- a point's parts, and those of what follows it
abbrev pub after_point : (marks : List ℕ) → Option Written → Option (List (List ℕ))
after_point marks None = None
after_point marks (Some point) =
    option_map (λ parts. point.lead.now ∷ point.x.now ∷ point.y.now ∷ point.layer.now ∷ parts)
    (parted marks point.rest.now)

-- the run between two ends that were taken apart
abbrev pub run_of_ends : Frame → Option Points → Checked Run
run_of_ends frame None = Err Form
run_of_ends frame (Some ends) = do
  a ← spot_of ends.from.x.now ends.from.y.now ends.from.layer.now
  b ← spot_of ends.to.x.now ends.to.y.now ends.to.layer.now
  run_between frame a b
