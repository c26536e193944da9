-- The text of buffers by blocks of nets, whose plans are made by a rule.
use Rattle.std.specs.Prelude.{◌≡◌, ℕ, ◌+◌, ◌-◌, ◌*◌, ◌^◌, ◌<◌, ◌≤◌, List, length, filter, sum_by, Option, IfSome, slice_index_or}
use Rattle.std.specs.List.{range_with_len}
use Rattle.beside_calls.specs.Blocks.{block_start}
use Rattle.gr_base.specs.Designs.{DesignView, is_routed}
use Rattle.gr_base.specs.Trees.{TreeView}
use Rattle.rc_library.specs.Libraries.{LibraryView}
use Rattle.elmore_delay.specs.Loadings.{LoadingView}
use Rattle.elmore_delay.specs.PlanLists.{plan_at}
use Rattle.elmore_delay.specs.declared.plans.Plan.{Plan}
use Rattle.buffer_plan.specs.Rules.{IsByRule, AreAllByRule, plans_by}
use Rattle.report_text.specs.BufferTexts.{buffers_in, buffers_text, net_lines}
use Rattle.text_commands.specs.declared.told.Told.{Told}

-- how many buffers the routed nets from the first number on, below the last, have together
abbrev pub buffers_between : DesignView → List (Option Plan) → (first last : ℕ) → ℕ
buffers_between d plans first last =
    sum_by (λ net. buffers_in (plan_at plans net)) (filter (is_routed d) (range_with_len first (last - first)))

module _ (rule : LoadingView → Option Plan) (d : DesignView) (lib : LibraryView) (trees : List (Option TreeView)) where
  -- what is told of the nets from the first number on, below the last: their lines, and how many buffers they have; each
  -- has what the rule gives it
  pub record IsTold (first last : ℕ) (told : Told) : Type 0 where
    pub lines : told.lines ≡ net_lines d lib trees (plans_by rule d lib trees) first last
    pub buffers : told.buffers ≡ buffers_between d (plans_by rule d lib trees) first last
    pub few : told.buffers + first * 2 ^ 64 ≤ last * 2 ^ 64
    pub by_rule : (net : ℕ) → first ≤ net → net < last → IsByRule rule d lib trees net (plan_at (plans_by rule d lib trees) net)

  -- what is told of a block, and of each of some blocks, where memory was enough
  abbrev pub IsBlock : (size at : ℕ) → Option Told → Type 0
  IsBlock size at block =
      IfSome block (IsTold (block_start (length d.nets) 0 size at) (block_start (length d.nets) 0 size (at + 1)))

  abbrev pub AreBlocks : (size : ℕ) → List (Option Told) → Type 0
  AreBlocks size blocks = (at : ℕ) → (told : Option Told) → at < length blocks → IsBlock size at (slice_index_or blocks at told)

  -- the text of the plans by the rule, and that these are by the rule
  pub record IsTextByRule (text : List ℕ) : Type 0 where
    pub says : text ≡ buffers_text d lib trees (plans_by rule d lib trees)
    pub by_rule : AreAllByRule rule d lib trees (plans_by rule d lib trees)
