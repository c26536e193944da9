-- What is told of nets whose plans are made by a rule, net by net and block by block.
use Rattle.std.proofs.Common.{◌≡◌, ℕ, zero, suc, ◌+◌, ◌-◌, ◌*◌, ◌^◌, ◌<◌, ◌≤◌, inl, inr, nat_lt, Bool, true, false, List, [], ◌∷◌, ◌++◌, length, filter, sum_by, slice_get, Option, Some, None, Result, Ok, Err, IfOk, OnOk, if◌then◌else◌, refl, sym, ap, subst, ◌∙◌, append_assoc, append-nil, arith}
use Rattle.std.specs.List.{flat_map, range_with_len}
use Rattle.std.specs.Option.{IsSomeAnd, option_and_then}
use Rattle.std.proofs.lemmas.Bool.{cases_Bool, cases_eq, cases_lt, false≢true}
use Rattle.std.proofs.lemmas.Grind.{flat_map-append}
use Rattle.std.proofs.lemmas.List.Elements.{filter-append}
use Rattle.std.proofs.lemmas.List.FromFn.{get_or-map-range_with_len, length-map-range_with_len}
use Rattle.std.proofs.lemmas.List.Sums.{sum_by-append}
use Rattle.beside_calls.specs.Blocks.{block_start}
use Rattle.gr_base.specs.Designs.{DesignView, is_routed}
use Rattle.gr_base.specs.Trees.{TreeView, tree_at}
use Rattle.gr_base.specs.declared.frame.Net.{Net}
use Rattle.rc_library.specs.Libraries.{LibraryView}
use Rattle.elmore_delay.specs.Loadings.{LoadingView}
use Rattle.elmore_delay.specs.PlanLists.{plan_at}
use Rattle.elmore_delay.specs.declared.plans.Plan.{Plan}
use Rattle.buffer_plan.specs.Plans.{loading_of}
use Rattle.buffer_plan.specs.Rules.{IsRuled, IsByRule, AreAllByRule, picked_plan, plan_by, plans_by}
use Rattle.buffer_plan.proofs.PlansLemmas.{get-plan, plan-past, not-routed, picked-planned}
use Rattle.polar_lists.proofs.NetLemmas.{net-plan}
use Rattle.polar_lists.specs.PolarPlans.{legal_plan}
use Rattle.report_text.specs.BufferTexts.{buffers_in, net_buffers, net_lines, plan_text}
use Rattle.report_text.proofs.BufferLemmas.{lines-more, net-lines, net-skipped}
use Rattle.gr_base.proofs.General.{range-more}
use Rattle.text_commands.specs.Buffering.{ArePlansBy, IsBuffersText}
use Rattle.text_commands.specs.Placing.{buffers_between, IsTold, IsTextByRule}
use Rattle.text_commands.specs.declared.told.Told.{Told}

pub on-ok : {A E P Q : Type 0} (r : Result A E) → OnOk r P → (P → Q) → OnOk r Q
on-ok (Ok x) is more = more is
on-ok (Err e) is more = tt

-- ---- ranges that follow one another

ranges-behind : (first m n : ℕ) → range_with_len first m ++ range_with_len (first + m) n ≡ range_with_len first (m + n)
ranges-behind first zero n =
    let here : first + zero ≡ first = omega arith in
    let same : n ≡ zero + n = omega arith in
    ap (λ (k : ℕ). range_with_len k n) here ∙ ap (λ (k : ℕ). range_with_len first k) same
ranges-behind first (suc m) n =
    let here : first + suc m ≡ first + 1 + m = omega arith in
    let same : suc (m + n) ≡ suc m + n = omega arith in
    ap (λ (k : ℕ). first ∷ (range_with_len (first + 1) m ++ range_with_len k n)) here
    ∙ ap (λ (ns : List ℕ). first ∷ ns) (ranges-behind (first + 1) m n)
    ∙ ap (λ (k : ℕ). range_with_len first k) same

ranges-join : (middle last : ℕ) → middle ≤ last → range_with_len 0 (middle - 0) ++ range_with_len middle (last - middle) ≡ range_with_len 0 (last - 0)
ranges-join middle last high =
    let none : middle - 0 ≡ middle = omega arith in
    let place : middle ≡ 0 + middle = omega arith in
    let whole : middle + (last - middle) ≡ last - 0 = omega arith in
    ap (λ (k : ℕ). range_with_len 0 k ++ range_with_len middle (last - middle)) none
    ∙ ap (λ (k : ℕ). range_with_len 0 middle ++ range_with_len k (last - middle)) place
    ∙ ranges-behind 0 middle (last - middle)
    ∙ ap (λ (k : ℕ). range_with_len 0 k) whole

lines-join : (f : ℕ → List ℕ) (middle last : ℕ) → middle ≤ last →
    flat_map f (range_with_len 0 (middle - 0)) ++ flat_map f (range_with_len middle (last - middle)) ≡ flat_map f (range_with_len 0 (last - 0))
lines-join f middle last high =
    sym (flat_map-append f (range_with_len 0 (middle - 0)) (range_with_len middle (last - middle)))
    ∙ ap (λ (ns : List ℕ). flat_map f ns) (ranges-join middle last high)

buffers-join : (d : DesignView) (plans : List (Option Plan)) (middle last : ℕ) → middle ≤ last →
    buffers_between d plans 0 middle + buffers_between d plans middle last ≡ buffers_between d plans 0 last
buffers-join d plans middle last high =
    let f : ℕ → ℕ = λ net. buffers_in (plan_at plans net) in
    let low : List ℕ = range_with_len 0 (middle - 0) in
    let rest : List ℕ = range_with_len middle (last - middle) in
    sym (sum_by-append f (filter (is_routed d) low) (filter (is_routed d) rest))
    ∙ ap (sum_by f) (sym (filter-append (is_routed d) low rest))
    ∙ ap (λ (ns : List ℕ). sum_by f (filter (is_routed d) ns)) (ranges-join middle last high)

-- one net more
buffers-more : (d : DesignView) (plans : List (Option Plan)) (first net : ℕ) → first ≤ net →
    buffers_between d plans first (net + 1) ≡ buffers_between d plans first net + (if is_routed d net then buffers_in (plan_at plans net) else 0)
buffers-more d plans first net low =
    let f : ℕ → ℕ = λ n. buffers_in (plan_at plans n) in
    let count : ℕ = net - first in
    let more : net + 1 - first ≡ count + 1 = omega arith in
    let here : first + count ≡ net = omega arith in
    ap (λ (k : ℕ). sum_by f (filter (is_routed d) (range_with_len first k))) more
    ∙ ap (λ (ns : List ℕ). sum_by f (filter (is_routed d) ns)) (range-more first count)
    ∙ ap (λ (k : ℕ). sum_by f (filter (is_routed d) (range_with_len first count ++ k ∷ []))) here
    ∙ ap (sum_by f) (filter-append (is_routed d) (range_with_len first count) (net ∷ []))
    ∙ sum_by-append f (filter (is_routed d) (range_with_len first count)) (filter (is_routed d) (net ∷ []))
    ∙ ap (λ (k : ℕ). buffers_between d plans first net + k) (last (is_routed d net))
  where
    last : (b : Bool) → sum_by (λ n. buffers_in (plan_at plans n)) (if b then net ∷ [] else []) ≡ (if b then buffers_in (plan_at plans net) else 0)
    last true = omega arith
    last false = refl

module _ (rule : LoadingView → Option Plan) (d : DesignView) (lib : LibraryView) (trees : List (Option TreeView)) where
  abbrev all : List (Option Plan)
  all = plans_by rule d lib trees

  -- ---- the one plan of a net

  skipped-plan : (net : ℕ) → is_routed d net ≡ false → plan_by rule d lib trees net ≡ None
  skipped-plan net is = rw is refl

  pub plan-is : (net : ℕ) → plan_at all net ≡ plan_by rule d lib trees net
  plan-is net =
      let long : length all ≡ length d.nets = length-map-range_with_len (plan_by rule d lib trees) 0 (length d.nets) in
      elim (cases_lt net (length d.nets)) [
        | inl below ↦
            get-plan all net (omega arith)
            ∙ get_or-map-range_with_len (plan_by rule d lib trees) 0 (length d.nets) net net None below (omega arith)
        | inr past ↦ plan-past all net (omega arith) ∙ sym (skipped-plan net (not-routed d net past))
      ]

  by-rule : (net : ℕ) (plan : Option Plan) → IsByRule rule d lib trees net plan → plan ≡ plan_by rule d lib trees net
  by-rule net plan is = elim (cases_Bool (is_routed d net)) [
    | inl routed ↦
        with (tree_at trees net) (is.routed routed)
        ∙ sym (ap (λ (b : Bool). if b then option_and_then (λ t. rule (loading_of d lib net t)) (tree_at trees net) else None) routed)
    | inr other ↦ is.other other ∙ sym (skipped-plan net other)
  ]
    where
      with : (o : Option TreeView) → IsSomeAnd o (λ t. IsRuled rule (loading_of d lib net t) plan) → plan ≡ option_and_then (λ t. rule (loading_of d lib net t)) o
      with None there = absurd there
      with (Some t) there = there.is

  -- what is planned for a net by the rule is its plan
  pub planned-is : (net : ℕ) (plan : Option Plan) → IsByRule rule d lib trees net plan → plan_at all net ≡ plan
  planned-is net plan is = plan-is net ∙ sym (by-rule net plan is)

  -- ---- net by net

  pub told-none : (first : ℕ) (told : Told) → told.lines ≡ [] → told.buffers ≡ 0 → IsTold rule d lib trees first first told
  told-none first told no_lines no_buffers =
      let none : 0 ≡ first - first = omega arith in
      record {
        lines = no_lines ∙ ap (λ (n : ℕ). flat_map (net_buffers d lib trees all) (range_with_len first n)) none;
        buffers = no_buffers ∙ ap (λ (n : ℕ). sum_by (λ net. buffers_in (plan_at all net)) (filter (is_routed d) (range_with_len first n))) none;
        few = omega (arith, no_buffers);
        by_rule = λ net low high. absurd (omega (arith, low, high));
      }

  pub told-more : (first net : ℕ) (old new : Told) (plan : Option Plan) → first ≤ net → IsTold rule d lib trees first net old →
      IsByRule rule d lib trees net plan → new.lines ≡ old.lines ++ net_buffers d lib trees all net →
      new.buffers ≡ old.buffers + (if is_routed d net then buffers_in plan else 0) → (if is_routed d net then buffers_in plan else 0) ≤ 2 ^ 64 →
      IsTold rule d lib trees first (net + 1) new
  told-more first net old new plan low told is lines buffers few =
      let f : ℕ → List ℕ = net_buffers d lib trees all in
      let same = planned-is net plan is in
      let more = buffers-more d all first net low in
      let one : (if is_routed d net then buffers_in plan else 0) ≡ (if is_routed d net then buffers_in (plan_at all net) else 0) =
      ap (λ (p : Option Plan). if is_routed d net then buffers_in p else 0) (sym same) in
      record {
        lines = lines ∙ ap (λ (t : List ℕ). t ++ f net) told.lines ∙ lines-more f [] first net low;
        buffers = omega (arith, buffers, told.buffers, more, one);
        few = omega (arith, buffers, few, told.few);
        by_rule = λ k from below. elim (cases_eq k net) [
          | inl here ↦ subst (λ (n : ℕ). IsByRule rule d lib trees n (plan_at all n)) (sym here) (subst (IsByRule rule d lib trees net) (sym same) is)
          | inr apart ↦ told.by_rule k from (omega arith)
        ];
      }

  -- a net that isn't routed
  pub told-skipped : (first net : ℕ) (told : Told) (plan : Option Plan) → first ≤ net → IsTold rule d lib trees first net told →
      IsByRule rule d lib trees net plan → is_routed d net ≡ false → IsTold rule d lib trees first (net + 1) told
  told-skipped first net told plan low before is other =
      let none : (if is_routed d net then buffers_in plan else 0) ≡ 0 = rw other refl in
      told-more first net told told plan low before is
      (sym (append-nil told.lines) ∙ ap (λ (t : List ℕ). told.lines ++ t) (sym (net-skipped d lib trees all net other)))
      (omega (arith, none)) (omega (arith, none))

  -- a routed net with its tree and what the rule gives it
  pub told-routed : (first net : ℕ) (old new : Told) (plan : Option Plan) (value : Net) (t : TreeView) → first ≤ net → IsTold rule d lib trees first net old →
      IsByRule rule d lib trees net plan → is_routed d net ≡ true → slice_get d.nets net ≡ Some value → tree_at trees net ≡ Some t →
      new.lines ≡ old.lines ++ plan_text d.frame lib (Some value) (Some t) plan → new.buffers ≡ old.buffers + buffers_in plan → buffers_in plan ≤ 2 ^ 64 →
      IsTold rule d lib trees first (net + 1) new
  told-routed first net old new plan value t low before is routed there tree lines buffers few =
      let one : (if is_routed d net then buffers_in plan else 0) ≡ buffers_in plan = rw routed refl in
      told-more first net old new plan low before is
      (lines ∙ ap (λ (text : List ℕ). old.lines ++ text) (sym (net-lines d lib trees all net value t plan routed there tree (planned-is net plan is))))
      (omega (arith, buffers, one)) (omega (arith, few, one))

  -- ---- block by block

  abbrev start : ℕ → ℕ → ℕ
  start size at = block_start (length d.nets) 0 size at

  start-next : (size at : ℕ) → start size at ≤ start size (at + 1)
  start-next size at =
      let wide : (at + 1) * size ≡ at * size + size = omega arith in
      omega arith

  pub start-none : (size : ℕ) → start size 0 ≡ 0
  start-none size = omega arith

  -- all blocks
  pub start-all : (size count at : ℕ) → length d.nets ≤ count * size → count ≤ at → start size at ≡ length d.nets
  start-all size count at whole past =
      let rest : at ≡ count + (at - count) = omega arith in
      let wide : at * size ≡ count * size + (at - count) * size = ap (λ (n : ℕ). n * size) rest ∙ (let e : (count + (at - count)) * size ≡ count * size + (at - count) * size = omega arith in e) in
      omega arith

  -- how many buffers the blocks before a number have, where each net of them has what the rule gives it
  pub record AreSummed (size at total : ℕ) : Type 0 where
    pub sum : total ≡ buffers_between d all 0 (start size at)
    pub few : total ≤ start size at * 2 ^ 64
    pub by_rule : (net : ℕ) → net < start size at → IsByRule rule d lib trees net (plan_at all net)

  pub sum-none : (size : ℕ) → AreSummed size 0 0
  sum-none size =
      let none = start-none size in
      record {
        sum = ap (λ (n : ℕ). buffers_between d all 0 n) (sym none);
        few = omega (arith, none);
        by_rule = λ net below. absurd (omega (arith, none, below));
      }

  pub sum-more : (size at sum : ℕ) (told : Told) → AreSummed size at sum → IsTold rule d lib trees (start size at) (start size (at + 1)) told →
      AreSummed size (at + 1) (sum + told.buffers)
  sum-more size at sum told are is = record {
    sum = omega (arith, are.sum, is.buffers, buffers-join d all (start size at) (start size (at + 1)) (start-next size at));
    few = omega (arith, are.few, is.few);
    by_rule = λ net below. elim (cases_lt net (start size at)) [
      | inl before ↦ are.by_rule net before
      | inr from ↦ is.by_rule net from below
    ];
  }

  pub sum-all : (size count at sum : ℕ) → length d.nets ≤ count * size → count ≤ at → AreSummed size at sum →
      (sum ≡ buffers_between d all 0 (length d.nets)) × AreAllByRule rule d lib trees all
  sum-all size count at sum whole past are =
      let end = start-all size count at whole past in (
        are.sum ∙ ap (λ (n : ℕ). buffers_between d all 0 n) end,
        λ net. elim (cases_lt net (length d.nets)) [
          | inl below ↦ are.by_rule net (omega arith)
          | inr beyond ↦ record {
            routed = λ routed. absurd (routed-past net beyond routed);
            other = λ other. plan-is net ∙ skipped-plan net other;
          }
        ],
      )
    where
      routed-past : (net : ℕ) → length d.nets ≤ net → is_routed d net ≡ true → ⊥
      routed-past net beyond routed = false≢true (sym (not-routed d net beyond) ∙ routed)

  -- one more block's lines
  pub block-more : (size at : ℕ) (head now next bytes : List ℕ) (told : Told) → now ≡ head ++ net_lines d lib trees all 0 (start size at) → next ≡ now ++ bytes →
      bytes ≡ told.lines → IsTold rule d lib trees (start size at) (start size (at + 1)) told → next ≡ head ++ net_lines d lib trees all 0 (start size (at + 1))
  block-more size at head now next bytes told before more lines is =
      more ∙ ap (λ (text : List ℕ). text ++ bytes) before
      ∙ append_assoc head (net_lines d lib trees all 0 (start size at)) bytes
      ∙ ap (λ (text : List ℕ). head ++ (net_lines d lib trees all 0 (start size at) ++ text)) (lines ∙ is.lines)
      ∙ ap (λ (text : List ℕ). head ++ text) (lines-join (net_buffers d lib trees all) (start size at) (start size (at + 1)) (start-next size at))

  pub block-none : (size : ℕ) (text : List ℕ) → text ≡ text ++ net_lines d lib trees all 0 (start size 0)
  block-none size text = sym (append-nil text) ∙ ap (λ (last : ℕ). text ++ net_lines d lib trees all 0 last) (sym (start-none size))

-- ---- the text

-- by the rule of buffers that invert nothing
pub plain-text : {E : Type 0} (d : DesignView) (lib : LibraryView) (trees : List (Option TreeView)) (result : Result (List ℕ) E) → nat_lt lib.version 3 ≡ true →
    IfOk result (IsTextByRule picked_plan d lib trees) → IfOk result (IsBuffersText d lib trees)
plain-text d lib trees (Err e) is text = tt
plain-text d lib trees (Ok bytes) is text =
    let plans : List (Option Plan) = plans_by picked_plan d lib trees in
    record {
      plans = plans;
      planned = subst (λ (b : Bool). ArePlansBy b d lib trees plans) (sym is) (λ net. picked-planned d lib trees net (plan_at plans net) (text.by_rule net));
      says = text.says;
    }

-- by that of a library with inverters
pub polar-text : {E : Type 0} (d : DesignView) (lib : LibraryView) (trees : List (Option TreeView)) (result : Result (List ℕ) E) → nat_lt lib.version 3 ≡ false →
    IfOk result (IsTextByRule legal_plan d lib trees) → IfOk result (IsBuffersText d lib trees)
polar-text d lib trees (Err e) is text = tt
polar-text d lib trees (Ok bytes) is text =
    let plans : List (Option Plan) = plans_by legal_plan d lib trees in
    record {
      plans = plans;
      planned = subst (λ (b : Bool). ArePlansBy b d lib trees plans) (sym is) (λ net. net-plan d lib trees net (plan_at plans net) (text.by_rule net));
      says = text.says;
    }
