-- Runs that begin from a solution's routes.
use Rattle.std.proofs.Common.{◌≡◌, ℕ, List, ◌++◌, Option, Some, None, IsSomeAnd, IsTrue, Result, Ok, Err, refl, sym, ap, subst, ◌∙◌, append_assoc}
use Rattle.gr_base.proofs.General.{and-some}
use Rattle.gr_base.specs.Designs.{DesignView}
use Rattle.command_form.specs.Said.{design_said}
use Rattle.gr_io.specs.Devices.{Device, Reading, Gains}
use Rattle.gr_io.specs.declared.shelf.Slot.TheVariants.{Solution}
use Rattle.kept_routes.specs.Kept.{AreKept}
use Rattle.report_text.specs.BufferTexts.{buffers_text}
use Rattle.route_evaluator.specs.Verdicts.{IsVerdict}
use Rattle.route_evaluator.specs.declared.verdict.Verdict.{Verdict}
use Rattle.router_top.specs.Routing.{told_between, IsRouting}
use Rattle.router_top.specs.declared.kept.Kept.{Kept}
use Rattle.solution_text.specs.Cover.{cover}
use Rattle.text_commands.specs.Judging.{report_of}
use Rattle.word_reader.specs.declared.order.Options.{Options}
use Rattle.given_laws.proofs.RouteLaws.{as-given, none-worse}
use Rattle.given_laws.specs.Laws.{AreAllKept, KeptAsGiven, NeverWorse, ReportsNoWorse, WritesAsGiven}

-- the value that a text says, or another where it says none
abbrev value-in : {A E : Type 0} → A → Option (Result A E) → A
value-in a None = a
value-in a (Some (Ok b)) = b
value-in a (Some (Err e)) = a

-- what a run read and made that begins from a solution, by the texts that the shelf held
module _ (design library solution : List ℕ) (options : Options) (shelf : Reading) (d : DesignView) (bytes : List ℕ) (tells : IsTrue shelf.tells)
    (said : design_said shelf.held design ≡ Some (Ok d)) (held : shelf.held Solution solution ≡ Some bytes) where
  abbrev Routes : Kept → (text report : List ℕ) → Type 0
  Routes k text report = IsRouting shelf design library (Some solution) options k.book.state k.hands.items text report

  -- the design is the one that was read, and the given trees are those of the nets that can be kept
  same-design : (k : Kept) (text report : List ℕ) (r : Routes k text report) → r.design ≡ d
  same-design k text report r = ap (value-in d) (sym (r.said tells) ∙ said)

  kept-by : (k : Kept) (text report : List ℕ) (r : Routes k text report) → AreKept r.design (cover r.design bytes) r.beginning.given
  kept-by k text report r = and-some (λ (bs : List ℕ). AreKept r.design (cover r.design bs) r.beginning.given) (shelf.held Solution solution) bytes held (r.begun.covered tells)

  reports-no-worse : (err : Device) (kept : Option Kept) (text report : List ℕ) (other : Verdict) → AreAllKept d (cover d bytes) → IsVerdict d options.via_cost (cover d bytes) other →
      Gains err report → IsSomeAnd kept (λ k. Routes k text report) → ReportsNoWorse err other
  reports-no-worse err None text report other all is gains none = absurd none
  reports-no-worse err (Some k) text report other all is gains r =
      let same = same-design k text report r in
      record {
        own = r.routed.verdict;
        no_worse = none-worse shelf design library (Some solution) options k.book.state k.hands.items text report r (cover r.design bytes) (kept-by k text report r)
            (subst (λ (x : DesignView). AreAllKept x (cover x bytes)) (sym same) all) other
            (subst (λ (x : DesignView). IsVerdict x options.via_cost (cover x bytes) other) (sym same) is);
        more = told_between r.design r.beginning options k.book.state.history ++ buffers_text r.design r.library r.routed.trees r.routed.plans;
        gains = subst (Gains err) (r.routed.reports
            ∙ append_assoc (report_of r.routed.verdict) (told_between r.design r.beginning options k.book.state.history)
            (buffers_text r.design r.library r.routed.trees r.routed.plans)) gains;
      }

  writes-as-given : (out : Device) (kept : Option Kept) (text report : List ℕ) → options.rounds ≡ 0 →
      Gains out text → IsSomeAnd kept (λ k. Routes k text report) → WritesAsGiven out d (cover d bytes)
  writes-as-given out None text report none gains nothing = absurd nothing
  writes-as-given out (Some k) text report none gains r =
      subst (λ (x : DesignView). WritesAsGiven out x (cover x bytes)) (same-design k text report r) (record {
        text = text;
        gains = gains;
        as_given = as-given shelf design library (Some solution) options k.book.state k.hands.items text report r (cover r.design bytes) (kept-by k text report r) none;
      })

pub never-worse : NeverWorse
never-worse design library solution options shelf out err kept d bytes other tells said held all is run =
    let done = run.whole refl in
    reports-no-worse design library solution options shelf d bytes tells said held err kept done.text done.report other all is done.err_gains done.says.1

pub kept-as-given : KeptAsGiven
kept-as-given design library solution options shelf out err kept d bytes tells said held none run =
    let done = run.whole refl in
    writes-as-given design library solution options shelf d bytes tells said held out kept done.text done.report none done.out_gains done.says.1
