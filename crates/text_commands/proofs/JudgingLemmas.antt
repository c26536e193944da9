-- A judging, and what the files of it say.
use Rattle.std.proofs.Common.{◌≡◌, ℕ, List, [], ◌∷◌, Contains, Option, Some, None, Result, Ok, IsTrue, refl, ap, subst, ◌∙◌, arith}
use Rattle.gr_base.specs.Designs.{DesignView}
use Rattle.gr_io.specs.declared.shelf.Slot.TheVariants.{Solution}
use Rattle.ispd_reader.specs.declared.fault.DesignFault.{DesignFault as Fault}
use Rattle.route_evaluator.specs.Verdicts.{IsVerdict, IsUnjoined}
use Rattle.route_evaluator.specs.declared.verdict.Verdict.{Verdict}
use Rattle.route_evaluator.proofs.VerdictLemmas.{verdict-same}
use Rattle.route_reader.specs.Solutions.{SolutionView, edges_by}
use Rattle.command_form.specs.Opening.{IsCovered}
use Rattle.command_form.specs.declared.stop.Outcome.{Outcome}
use Rattle.solution_text.specs.Cover.{cover}
use Rattle.gr_io.specs.Devices.{Device, Reading}
use Rattle.command_form.specs.Commands.{IsLawful, checked}
use Rattle.command_form.specs.Said.{design_fault, design_said, solution_fault, solution_said}
use Rattle.text_commands.specs.Judging.{judging, IsJudging, IsCoverVerdict, IsVerdictText, outcome_of, HasOpenNet}
use Rattle.command_form.specs.Leaving.{LeavesOut, WritesOne}
use Rattle.command_form.proofs.LeavingLemmas.{written-one}
use Rattle.command_form.specs.declared.stop.Outcome.TheVariants.{Whole, Open}
use Rattle.command_form.specs.declared.stop.Stop.{Stop}
use Rattle.solution_text.specs.declared.fault.SolutionFault.{SolutionFault as SolutionFaultKind}

-- the design is said in one way
pub one_design : (said : Option (Result DesignView (Fault × ℕ))) (d e : DesignView) → said ≡ Some (Ok d) → said ≡ Some (Ok e) → d ≡ e
one_design said d e first second = cc

-- a list that isn't empty has a member
first_open : (nets : List ℕ) → Open ≡ outcome_of nets → (net : ℕ) × Contains nets net
first_open [] is = cc
first_open (net ∷ nets) is = (net, (0, omega arith, refl))

none_open : (nets : List ℕ) (net : ℕ) → Whole ≡ outcome_of nets → Contains nets net → ⊥
none_open [] net is has = let below = has.1 in absurd (omega arith)
none_open (first ∷ nets) net is has = cc

-- where a judged text leaves a net open, the files leave it open
pub judged-open : (shelf : Reading) (design solution : List ℕ) (via_cost : ℕ) (text : List ℕ) → IsJudging shelf design solution via_cost Open text → IsTrue shelf.tells → HasOpenNet shelf design solution
judged-open shelf design solution via_cost text judging tells = by_held (shelf.held Solution solution) refl (judging.covered tells)
  where
    by_held : (o : Option (List ℕ)) → shelf.held Solution solution ≡ o → IsCoverVerdict judging.design via_cost o judging.verdict →
        HasOpenNet shelf design solution
    by_held None is judged = absurd judged
    by_held (Some bytes) is judged =
        let found = first_open judging.verdict.unjoined judging.ends in
        record {
          design = judging.design;
          said = judging.said tells;
          bytes = bytes;
          held = is;
          net = found.0;
          unjoined = (judged.unjoined found.0).0 found.1;
        }

-- where it leaves none open, neither do the files
pub judged-whole : (shelf : Reading) (design solution : List ℕ) (via_cost : ℕ) (text : List ℕ) → IsJudging shelf design solution via_cost Whole text → IsTrue shelf.tells → HasOpenNet shelf design solution → ⊥
judged-whole shelf design solution via_cost text judging tells left = by_held (shelf.held Solution solution) refl (judging.covered tells)
  where
    by_held : (o : Option (List ℕ)) → shelf.held Solution solution ≡ o → IsCoverVerdict judging.design via_cost o judging.verdict → ⊥
    by_held None is judged = absurd judged
    by_held (Some bytes) is judged =
        let same : left.design ≡ judging.design = one_design (design_said shelf.held design) left.design judging.design left.said (judging.said tells) in
        let text_same : left.bytes ≡ bytes = cc in
        let unjoined : IsUnjoined judging.design (cover judging.design bytes) left.net =
        subst (λ (b : List ℕ). IsUnjoined judging.design (cover judging.design b) left.net) text_same
        (subst (λ (d : DesignView). IsUnjoined d (cover d left.bytes) left.net) same left.unjoined) in
        none_open judging.verdict.unjoined left.net judging.ends ((judged.unjoined left.net).1 unjoined)

-- a verdict by a solution's runs is one by what the held bytes cover
covered-verdict : (d : DesignView) (s : SolutionView) (via_cost : ℕ) (v : Verdict) → IsVerdict d via_cost (edges_by s) v →
    (held : Option (List ℕ)) → IsCovered d held s → IsCoverVerdict d via_cost held v
covered-verdict d s via_cost v judged None covered = covered
covered-verdict d s via_cost v judged (Some bytes) covered = verdict-same d via_cost (edges_by s) (cover d bytes) v covered judged

-- a verdict on what was read, as it was written, is what the command leaves
module _ (shelf : Reading) (design_name solution_name : List ℕ) (via_cost : ℕ) (d : DesignView) (s : SolutionView)
    (said : IsTrue shelf.tells → design_said shelf.held design_name ≡ Some (Ok d)) (read : IsTrue shelf.tells → solution_said shelf.held solution_name d ≡ Some (Ok s))
    (covered : IsTrue shelf.tells → IsCovered d (shelf.held Solution solution_name) s) where
  is-judging : (outcome : Outcome) (text : List ℕ) → IsVerdictText d (edges_by s) via_cost outcome text →
      IsJudging shelf design_name solution_name via_cost outcome text
  is-judging outcome text is = record {
    design = d;
    said = said;
    solution = s;
    read = read;
    verdict = is.verdict;
    judged = is.judged;
    covered = λ tells. covered-verdict d s via_cost is.verdict is.judged (shelf.held Solution solution_name) (covered tells);
    says = is.says;
    ends = is.ends;
  }

  pub judged : (K : Type 0) (out : Device) (end : Result Outcome Stop) → shelf.faults_after ≡ shelf.faults →
      WritesOne (IsVerdictText d (edges_by s) via_cost) (λ stop. ⊥) out end → LeavesOut (judging {K = K} design_name solution_name via_cost) shelf out None end
  judged K out end reads is =
      written-one (judging {K = K} design_name solution_name via_cost) shelf out reads (IsVerdictText d (edges_by s) via_cost)
      (λ outcome text is. (refl, refl, is-judging outcome text is)) (λ stop. ⊥) (λ stop no. absurd no) (λ stop no. absurd no) end is

-- the law of the command
pub judging-lawful : {K : Type 0} → (design solution : List ℕ) (via_cost : ℕ) → IsLawful {K = K} (judging design solution via_cost)
judging-lawful design solution via_cost = record {
  refuses = λ shelf stop refused. absurd refused;
  accepts = λ shelf kept outcome text report says tells.
      ap (λ (o : Option (Result DesignView (Fault × ℕ))). checked o design_fault (λ d. checked (solution_said shelf.held solution d) solution_fault (λ s. Some (Ok tt)))) (says.2.said tells)
      ∙ ap (λ (o : Option (Result SolutionView (SolutionFaultKind × ℕ))). checked o solution_fault (λ s. Some (Ok tt))) (says.2.read tells);
  opens = λ shelf kept text report says. judged-open shelf design solution via_cost text says.2;
  closes = λ shelf kept text report says. judged-whole shelf design solution via_cost text says.2;
  unkept = λ shelf kept text report says. says.0;
  refuses_read = λ shelf stop refused. absurd refused;
  opens_read = λ shelf kept text report says. refl;
}
