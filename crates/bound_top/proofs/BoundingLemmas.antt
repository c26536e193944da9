-- The bounds of the design that was read, and the law of the command.
use Rattle.std.proofs.Common.{◌≡◌, ℕ, Bool, List, Option, Some, None, Result, Ok, IsTrue, refl, sym, ap, subst, ◌∙◌, arith}
use Rattle.cut_bounds.specs.Bounds.{BoundsView, bounds_text}
use Rattle.cut_bounds.specs.BoundsOf.{bounds_of}
use Rattle.gr_base.specs.Designs.{DesignView}
use Rattle.gr_io.specs.Devices.{Device, Reading, IsUntouched, device_of}
use Rattle.ispd_reader.specs.declared.fault.DesignFault.{DesignFault}
use Rattle.price_bounds.specs.Texts.{prices_text, AreAtLeast, IsFloor}
use Rattle.price_laws.specs.Laws.{ArePriceBounds}
use Rattle.wall_laws.specs.Laws.{AreBounds}
use Rattle.command_form.specs.Commands.{IsLawful, checked}
use Rattle.command_form.specs.Ends.{LeavesFor}
use Rattle.command_form.specs.Leaving.{LeavesOut, WritesOne}
use Rattle.command_form.specs.Said.{design_fault, design_said}
use Rattle.command_form.specs.declared.stop.Outcome.{Outcome}
use Rattle.command_form.specs.declared.stop.Outcome.TheVariants.{Whole}
use Rattle.command_form.specs.declared.stop.Stop.{Stop}
use Rattle.command_form.proofs.EndLemmas.{IsLawfully}
use Rattle.command_form.proofs.LeavingLemmas.{open-whole, written-one}
use Rattle.word_reader.specs.Orders.{Order, Route, Evaluate, Buffer, Make, Trial, Panels, Bound}
use Rattle.bound_top.specs.Bounding.{asked_by, bounding, ArePriceLines, Hold, IsBoundsText}

-- the text of bounds that were made
pub bounds-said : (d : DesignView) (via_cost steps : ℕ) (bounds : BoundsView) (lines text : List ℕ) → bounds ≡ bounds_of d via_cost →
    AreBounds d via_cost bounds.overflow bounds.wirelength bounds.usable_wirelength → ArePriceLines d via_cost bounds steps lines →
    text ≡ bounds_text bounds lines → IsBoundsText d via_cost steps Whole text
bounds-said d via_cost steps bounds lines text is holds prices says = record {
  whole = refl;
  lines = lines;
  says = says ∙ ap (λ (b : BoundsView). bounds_text b lines) is;
  holds = subst (λ (b : BoundsView). AreBounds d via_cost b.overflow b.wirelength b.usable_wirelength) is holds;
  prices = subst (λ (b : BoundsView). ArePriceLines d via_cost b steps lines) is prices;
}

-- what bounds tell is known of overflow and of wirelength along usable edges
pub floor-said : (d : DesignView) (via_cost : ℕ) (bounds : BoundsView) (over length : ℕ) → Hold d via_cost bounds → over ≡ bounds.overflow →
    length ≡ bounds.usable_wirelength → IsFloor d via_cost over length
floor-said d via_cost bounds over length holds same_over same_length = record {
  overflow = λ sets join. let v = holds.overflow sets join in omega (arith, v, same_over);
  along_usable = λ sets join along. let v = holds.along_usable sets join along in omega (arith, v, same_length);
}

-- the lines of bounds by prices that were made
pub lines-said : (d : DesignView) (via_cost : ℕ) (bounds : BoundsView) (steps floor_over floor_length : ℕ) (lines : List ℕ) (over length both : ℕ) →
    (steps ≡ 0 → ⊥) → floor_over ≡ bounds.overflow → floor_length ≡ bounds.usable_wirelength → lines ≡ prices_text over length both →
    ArePriceBounds d via_cost over length both → AreAtLeast floor_over floor_length over length both → ArePriceLines d via_cost bounds steps lines
lines-said d via_cost bounds steps floor_over floor_length lines over length both some same_over same_length says hold least = record {
  without = λ none. absurd (some none);
  by_prices = λ given. record {
    over = over;
    length = length;
    both = both;
    says = says;
    hold = hold;
    least = subst (λ (n : ℕ). AreAtLeast bounds.overflow n over length both) same_length
        (subst (λ (n : ℕ). AreAtLeast n floor_length over length both) same_over least);
  };
}

-- the bounds of what was read, as they were written, are what the command leaves
pub bounded : (shelf : Reading) (design_name : List ℕ) (via_cost steps : ℕ) (d : DesignView) (out : Device) (end : Result Outcome Stop) →
    (IsTrue shelf.tells → design_said shelf.held design_name ≡ Some (Ok d)) → shelf.faults_after ≡ shelf.faults →
    WritesOne (IsBoundsText d via_cost steps) (λ stop. ⊥) out end → LeavesOut (bounding design_name via_cost steps) shelf out None end
bounded shelf design_name via_cost steps d out end said reads is =
    written-one (bounding design_name via_cost steps) shelf out reads (IsBoundsText d via_cost steps)
    (λ outcome text bounds. (refl, refl, record { design = d; said = said; bounds = bounds })) (λ stop. ⊥) (λ stop no. absurd no) (λ stop no. absurd no) end is

-- the law of the command
bounding-lawful : (design : List ℕ) (via_cost steps : ℕ) → IsLawful (bounding design via_cost steps)
bounding-lawful design via_cost steps = record {
  refuses = λ shelf stop refused. absurd refused;
  accepts = λ shelf kept outcome text report says tells.
      ap (λ (o : Option (Result DesignView (DesignFault × ℕ))). checked o design_fault (λ d. Some (Ok tt))) (says.2.said tells);
  opens = λ shelf kept text report says tells. absurd (open-whole says.2.bounds.whole);
  closes = λ shelf kept text report says tells left. left;
  unkept = λ shelf kept text report says. says.0;
  refuses_read = λ shelf stop refused. absurd refused;
  opens_read = λ shelf kept text report says. refl;
}

pub asked-lawful : (order : Option Order) → IsLawfully (asked_by order)
asked-lawful None = tt
asked-lawful (Some (Route design library from options)) = tt
asked-lawful (Some (Evaluate design solution via_cost)) = tt
asked-lawful (Some (Buffer design library solution)) = tt
asked-lawful (Some (Make made)) = tt
asked-lawful (Some (Trial made options)) = tt
asked-lawful (Some (Panels design solution)) = tt
asked-lawful (Some (Bound design via_cost steps workers)) = bounding-lawful design via_cost steps

-- what the command of an order leaves, by the words that gave it
pub bound-leaves : (order : Option Order) (design : List ℕ) (via_cost steps workers : ℕ) (shelf : Reading) (out : Device) (end : Result Outcome Stop) →
    order ≡ Some (Bound design via_cost steps workers) → LeavesOut (bounding design via_cost steps) shelf out None end →
    (err : Device) → IsUntouched err → LeavesFor (asked_by order) shelf out err None end
bound-leaves order design via_cost steps workers shelf out end is leaves err untouched =
    subst (λ (o : Option Order). LeavesFor (asked_by o) shelf out err None end) (sym is) (leaves err untouched)

-- a sink that isn't given
pub untouched : {T : Type 0} (tells : Bool) (faults : T → ℕ) (bytes : T → List ℕ) (sink : T) → IsUntouched (device_of tells faults bytes sink sink)
untouched tells faults bytes sink = record { faults = refl; written = λ told. refl }
