-- Reading one item after another.
use Rattle.std.proofs.Common.{◌≡◌, ℕ, suc, Bool, true, false, Ok, Err, refl, ◌∙◌}
use Rattle.gr_base.specs.Designs.{DesignView}
use Rattle.gr_text.specs.Tokens.{Place}
use Rattle.gr_text.specs.Reading.{Reader, ◌>>=◌, pure}
use Rattle.rc_library.specs.declared.fault.LibraryFault.{LibraryFault}
use Rattle.rc_library.specs.declared.keyword.Keyword.{Keyword}
use Rattle.rc_library.specs.declared.keyword.Keyword.TheVariants as word
use Rattle.rc_library.specs.Gathered.{Gathered, IsLike}
use Rattle.rc_library.specs.Items.{wire_item, via_item, driver_item, sink_item, kind_item, block_item, drive_item, pin_item, flip_item, item}
use Rattle.rc_library.specs.LibraryText.{Adds, keyword, item_or_end, items}

pub IsLike-then : (before between after : Gathered) → IsLike before between → IsLike between after → IsLike before after
IsLike-then before between after first second = record {
  version = second.version ∙ first.version;
  layers = second.layers ∙ first.layers;
  sizes = second.sizes ∙ first.sizes;
  nets = second.nets ∙ first.nets;
}

-- what holds behind each word holds behind the one that is read; `others` are the items that follow
pub each-word : (P : (Adds → Reader LibraryFault Gathered) → Type 0) (d : DesignView) (g : Gathered) →
    P (λ others. wire_item g >>= others) → P (λ others. via_item g >>= others) → P (λ others. driver_item g >>= others) →
    P (λ others. sink_item g >>= others) → ((inverts : Bool) → P (λ others. kind_item inverts g >>= others)) →
    P (λ others. block_item d g >>= others) → P (λ others. drive_item d g >>= others) → P (λ others. pin_item d g >>= others) →
    P (λ others. flip_item d g >>= others) → P (λ _. pure g) → (k : Keyword) → P (λ others. item_or_end d others g k)
each-word P d g of_wire of_via of_driver of_sink of_kind of_block of_drive of_pin of_flip at_end word.Wire = of_wire
each-word P d g of_wire of_via of_driver of_sink of_kind of_block of_drive of_pin of_flip at_end word.Via = of_via
each-word P d g of_wire of_via of_driver of_sink of_kind of_block of_drive of_pin of_flip at_end word.Driver = of_driver
each-word P d g of_wire of_via of_driver of_sink of_kind of_block of_drive of_pin of_flip at_end word.Sink = of_sink
each-word P d g of_wire of_via of_driver of_sink of_kind of_block of_drive of_pin of_flip at_end word.Kind = of_kind false
each-word P d g of_wire of_via of_driver of_sink of_kind of_block of_drive of_pin of_flip at_end word.Inverter = of_kind true
each-word P d g of_wire of_via of_driver of_sink of_kind of_block of_drive of_pin of_flip at_end word.Block = of_block
each-word P d g of_wire of_via of_driver of_sink of_kind of_block of_drive of_pin of_flip at_end word.Drive = of_drive
each-word P d g of_wire of_via of_driver of_sink of_kind of_block of_drive of_pin of_flip at_end word.Pin = of_pin
each-word P d g of_wire of_via of_driver of_sink of_kind of_block of_drive of_pin of_flip at_end word.Flip = of_flip
each-word P d g of_wire of_via of_driver of_sink of_kind of_block of_drive of_pin of_flip at_end word.End = at_end

other-than-end : (d : DesignView) (others : Adds) (g : Gathered) (k : Keyword) → ¬ (k ≡ word.End) →
    item_or_end d others g k ≡ (item d k g >>= others)
other-than-end d others g word.Wire other = refl
other-than-end d others g word.Via other = refl
other-than-end d others g word.Driver other = refl
other-than-end d others g word.Sink other = refl
other-than-end d others g word.Kind other = refl
other-than-end d others g word.Block other = refl
other-than-end d others g word.Drive other = refl
other-than-end d others g word.Pin other = refl
other-than-end d others g word.Inverter other = refl
other-than-end d others g word.Flip other = refl
other-than-end d others g word.End other = absurd (other refl)

-- `more` items are due at most, of which the next is read here
module _ (d : DesignView) (g : Gathered) (place : Place) (more rest : ℕ) (due : more ≡ suc rest) where
  pub no-word : (fault : LibraryFault × ℕ) → keyword g.version place ≡ Err fault → items more d g place ≡ Err fault
  unfolding items
  no-word fault is = rw due (rw is refl)

  pub ended : (after : Place) → keyword g.version place ≡ Ok (word.End, after) → items more d g place ≡ Ok (g, after)
  unfolding items
  ended after is = rw due (rw is refl)

  pub no-item : (k : Keyword) (behind : Place) (fault : LibraryFault × ℕ) → keyword g.version place ≡ Ok (k, behind) → ¬ (k ≡ word.End) →
      item d k g behind ≡ Err fault → items more d g place ≡ Err fault
  unfolding items
  no-item k behind fault is other fails = rw due (rw is (rw (other-than-end d (items rest d) g k other) (rw fails refl)))

  pub next-item : (k : Keyword) (behind after : Place) (h : Gathered) → keyword g.version place ≡ Ok (k, behind) → ¬ (k ≡ word.End) →
      item d k g behind ≡ Ok (h, after) → items more d g place ≡ items rest d h after
  unfolding items
  next-item k behind after h is other reads = rw due (rw is (rw (other-than-end d (items rest d) g k other) (rw reads refl)))
