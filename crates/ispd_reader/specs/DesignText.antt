-- What a design text says. The grammar is a table: one line for each check, in the order of the text.
use Rattle.std.specs.Prelude.{ℕ, List, Result}
use Rattle.gr_base.specs.Limits.{most_bytes}
use Rattle.gr_base.specs.Designs.{DesignView}
use Rattle.gr_text.specs.Tokens.{place_in}
use Rattle.gr_text.specs.Reading.{Reader, ◌>>=◌, pure, value_of}
use Rattle.ispd_reader.specs.Header.{frame}
use Rattle.ispd_reader.specs.Nets.{nets}
use Rattle.ispd_reader.specs.Adjustments.{adjustments}
use Rattle.ispd_reader.specs.declared.fault.DesignFault.{DesignFault}

-- a whole design text
unfoldable pub design : Reader DesignFault DesignView
design = do
  frame ← frame
  nets ← nets frame
  adjustments ← adjustments frame.shape
  pure (record { frame = frame; nets = nets; adjustments = adjustments })

-- what the bytes of a text say: a design, or the first fault and the number of its token
unfoldable pub design_of : List ℕ → Result DesignView (DesignFault × ℕ)
design_of bytes = value_of (design (place_in most_bytes 0 bytes))
