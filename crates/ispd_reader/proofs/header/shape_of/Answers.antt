use Rattle.ispd_reader.proofs.HeaderLemmas.{shape_of-new}
use Rattle.ispd_reader.proofs.header.shape_of.Goals as goal

pub returns : goal.returns
returns c =
    shape_of-new c.args.columns c.args.rows c.args.layers c.new.result c.new.ensures.some c.new.ensures.columns c.new.ensures.rows c.new.ensures.layers
