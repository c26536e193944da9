use Rattle.net_prices.proofs.FoldLemmas.{edge-stands}
use Rattle.net_prices.proofs.fold.Fold.edge.Goals as goal

pub returns-clause-inside : goal.returns-clause-inside
returns-clause-inside c =
    edge-stands c.args.self.flat c.requires.flat c.args.self.shape c.args.self.small c.args.self.fits c.args.e c.requires.edge c.requires.wire c.cell.result
    c.cell.ensures.cell
