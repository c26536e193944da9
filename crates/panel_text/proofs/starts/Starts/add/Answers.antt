use Rattle.std.proofs.Common.{◌≡◌, ℕ, ◌<◌, length, sym, arith}
use Rattle.panel_text.proofs.ChainLemmas.{added-by}
use Rattle.panel_text.proofs.starts.Starts.add.Goals as goal

pub returns-clause-chains : goal.returns-clause-chains
returns-clause-chains c chains before =
    added-by c.args.self.now.firsts.items c.args.self.now.runs.items c.push.new.self.items c.args.net c.len-number.result c.args.run c.index-next.result.now chains
    (omega (arith, c.requires.run.from, c.requires.grid.cells)) (omega (arith, c.len-number.ensures, c.args.self.now.runs.ok.0)) c.in_ok-push.ensures.items c.index-next.ensures before
