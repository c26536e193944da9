use Rattle.design_maker.proofs.HeadLemmas.{last-put}
use Rattle.design_maker.proofs.head.put_last.Goals as goal

pub returns : goal.returns
returns c =
    last-put c.args.nets c.args.text.now c.put.new.self c.put_number.new.self c.put-2.new.self
    c.in_ok-put.ensures.put c.in_ok-put_number.ensures.put c.in_ok-put-2.ensures.put
