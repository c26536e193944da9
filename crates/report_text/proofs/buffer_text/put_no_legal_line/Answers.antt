use Rattle.std.proofs.Common.{ℕ, List, ◌++◌, codes, ap, ◌∙◌}
use Rattle.std.specs.Fmt.{decimal}
use Rattle.report_text.proofs.BufferLemmas.{then-part}
use Rattle.report_text.proofs.buffer_text.put_no_legal_line.Goals as goal

pub returns : goal.returns
returns c =
    let old = c.args.text.now in
    let name = c.args.net.now.name in
    let number = decimal c.args.net.now.id in
    then-part old (codes "net " ++ name ++ codes " " ++ number) (codes " has no legal placement\n") _ _
    (then-part old (codes "net " ++ name ++ codes " ") number _ _
    (then-part old (codes "net " ++ name) (codes " ") _ _
    (then-part old (codes "net ") name _ _ c.in_ok-put.ensures.put
    (c.in_ok-put-2.ensures.put ∙ ap (λ (t : List ℕ). c.put.new.self ++ t) c.bytes.ensures))
    c.in_ok-put-3.ensures.put) c.in_ok-put_number.ensures.put) c.in_ok-put-4.ensures.put
