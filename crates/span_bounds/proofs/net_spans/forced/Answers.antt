use Rattle.std.proofs.Common.{ℕ, List, length, sym, ap, ◌∙◌, arith}
use Rattle.span_bounds.proofs.NetLemmas.{few-lines, forced-is}
use Rattle.span_bounds.specs.Lines.{number_of}
use Rattle.span_bounds.proofs.net_spans.forced.Goals as goal
use Rattle.wall_laws.specs.Spans.{is_low}

pub returns-clause-vias : goal.returns-clause-vias
returns-clause-vias c =
    c.forced_by.ensures.vias
    ∙ forced-is c.args.frame.now c.args.way (number_of c.args.frame.now.shape c.args.line) c.args.pins.now c.list_low.new.numbers.items c.args.layer
    c.len.result c.different.result (sym c.is_blocked.ensures ∙ c.if-not-is_blocked.false) c.in_ok-list_low.ensures
    (c.len.ensures ∙ c.list_low.new.numbers.ok.0) c.different.ensures.number

pub returns-clause-most : goal.returns-clause-most
returns-clause-most c =
    let few = few-lines (number_of c.args.frame.now.shape c.args.line) (is_low c.args.frame.now.shape c.args.layer) c.args.pins.now in
    let long = ap (λ (ns : List ℕ). length ns) c.in_ok-list_low.ensures in
    omega (arith, few, long, c.forced_by.ensures.most, c.different.ensures.most, c.requires.few)
