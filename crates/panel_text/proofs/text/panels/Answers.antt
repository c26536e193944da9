use Rattle.std.proofs.Common.{◌≡◌, ℕ, List, ◌∙◌}
use Rattle.std.proofs.lemmas.Result.{IfOk-weaker}
use Rattle.route_reader.specs.Solutions.{edges_by}
use Rattle.panel_text.specs.Texts.{panels_text}
use Rattle.panel_text.specs.Told.{told_text}
use Rattle.panel_text.proofs.TextLemmas.{both-told}
use Rattle.panel_text.proofs.text.panels.Goals as goal

pub returns : goal.returns
returns c =
    let d = c.args.design.now in
    let sets = edges_by c.args.solution.now in
    let runs = c.in_ok-runs.ensures in
    let told = c.put_way-2.new.told in
    let is = both-told d sets c.new.result c.put_way.new.told told c.new.ensures
    (c.in_ok-put_way.ensures.told sets runs.east) (c.in_ok-put_way-2.ensures.told sets runs.north) in
    IfOk-weaker c.whole_text.result (λ (text : List ℕ). text ≡ told_text told) (λ (text : List ℕ). text ≡ panels_text d sets) (λ text says. says ∙ is) c.whole_text.ensures
