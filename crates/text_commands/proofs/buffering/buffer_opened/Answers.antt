use Rattle.std.proofs.Common.{None, sym, refl, subst, ◌∙◌}
use Rattle.gr_io.specs.Devices.{Reading, reading_of, device_of}
use Rattle.text_commands.specs.Buffering.{begun_at, buffering}
use Rattle.command_form.specs.Leaving.{LeavesOut}
use Rattle.text_commands.proofs.BufferingLemmas.{are-read, placed, solution-fails}
use Rattle.command_form.proofs.StopLemmas.{handed-on}
use Rattle.text_commands.proofs.buffering.buffer_opened.Goals as goal

pub returns : goal.returns
returns g c = λ held faults misses design library same_faults same_misses same_held said read.
    let s = g.S.Shelf in
    let shelf : Reading = begun_at (reading_of s.tells s.held s.faults s.misses c.args.shelf.now c.open_solution.new.shelf) held faults misses in
    let all = are-read shelf design library c.args.solution.now c.args.design.now c.args.library.now c.in_ok-solution.solution _ said read same_held
    c.in_ok-solution.ensures.opens.2 c.in_ok-solution.ensures.covered in
    placed shelf design library c.args.solution.now all.files all.covered g.row.K.Denot _ _ (c.in_ok-solution.ensures.opens.0 ∙ same_faults) c.write_buffers.ensures

pub returns-in_err-solution : goal.returns-in_err-solution
returns-in_err-solution g c = λ held faults misses design library same_faults same_misses same_held said read.
    let s = g.S.Shelf in
    let shelf : Reading = begun_at (reading_of s.tells s.held s.faults s.misses c.args.shelf.now c.open_solution.new.shelf) held faults misses in
    subst (LeavesOut {K = g.row.K.Denot} (buffering design library c.args.solution.now) shelf _ None) (sym (handed-on c.from_residual.result _ c.from_residual.ensures))
    (solution-fails shelf design library c.args.solution.now c.args.design.now c.args.library.now said read
    (s.held c.args.shelf.now) (s.faults c.args.shelf.now) (s.misses c.args.shelf.now) same_faults same_misses same_held
    (device_of g.O.Sink.tells g.O.Sink.faults g.O.Sink.written c.args.out.now c.args.out.now) (record { faults = refl; written = λ tells. refl })
    g.row.K.Denot _ c.in_err-solution.ensures.opens)
