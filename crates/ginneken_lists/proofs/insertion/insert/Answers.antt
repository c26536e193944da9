use Rattle.std.proofs.Common.{◌≤◌, ℕ, List, length, All, sym, ap, subst, ◌∙◌, arith}
use Rattle.ginneken_lists.specs.Candidates.{Chosen, Buffered, Candidate, with_one}
use Rattle.ginneken_lists.specs.StoredPairs.{stored_candidate}
use Rattle.ginneken_lists.specs.Trails.{chosen_of, trail_of}
use Rattle.ginneken_lists.specs.Offering.{place_of, buffer_over}
use Rattle.ginneken_lists.specs.declared.stored.Stored.{Stored}
use Rattle.ginneken_lists.proofs.StoredLemmas.{sight, all_of, all_of-keeps}
use Rattle.ginneken_lists.proofs.TrailLemmas.{length-trail, Keeps-itself}
use Rattle.ginneken_lists.proofs.Placing.{place-none}
use Rattle.ginneken_lists.proofs.insertion.insert.Goals as goal

pub returns-in_default-clause-pairs : goal.returns-in_default-clause-pairs
returns-in_default-clause-pairs g c =
    let trail = trail_of c.args.choices.now.items in
    sym (place-none c.args.pair (Buffered c.args.node c.args.kind (chosen_of trail c.args.pair.mark)) trail 0 c.args.pairs.now.items
    (ap (place_of (sight c.args.pair) 0) (sym c.deref.ensures.value) ∙ sym c.place.ensures.place ∙ c.in_default.is))

pub returns-in_default-clause-kept : goal.returns-in_default-clause-kept
returns-in_default-clause-kept g c = Keeps-itself (trail_of c.args.choices.now.items)

pub put-requires-clause-place : goal.put-requires-clause-place
put-requires-clause-place g c =
    ap (λ (s : Stored). place_of (sight s) 0 c.args.pairs.now.items) c.marked.ensures
    ∙ ap (place_of (sight c.args.pair) 0) (sym c.deref.ensures.value) ∙ sym c.place.ensures.place ∙ c.in-Some.is

pub returns-clause-pairs : goal.returns-clause-pairs
returns-clause-pairs g c =
    let items = c.args.pairs.now.items in
    let pair = c.args.pair in
    let trail = trail_of c.args.choices.now.items in
    let more = trail_of c.push_buffer-mark.new.choices.items in
    let long = length-trail c.args.choices.now.items in
    let marks : All (λ (s : Stored). s.mark ≤ length trail) items = λ k d inside. let m = c.requires.marks k d inside in omega arith in
    c.put.ensures.pairs more
    ∙ ap (λ (s : Stored). with_one (stored_candidate more s) (all_of more items)) c.marked.ensures
    ∙ ap (λ (chosen : Chosen). with_one (record { seen = sight pair; chosen = chosen }) (all_of more items)) c.push_buffer-mark.ensures.buffer
    ∙ ap (λ (os : List Candidate). with_one (buffer_over trail c.args.node c.args.kind pair) os) (all_of-keeps trail more items c.push_buffer-mark.ensures.kept marks)

pub returns-clause-marks : goal.returns-clause-marks
returns-clause-marks g c =
    let most : ℕ = length c.push_buffer-mark.new.choices.items in
    let mark : c.push_buffer-mark.result ≤ most = omega (arith, c.push_buffer-mark.ensures.mark) in
    c.put.ensures.marks most (subst (λ (s : Stored). s.mark ≤ most) (sym c.marked.ensures) mark)
    (λ k d inside. let m = c.requires.marks k d inside in
    omega (arith, c.push_buffer-mark.ensures.len, c.push_buffer-mark.new.choices.ok.0, c.args.choices.now.ok.0))

pub returns-clause-steps : goal.returns-clause-steps
returns-clause-steps g c = omega (arith, c.put.ensures.steps, c.place.ensures.steps, ap (λ (xs : List Stored). length xs) c.deref.ensures.value)
