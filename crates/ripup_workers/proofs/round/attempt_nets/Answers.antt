use Rattle.std.proofs.Common.{ℕ, List, ◌+◌, ◌<◌, length, map, sum_by, slice_get, IsTrue, refl, sym, ap, subst, ◌∙◌, arith}
use Rattle.std.proofs.lemmas.List.{length-map}
use Rattle.gr_base.specs.Designs.{is_routed}
use Rattle.work_share.specs.Views.{HandView, AreHandsOf, times}
use Rattle.ripup_workers.specs.Rounding.{setting_of}
use Rattle.ripup_workers.proofs.JoiningAttempts.{dealt-each, crew-tried, crew-some, crew-count, tried-legal, hands-count, hands-are, hands-of, have-attempted, rest-all}
use Rattle.ripup_workers.proofs.MeetingSteps.{put-there, put-other, put-length, part-there}
use Rattle.ripup_workers.proofs.round.attempt_nets.Goals as goal

pub work_all-requires-clause-hands : goal.work_all-requires-clause-hands
work_all-requires-clause-hands g c lives in_lives =
    let dealt = c.in_ok-shared.ensures in
    hands-of (λ m. m.hand) c.in_ok-shared.shared c.in_ok-members.members.items _ c.in_ok-members.ensures.hands (dealt-each _ _ _ _ dealt)

pub end-requires : goal.end-requires
end-requires g c =
    let dealt = c.in_ok-shared.ensures in
    let same = c.in_ok-members.ensures.hands in
    subst (AreHandsOf c.in_ok-shared.shared) (sym c.in_ok-workers.ensures.hands)
    (hands-are (λ m. m.hand) (λ m. m.worker.pass) (λ m. m.done) c.in_ok-shared.shared c.args.asked.now.design.now c.args.asked.now.rule.now.formula c.args.round
    c.in_ok-members.members.items c.work_all.new.members.items c.work_all.ensures.count c.work_all.ensures.worked
    (ap (λ (l : List HandView). length l) same ∙ dealt.hands_are.count)
    (λ at h there. dealt-each _ _ _ _ dealt at h (ap (λ (l : List HandView). slice_get l at) (sym same) ∙ there)))

pub attempt_rest-requires-clause-nets : goal.attempt_rest-requires-clause-nets
attempt_rest-requires-clause-nets g c lives in_lives =
    let d = c.args.asked.now.design.now in
    let taken : ℕ → ℕ = λ net. sum_by (λ (h : HandView). times net h.taken) c.in_ok-workers.hands.items in
    rest-all (λ (net : ℕ). IsTrue (is_routed d net)) c.args.nets.now c.rest.result.now taken c.requires.nets
    (λ net. ap (λ (ns : List ℕ). times net ns) (sym c.in_ok-shared.ensures.nets_are) ∙ c.in_ok-end.ensures.each net
    ∙ ap (λ (ns : List ℕ). taken net + times net ns) (sym c.rest.ensures))

pub attempt_rest-requires-clause-legal : goal.attempt_rest-requires-clause-legal
attempt_rest-requires-clause-legal g c lives in_lives =
    let xs = c.in_ok-members.members.items in
    let ys = c.work_all.new.members.items in
    let some = c.args.asked.now.some in
    let count = c.requires.count in
    let old = ap length c.in_ok-members.ensures.workers in
    let old_map = length-map xs (λ m. m.worker) in
    let new = ap length c.in_ok-workers.ensures.workers in
    let new_map = length-map ys (λ m. m.worker) in
    let same = c.work_all.ensures.count in
    let within : 0 < length c.in_ok-workers.workers.items = omega (arith, some, count, old, old_map, new, new_map, same) in
    tried-legal c.args.asked.now.design.now c.args.asked.now.rule.now.formula g.N.BookName.capacity c.args.round c.requires.capacity
    (map (λ w. w.pass) c.args.workers.items) c.in_ok-workers.hands.items c.index_mut.result.now.pass
    (crew-some (λ m. m.worker) (λ m. m.hand) (λ w. w.pass) xs ys c.args.workers.items c.in_ok-workers.workers.items c.in_ok-workers.hands.items same c.in_ok-members.ensures.workers
    c.in_ok-workers.ensures.workers c.in_ok-workers.ensures.hands within)
    (λ p h p_there h_there. crew-tried (λ m. m.hand) (λ m. m.worker) (λ w. w.pass) (λ m. m.done) c.in_ok-shared.shared c.args.asked.now.design.now c.args.asked.now.rule.now.formula c.args.round xs ys
    c.args.workers.items c.in_ok-workers.workers.items c.in_ok-shared.hands.items c.in_ok-workers.hands.items same c.work_all.ensures.worked c.in_ok-members.ensures.workers
    c.in_ok-workers.ensures.workers c.in_ok-members.ensures.hands c.in_ok-workers.ensures.hands (dealt-each _ _ _ _ c.in_ok-shared.ensures) c.in_ok-workers.ensures.done 0 p c.index_mut.result.now.pass h p_there
    (part-there (λ w. w.pass) c.in_ok-workers.workers.items 0 c.index_mut.result.now within c.index_mut.ensures.value) h_there)

pub returns : goal.returns
returns g c =
    let t = setting_of c.args.asked.now in
    let xs = c.in_ok-members.members.items in
    let ys = c.work_all.new.members.items in
    let ws = c.in_ok-workers.workers.items in
    let some = c.args.asked.now.some in
    let count = c.requires.count in
    let old = ap length c.in_ok-members.ensures.workers in
    let old_map = length-map xs (λ m. m.worker) in
    let new = ap length c.in_ok-workers.ensures.workers in
    let new_map = length-map ys (λ m. m.worker) in
    let same = c.work_all.ensures.count in
    let within : 0 < length ws = omega (arith, some, count, old, old_map, new, new_map, same) in
    have-attempted t c.args.round c.args.nets.now c.rest.result.now _ (map (λ w. w.pass) ws) _ c.in_ok-workers.hands.items c.index_mut.result.now.pass c.attempt_rest.new.worker.pass
    (crew-count (λ m. m.worker) (λ w. w.pass) xs ys c.args.workers.items ws same c.in_ok-members.ensures.workers c.in_ok-workers.ensures.workers)
    (hands-count (λ m. m.worker) (λ m. m.hand) (λ w. w.pass) xs ys c.args.workers.items c.in_ok-workers.hands.items same c.in_ok-members.ensures.workers c.in_ok-workers.ensures.hands)
    (λ at p q h p_there q_there h_there. (crew-tried (λ m. m.hand) (λ m. m.worker) (λ w. w.pass) (λ m. m.done) c.in_ok-shared.shared c.args.asked.now.design.now c.args.asked.now.rule.now.formula c.args.round
    xs ys c.args.workers.items ws c.in_ok-shared.hands.items c.in_ok-workers.hands.items same c.work_all.ensures.worked c.in_ok-members.ensures.workers c.in_ok-workers.ensures.workers
    c.in_ok-members.ensures.hands c.in_ok-workers.ensures.hands (dealt-each _ _ _ _ c.in_ok-shared.ensures) c.in_ok-workers.ensures.done at p q h p_there q_there h_there) t (record { design = refl; formula_is = refl }))
    (part-there (λ w. w.pass) ws 0 c.index_mut.result.now within c.index_mut.ensures.value)
    (put-there (λ w. w.pass) ws 0 c.attempt_rest.new.worker within)
    (c.in_ok-attempt_rest.ensures t (record { design = refl; formula_is = refl }))
    (put-length (λ w. w.pass) ws 0 c.attempt_rest.new.worker)
    (λ at apart. put-other (λ w. w.pass) ws 0 at c.attempt_rest.new.worker apart)
    (λ net. ap (λ (ns : List ℕ). times net ns) (sym c.in_ok-shared.ensures.nets_are) ∙ c.in_ok-end.ensures.each net
    ∙ ap (λ (ns : List ℕ). sum_by (λ (h : HandView). times net h.taken) c.in_ok-workers.hands.items + times net ns) (sym c.rest.ensures))
