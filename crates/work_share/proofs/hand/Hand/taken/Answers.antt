use Rattle.std.proofs.Common.{ℕ, ◌≤◌, ◌==◌, subst}
use Rattle.work_share.specs.HandStore.{seen}
use Rattle.work_share.specs.Views.{ShareView, HandView, IsHandOf, times}
use Rattle.work_share.proofs.TakeLemmas.{hand-among}
use Rattle.work_share.proofs.hand.Hand.taken.Goals as goal

pub returns-clause-among : goal.returns-clause-among
returns-clause-among c =
    subst (λ (h : HandView). (s : ShareView) → IsHandOf s h → (net : ℕ) → times net h.taken ≤ times net s.nets) c.self.view_is
    (λ s of net. hand-among s (seen c.self.inside) c.self.invariant.hand of (λ n. n == net))
