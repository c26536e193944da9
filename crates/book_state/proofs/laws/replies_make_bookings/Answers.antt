use Rattle.book_state.proofs.BookingLaws.{taken-booked, unbounded, mark-demand, victim-booked, cut-push}
use Rattle.book_state.proofs.LegalHistories.{legal-take}
use Rattle.book_state.proofs.ReplicaSteps.{booked-claim, booked-release, booked-mark}
use Rattle.book_state.proofs.laws.replies_make_bookings.Goals as goal

pub returns-clause-taken : goal.returns-clause-taken
returns-clause-taken c = taken-booked

pub returns-clause-no_bound : goal.returns-clause-no_bound
returns-clause-no_bound c = unbounded

pub returns-clause-claimed : goal.returns-clause-claimed
returns-clause-claimed c = booked-claim

pub returns-clause-released : goal.returns-clause-released
returns-clause-released c = booked-release

pub returns-clause-mark : goal.returns-clause-mark
returns-clause-mark c = booked-mark

pub returns-clause-mark_demand : goal.returns-clause-mark_demand
returns-clause-mark_demand c = λ v h e edge call. mark-demand v h e edge (λ net. booked-mark h e net call)

pub returns-clause-victim : goal.returns-clause-victim
returns-clause-victim c = victim-booked

pub returns-clause-legal : goal.returns-clause-legal
returns-clause-legal c = legal-take

pub returns-clause-cut_push : goal.returns-clause-cut_push
returns-clause-cut_push c = cut-push
