use Rattle.std.proofs.Common.{ℕ, ◌≡◌, ◌++◌, ◌∷◌, [], List, true, length, refl, sym, ap, subst, ◌∙◌, arith}
use Rattle.std.specs.Arc.{arc_value}
use Rattle.std.proofs.lemmas.List.{length_push}
use Rattle.grid_demand.specs.Overfull.{AreOverfull}
use Rattle.grid_demand.specs.Tables.{CapacityView}
use Rattle.book_state.specs.Books.{IsLegal, reply_to_mark}
use Rattle.book_state.specs.Entries.{is_mark_at}
use Rattle.book_state.specs.Extents.{AreParts}
use Rattle.book_state.specs.LeastSearch.{IsLeast}
use Rattle.book_state.specs.Replicas.{StandsFor}
use Rattle.book_state.specs.Views.{BookView, entry_of}
use Rattle.book_state.specs.declared.entry.Call.TheVariants.{Mark}
use Rattle.book_state.specs.declared.entry.Entry.{Entry}
use Rattle.book_state.specs.declared.entry.Reply.TheVariants.{Marked}
use Rattle.book_state.proofs.BookSteps.{mark-last}
use Rattle.book_state.proofs.ExtentSteps.{parts-more}
use Rattle.book_state.proofs.LegalHistories.{legal-mark}
use Rattle.book_state.proofs.Replies.{marked-reply}
use Rattle.book_state.proofs.book.BookState.mark.Goals as goal

pub follow_mark-requires-clause-legal : goal.follow_mark-requires-clause-legal
follow_mark-requires-clause-legal c =
    let s = c.self.inside in
    let capacity = arc_value s.capacity in
    let are = subst (λ (v : CapacityView). AreOverfull v s.replica.loads c.in_ok-over.over) c.deref.ensures c.in_ok-over.ensures in
    let reply = marked-reply capacity s.history s.replica.loads c.in_ok-over.over c.total.result c.self.invariant.stands.loads are c.total.ensures in
    subst (λ (v : CapacityView). IsLegal v c.push.new.self) (sym c.deref-2.ensures)
    (legal-mark capacity s.history c.push.new.self c.args.number c.total.result c.self.invariant.legal reply c.in-Ok.ensures.ok)

pub follow_mark-requires-clause-mark : goal.follow_mark-requires-clause-mark
follow_mark-requires-clause-mark c =
    let s = c.self.inside in
    let e = entry_of c.args.number Mark (Marked c.total.result) in
    subst (λ (h : List Entry). is_mark_at h s.replica.front ≡ true) (sym c.in-Ok.ensures.ok)
    (subst (λ (n : ℕ). is_mark_at (s.history ++ e ∷ []) n ≡ true) (sym c.self.invariant.stands.front) (mark-last s.history e))

pub invariant_of-self-2 : goal.invariant_of-self-2
invariant_of-self-2 c =
    let s = c.self.inside in
    let capacity = arc_value s.capacity in
    let e = entry_of c.args.number Mark (Marked c.total.result) in
    let pushed = c.in-Ok.ensures.ok in
    let are = subst (λ (v : CapacityView). AreOverfull v s.replica.loads c.in_ok-over.over) c.deref.ensures c.in_ok-over.ensures in
    let reply = marked-reply capacity s.history s.replica.loads c.in_ok-over.over c.total.result c.self.invariant.stands.loads are c.total.ensures in
    record {
      legal = legal-mark capacity s.history c.push.new.self c.args.number c.total.result c.self.invariant.legal reply pushed;
      stands = subst (λ (v : CapacityView). StandsFor v c.push.new.self c.follow_mark.new.self) c.deref-2.ensures c.follow_mark.ensures.stands;
      least =
          let long = ap (λ (h : List Entry). length h) pushed ∙ length_push s.history e in
          subst (λ (h : List Entry). IsLeast h c.least_after-self-inside.result) (sym pushed)
          (c.least_after-self-inside.ensures s.history e refl (omega (arith, long, c.len.ensures.len)) c.self.invariant.least);
      parts =
          subst (λ (h : List Entry). AreParts capacity h s.parts.items) (sym pushed)
          (parts-more capacity s.history e s.parts.items c.self.invariant.parts);
      over = subst (λ (v : CapacityView). AreOverfull v c.follow_mark.new.self.loads c.in_ok-over.over) c.deref-2.ensures c.follow_mark.ensures.over;
    }

pub returns-clause-reply : goal.returns-clause-reply
returns-clause-reply c =
    let s = c.self.inside in
    let capacity = arc_value s.capacity in
    let are = subst (λ (v : CapacityView). AreOverfull v s.replica.loads c.in_ok-over.over) c.deref.ensures c.in_ok-over.ensures in
    let reply = marked-reply capacity s.history s.replica.loads c.in_ok-over.over c.total.result c.self.invariant.stands.loads are c.total.ensures in
    reply ∙ ap (λ (b : BookView). reply_to_mark b.capacity b.history) c.self.view_is

pub returns-clause-legal : goal.returns-clause-legal
returns-clause-legal c =
    let s = c.self.inside in
    let capacity = arc_value s.capacity in
    let are = subst (λ (v : CapacityView). AreOverfull v s.replica.loads c.in_ok-over.over) c.deref.ensures c.in_ok-over.ensures in
    let reply = marked-reply capacity s.history s.replica.loads c.in_ok-over.over c.total.result c.self.invariant.stands.loads are c.total.ensures in
    legal-mark capacity s.history c.push.new.self c.args.number c.total.result c.self.invariant.legal reply c.in-Ok.ensures.ok
