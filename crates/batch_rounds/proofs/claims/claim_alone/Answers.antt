use Rattle.std.proofs.Common.{Some, refl, sym, ap, ◌∙◌}
use Rattle.gr_base.specs.Trees.{TreeView}
use Rattle.book_state.specs.declared.entry.Entry.{Entry}
use Rattle.run_histories.specs.Rounds.{claim_of}
use Rattle.std.proofs.Common.{List, ℕ, None, length}
use Rattle.batch_rounds.specs.Rounds.{batching_of}
use Rattle.batch_rounds.proofs.RoundSteps.{is-added, claim-over, alone-fits, alone-forced}
use Rattle.batch_rounds.proofs.claims.claim_alone.Goals as goal

pub returns-in_ok-add_claim-2-clause-alone : goal.returns-in_ok-add_claim-2-clause-alone
returns-in_ok-add_claim-2-clause-alone g c =
    let t = batching_of c.args.asked.now in
    let b = c.args.book.now in
    let then = c.add_claim.new.book in
    let tree = c.in_ok-tree.tree in
    let kind = c.kind_of-kind.result in
    let added = c.in_ok-add_claim in
    let last = c.in_ok-add_claim-2 in
    let front = c.len-front.ensures.len ∙ ap (λ (h : List Entry). length h) c.history.ensures.history in
    let again = c.len-front-then-is_full.ensures.len ∙ ap (λ (h : List Entry). length h) c.history-then-is_full.ensures.history in
    alone-forced t c.args.round c.args.net b.history then.history c.add_claim-then-is_full.new.book.history _ _ added.field-0 last.field-0
    (claim-over t c.args.round c.args.net _ (Some 0) c.len-front.result kind b.history tree c.in_ok-tree.ensures refl front c.kind_of-kind.ensures)
    (is-added t b.capacity b.history _ added.field-0 then.history c.requires.capacity added.ensures.reply added.ensures.history)
    (sym c.is_full.ensures ∙ c.if-is_full.true)
    (ap (λ (u : TreeView). claim_of c.args.net u None c.len-front-then-is_full.result kind) c.in_ok-same.ensures.same
    ∙ ap (λ (n : ℕ). claim_of c.args.net tree None n kind) again)
    (is-added t then.capacity then.history _ last.field-0 c.add_claim-then-is_full.new.book.history (added.ensures.capacity ∙ c.requires.capacity) last.ensures.reply last.ensures.history)

pub returns-else-is_full-clause-alone : goal.returns-else-is_full-clause-alone
returns-else-is_full-clause-alone g c =
    let t = batching_of c.args.asked.now in
    let b = c.args.book.now in
    let added = c.in_ok-add_claim in
    let front = c.len-front.ensures.len ∙ ap (λ (h : List Entry). length h) c.history.ensures.history in
    alone-fits t c.args.round c.args.net b.history c.add_claim.new.book.history _ added.field-0
    (claim-over t c.args.round c.args.net _ (Some 0) c.len-front.result c.kind_of-kind.result b.history c.in_ok-tree.tree c.in_ok-tree.ensures refl front c.kind_of-kind.ensures)
    (is-added t b.capacity b.history _ added.field-0 c.add_claim.new.book.history c.requires.capacity added.ensures.reply added.ensures.history)
    (sym c.is_full.ensures ∙ c.if-is_full.false)
