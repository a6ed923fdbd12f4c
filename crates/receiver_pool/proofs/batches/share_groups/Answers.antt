use Rattle.std.proofs.Common.{ℕ, List, length, arith, ap, refl, sym, ◌∙◌, subst}
use Rattle.std.proofs.lemmas.Result.{IfOk-weaker}
use Rattle.atomic_table.specs.Seated.{TableId}
use Rattle.slot_evidence.specs.Facts.{no_facts, union}
use Rattle.evidence_board.specs.declared.seats.TheConstants.{WHOLE}
use Rattle.receiver_pool.specs.Groups.{AreSheets}
use Rattle.receiver_pool.specs.inside.Numbers.{KeepNews, read_by}
use Rattle.receiver_pool.specs.Rows.{AreSeats}
use Rattle.receiver_pool.proofs.Parts.{same_sheets}
use Rattle.receiver_pool.proofs.Beyond.{all_kept}
use Rattle.receiver_pool.proofs.batches.share_groups.Goals as goal

pub close_each-requires : goal.close_each-requires
close_each-requires g c =
    let posts = c.in_ok-seats.ensures in
    let first = subst (λ (bs : List TableId). AreSeats WHOLE (λ k. no_facts) bs c.in_ok-boards.seats.items) (sym c.deref.ensures.value) c.in_ok-boards.ensures.seats in (
      λ k. union no_facts (posts.news k),
      subst (λ (bs : List TableId). AreSeats WHOLE (λ k. union no_facts (posts.news k)) bs c.in_ok-seats.seats.items) c.deref.ensures.value (posts.posted WHOLE (λ k. no_facts) first),
    )

pub returns : goal.returns
returns g c =
    let known = c.args.turns.now.known.items in
    let part = read_by c.args.batch.now c.args.turns.now 0 c.args.turns.now.workers in
    let posts = c.in_ok-seats.ensures in
    let first = subst (λ (bs : List TableId). AreSeats WHOLE (λ k. no_facts) bs c.in_ok-boards.seats.items) (sym c.deref.ensures.value) c.in_ok-boards.ensures.seats in
    let seats = subst (λ (bs : List TableId). AreSeats WHOLE (λ k. union no_facts (posts.news k)) bs c.in_ok-seats.seats.items) c.deref.ensures.value (posts.posted WHOLE (λ k. no_facts) first) in
    IfOk-weaker c.close_each.result _ _
    (λ v closes.
    subst (λ (n : ℕ). KeepNews known part v.items n) c.in_ok-boards.ensures.count
    (record {
      news = posts.news;
      are = same_sheets (λ k. union no_facts (posts.news k)) posts.news v.items (length c.in_ok-boards.boards.items) (λ k p x. refl) (closes (λ k. union no_facts (posts.news k)) seats);
      alike = λ k below. posts.alike k (omega (arith, ap (λ (bs : List TableId). length bs) c.deref.ensures.value));
    }))
    c.close_each.ensures.sheets

pub returns-then-turns-eq1 : goal.returns-then-turns-eq1
returns-then-turns-eq1 g c =
    let by = read_by c.args.batch.now c.args.turns.now in
    IfOk-weaker c.shown_to.result _ _
    (λ v are.
    all_kept c.args.turns.now.known.items (by 0 c.args.turns.now.workers) v.items c.args.count c.ends_are_kept.ensures.itself
    (subst (λ (h : ℕ). AreSheets (by 0 h) v.items c.args.count) (c.enter-entered.ensures.1 ∙ sym c.if-turns-eq1.true)
    (subst (λ (l : ℕ). AreSheets (by l c.enter-entered.result.high) v.items c.args.count) c.enter-entered.ensures.0 are)))
    c.shown_to.ensures
