use Rattle.std.proofs.Common.{◌≡◌, ℕ, ◌-◌, ◌/◌, List, length, refl, sym, ◌∙◌, subst}
use Rattle.plain_laws.proofs.Lists.{lent_whole}
use Rattle.slot_evidence.specs.Facts.{no_facts}
use Rattle.evidence_board.specs.declared.seats.TheConstants.{WHOLE}
use Rattle.evidence_board.specs.Seats.{Held}
use Rattle.receiver_pool.specs.Rows.{AreSeats, HaveSeenNothing}
use Rattle.receiver_pool.proofs.beside.halved.Goals as goal

pub returns-clause-halves : goal.returns-clause-halves
returns-clause-halves c =
    let boards = c.args.boards.now in
    let half : WHOLE - WHOLE / 2 ≡ WHOLE / 2 = refl in
    let split = c.in_ok-others.ensures.halves WHOLE (λ k. no_facts) (subst (λ (s : List Held). AreSeats WHOLE (λ k. no_facts) boards s) (sym c.deref_mut.ensures.value) c.requires.seats) in
    let first = subst (λ (n : ℕ). AreSeats n (λ k. no_facts) boards c.split_each.new.seats) half split.0 in (
      subst (λ (s : List Held). AreSeats (WHOLE / 2) (λ k. no_facts) boards s)
          (sym (lent_whole Held c.args.seats.items c.split_each.new.seats c.args.seats.len c.args.seats.ok.0 (first.count ∙ sym c.requires.seats.count)))
          first,
      split.1,
    )

pub returns-clause-unseen : goal.returns-clause-unseen
returns-clause-unseen c =
    c.in_ok-others.ensures.unseen (subst (λ (s : List Held). HaveSeenNothing (length c.args.boards.now) s) (sym c.deref_mut.ensures.value) c.requires.unseen)
