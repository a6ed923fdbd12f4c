use Rattle.std.proofs.Common.{List, sym, ◌∙◌, subst}
use Rattle.plain_laws.proofs.Lists.{lent_whole}
use Rattle.evidence_board.specs.Seats.{Held}
use Rattle.receiver_pool.specs.Rows.{AreSeats}
use Rattle.receiver_pool.proofs.beside.go_beside.Goals as goal

pub returns-clause-kept : goal.returns-clause-kept
returns-clause-kept g c =
    λ share F are.
    let boards = c.args.boards.now in
    let gone = c.go_round.ensures.kept share F (subst (λ (s : List Held). AreSeats share F boards s) (sym c.deref_mut.ensures.value) are) in
    subst (λ (s : List Held). AreSeats share F boards s)
    (sym (lent_whole Held c.args.seats.items c.go_round.new.seats c.args.seats.len c.args.seats.ok.0 (gone.count ∙ sym are.count)))
    gone

pub returns-clause-seen : goal.returns-clause-seen
returns-clause-seen g c =
    let boards = c.args.boards.now in
    let sit = c.requires.seats in
    let gone = c.go_round.ensures.kept sit.share sit.facts (subst (λ (s : List Held). AreSeats sit.share sit.facts boards s) (sym c.deref_mut.ensures.value) sit.are_seats) in
    subst (λ (s : List Held). g.B.Beside.has_seen c.args.beside c.go_round.new.self c.args.known.now c.args.groups.now s)
    (sym (lent_whole Held c.args.seats.items c.go_round.new.seats c.args.seats.len c.args.seats.ok.0 (gone.count ∙ sym sit.are_seats.count)))
    c.go_round.ensures.seen
