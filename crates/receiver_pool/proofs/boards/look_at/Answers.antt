use Rattle.std.proofs.Common.{rules, ◌<◌, length, set, slice_index_or, arith, ap, sym, ◌∙◌, subst}
use Rattle.std.proofs.lemmas.List.{get_or_default, get_or_read, get_or-set_same, get_or-set_other}
use Rattle.slot_evidence.specs.Sheet.{IsEnds}
use Rattle.evidence_board.specs.Looks.{IsLooked}
use Rattle.evidence_board.specs.Views.{place_at, given_sheet, seen_sheet}
use Rattle.evidence_board.specs.Seats.{Held}
use Rattle.receiver_pool.specs.Rows.{IsSeatOf, no_table, no_seat, seat_at, table_at}
use Rattle.receiver_pool.proofs.SeatRows.{looked, seats_set}
use Rattle.receiver_pool.proofs.boards.look_at.Goals as goal

pub look_at-requires : goal.look_at-requires
look_at-requires g c =
    let sit = c.requires.seats in
    let k = c.args.number in
    let table = ap (λ (s : Held). s.table) (get_or_default c.args.seats.now k c.index-seats-number.result no_seat (omega (arith, sit.are_seats.count, c.requires.number)))
    ∙ (sit.are_seats.each k c.requires.number).table
    ∙ sym (get_or_read c.args.boards.now k c.index-boards-number.result c.requires.number c.index-boards-number.is no_table) in
    (search rules, (search rules, table))

pub returns-clause-others : goal.returns-clause-others
returns-clause-others g c = λ k apart. get_or-set_other c.args.seats.now c.args.number k c.look_at.new.seat no_seat apart

pub returns-clause-places : goal.returns-clause-places
returns-clause-places g c =
    λ p below.
    let sit = c.requires.seats in
    let k = c.args.number in
    let inside : k < length c.args.seats.now = omega (arith, sit.are_seats.count, c.requires.number) in
    subst (λ (s : Held). IsLooked g.A.Allowed.facts p (place_at s.view p) (place_at (seat_at (set c.args.seats.now k c.look_at.new.seat) k).view p)) (get_or_default c.args.seats.now k c.index-seats-number.result no_seat inside)
    (subst (λ (s : Held). IsLooked g.A.Allowed.facts p (place_at (slice_index_or c.args.seats.now k c.index-seats-number.result).view p) (place_at s.view p)) (sym (get_or-set_same c.args.seats.now k c.look_at.new.seat no_seat inside)) (c.look_at.ensures.places p below))

pub returns-clause-sheet : goal.returns-clause-sheet
returns-clause-sheet g c =
    let inside : c.args.number < length c.args.seats.now = omega (arith, c.requires.seats.are_seats.count, c.requires.number) in
    c.look_at.ensures.sheet ∙ sym (ap (λ (s : Held). seen_sheet s.view) (get_or-set_same c.args.seats.now c.args.number c.look_at.new.seat no_seat inside))

pub returns-clause-exact : goal.returns-clause-exact
returns-clause-exact g c =
    λ F may ends.
    let inside : c.args.number < length c.args.seats.now = omega (arith, c.requires.seats.are_seats.count, c.requires.number) in
    c.look_at.ensures.exact F may (subst (λ (s : Held). IsEnds F (given_sheet s.view)) (sym (get_or_default c.args.seats.now c.args.number c.index-seats-number.result no_seat inside)) ends)

pub returns-clause-kept : goal.returns-clause-kept
returns-clause-kept g c =
    λ share F are.
    let k = c.args.number in
    let board = get_or_read c.args.boards.now k c.index-boards-number.result c.requires.number c.index-boards-number.is no_table in
    let old = get_or_default c.args.seats.now k c.index-seats-number.result no_seat (omega (arith, are.count, c.requires.number)) in
    seats_set share F c.args.boards.now c.args.seats.now k c.look_at.new.seat c.requires.number
    (looked share (F k) (table_at c.args.boards.now k) _ c.look_at.new.seat (c.look_at.ensures.board ∙ board) c.look_at.ensures.share c.look_at.ensures.given
    (subst (λ (s : Held). IsSeatOf (table_at c.args.boards.now k) share (F k) s) (sym old) (are.each k c.requires.number)))
    are
