use Rattle.std.proofs.Common.{◌≡◌, ℕ, ◌+◌, length, slice_index_or, arith, ap, sym, ◌∙◌, subst}
use Rattle.std.proofs.lemmas.List.{length-set, get_or_default, get_or_read}
use Rattle.evidence_board.specs.Seats.{Held}
use Rattle.receiver_pool.specs.Rows.{IsSeatOf, no_table, no_seat, seat_at, table_at}
use Rattle.receiver_pool.proofs.Turning.{turned_down, all_turned_down, row_length, row_shorter, row_last}
use Rattle.receiver_pool.proofs.SeatRows.{Seats, row_seats, both_seats, joined_covers}
use Rattle.receiver_pool.proofs.boards.join_each.Goals as goal

pub join_into-requires-clause-board : goal.join_into-requires-clause-board
join_into-requires-clause-board c lives =
    let sit = c.requires.seats in
    let more = c.requires.others in
    let was = c.loop-other.invariant in
    let boards = c.args.boards.now in
    let k = c.len-k.result in
    let others = c.loop-other.others.items in
    let rest = c.pop.new.self.items in
    let row = was.row more.share more.facts more.are_seats in
    let here : k ≡ length rest = omega (arith, c.len-k.ensures, c.pop.new.self.ok.0) in
    let long = row_length _ no_seat others rest (length others) c.in-Some.other row c.in-Some.ensures.items in
    let board = get_or_read boards k c.index-boards-k.result (omega (arith, was.inside)) c.index-boards-k.is no_table in
    let turned = was.turned sit.share more.share sit.facts more.facts sit.are_seats more.are_seats in (
      ap (λ (s : Held). s.table) (get_or_default c.loop-other.seats k c.index-seats-k.result no_seat (omega (arith, was.count, was.inside)))
          ∙ (turned.below k (omega arith) (omega (arith, was.inside))).table
          ∙ sym board,
      (row_last _ no_seat others rest (length others) c.in-Some.other row c.in-Some.ensures.items).table ∙ ap (table_at boards) (sym here) ∙ sym board,
    )

pub loop-other-preserved : goal.loop-other-preserved
loop-other-preserved c =
    let was = c.loop-other.invariant in
    let boards = c.args.boards.now in
    let k = c.len-k.result in
    let others = c.loop-other.others.items in
    let rest = c.pop.new.self.items in
    let other = c.in-Some.other in
    let new = c.join_into.new.seat in
    let here : k ≡ length rest = omega (arith, c.len-k.ensures, c.pop.new.self.ok.0) in
    let more = c.requires.others in
    let long = row_length _ no_seat others rest (length others) other (was.row more.share more.facts more.are_seats) c.in-Some.ensures.items in
    let board = get_or_read boards k c.index-boards-k.result (omega (arith, was.inside)) c.index-boards-k.is no_table in
    let old = get_or_default c.loop-other.seats k c.index-seats-k.result no_seat (omega (arith, was.count, was.inside)) in
    record {
      count = length-set c.loop-other.seats k new ∙ was.count;
      inside = omega (arith, was.inside);
      turned = λ share amount F G f g.
          let turned = was.turned share amount F G f g in
          let last = row_last _ no_seat others rest (length others) other (was.row amount G g) c.in-Some.ensures.items in
          turned_down _ _ no_seat c.loop-other.seats k (length rest) (length others) (length boards) new (omega arith) (omega arith) (omega (arith, was.inside))
          (both_seats share amount (F k) (G k) (table_at boards k) _ new other (c.join_into.ensures.board ∙ board) c.join_into.ensures.share c.join_into.ensures.union
          (subst (λ (s : Held). IsSeatOf (table_at boards k) share (F k) s) (sym old) (turned.below k (omega arith) (omega (arith, was.inside))))
          (subst (λ (j : ℕ). Seats amount G boards j other) (sym here) last))
          turned;
      row = λ amount G g. row_shorter _ no_seat others rest (length others) other (was.row amount G g) c.in-Some.ensures.items;
      rest = row_shorter _ no_seat others rest (length others) other was.rest c.in-Some.ensures.items;
      seen =
          turned_down _ _ no_seat c.loop-other.seats k (length rest) (length others) (length boards) new (omega arith) (omega arith) (omega (arith, was.inside))
          (joined_covers c.args.others.items k (slice_index_or c.loop-other.seats k c.index-seats-k.result) new other (row_last _ no_seat others rest (length others) other was.rest c.in-Some.ensures.items ∙ ap (λ (j : ℕ). seat_at c.args.others.items j) (sym here)) c.join_into.ensures.places)
          was.seen;
    }

pub returns-clause-seen : goal.returns-clause-seen
returns-clause-seen c =
    let none : length c.loop-other.others.items ≡ 0 = omega (arith, c.in_default.ensures.cases.0, c.loop-other.others.ok.0) in
    (all_turned_down _ _ no_seat c.loop-other.seats (length c.loop-other.others.items) (length c.args.boards.now) none c.loop-other.invariant.seen).each

pub returns-clause-seats : goal.returns-clause-seats
returns-clause-seats c =
    λ share other F G f g.
    let none : length c.loop-other.others.items ≡ 0 = omega (arith, c.in_default.ensures.cases.0, c.loop-other.others.ok.0) in
    row_seats (share + other) _ c.args.boards.now c.loop-other.seats
    (all_turned_down _ _ no_seat c.loop-other.seats (length c.loop-other.others.items) (length c.args.boards.now) none (c.loop-other.invariant.turned share other F G f g))
