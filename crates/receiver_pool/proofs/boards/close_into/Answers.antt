use Rattle.std.proofs.Common.{◌≡◌, ℕ, [], List, length, arith, ap, sym, ◌∙◌, subst}
use Rattle.std.proofs.lemmas.List.{length-set}
use Rattle.slot_evidence.specs.declared.places.Seen.{Seen}
use Rattle.slot_evidence.specs.Sheet.{IsEnds}
use Rattle.evidence_board.specs.Views.{given_sheet}
use Rattle.evidence_board.specs.declared.seats.TheConstants.{WHOLE}
use Rattle.receiver_pool.specs.Rows.{no_table, no_seat, seat_at, table_at}
use Rattle.receiver_pool.proofs.Turning.{Row, turned_down, all_turned_down, row_length, row_shorter, row_last}
use Rattle.receiver_pool.proofs.SeatRows.{Same, Seats, sheet_covers, row_sheets}
use Rattle.receiver_pool.proofs.boards.close_into.Goals as goal

pub returns-in_default-pop : goal.returns-in_default-pop
returns-in_default-pop c =
    let was = c.loop-board.invariant in
    let long = row_length _ no_table c.loop-board.boards.items c.pop.new.self.items (length c.loop-board.boards.items) c.in-Some.board was.tables c.in-Some.ensures.items in
    let count = (was.seats c.requires.seats.0 c.requires.seats.1).count in
    absurd (omega (arith, long, count, c.in_default-pop.ensures.cases.0, c.loop-board.seats.ok.0))

pub close-requires-clause-board : goal.close-requires-clause-board
close-requires-clause-board c lives =
    let was = c.loop-board.invariant in
    let boards = c.loop-board.boards.items in
    let seats = c.loop-board.seats.items in
    let row = was.seats c.requires.seats.0 c.requires.seats.1 in
    let long = row_length _ no_table boards c.pop.new.self.items (length boards) c.in-Some.board was.tables c.in-Some.ensures.items in
    let other = row_length _ no_seat seats c.pop-in-Some.new.self.items (length boards) c.in-Some-pop.seat row c.in-Some-pop.ensures.items in
    let same : length c.pop-in-Some.new.self.items ≡ length c.pop.new.self.items = omega arith in
    (row_last _ no_seat seats c.pop-in-Some.new.self.items (length boards) c.in-Some-pop.seat row c.in-Some-pop.ensures.items).table
    ∙ ap (table_at c.args.boards.items) same
    ∙ sym (row_last _ no_table boards c.pop.new.self.items (length boards) c.in-Some.board was.tables c.in-Some.ensures.items)

pub close-requires-clause-whole : goal.close-requires-clause-whole
close-requires-clause-whole c lives =
    let row = c.loop-board.invariant.seats c.requires.seats.0 c.requires.seats.1 in
    (row_last _ no_seat c.loop-board.seats.items c.pop-in-Some.new.self.items (length c.loop-board.boards.items) c.in-Some-pop.seat row c.in-Some-pop.ensures.items).amount

pub loop-board-preserved : goal.loop-board-preserved
loop-board-preserved c =
    let was = c.loop-board.invariant in
    let boards = c.loop-board.boards.items in
    let seats = c.loop-board.seats.items in
    let rest = c.pop.new.self.items in
    let others = c.pop-in-Some.new.self.items in
    let seat = c.in-Some-pop.seat in
    let k = c.len.result in
    let long = row_length _ no_table boards rest (length boards) c.in-Some.board was.tables c.in-Some.ensures.items in
    let other = row_length _ no_seat seats others (length boards) seat (was.seats c.requires.seats.0 c.requires.seats.1) c.in-Some-pop.ensures.items in
    let same : length others ≡ length rest = omega arith in
    let here : k ≡ length rest = omega (arith, c.len.ensures, c.pop.new.self.ok.0) in
    record {
      count = length-set c.loop-board.sheets k c.close.result ∙ was.count;
      inside = omega (arith, was.inside);
      tables = row_shorter _ no_table boards rest (length boards) c.in-Some.board was.tables c.in-Some.ensures.items;
      seats = λ F f. subst (λ (m : ℕ). Row (Seats WHOLE F c.args.boards.items) no_seat others m) same (row_shorter _ no_seat seats others (length boards) seat (was.seats F f) c.in-Some-pop.ensures.items);
      turned = λ F f.
          let last = row_last _ no_seat seats others (length boards) seat (was.seats F f) c.in-Some-pop.ensures.items in
          turned_down _ _ [] c.loop-board.sheets k (length rest) (length boards) (length c.args.boards.items) c.close.result (omega arith) (omega arith) (omega (arith, was.inside))
          (subst (λ (s : List Seen). IsEnds (F k) s) (sym c.close.ensures.sheet) (subst (λ (j : ℕ). IsEnds (F j) (given_sheet seat.view)) (same ∙ sym here) last.ends))
          (was.turned F f);
      views = subst (λ (m : ℕ). Row (Same c.args.seats.items) no_seat others m) same (row_shorter _ no_seat seats others (length boards) seat was.views c.in-Some-pop.ensures.items);
      seen =
          turned_down _ _ [] c.loop-board.sheets k (length rest) (length boards) (length c.args.boards.items) c.close.result (omega arith) (omega arith) (omega (arith, was.inside))
          (sheet_covers c.args.seats.items k seat c.close.result
          (row_last _ no_seat seats others (length boards) seat was.views c.in-Some-pop.ensures.items ∙ ap (λ (j : ℕ). seat_at c.args.seats.items j) (same ∙ sym here)) c.close.ensures.seen)
          was.seen;
    }

pub returns-clause-seen : goal.returns-clause-seen
returns-clause-seen c =
    let n = length c.loop-board.boards.items in
    let none : n ≡ 0 = omega (arith, c.in_default.ensures.cases.0, c.loop-board.boards.ok.0) in
    (all_turned_down _ _ [] c.loop-board.sheets n (length c.args.boards.items) none c.loop-board.invariant.seen).each

pub returns-clause-sheets : goal.returns-clause-sheets
returns-clause-sheets c =
    λ F f.
    let n = length c.loop-board.boards.items in
    let none : n ≡ 0 = omega (arith, c.in_default.ensures.cases.0, c.loop-board.boards.ok.0) in
    row_sheets F c.loop-board.sheets (length c.args.boards.items) (all_turned_down _ _ [] c.loop-board.sheets n (length c.args.boards.items) none (c.loop-board.invariant.turned F f))
