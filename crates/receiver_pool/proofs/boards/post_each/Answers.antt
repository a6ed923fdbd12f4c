use Rattle.std.proofs.Common.{◌<◌, [], List, length, arith, ap, sym, ◌∙◌, subst}
use Rattle.std.proofs.lemmas.List.{length-set, get_or_default, get_or_read}
use Rattle.slot_evidence.specs.declared.places.Seen.{Seen}
use Rattle.slot_evidence.specs.Sheet.{IsEnds}
use Rattle.evidence_board.specs.Seats.{Held}
use Rattle.receiver_pool.specs.Rows.{IsSeatOf, no_table, no_seat, table_at}
use Rattle.receiver_pool.proofs.Turning.{turned_up, none_turned_up, all_turned_up}
use Rattle.receiver_pool.proofs.SeatRows.{seats_row, row_seats, posted}
use Rattle.receiver_pool.proofs.boards.post_each.Goals as goal

pub post_sheet-requires-clause-board : goal.post_sheet-requires-clause-board
post_sheet-requires-clause-board c lives =
    let sit = c.requires.seats in
    let was = c.loop-k.invariant in
    let k = c.loop-k.k in
    let turned = was.turned sit.share sit.facts c.requires.sheets.0 sit.are_seats c.requires.sheets.1 in
    ap (λ (s : Held). s.table) (get_or_default c.loop-k.seats k c.index-seats-k.result no_seat (omega (arith, was.count)))
    ∙ (turned.above k (omega arith) (omega arith)).table
    ∙ sym (get_or_read c.args.boards.now k c.index-boards-k.result (omega arith) c.index-boards-k.is no_table)

pub loop-k-init : goal.loop-k-init
loop-k-init c = record {
  count = c.requires.seats.are_seats.count;
  turned = λ share F G f g. none_turned_up _ _ no_seat c.args.seats.now (length c.args.boards.now) (seats_row share F c.args.boards.now c.args.seats.now f);
}

pub loop-k-preserved : goal.loop-k-preserved
loop-k-preserved c =
    let was = c.loop-k.invariant in
    let k = c.loop-k.k in
    let boards = c.args.boards.now in
    let old = get_or_default c.loop-k.seats k c.index-seats-k.result no_seat (omega (arith, was.count)) in
    let board = get_or_read boards k c.index-boards-k.result (omega arith) c.index-boards-k.is no_table in
    let new = c.post_sheet.new.seat in
    record {
      count = length-set c.loop-k.seats k new ∙ was.count;
      turned = λ share F G f g.
          let turned = was.turned share F G f g in
          let below : k < length c.args.sheets.now = omega (arith, g.count) in
          let sheet = get_or_read c.args.sheets.now k c.index-sheets-k.result below c.index-sheets-k.is [] in
          turned_up _ _ no_seat c.loop-k.seats k (length boards) new (omega arith)
          (posted share (F k) (G k) (table_at boards k) _ new c.index-sheets-k.result (c.post_sheet.ensures.board ∙ board) c.post_sheet.ensures.share c.post_sheet.ensures.ends
          (subst (λ (s : Held). IsSeatOf (table_at boards k) share (F k) s) (sym old) (turned.above k (omega arith) (omega arith)))
          (subst (λ (s : List Seen). IsEnds (G k) s) (sym sheet) (g.each k (omega arith))))
          turned;
    }

pub returns : goal.returns
returns c =
    λ share F G f g.
    row_seats share _ c.args.boards.now c.loop-k.seats (all_turned_up _ _ no_seat c.loop-k.seats c.loop-k.k (length c.args.boards.now) (omega arith) (c.loop-k.invariant.turned share F G f g))
