use Rattle.std.proofs.Common.{◌≡◌, ℕ, [], ◌<◌, ◌&&◌, List, length, slice_index, refl, arith, ap, sym, ◌∙◌, subst}
use Rattle.std.proofs.Math.Bool.{or-false}
use Rattle.std.proofs.lemmas.List.{length-set, get_or_default, get_or_read}
use Rattle.slot_evidence.specs.Facts.{Facts, facts_of, union}
use Rattle.slot_evidence.specs.declared.places.Seen.{Seen}
use Rattle.slot_evidence.specs.Sheet.{IsEnds}
use Rattle.slot_evidence.proofs.PublicLaws.{IsEnds-same}
use Rattle.receiver_pool.proofs.Parts.{turned_at}
use Rattle.evidence_board.specs.Seats.{Held}
use Rattle.receiver_pool.specs.Rows.{IsSeatOf, AreSeats, no_table, no_seat, table_at}
use Rattle.receiver_pool.specs.inside.Turns.{is_turn, nobody}
use Rattle.receiver_pool.specs.inside.Numbers.{place_part}
use Rattle.receiver_pool.proofs.SeatRows.{same_seats, seats_more}
use Rattle.receiver_pool.proofs.Gathered.{next_part, next_posted, or_assoc}
use Rattle.receiver_pool.proofs.at_once.post_turns.Goals as goal

pub post_turn-requires-clause-board : goal.post_turn-requires-clause-board
post_turn-requires-clause-board c =
    let sit = c.requires.seats in
    let was = c.loop-index.invariant in
    let place = slice_index c.args.places.now c.loop-index.index in
    let below : place < length c.args.boards.now = c.requires.places.inside c.loop-index.index (omega arith) in
    let are = was.posted sit.share sit.facts sit.are_seats in
    ap (λ (s : Held). s.table) (get_or_default c.loop-index.seats place c.index-seats-place.result no_seat (omega (arith, was.count, below)))
    ∙ (are.each place below).table
    ∙ sym (get_or_read c.args.boards.now place c.index-boards-place.result below c.index-boards-place.is no_table)

pub loop-index-init : goal.loop-index-init
loop-index-init c = record {
  count = c.requires.seats.are_seats.count;
  shown = c.requires.sheets;
  posted = λ share F are. same_seats share share F _ c.args.boards.now c.args.seats.now refl (λ k p v. sym (or-false (F k p v))) are;
}

pub loop-index-preserved : goal.loop-index-preserved
loop-index-preserved c =
    let was = c.loop-index.invariant in
    let index = c.loop-index.index in
    let batch = c.args.batch.now in
    let boards = c.args.boards.now in
    let heard = c.index-batch-index.result in
    let place = slice_index c.args.places.now index in
    let below : place < length boards = c.requires.places.inside index (omega arith) in
    let low = c.args.entered.now.low in
    let high = c.args.entered.now.high in
    let part = place_part (is_turn c.args.workers low high) batch c.args.places.now index in
    let new = c.post_turn.new.seat in
    let G : Facts = λ p v. c.is_mine-mine.result && facts_of heard.reception p v in
    let at = get_or_default c.loop-index.sheets place c.index-sheets-place.result [] (omega (arith, was.shown.count, below)) in
    let ends = subst (λ (s : List Seen). IsEnds (part place) s) (sym at) (was.shown.each place below) in
    record {
      count = length-set c.loop-index.seats place new ∙ was.count;
      shown = next_part c.args.workers low high index c.is_mine-mine.result batch c.args.places.now heard _ (length boards)
          (get_or_read batch index heard (omega arith) c.index-batch-index.is nobody)
          c.is_mine-mine.ensures
          (turned_at place part G c.loop-index.sheets _ c.post_turn.new.sheet (length boards) (omega (arith, was.shown.count, below)) refl (c.post_turn.ensures.sheet (part place) ends) was.shown);
      posted = λ share F f.
          let are = was.posted share F f in
          let old = get_or_default c.loop-index.seats place c.index-seats-place.result no_seat (omega (arith, was.count, below)) in
          let board = get_or_read boards place c.index-boards-place.result below c.index-boards-place.is no_table in
          let seat = subst (λ (s : Held). IsSeatOf (table_at boards place) share (union (F place) (part place)) s) (sym old) (are.each place below) in
          next_posted c.args.workers low high index c.is_mine-mine.result batch c.args.places.now heard share F boards _
          (get_or_read batch index heard (omega arith) c.index-batch-index.is nobody)
          c.is_mine-mine.ensures
          (seats_more share (λ k. union (F k) (part k)) G boards c.loop-index.seats place new below
          (record {
            table = c.post_turn.ensures.board ∙ board;
            amount = c.post_turn.ensures.share ∙ seat.amount;
            ends = IsEnds-same _ _ _ (λ p v. sym (or_assoc (F place p v) (part place p v) (G p v))) (c.post_turn.ensures.ends (F place) (part place) ends seat.ends);
          })
          are);
    }

pub returns : goal.returns
returns c =
    λ share F are.
    let batch = c.args.batch.now in
    let end : c.loop-index.index ≡ length batch = omega arith in
    subst (λ (n : ℕ). AreSeats share (λ k. union (F k) (place_part (is_turn c.args.workers c.args.entered.now.low c.args.entered.now.high) batch c.args.places.now n k)) c.args.boards.now c.loop-index.seats)
    end (c.loop-index.invariant.posted share F are)
