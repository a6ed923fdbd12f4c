use Rattle.std.proofs.Common.{◌≡◌, ℕ, ◌+◌, ◌-◌, ◌/◌, List, length, arith, ap, refl, sym, ◌∙◌, subst}
use Rattle.std.proofs.lemmas.List.{length-set, get_or_default, get_or_read}
use Rattle.slot_evidence.specs.declared.places.Seen.{Seen}
use Rattle.slot_evidence.specs.Facts.{no_facts}
use Rattle.slot_evidence.specs.Sheet.{IsEnds}
use Rattle.evidence_board.specs.Seats.{Held}
use Rattle.evidence_board.specs.Views.{seen_sheet}
use Rattle.receiver_pool.specs.Rows.{IsSeatOf, no_table, no_seat, table_at}
use Rattle.receiver_pool.proofs.Turning.{Row, turned_up, all_turned_up, row_longer}
use Rattle.receiver_pool.proofs.SeatRows.{AnySeat, Seats, Unseen, row_seats, half_kept, half_given}
use Rattle.receiver_pool.proofs.boards.split_each.Goals as goal

pub split_off-requires-clause-board : goal.split_off-requires-clause-board
split_off-requires-clause-board c lives =
    let sit = c.requires in
    let was = c.loop-k.invariant in
    let k = c.loop-k.k in
    ap (λ (s : Held). s.table) (get_or_default c.loop-k.seats k c.index-seats-k.result no_seat (omega (arith, was.count)))
    ∙ ((was.turned sit.share sit.facts sit.are_seats).above k (omega arith) (omega arith)).table
    ∙ sym (get_or_read c.args.boards.now k c.index-boards-k.result (omega arith) c.index-boards-k.is no_table)

pub split_off-requires-clause-share : goal.split_off-requires-clause-share
split_off-requires-clause-share c lives =
    let sit = c.requires in
    let was = c.loop-k.invariant in
    let k = c.loop-k.k in
    let same = ap (λ (s : Held). s.view.share) (get_or_default c.loop-k.seats k c.index-seats-k.result no_seat (omega (arith, was.count))) in
    let amount = ((was.turned sit.share sit.facts sit.are_seats).above k (omega arith) (omega arith)).amount in
    omega (arith, same, amount, sit.enough)

pub loop-k-preserved : goal.loop-k-preserved
loop-k-preserved c =
    let was = c.loop-k.invariant in
    let k = c.loop-k.k in
    let boards = c.args.boards.now in
    let new = c.split_off.new.seat in
    let other = c.split_off.result in
    let told = c.split_off.ensures in
    let board = get_or_read boards k c.index-boards-k.result (omega arith) c.index-boards-k.is no_table in
    let old = get_or_default c.loop-k.seats k c.index-seats-k.result no_seat (omega (arith, was.count)) in
    record {
      count = length-set c.loop-k.seats k new ∙ was.count;
      turned = λ share F f.
          let turned = was.turned share F f in
          turned_up _ _ no_seat c.loop-k.seats k (length boards) new (omega arith)
          (half_kept share (F k) (table_at boards k) _ new other (told.board.0 ∙ board) told.shares told.halves.1 told.halves.2 told.given.0
          (subst (λ (s : Held). IsSeatOf (table_at boards k) share (F k) s) (sym old) (turned.above k (omega arith) (omega arith))))
          turned;
      row = λ share F f.
          let turned = was.turned share F f in
          subst (λ (s : List Held). Row (Seats (share / 2) F boards) no_seat s (k + 1)) (sym c.push_reserved.ensures.items)
          (row_longer _ no_seat c.loop-k.others.items k other (was.row share F f)
          (half_given share (F k) (table_at boards k) _ new other (told.board.1 ∙ board) told.shares told.halves.1 told.halves.2 told.given.1
          (subst (λ (s : Held). IsSeatOf (table_at boards k) share (F k) s) (sym old) (turned.above k (omega arith) (omega arith)))));
      unseen = λ nothing. turned_up AnySeat Unseen no_seat c.loop-k.seats k (length boards) new (omega arith) refl (was.unseen nothing);
      others = λ nothing.
          let seat = subst (λ (s : Held). IsEnds no_facts (seen_sheet s.view)) (sym old) ((was.unseen nothing).above k (omega arith) (omega arith)) in
          subst (λ (s : List Held). Row Unseen no_seat s (k + 1)) (sym c.push_reserved.ensures.items)
          (row_longer Unseen no_seat c.loop-k.others.items k other (was.others nothing) (subst (λ (s : List Seen). IsEnds no_facts s) (sym told.seen) seat));
      made = omega (arith, c.push_reserved.ensures.len, was.made);
      room = c.push_reserved.ensures.capacity ∙ was.room;
    }

pub returns-clause-halves : goal.returns-clause-halves
returns-clause-halves c =
    λ share F f.
    let was = c.loop-k.invariant in
    let boards = c.args.boards.now in
    let all : c.loop-k.k ≡ length boards = omega arith in (
      row_seats (share - share / 2) F boards c.loop-k.seats (all_turned_up _ _ no_seat c.loop-k.seats c.loop-k.k (length boards) (omega arith) (was.turned share F f)),
      row_seats (share / 2) F boards c.loop-k.others.items (subst (λ (m : ℕ). Row (Seats (share / 2) F boards) no_seat c.loop-k.others.items m) all (was.row share F f)),
    )

pub returns-clause-unseen : goal.returns-clause-unseen
returns-clause-unseen c = λ nothing k below. (c.loop-k.invariant.others nothing).each k (omega (arith, below))
