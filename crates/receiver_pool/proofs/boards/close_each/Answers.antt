use Rattle.std.proofs.Common.{List, [], length, slice_index_or, arith, sym, subst}
use Rattle.plain_laws.proofs.Lists.{lent_whole}
use Rattle.slot_evidence.specs.declared.places.Seen.{Seen}
use Rattle.slot_evidence.specs.Sheet.{seen_at}
use Rattle.evidence_board.specs.Views.{place_at, reach_of}
use Rattle.evidence_board.specs.Rule.{IsWithin}
use Rattle.receiver_pool.specs.Groups.{AreSheets}
use Rattle.receiver_pool.specs.Rows.{seat_at}
use Rattle.receiver_pool.proofs.boards.close_each.Goals as goal

pub returns-clause-seen : goal.returns-clause-seen
returns-clause-seen c =
    λ k below p small.
    let closed = c.close_into.ensures.sheets c.requires.0 c.requires.1 in
    let sheets = c.in_ok-sheets.sheets in
    subst (λ (s : List (List Seen)). IsWithin (place_at (seat_at c.args.seats.items k).view p).seen (reach_of (seen_at (slice_index_or s k []) p)))
    (sym (lent_whole (List Seen) sheets.items c.close_into.new.sheets sheets.len sheets.ok.0 (omega (arith, closed.count, c.in_ok-sheets.ensures.count, c.len.ensures, c.args.boards.ok.0))))
    (c.close_into.ensures.seen k below p small)

pub returns-clause-sheets : goal.returns-clause-sheets
returns-clause-sheets c =
    λ F f.
    let closed = c.close_into.ensures.sheets F f in
    let sheets = c.in_ok-sheets.sheets in
    subst (λ (s : List (List Seen)). AreSheets F s (length c.args.boards.items))
    (sym (lent_whole (List Seen) sheets.items c.close_into.new.sheets sheets.len sheets.ok.0 (omega (arith, closed.count, c.in_ok-sheets.ensures.count, c.len.ensures, c.args.boards.ok.0))))
    closed
