use Rattle.std.proofs.Common.{◌≡◌, ℕ, ◌+◌, ◌/◌, List, [], length, slice_index_or, arith, ap, refl, sym, ◌∙◌, subst}
use Rattle.std.proofs.Math.Bool.{or-false}
use Rattle.atomic_table.specs.Seated.{TableId}
use Rattle.slot_evidence.specs.Facts.{no_facts}
use Rattle.evidence_board.specs.declared.seats.TheConstants.{WHOLE}
use Rattle.receiver_pool.specs.Groups.{AreSheets}
use Rattle.receiver_pool.specs.inside.Numbers.{read_by}
use Rattle.receiver_pool.specs.Rows.{AreSeats, seat_at}
use Rattle.slot_evidence.specs.Sheet.{seen_at}
use Rattle.evidence_board.specs.Views.{place_at, reach_of}
use Rattle.receiver_pool.proofs.SeatRows.{same_seats, within_both}
use Rattle.receiver_pool.proofs.beside.share_beside.Goals as goal

pub close_each-requires : goal.close_each-requires
close_each-requires g c =
    let part = read_by c.args.batch.now c.args.turns.now 0 c.args.turns.now.workers in
    let two = c.in_ok-seats.ensures.halves in
    let joined = c.in_ok-beside.ensures.seats (WHOLE / 2) (WHOLE / 2) (λ k. no_facts) (λ k. no_facts)
    (subst (λ (bs : List TableId). AreSeats (WHOLE / 2) (λ k. no_facts) bs c.in_ok-seats.seats.items) (c.deref.ensures.value ∙ sym c.deref-2.ensures.value) two.0)
    (subst (λ (bs : List TableId). AreSeats (WHOLE / 2) (λ k. no_facts) bs c.in_ok-seats.others.items) (c.deref.ensures.value ∙ sym c.deref-2.ensures.value) two.1) in
    let whole = subst (λ (bs : List TableId). AreSeats WHOLE part bs c.in_ok-beside.joined.items) c.deref-2.ensures.value
    (same_seats (WHOLE / 2 + WHOLE / 2) WHOLE _ part c.deref-2.result.now c.in_ok-beside.joined.items refl (λ k p v. or-false (part k p v)) joined) in
    (part, whole)

pub returns-clause-sheets : goal.returns-clause-sheets
returns-clause-sheets g c =
    let part = read_by c.args.batch.now c.args.turns.now 0 c.args.turns.now.workers in
    let two = c.in_ok-seats.ensures.halves in
    let joined = c.in_ok-beside.ensures.seats (WHOLE / 2) (WHOLE / 2) (λ k. no_facts) (λ k. no_facts)
    (subst (λ (bs : List TableId). AreSeats (WHOLE / 2) (λ k. no_facts) bs c.in_ok-seats.seats.items) (c.deref.ensures.value ∙ sym c.deref-2.ensures.value) two.0)
    (subst (λ (bs : List TableId). AreSeats (WHOLE / 2) (λ k. no_facts) bs c.in_ok-seats.others.items) (c.deref.ensures.value ∙ sym c.deref-2.ensures.value) two.1) in
    let whole = subst (λ (bs : List TableId). AreSeats WHOLE part bs c.in_ok-beside.joined.items) c.deref-2.ensures.value
    (same_seats (WHOLE / 2 + WHOLE / 2) WHOLE _ part c.deref-2.result.now c.in_ok-beside.joined.items refl (λ k p v. or-false (part k p v)) joined) in
    subst (λ (n : ℕ). AreSheets part c.in_ok-sheets.sheets.items n) c.in_ok-boards.ensures.count (c.in_ok-sheets.ensures.sheets part whole)

pub returns-clause-seen : goal.returns-clause-seen
returns-clause-seen g c =
    let gone = c.in_ok-beside.ensures.seen in
    let boards = c.in_ok-boards.boards.items in
    let same : length c.deref-2.result.now ≡ length boards = ap (λ (b : List TableId). length b) c.deref-2.ensures.value in
    let groups : length boards ≡ length c.args.groups.now = c.in_ok-boards.ensures.count in (
      gone.0,
      gone.1 ∙ same ∙ groups,
      gone.2,
      λ k below p small.
          within_both (place_at (seat_at gone.0 k).view p).seen (place_at (seat_at c.in_ok-beside.joined.items k).view p).seen (reach_of (seen_at (slice_index_or c.in_ok-sheets.sheets.items k []) p))
          (gone.3 k (omega (arith, below, same, groups)) p small) (c.in_ok-sheets.ensures.seen k (omega (arith, below, groups)) p small),
    )
