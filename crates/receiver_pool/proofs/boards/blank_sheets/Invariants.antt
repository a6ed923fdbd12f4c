use Rattle.slot_evidence.specs.Facts.{no_facts}
use Rattle.std.proofs.Common.{◌≡◌, [], vec_len, vec_capacity}
use Rattle.receiver_pool.proofs.Turning.{Row}
use Rattle.receiver_pool.proofs.SeatRows.{Sheets}
use Rattle.receiver_pool.proofs.boards.blank_sheets.Given as goal

abbrev pub invariant-loop : goal.invariant-loop
invariant-loop l = record {
  row : Row (Sheets (λ k. no_facts)) [] l.sheets.items l.counter;
  count : vec_len l.sheets ≡ l.counter;
  room : vec_capacity l.sheets ≡ l.count;
}
