use Rattle.std.proofs.Common.{Ok, Err}
use Rattle.std.proofs.lemmas.Result.{err_from_is_err_and}
use Rattle.line_grammar.proofs.Rows.{among_read}
use Rattle.traffic_lines.proofs.PointRows.{ship_event_rows, full_among}
use Rattle.traffic_lines.proofs.reading.read_no_group.Goals as goal

pub whole-requires : goal.whole-requires
whole-requires c = record { sound = ship_event_rows.sound }

pub returns-in_err-at : goal.returns-in_err-at
returns-in_err-at c =
    let p = err_from_is_err_and c.from_residual.result c.from_residual.ensures.1 in
    rw (p.1, p.2) (among_read ship_event_rows (full_among c.args.groups c.requires) _ (Err _) c.in_err-at.ensures)

pub returns : goal.returns
returns c = among_read ship_event_rows (full_among c.args.groups c.requires) _ (Ok _) c.in_ok-at.ensures
