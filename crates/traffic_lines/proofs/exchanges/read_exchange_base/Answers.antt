use Rattle.std.proofs.Common.{ℕ, Ok, Err, sym, subst}
use Rattle.traffic_lines.specs.declared.worlds.ExchangePoint.TheVariants.{Base}
use Rattle.traffic_lines.specs.declared.worlds.WorldLine.TheVariants as line
use Rattle.traffic_lines.specs.Worlds.{IsWorldLine}
use Rattle.std.proofs.lemmas.Result.{err_from_is_err_and}
use Rattle.line_grammar.proofs.Rows.{among_read}
use Rattle.traffic_lines.proofs.PointRows.{base_rows, world_base_among}
use Rattle.traffic_lines.proofs.exchanges.read_exchange_base.Goals as goal

pub returns-in_err-second : goal.returns-in_err-second
returns-in_err-second c =
    let p = err_from_is_err_and c.from_residual.result c.from_residual.ensures.1 in
    rw (p.1, p.2) (among_read base_rows world_base_among _ (Err _) c.in_err-second.ensures)

pub returns : goal.returns
returns c = subst (λ (n : ℕ). IsWorldLine Base (line.Base n) c.args.bytes.now) (sym c.number.ensures.value) (among_read base_rows world_base_among _ (Ok _) c.in_ok-second.ensures)
