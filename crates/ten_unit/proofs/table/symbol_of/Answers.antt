use Rattle.std.proofs.Common.{subst, sym, ℕ}
use Rattle.ten_unit.specs.inside.Symbol.{IsSymbol}
use Rattle.ten_unit.proofs.Rows.{symbol_row, no_symbol}
use Rattle.ten_unit.proofs.table.symbol_of.Goals as goal

pub returns-then-number-lt1024 : goal.returns-then-number-lt1024
returns-then-number-lt1024 c = λ w long number.
    subst (λ (s : ℕ). IsSymbol w s) (sym c.row.ensures) (symbol_row w c.args.number long number c.if-number-lt1024.true)

pub returns-else-number-lt1024 : goal.returns-else-number-lt1024
returns-else-number-lt1024 c = λ w long number. no_symbol w c.args.number number c.if-number-lt1024.false
