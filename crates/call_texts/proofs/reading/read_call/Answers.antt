use Rattle.std.proofs.Common.{Ok, sym, ◌∙◌, ap, arith}
use Rattle.line_grammar.specs.Grammar.{Parts}
use Rattle.call_texts.specs.Texts.{IsCallText}
use Rattle.line_grammar.proofs.Forms.{column_is, text_column, text_left, text_read}
use Rattle.call_texts.proofs.CallLaws.{texts}
use Rattle.call_texts.proofs.reading.read_call.Goals as goal

pub returns-in-Ok-clause-read : goal.returns-in-Ok-clause-read
returns-in-Ok-clause-read c =
    text_read texts (c.in-Ok.call, c.in-Ok.expansion) _ (c.lawful.ensures, c.sets_are_lawful.ensures)
    (c.in-Ok.ensures.1 ∙ ap (λ (p : Parts). Ok p) (sym c.in-Ok.ensures.2))

pub returns-in-Err : goal.returns-in-Err
returns-in-Err c = record {
  read = column_is IsCallText _ _ _ c.column.ensures (text_column texts _ _ c.in-Err.ensures);
  counted = omega (arith, c.column.ensures, text_left texts _ _ c.in-Err.ensures);
}

pub column-requires-clause-left : goal.column-requires-clause-left
column-requires-clause-left c = text_left texts _ _ c.in-Err.ensures
