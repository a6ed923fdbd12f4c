use Rattle.std.proofs.Common.{Ok, sym, ◌∙◌, ap}
use Rattle.line_grammar.specs.Grammar.{Parts}
use Rattle.call_texts.specs.Texts.{IsBareCallText}
use Rattle.line_grammar.proofs.Forms.{column_is, text_column, text_left, text_read}
use Rattle.call_texts.proofs.CallLaws.{bare_texts}
use Rattle.call_texts.proofs.reading.read_bare_call.Goals as goal

pub returns-in-Ok : goal.returns-in-Ok
returns-in-Ok c = text_read bare_texts _ _ c.lawful.ensures (c.in-Ok.ensures.1 ∙ ap (λ (p : Parts). Ok p) (sym c.in-Ok.ensures.2))

pub column-requires-clause-left : goal.column-requires-clause-left
column-requires-clause-left c = text_left bare_texts _ _ c.in-Err.ensures

pub returns-in-Err : goal.returns-in-Err
returns-in-Err c = column_is IsBareCallText _ _ _ c.column.ensures (text_column bare_texts _ _ c.in-Err.ensures)
