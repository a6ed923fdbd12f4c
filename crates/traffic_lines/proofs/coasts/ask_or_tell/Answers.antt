use Rattle.std.proofs.Common.{true, false, Bool, codes, refl}
use Rattle.line_grammar.specs.Grammar.{first, second, word}
use Rattle.line_grammar.specs.Sections.{last}
use Rattle.line_grammar.proofs.Rows.{word_row, further_row}
use Rattle.traffic_lines.specs.Events.{ask_parts}
use Rattle.traffic_lines.proofs.coasts.ask_or_tell.Goals as goal

pub returns : goal.returns
returns c =
    further_row (last 0) (λ (_ : Bool). Unit {0}) ask_parts (word (codes " ask")) (word (codes " tell")) _ _ _ _ c.further.ensures
    (word_row first (λ (_ : Bool). Unit {0}) ask_parts (codes " ask") true _ _ c.spelled.ensures.value c.spelled.ensures.text tt refl)
    (word_row second (λ (_ : Bool). Unit {0}) ask_parts (codes " tell") false _ _ c.spelled-2.ensures.value c.spelled-2.ensures.text tt refl)
