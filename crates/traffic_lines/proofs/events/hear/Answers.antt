use Rattle.std.proofs.Common.{codes, refl, sym, ap, ◌∙◌}
use Rattle.call_texts.specs.CallGrammar.{calls, perhaps, expansion}
use Rattle.call_texts.specs.inside.Places.{call_parts}
use Rattle.line_grammar.specs.Grammar.{Grammar, finish, word, Parts, first}
use Rattle.line_grammar.specs.Sections.{nth}
use Rattle.line_grammar.proofs.Rows.{leaves_row, after_row, leaves_after}
use Rattle.line_grammar.proofs.SectionSteps.{word_read, word_left}
use Rattle.traffic_lines.specs.Events.{IsHearing, hearing_parts, hear}
use Rattle.traffic_lines.specs.declared.lines.Hearing.TheVariants.{Hear}
use Rattle.traffic_lines.proofs.events.hear.Goals as goal

abbrev call : Grammar → Grammar
call rest = calls (perhaps expansion rest)

pub returns-in_err-text : goal.returns-in_err-text
returns-in_err-text c =
    leaves_row (nth 0) IsHearing hearing_parts hear c.args.bytes.now c.args.bytes.now _ _ refl c.from_residual.ensures.1 (word_left _ _ _ c.in_err-text.ensures.left (call finish))

pub returns-in_err-call : goal.returns-in_err-call
returns-in_err-call c =
    leaves_after (nth 0) IsHearing hearing_parts (word (codes "hear ")) call _ c.args.bytes.now c.args.bytes.now _ _ _ _ refl c.from_residual-in_err-call.ensures.1
    (word_read _ _ _ c.in_ok-text.ensures.rest) refl c.in_err-call.ensures

pub returns : goal.returns
returns c =
    let read = c.in_ok-call.ensures in
    after_row (nth 0) IsHearing hearing_parts (word (codes "hear ")) call _ c.args.bytes.now c.args.bytes.now _ _ read.0 (Hear c.in_ok-call.call c.in_ok-call.tail) refl (word_read _ _ _ c.in_ok-text.ensures.rest) refl read.1
    (c.lawful.ensures, c.sets_are_lawful.ensures) (ap first read.2)
