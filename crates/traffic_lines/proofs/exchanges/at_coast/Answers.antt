use Rattle.std.proofs.Common.{codes, refl, ap}
use Rattle.line_grammar.specs.Grammar.{Grammar, finish, word, second}
use Rattle.line_grammar.specs.Sections.{nth, last}
use Rattle.line_grammar.proofs.Rows.{leaves_row, after_row, leaves_after}
use Rattle.line_grammar.proofs.SectionSteps.{word_read, word_left}
use Rattle.traffic_lines.specs.Events.{coast_rows, get, event}
use Rattle.traffic_lines.specs.Lines.{at_moment}
use Rattle.traffic_lines.specs.Worlds.{IsEndEvent, end_event_parts, at_coast}
use Rattle.traffic_lines.specs.declared.worlds.EndEvent.TheVariants.{AtCoast}
use Rattle.traffic_lines.proofs.exchanges.at_coast.Goals as goal

abbrev end_event : Grammar → Grammar
end_event rest = at_moment (event coast_rows get) rest

pub returns-in_err-rest : goal.returns-in_err-rest
returns-in_err-rest c =
    leaves_row (last 1) IsEndEvent end_event_parts at_coast c.args.bytes.now c.args.bytes.now _ _ refl c.from_residual.ensures.1 (word_left _ _ _ c.in_err-rest.ensures.left (end_event finish))

pub returns-in_err-at : goal.returns-in_err-at
returns-in_err-at c =
    leaves_after (last 1) IsEndEvent end_event_parts (word (codes "c ")) end_event _ c.args.bytes.now c.args.bytes.now _ _ _ _ refl c.from_residual-in_err-at.ensures.1
    (word_read _ _ _ c.in_ok-rest.ensures.rest) refl c.in_err-at.ensures

pub returns : goal.returns
returns c =
    let read = c.in_ok-at.ensures in
    after_row (last 1) IsEndEvent end_event_parts (word (codes "c ")) end_event _ c.args.bytes.now c.args.bytes.now _ _ read.1.0 (AtCoast c.in_ok-at.at c.in_ok-at.what) refl (word_read _ _ _ c.in_ok-rest.ensures.rest) refl read.1.1 read.0
    (ap second read.1.2)
