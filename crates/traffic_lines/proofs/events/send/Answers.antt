use Rattle.std.proofs.Common.{codes, refl, ap}
use Rattle.call_texts.specs.CallGrammar.{calls}
use Rattle.line_grammar.specs.Grammar.{finish, word}
use Rattle.line_grammar.specs.Sections.{last}
use Rattle.line_grammar.proofs.Rows.{leaves_row, after_row, leaves_after}
use Rattle.line_grammar.proofs.SectionSteps.{word_read, word_left}
use Rattle.traffic_lines.specs.Events.{IsEvent, event_parts, send}
use Rattle.traffic_lines.specs.declared.{lines.Deed.TheVariants.Send, lines.Event.TheVariants.Does}
use Rattle.traffic_lines.proofs.events.send.Goals as goal

pub returns-in_err-text : goal.returns-in_err-text
returns-in_err-text g c =
    leaves_row (last 5) (IsEvent g.O.Rows.lawful g.C.Rows.lawful) (event_parts g.O.Rows.parts g.C.Rows.parts) send c.args.bytes.now c.args.bytes.now _ _ refl c.from_residual.ensures.1
    (word_left _ _ _ c.in_err-text.ensures.left (calls finish))

pub returns-in_err-call : goal.returns-in_err-call
returns-in_err-call g c =
    leaves_after (last 5) (IsEvent g.O.Rows.lawful g.C.Rows.lawful) (event_parts g.O.Rows.parts g.C.Rows.parts) (word (codes "send ")) calls _ c.args.bytes.now c.args.bytes.now _ _ _ _ refl
    c.from_residual-in_err-call.ensures.1 (word_read _ _ _ c.in_ok-text.ensures.rest) refl c.in_err-call.ensures

pub returns : goal.returns
returns g c =
    let read = c.in_ok-call.ensures in
    after_row (last 5) (IsEvent g.O.Rows.lawful g.C.Rows.lawful) (event_parts g.O.Rows.parts g.C.Rows.parts) (word (codes "send ")) calls _ c.args.bytes.now c.args.bytes.now _ _ read.0 (Does (Send c.in_ok-call.call)) refl
    (word_read _ _ _ c.in_ok-text.ensures.rest) refl read.1 c.lawful.ensures (ap (last 5) read.2)
