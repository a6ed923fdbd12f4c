use Rattle.dsc_symbols.specs.declared.last_digits.TheConstants.{FORMATS}
use Rattle.std.proofs.Common.{◌≡◌, true, refl, ap, ◌∙◌}
use Rattle.sentence_frame.specs.Shapes.{is_among}
use Rattle.call_values.specs.declared.calls.Call.{Call}
use Rattle.call_values.specs.declared.calls.Call.TheVariants.{Alert, Ack, Relay, RelayAck, AllShips, AreaCall, GroupCall, Individual, Service}
use Rattle.call_values.specs.declared.parts.To.{To}
use Rattle.call_values.specs.declared.parts.To.TheVariants as to
use Rattle.call_grammar.specs.Spelling.{format_of, format_to}
use Rattle.dsc_sentences.specs.Calls.{last_two}
use Rattle.dsc_sentences.proofs.calls.format_of.Goals as goal

-- each format specifier is one that a sentence may have
to_formats : (whom : To) → is_among FORMATS (last_two (format_to whom)) ≡ true
to_formats to.All = refl
to_formats (to.Area area) = refl
to_formats (to.Group mmsi) = refl
to_formats (to.One mmsi) = refl

call_formats : (call : Call) → is_among FORMATS (last_two (format_of call)) ≡ true
call_formats (Alert casualty) = refl
call_formats (Ack from casualty) = refl
call_formats (Relay whom from casualty ask) = to_formats whom
call_formats (RelayAck whom from casualty) = to_formats whom
call_formats (AllShips category from first second f1 f2) = refl
call_formats (AreaCall area category from first second f1 f2) = refl
call_formats (GroupCall group category from first second f1 f2) = refl
call_formats (Individual station category from first second message end) = refl
call_formats (Service station category from kind) = refl

pub returns-clause-range : goal.returns-clause-range
returns-clause-range c = ap (is_among FORMATS) (c.last_two.ensures.value ∙ ap last_two c.format_of.ensures) ∙ call_formats c.args.call.now
