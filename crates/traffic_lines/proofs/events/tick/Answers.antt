use Rattle.std.proofs.Common.{codes, refl}
use Rattle.line_grammar.specs.Sections.{nth}
use Rattle.line_grammar.proofs.Rows.{word_row}
use Rattle.traffic_lines.specs.declared.{lines.Deed.TheVariants.Tick, lines.Event.TheVariants.Does}
use Rattle.traffic_lines.specs.Events.{IsEvent, event_parts}
use Rattle.traffic_lines.proofs.events.tick.Goals as goal

pub returns : goal.returns
returns g c = word_row (nth 2) (IsEvent g.O.Rows.lawful g.C.Rows.lawful) (event_parts g.O.Rows.parts g.C.Rows.parts) (codes "tick") (Does Tick) _ _ c.spelled.ensures.value c.spelled.ensures.text tt refl
