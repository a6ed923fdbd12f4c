use Rattle.std.proofs.Common.{[], ◌∷◌, is_ok, refl, sym, ap, ◌∙◌}
use Rattle.line_grammar.specs.Grammar.{finish}
use Rattle.line_grammar.proofs.Fronts.{leaves_at_once}
use Rattle.traffic_lines.specs.Events.{hearing_rows}
use Rattle.traffic_lines.proofs.events.HearingBegun.begins.Goals as goal

pub returns : goal.returns
returns c = λ no. ap is_ok (leaves_at_once (104 ∷ []) _ (hearing_rows finish) refl (sym c.begins_with.ensures ∙ no))
