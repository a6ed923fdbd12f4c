use Rattle.std.proofs.Common.{[], ◌∷◌, is_ok, refl, sym, ap, ◌∙◌}
use Rattle.line_grammar.specs.Grammar.{finish}
use Rattle.line_grammar.proofs.Fronts.{leaves_at_once}
use Rattle.traffic_lines.specs.Events.{coast_rows}
use Rattle.traffic_lines.proofs.coasts.CoastOwnBegun.begins.Goals as goal

pub returns : goal.returns
returns c = λ no. ap is_ok (leaves_at_once (97 ∷ 114 ∷ []) _ (coast_rows finish) refl (sym c.begins_with.ensures ∙ no))
