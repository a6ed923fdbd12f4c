use Rattle.std.proofs.Common.{◌∙◌, codes, refl, sym, ap, rules}
use Rattle.call_texts.specs.CallGrammar as calls
use Rattle.line_grammar.specs.Grammar.{finish}
use Rattle.line_grammar.specs.Sections.{labelled, nth}
use Rattle.line_grammar.specs.inside.Reading.{read}
use Rattle.line_grammar.proofs.Rows.{leaves_row}
use Rattle.line_grammar.proofs.SectionSteps.{whole, no_tail}
use Rattle.traffic_lines.specs.Events.{IsShipOwn, alert, ship_parts}
use Rattle.traffic_lines.proofs.ships.alert.Goals as goal

pub returns-in_err-nature : goal.returns-in_err-nature
returns-in_err-nature c =
    leaves_row (nth 2) IsShipOwn ship_parts alert _ _ _ _ c.new-line.ensures c.from_residual.ensures.1 (c.in_err-nature.ensures (labelled (codes " then=") calls.comm finish))

pub returns-in_err-comm : goal.returns-in_err-comm
returns-in_err-comm c =
    leaves_row (nth 2) IsShipOwn ship_parts alert _ _ _ _ c.new-line.ensures c.from_residual-in_err-comm.ensures.1
    (no_tail (labelled (codes "alert nature=") calls.nature) (labelled (codes " then=") calls.comm finish) _ _ _ _ _ c.in_ok-nature.ensures c.rest.ensures c.in_err-comm.ensures)

pub returns : goal.returns
returns c = (
  search rules,
  (
    _,
    ap (read (alert finish)) (sym c.new-line.ensures)
        ∙ whole (labelled (codes "alert nature=") calls.nature) (labelled (codes " then=") calls.comm finish) _ _ _ _ _ c.in_ok-nature.ensures c.rest.ensures c.in_ok-comm.ensures,
    refl,
  ),
)
