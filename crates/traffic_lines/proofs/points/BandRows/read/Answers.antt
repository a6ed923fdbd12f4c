use Rattle.std.proofs.Common.{codes, refl}
use Rattle.call_values.specs.declared.choices.Band.{Band}
use Rattle.call_values.specs.declared.choices.Band.TheVariants.{Mf, Hf, Vhf}
use Rattle.line_grammar.specs.Grammar.{word}
use Rattle.line_grammar.specs.Sections.{nth, last}
use Rattle.line_grammar.proofs.Rows.{or, word_row, further_row}
use Rattle.traffic_lines.specs.Lines.{band_parts}
use Rattle.traffic_lines.proofs.points.BandRows.read.Goals as goal

pub returns : goal.returns
returns c =
    let lawful = λ (_ : Band). Unit {0} in
    further_row (last 0) lawful band_parts (word (codes " mf")) (or (word (codes " hf")) (word (codes " vhf"))) _ _ _ _ c.further.ensures
    (word_row (nth 0) lawful band_parts (codes " mf") Mf _ _ c.spelled-2.ensures.value c.spelled-2.ensures.text tt refl)
    (further_row (last 1) lawful band_parts (word (codes " hf")) (word (codes " vhf")) _ _ _ _ c.further-others.ensures
    (word_row (nth 1) lawful band_parts (codes " hf") Hf _ _ c.spelled-hf.ensures.value c.spelled-hf.ensures.text tt refl)
    (word_row (last 2) lawful band_parts (codes " vhf") Vhf _ _ c.spelled.ensures.value c.spelled.ensures.text tt refl))
