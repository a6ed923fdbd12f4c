use Rattle.std.proofs.Common.{codes, ap, rules}
use Rattle.call_texts.specs.CallGrammar.{identity}
use Rattle.line_grammar.specs.Grammar.{finish, Parts, part, second}
use Rattle.line_grammar.specs.Sections.{labelled, last}
use Rattle.line_grammar.specs.Shapes.{digits}
use Rattle.line_grammar.proofs.Rows.{leaves_row, after_row, leaves_after}
use Rattle.traffic_lines.specs.Lines.{IsStation, stations_parts, coast, band}
use Rattle.traffic_lines.specs.declared.lines.StationLine.TheVariants.{Coast}
use Rattle.traffic_lines.proofs.points.coast.Goals as goal

pub returns-in_err-mmsi : goal.returns-in_err-mmsi
returns-in_err-mmsi c = leaves_row (last 1) IsStation stations_parts (coast identity) _ _ _ _ c.new-line.ensures c.from_residual.ensures.1 (c.in_err-mmsi.ensures (band finish))

pub returns-in_err-band : goal.returns-in_err-band
returns-in_err-band c =
    leaves_after (last 1) IsStation stations_parts (labelled (codes "station coast ") identity) band _ _ _ _ _ _ _ c.new-line.ensures c.from_residual-in_err-band.ensures.1 c.in_ok-mmsi.ensures
    c.rest.ensures c.in_err-band.ensures

pub returns : goal.returns
returns c =
    let band_read = c.in_ok-band.ensures in
    after_row (last 1) IsStation stations_parts (labelled (codes "station coast ") identity) band _ _ _ _ _ band_read.1.0 (Coast c.in_ok-mmsi.mmsi c.in_ok-band.band) c.new-line.ensures c.in_ok-mmsi.ensures c.rest.ensures band_read.1.1
    (search rules) (ap (λ (p : Parts). second (part (digits 9 c.in_ok-mmsi.mmsi) p)) band_read.1.2)
