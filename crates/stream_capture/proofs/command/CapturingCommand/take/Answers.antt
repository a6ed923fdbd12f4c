use Rattle.std.proofs.Common.{◌++◌, map}
use Rattle.ten_unit.specs.Signs.{element_of}
use Rattle.stream_capture.specs.Telling.{stream_of}
use Rattle.stream_capture.proofs.LinesTaken.{line_taken}
use Rattle.stream_capture.proofs.command.CapturingCommand.take.Goals as goal

pub returns-clause-stands : goal.returns-clause-stands
returns-clause-stands c = λ lines written h.
    line_taken c.args.self.now c.take_signs.new.self lines c.args.line.now (written ++ c.args.out.now.items) _ (map element_of c.in_ok-signs.signs.now) h c.in_ok-signs.ensures.line c.requires.short
    (c.in_ok-take_signs.ensures (stream_of h.said) written h.told)

pub returns-clause-taken : goal.returns-clause-taken
returns-clause-taken c = λ lines written stands. record {
  well_formed = λ n column. column.is_none (map element_of c.in_ok-signs.signs.now) c.in_ok-signs.ensures.line;
  not_overfull = λ no. no;
}
