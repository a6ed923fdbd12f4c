use Rattle.stream_capture.specs.Telling.{stream_of}
use Rattle.stream_capture.proofs.LinesTaken.{few_at_end, ends_told, ends_so}
use Rattle.stream_capture.proofs.command.CapturingCommand.finish.Goals as goal

pub take_end-requires : goal.take_end-requires
take_end-requires c = let ready = c.requires in few_at_end c.args.self.now ready.lines _ ready.stands ready.few

pub returns-clause-ends : goal.returns-clause-ends
returns-clause-ends c = λ lines written h.
    let e = stream_of h.said in
    ends_so c.take_end.new.self lines h.said _ c.of.result h.are_lines
    (c.in_ok-take_end.ensures e written (ends_told c.args.self.now e _ (c.taking_ends.ensures c.args.self.now.capture e h.told.stands) h.told)) c.of.ensures
