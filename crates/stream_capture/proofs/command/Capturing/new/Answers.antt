use Rattle.stream_capture.proofs.Ready.{stands_new}
use Rattle.stream_capture.proofs.command.Capturing.new.Goals as goal

pub returns : goal.returns
returns c = stands_new c.new.result c.new.ensures.stands
