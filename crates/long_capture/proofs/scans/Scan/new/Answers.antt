use Rattle.long_capture.proofs.Steps.{reads_none}
use Rattle.long_capture.proofs.scans.Scan.new.Goals as goal

pub returns-clause-reads : goal.returns-clause-reads
returns-clause-reads c = reads_none c.new.result c.new.ensures
