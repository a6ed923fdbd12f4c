use Rattle.std.proofs.Common.{◌∙◌}
use Rattle.line_engine.proofs.Told.{finished_cut, finished_front, fault_told, fault_cut, write_cut, memory_front, at_halt, not_five, status_of}
use Rattle.line_engine.proofs.driving.run_lines.Goals as goal

pub returns-in-Ok-finish-clause-cut : goal.returns-in-Ok-finish-clause-cut
returns-in-Ok-finish-clause-cut g c = λ is.
    finished_cut c.finish.new.out.items c.deref.result.now c.in-Ok-finish.status c.deref.ensures.value c.in-Ok.ensures.through c.in-Ok-finish.ensures.ends (c.write_ending.ensures.failed is)

pub returns-in-Ok-clause-memory : goal.returns-in-Ok-clause-memory
returns-in-Ok-clause-memory g c = λ is. finished_front g.met.C.Command.gives c.in-Ok.ensures.through

pub returns-in-Err-Fault-clause-faulty : goal.returns-in-Err-Fault-clause-faulty
returns-in-Err-Fault-clause-faulty g c = λ is.
    let first = c.in-Err-Fault.first in
    let runs = at_halt c.in-Err-Fault.field-0-is c.in-Err-Fault.ensures.stopped in
    let other = not_five c.write_ending-in-Err-Fault.result is in
    fault_told first c.deref-in-Err-Fault.result.now c.deref-in-Err-Fault-2.result.now c.write_ending-in-Err-Fault.result runs c.deref-in-Err-Fault.ensures.value (c.deref-in-Err-Fault-2.ensures.0 ∙ c.put_fault.ensures)
    (status_of c.write_ending-in-Err-Fault.result c.fault_status.result other c.write_ending-in-Err-Fault.ensures.which ∙ c.fault_status.ensures) (c.write_ending-in-Err-Fault.ensures.done other)

pub returns-in-Err-Fault-clause-cut : goal.returns-in-Err-Fault-clause-cut
returns-in-Err-Fault-clause-cut g c = λ is.
    let first = c.in-Err-Fault.first in
    let runs = at_halt c.in-Err-Fault.field-0-is c.in-Err-Fault.ensures.stopped in
    fault_cut first c.deref-in-Err-Fault.result.now c.deref-in-Err-Fault-2.result.now runs c.deref-in-Err-Fault.ensures.value (c.deref-in-Err-Fault-2.ensures.0 ∙ c.put_fault.ensures) (c.write_ending-in-Err-Fault.ensures.failed is)

pub returns-in-Err-Write-clause-cut : goal.returns-in-Err-Write-clause-cut
returns-in-Err-Write-clause-cut g c = λ is. write_cut (at_halt c.in-Err-Write.field-0-is c.in-Err-Write.ensures.stopped)

pub returns-clause-memory : goal.returns-clause-memory
returns-clause-memory g c = λ is. memory_front (at_halt c.in-Err-Memory.field-0-is c.in-Err-Memory.ensures.stopped)
