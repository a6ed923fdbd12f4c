use Rattle.long_capture.proofs.Near.{Laws}
use Rattle.long_capture.proofs.InTime.{in_time}
use Rattle.long_capture.proofs.laws.slots_end_in_time.Goals as goal

pub returns : goal.returns
returns c =
    let laws : Laws = record { slot = c.elements_decide.ensures.slot; lead = c.elements_decide.ensures.lead; past = c.none_past_the_end.ensures } in
    in_time laws
