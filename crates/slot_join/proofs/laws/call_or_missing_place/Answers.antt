use Rattle.slot_join.proofs.CallOrMissing.{Laws, call_or_missing}
use Rattle.slot_join.proofs.laws.call_or_missing_place.Goals as goal

pub returns : goal.returns
returns c = λ F call answer lawful only is.
    let laws : Laws = record { ends = c.one_end_place.ensures; checks = c.one_check_place.ensures; tell = c.checks_tell_ends.ensures; formats = c.formats_begin_calls.ensures } in
    call_or_missing laws F call lawful only answer is
