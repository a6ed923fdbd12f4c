use Rattle.slot_join.proofs.Copies.{Lists}
use Rattle.slot_join.proofs.Parts.{sent}
use Rattle.slot_join.proofs.hearing.intact_copies_report_the_call.Goals as goal

pub returns : goal.returns
returns c = λ receptions call tail answer lawful heard arrives is.
    let lists : Lists = record { short = c.lists_are_short.ensures; characters = c.lists_are_characters.ensures } in
    sent c.heard_calls_show_no_other.ensures.call c.heard_calls_show_no_other.ensures.within lists c.formats_begin_calls.ensures receptions call tail lawful heard arrives c.one_seen.ensures c.fronts_differ.ensures answer is
    (c.sent_call_is_answered.ensures receptions call tail answer lawful heard is)
