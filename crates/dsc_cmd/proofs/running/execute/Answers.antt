use Rattle.std.proofs.Common.{◌∙◌, sym, ap, refl}
use Rattle.command_line.specs.declared.plans.Plan.TheVariants.{Encode}
use Rattle.dsc_cmd.proofs.MadeEndings.{made_run, join_is_not_make, evidence_is_not_make, encode_is_not_make, sentences_is_not_make, replay_is_not_make, capture_is_not_make, watch_is_not_make, exchange_is_not_make, book_is_not_make}
use Rattle.dsc_cmd.proofs.PlanRuns.{at_plan}
use Rattle.dsc_cmd.proofs.running.execute.Goals as goal

pub returns-in-Join-clause-run : goal.returns-in-Join-clause-run
returns-in-Join-clause-run g c = at_plan g.S.Source g.K.Sink c.in-Join.is c.write_groups.ensures

pub returns-in-Evidence-clause-run : goal.returns-in-Evidence-clause-run
returns-in-Evidence-clause-run g c = at_plan g.S.Source g.K.Sink c.in-Evidence.is c.write_groups-in-Evidence.ensures

pub returns-in-Encode-true-clause-run : goal.returns-in-Encode-true-clause-run
returns-in-Encode-true-clause-run g c = at_plan g.S.Source g.K.Sink (c.in-Encode-true.is ∙ ap (λ long. Encode long) c.in-Encode-true.long-test) c.drive_alone.ensures

pub returns-in-Encode-false-clause-run : goal.returns-in-Encode-false-clause-run
returns-in-Encode-false-clause-run g c = at_plan g.S.Source g.K.Sink (c.in-Encode-false.is ∙ ap (λ long. Encode long) c.in-Encode-false.long-test) c.drive_alone-in-Encode-false.ensures

pub returns-in-Sentences-clause-run : goal.returns-in-Sentences-clause-run
returns-in-Sentences-clause-run g c = at_plan g.S.Source g.K.Sink c.in-Sentences.is c.drive_alone-in-Sentences.ensures

pub returns-in-Replay-clause-run : goal.returns-in-Replay-clause-run
returns-in-Replay-clause-run g c = at_plan g.S.Source g.K.Sink c.in-Replay.is c.replay.ensures

pub returns-in-Capture-clause-run : goal.returns-in-Capture-clause-run
returns-in-Capture-clause-run g c = at_plan g.S.Source g.K.Sink c.in-Capture.is c.capture.ensures

pub returns-in-Book-clause-run : goal.returns-in-Book-clause-run
returns-in-Book-clause-run g c = at_plan g.S.Source g.K.Sink c.in-Book.is c.drive_alone-in-Book.ensures

pub returns-in-Watch-clause-run : goal.returns-in-Watch-clause-run
returns-in-Watch-clause-run g c = at_plan g.S.Source g.K.Sink c.in-Watch.is c.watch_groups.ensures

pub returns-in-Exchange-clause-run : goal.returns-in-Exchange-clause-run
returns-in-Exchange-clause-run g c = at_plan g.S.Source g.K.Sink c.in-Exchange.is c.exchange.ensures

pub returns-in-Make-clause-run : goal.returns-in-Make-clause-run
returns-in-Make-clause-run g c =
    let made = c.make.ensures in
    at_plan g.S.Source g.K.Sink c.in-Make.is
    (made_run c.in-Make.groups g.S.Source g.K.Sink _ _ _ _ made.which made.done made.cut made.unflushed made.cause made.sound made.unwritten made.told)

pub returns-in-Make-clause-unread : goal.returns-in-Make-clause-unread
returns-in-Make-clause-unread g c = λ n same. (refl, c.make.ensures.which)

-- ---- other plans make nothing

pub returns-in-Join-clause-unread : goal.returns-in-Join-clause-unread
returns-in-Join-clause-unread g c = λ n same. absurd (join_is_not_make (sym c.in-Join.is ∙ same))

pub returns-in-Evidence-clause-unread : goal.returns-in-Evidence-clause-unread
returns-in-Evidence-clause-unread g c = λ n same. absurd (evidence_is_not_make (sym c.in-Evidence.is ∙ same))

pub returns-in-Encode-true-clause-unread : goal.returns-in-Encode-true-clause-unread
returns-in-Encode-true-clause-unread g c = λ n same. absurd (encode_is_not_make (sym c.in-Encode-true.is ∙ same))

pub returns-in-Encode-false-clause-unread : goal.returns-in-Encode-false-clause-unread
returns-in-Encode-false-clause-unread g c = λ n same. absurd (encode_is_not_make (sym c.in-Encode-false.is ∙ same))

pub returns-in-Sentences-clause-unread : goal.returns-in-Sentences-clause-unread
returns-in-Sentences-clause-unread g c = λ n same. absurd (sentences_is_not_make (sym c.in-Sentences.is ∙ same))

pub returns-in-Replay-clause-unread : goal.returns-in-Replay-clause-unread
returns-in-Replay-clause-unread g c = λ n same. absurd (replay_is_not_make (sym c.in-Replay.is ∙ same))

pub returns-in-Capture-clause-unread : goal.returns-in-Capture-clause-unread
returns-in-Capture-clause-unread g c = λ n same. absurd (capture_is_not_make (sym c.in-Capture.is ∙ same))

pub returns-in-Book-clause-unread : goal.returns-in-Book-clause-unread
returns-in-Book-clause-unread g c = λ n same. absurd (book_is_not_make (sym c.in-Book.is ∙ same))

pub returns-in-Watch-clause-unread : goal.returns-in-Watch-clause-unread
returns-in-Watch-clause-unread g c = λ n same. absurd (watch_is_not_make (sym c.in-Watch.is ∙ same))

pub returns-in-Exchange-clause-unread : goal.returns-in-Exchange-clause-unread
returns-in-Exchange-clause-unread g c = λ n same. absurd (exchange_is_not_make (sym c.in-Exchange.is ∙ same))
