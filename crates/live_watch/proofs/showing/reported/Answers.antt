use Rattle.slot_join.specs.declared.joined.Joined.TheVariants.{Reported}
use Rattle.live_watch.proofs.showing.reported.Goals as goal

pub returns-in_default : goal.returns-in_default
returns-in_default c = λ F ends call extra is.
    absurd (c.in_default.not-Reported call extra (c.one_answer.ensures F c.report.result (Reported call extra) (c.report.ensures F ends) is))
