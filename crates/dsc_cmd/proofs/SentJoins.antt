-- However a join ends, what it says of the calls that were sent.
use Rattle.std.proofs.Common.{ℕ, List, Option, inl, inr}
use Rattle.byte_streams.specs.declared.streams.Source
use Rattle.byte_streams.specs.declared.streams.Sink
use Rattle.line_engine.specs.Runs.{IsRun}
use Rattle.line_engine.specs.Endings.{IsFinished, TellsWhole}
use Rattle.line_engine.proofs.PublicLaws.{runs_over}
use Rattle.join_groups.specs.Output.{TellsAnswer}
use Rattle.join_groups.specs.Meanings.{groups_meaning}
use Rattle.dsc_cmd.specs.Sent.{ReportsSent, EndsJoin, sent_join}
use Rattle.dsc_cmd.specs.Promises.{Runs}
use Rattle.dsc_cmd.proofs.Promised.{six_unfinished}
use Rattle.dsc_cmd.proofs.SentGroups.{Laws, tells_sent}

-- a run of a join
pub runs_reporting : Laws → {In Out : Type 0} (source : Source.Ghosts In) (sink : Sink.Ghosts Out) (from rest : In) (before after : Out) (status : ℕ)
    → IsRun (groups_meaning TellsAnswer) source sink from rest before after status → IsRun sent_join source sink from rest before after status
runs_reporting laws = runs_over (groups_meaning TellsAnswer) (groups_meaning TellsAnswer).Gives EndsJoin
    (λ lines text given. given)
    (λ lines text status ended. record { ends = ended; sent = tells_sent laws ended.said text status ended.is_text })

reports : (left_before left_after before after : Option (List ℕ)) (flushed status : ℕ)
    → TellsWhole sent_join left_before left_after before after flushed status → ReportsSent left_before left_after before after flushed status
reports left_before left_after before after flushed status w =
    let ends = w.whole.ends in record {
      input = w.input;
      lost = w.lost;
      ended = w.ended;
      said = ends.ends.said;
      are_lines = ends.ends.are_lines;
      text = w.text;
      is_text = ends.ends.is_text;
      writes = w.writes;
      sent = ends.sent;
    }

-- what a finished run reports
pub reported : {In Out : Type 0} (source : Source.Ghosts In) (sink : Sink.Ghosts Out) (from rest : In) (before after : Out) (status : ℕ)
    → Runs sent_join source sink from rest before after status → IsFinished status
    → ReportsSent (source.left from) (source.left rest) (sink.written before) (sink.written after) (sink.flushed after) status
reported source sink from rest before after status (inl run) finished = reports _ _ _ _ _ status (run.whole finished)
reported source sink from rest before after status (inr unbegun) finished = six_unfinished status unbegun.status_is finished
