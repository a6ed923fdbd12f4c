-- However a watch ends, what it says of the calls that were sent.
use Rattle.std.proofs.Common.{ℕ, List}
use Rattle.byte_streams.specs.declared.streams.Source
use Rattle.byte_streams.specs.declared.streams.Sink
use Rattle.line_engine.specs.Lines.{Lines}
use Rattle.line_engine.specs.Runs.{IsRun}
use Rattle.watch_groups.specs.Meaning.{watch_meaning, GivesTold, EndsWatch}
use Rattle.dsc_cmd.specs.ToldSent.{GivesSent, EndsSent, sent_meaning}
use Rattle.line_engine.proofs.PublicLaws.{runs_over}
use Rattle.dsc_cmd.proofs.SentGroups as joined
use Rattle.dsc_cmd.proofs.ToldCalls as calls

pub record Laws : Type 0 where
  pub join : joined.Laws
  pub told : calls.Laws

module _ (laws : Laws) where
  gives_sent : (lines : Lines) (text : List ℕ) → GivesTold lines text → GivesSent lines text
  gives_sent lines text g = record { gives = g; sent = calls.tells_no_other laws.told g.said g.told g.are_told }

  ends_sent : (lines : Lines) (text : List ℕ) (status : ℕ) → EndsWatch lines text status → EndsSent lines text status
  ends_sent lines text status e = record {
    ends = e;
    sent = calls.tells_no_other laws.told e.said e.told e.are_told;
    answered = joined.tells_sent laws.join e.said e.answers status e.is_join;
  }

  -- a run of a watch
  pub runs_sent : {In Out : Type 0} (source : Source.Ghosts In) (sink : Sink.Ghosts Out) (from rest : In) (before after : Out) (status : ℕ)
      → IsRun watch_meaning source sink from rest before after status → IsRun sent_meaning source sink from rest before after status
  runs_sent = runs_over watch_meaning GivesSent EndsSent gives_sent ends_sent
