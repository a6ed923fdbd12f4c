-- The promise of a run, by its status: this project's profile.
use Rattle.std.specs.Prelude.{◌≡◌, ◌≢◌, ℕ, ◌⊎◌}
use Rattle.byte_streams.specs.declared.streams.Source
use Rattle.byte_streams.specs.declared.streams.Sink
use Rattle.byte_streams.specs.Streams.{Rises, SeenBefore}
use Rattle.line_engine.specs.declared.bounds.TheConstants.{MOST_TAKEN}
use Rattle.line_engine.specs.Meaning.{Meaning, IsQuiet}
use Rattle.line_engine.specs.Endings.{IsFinished, IsOfFault, IsBrokenOff, TellsWhole, TellsFault, TellsSoFar, CutsOff, TellsFront, TakesAtMost}

-- a run over lines of this meaning, from one state of a source and of a sink to another, ended with this status
pub record IsRun {In Out : Type 0} (meaning : Meaning) (source : Source.Ghosts In) (sink : Sink.Ghosts Out)
    (from rest : In) (before after : Out) (status : ℕ) : Type 0 where
  -- what was written
  pub whole : IsFinished status → TellsWhole meaning (source.left from) (source.left rest) (sink.written before) (sink.written after) (sink.flushed after) status
  pub faulty : IsOfFault status → TellsFault meaning (source.left from) (source.left rest) (sink.written before) (sink.written after) (sink.flushed after) status
  pub stopped : status ≡ 4 → TellsSoFar meaning (source.left from) (source.left rest) (sink.written before) (sink.written after)
  pub cut : status ≡ 5 → CutsOff meaning (source.left from) (source.left rest) (sink.written before) (sink.written after)
  pub memory : status ≡ 6 → TellsFront meaning (source.left from) (source.left rest) (sink.written before) (sink.written after)
  -- a command that gives nothing before its input's end leaves the sink alone until then
  pub unwritten : IsQuiet meaning → (status ≡ 4) ⊎ (status ≡ 6) → after ≡ before
  -- nothing is flushed but at the end of a run that isn't broken off
  pub unflushed : IsBrokenOff status → sink.flushed after ≡ sink.flushed before
  -- no more is read than the limits ask for
  pub bounded : TakesAtMost (source.left from) (source.left rest) MOST_TAKEN
  -- the causes of the faults
  pub read_cause : status ≡ 4 → Rises (source.faults from) (source.faults rest)
  pub read_sound : status ≢ 4 → source.faults rest ≡ source.faults from
  pub write_cause : status ≡ 5 → Rises (sink.faults before) (sink.faults after)
  pub write_sound : status ≢ 5 → sink.faults after ≡ sink.faults before
  pub told : SeenBefore (source.left from) (source.left rest) × SeenBefore (sink.written before) (sink.written after)
  -- without a fault of the streams there is no other ending than these
  pub range : IsFinished status ⊎ IsOfFault status ⊎ (status ≡ 4) ⊎ (status ≡ 5) ⊎ (status ≡ 6)
  pub completes : (Rises (source.faults from) (source.faults rest) → ⊥) → (Rises (sink.faults before) (sink.faults after) → ⊥)
      → IsFinished status ⊎ IsOfFault status ⊎ (status ≡ 6)
