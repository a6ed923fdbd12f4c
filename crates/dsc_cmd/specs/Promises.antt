-- What a run of words promises: this project's profile.
use Rattle.std.specs.Prelude.{◌≡◌, ℕ, ◌⊎◌, List, map, String, string_bytes}
use Rattle.byte_streams.specs.declared.streams.Source
use Rattle.byte_streams.specs.declared.streams.Sink
use Rattle.byte_streams.specs.Streams.{Rises, SeenBefore}
use Rattle.line_engine.specs.Meaning.{Meaning}
use Rattle.line_engine.specs.Endings.{Writes, WritesFront}
use Rattle.line_engine.specs.Runs.{IsRun}
use Rattle.command_line.specs.declared.plans.Plan.{Plan}
use Rattle.command_line.specs.Words.{IsPlan}
use Rattle.dsc_cmd.specs.Plans.{meaning_of, source_of, words_refused, IsUnplanned}

-- the bytes of each word of the command line
abbrev pub spoken : {Y : Type 0} → List (String Y) → List (List ℕ)
spoken words = map string_bytes words

-- nothing was begun, since there was no memory for the words
pub record IsUnbegun {In Out : Type 0} (from rest : In) (before after : Out) (status : ℕ) : Type 0 where
  pub status_is : status ≡ 6
  pub unread : rest ≡ from
  pub unwritten : after ≡ before

-- words were refused: nothing was read, and the line that says so was written, or a front of it where the sink failed
pub record IsRefused {In Out : Type 0} (sink : Sink.Ghosts Out) (from rest : In) (before after : Out) (status : ℕ) : Type 0 where
  pub which : (status ≡ 2) ⊎ (status ≡ 5)
  pub unread : rest ≡ from
  pub done : status ≡ 2 → Writes (sink.written before) (sink.written after) (sink.flushed after) words_refused
  pub sound : status ≡ 2 → sink.faults after ≡ sink.faults before
  pub cut : status ≡ 5 → WritesFront (sink.written before) (sink.written after) words_refused
  pub cause : status ≡ 5 → Rises (sink.faults before) (sink.faults after)
  pub unflushed : status ≡ 5 → sink.flushed after ≡ sink.flushed before
  pub told : SeenBefore (sink.written before) (sink.written after)

-- a run over lines of this meaning; only where there was no memory for the words was nothing begun
abbrev pub Runs : {In Out : Type 0} → Meaning → Source.Ghosts In → Sink.Ghosts Out → (from rest : In) → (before after : Out) → ℕ → Type 0
Runs meaning source sink from rest before after status = IsRun meaning source sink from rest before after status ⊎ IsUnbegun from rest before after status

-- the words are a plan, and this was a run of its command
pub record IsPlanned {In Out : Type 0} (words : List (List ℕ)) (source : Source.Ghosts In) (sink : Sink.Ghosts Out) (from rest : In) (before after : Out) (status : ℕ) : Type 0 where
  pub plan : Plan
  pub planned : IsPlan words plan
  pub run : IsRun (meaning_of plan) (source_of plan source) sink from rest before after status

-- a run of words: one of the command that they are; or they are none, and were refused; or nothing was begun
abbrev pub KeepsWords : {In Out : Type 0} → List (List ℕ) → Source.Ghosts In → Sink.Ghosts Out → (from rest : In) → (before after : Out) → ℕ → Type 0
KeepsWords words source sink from rest before after status =
    IsPlanned words source sink from rest before after status
    ⊎ (IsUnplanned words × IsRefused sink from rest before after status)
    ⊎ IsUnbegun from rest before after status
