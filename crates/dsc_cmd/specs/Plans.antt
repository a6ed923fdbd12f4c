-- What a run of each command promises: this project's profile.
use Rattle.std.specs.Prelude.{◌≡◌, ℕ, List, [], ◌++◌, Option, Some, codes}
use Rattle.byte_streams.specs.declared.streams.Source
use Rattle.byte_streams.specs.Streams.{Loses, Gains}
use Rattle.line_engine.specs.Lines.{lines_of}
use Rattle.line_engine.specs.Meaning.{Meaning, IsQuiet}
use Rattle.line_engine.specs.Output.{IsOutput}
use Rattle.line_engine.specs.Determined.{BeginsWith}
use Rattle.line_engine.specs.Endings.{IsRest, Writes, WritesFront, CutsOff, TellsFront}
use Rattle.command_line.specs.declared.plans.Plan.{Plan}
use Rattle.command_line.specs.declared.plans.Plan.TheVariants.{Join, Evidence, Encode, Sentences, Replay, Make, Capture, Watch, Exchange, Book}
use Rattle.command_line.specs.Words.{IsPlan}
use Rattle.join_groups.specs.Output.{TellsAnswer, TellsEvidence}
use Rattle.join_groups.specs.Meanings.{groups_meaning}
use Rattle.encode_calls.specs.Encoding.{encode_meaning}
use Rattle.sentence_files.specs.Telling.{sentences_meaning}
use Rattle.traffic_replay.specs.Meaning.{replay_meaning}
use Rattle.generated_join.specs.Summary.{IsMade}
use Rattle.stream_capture.specs.Telling.{capture_meaning}
use Rattle.watch_groups.specs.Meaning.{watch_meaning}
use Rattle.station_exchange.specs.Meaning.{exchange_meaning}
use Rattle.sentence_files.specs.Booking.{book_meaning}

-- what `make n` writes at the end, whatever the lines: the summary of the join of n generated groups
abbrev pub made_meaning : ℕ → Meaning
made_meaning n = record {
  IsIllFormed = λ earlier line column. ⊥;
  IsOverfull = λ earlier line. ⊥;
  Gives = λ lines text. text ≡ [];
  Ends = λ lines text status. IsMade n text status;
}

-- what the input of each command means: for `join` the answer of each group, and for `evidence` its ends; for `encode`
-- the transmissions of calls; for `sentences` the sentences of calls, and verdicts; for `replay` what the station does;
-- for `capture` the answer at each start; for `watch` calls, and then what `join` writes; for `exchange` what the two
-- stations do; for `book` the book of casualties; `make` has no input
abbrev pub meaning_of : Plan → Meaning
meaning_of (Join workers) = groups_meaning TellsAnswer
meaning_of (Evidence workers) = groups_meaning TellsEvidence
meaning_of (Encode long) = encode_meaning long
meaning_of Sentences = sentences_meaning
meaning_of (Replay workers) = replay_meaning
meaning_of (Make n) = made_meaning n
meaning_of Capture = capture_meaning
meaning_of (Watch workers) = watch_meaning
meaning_of Exchange = exchange_meaning
meaning_of Book = book_meaning

-- the commands whose lines ask for one text: all but `watch`, which may report a call earlier than it must
abbrev pub HasOneOutput : Plan → Type 0
HasOneOutput (Watch workers) = ⊥
HasOneOutput _ = Unit {0}

-- the commands of which an output of each input is found from its lines, by reading them as the grammars do
abbrev pub HasSomeOutput : Plan → Type 0
HasSomeOutput (Encode long) = Unit {0}
HasSomeOutput Sentences = Unit {0}
HasSomeOutput Exchange = Unit {0}
HasSomeOutput _ = ⊥

-- the input that a command has where this is left of the source: all of it, and no byte for `make`, which leaves the
-- source alone
abbrev pub input_of : Plan → Option (List ℕ) → Option (List ℕ)
input_of (Make n) left = Some []
input_of _ left = left

-- the source as a plan's command has it: what is left of it is that command's input
abbrev pub source_of : {In : Type 0} → Plan → Source.Ghosts In → Source.Ghosts In
source_of plan source = record source { left = λ rest. input_of plan (source.left rest) }

-- the commands that write nothing before their input's end
abbrev pub IsQuietPlan : Plan → Type 0
IsQuietPlan plan = IsQuiet (meaning_of plan)

-- the line that refuses words
abbrev pub words_refused : List ℕ
words_refused = codes "dsc: words refused\n"

-- the words are no plan
abbrev pub IsUnplanned : List (List ℕ) → Type 0
IsUnplanned words = (plan : Plan) → IsPlan words plan → ⊥

-- 5: a front of the line that refuses the words was appended
pub record CutsOffWords (words : List (List ℕ)) (before after : Option (List ℕ)) : Type 0 where
  pub unplanned : IsUnplanned words
  pub writes : WritesFront before after words_refused

-- 5: a front of what the plan's lines ask for was appended
pub record CutsOffPlan (words : List (List ℕ)) (left_before left_after before after : Option (List ℕ)) : Type 0 where
  pub plan : Plan
  pub planned : IsPlan words plan
  pub cuts : CutsOff (meaning_of plan) (input_of plan left_before) (input_of plan left_after) before after

-- 6: a front of what the plan's first lines give was appended
pub record TellsPlanFront (words : List (List ℕ)) (left_before left_after before after : Option (List ℕ)) : Type 0 where
  pub plan : Plan
  pub planned : IsPlan words plan
  pub tells : TellsFront (meaning_of plan) (input_of plan left_before) (input_of plan left_after) before after

-- 0 and 1 of `make n`: exactly the summary of the join of n generated groups was written
pub record WritesSummary (n : ℕ) (before after : Option (List ℕ)) (flushed status : ℕ) : Type 0 where
  pub text : List ℕ
  pub is_made : IsMade n text status
  pub writes : Writes before after flushed text

-- 5 of `make n`: a front of this summary was appended
pub record CutsOffSummary (n : ℕ) (before after : Option (List ℕ)) : Type 0 where
  pub text : List ℕ
  pub status : ℕ
  pub is_made : IsMade n text status
  pub writes : WritesFront before after text

-- 4, 5 and 6: what was appended is a front of whatever output the whole input asks for, and whatever is left of the
-- input
pub record WritesFrontOfOutput (meaning : Meaning) (left_before left_after before after : Option (List ℕ)) : Type 0 where
  pub taken : List ℕ
  pub lost : Loses left_before left_after taken
  pub front : List ℕ
  pub appended : Gains before after front
  pub begins : (rest : List ℕ) → IsRest left_after rest → (whole : List ℕ) (status : ℕ) → IsOutput meaning (lines_of (taken ++ rest)) whole status → BeginsWith whole front
