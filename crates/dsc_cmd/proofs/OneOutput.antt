-- the lines of each command's input determine its output
use Rattle.std.proofs.Common.{◌≡◌, ℕ, Bool, List, sym, ◌∙◌}
use Rattle.line_engine.specs.Determined.{IsDetermined, HasOneColumn}
use Rattle.line_engine.proofs.PublicLaws.{begins_empty}
use Rattle.command_line.specs.declared.plans.Plan.{Plan}
use Rattle.command_line.specs.declared.plans.Plan.TheVariants.{Join, Evidence, Encode, Sentences, Replay, Make, Capture, Watch, Exchange, Book}
use Rattle.join_groups.specs.Output.{TellsAnswer, TellsEvidence}
use Rattle.join_groups.specs.Meanings.{groups_meaning}
use Rattle.encode_calls.specs.Encoding.{encode_meaning}
use Rattle.sentence_files.specs.Telling.{sentences_meaning}
use Rattle.traffic_replay.specs.Meaning.{replay_meaning}
use Rattle.stream_capture.specs.Telling.{capture_meaning}
use Rattle.station_exchange.specs.Meaning.{exchange_meaning}
use Rattle.sentence_files.specs.Booking.{book_meaning}
use Rattle.generated_join.specs.Summary.{IsMade}
use Rattle.dsc_cmd.specs.Plans.{made_meaning, meaning_of, HasOneOutput}

-- the laws of the commands' crates
pub record Laws : Type 0 where
  pub join : IsDetermined (groups_meaning TellsAnswer)
  pub evidence : IsDetermined (groups_meaning TellsEvidence)
  pub encode : (long : Bool) → IsDetermined (encode_meaning long)
  pub sentences : IsDetermined sentences_meaning
  pub replay : IsDetermined replay_meaning
  pub capture : IsDetermined capture_meaning
  pub exchange : IsDetermined exchange_meaning
  pub book : IsDetermined book_meaning
  pub made : (n : ℕ) (a b : List ℕ) (s t : ℕ) → IsMade n a s → IsMade n b t → (a ≡ b) × (s ≡ t)

made_determined : Laws → (n : ℕ) → IsDetermined (made_meaning n)
made_determined laws n = record {
  one_column = λ earlier line p q h k. absurd h;
  one_text = λ lines a b none g h. g ∙ sym h;
  grows = λ first later text whole none g h. begins_empty text whole g;
  one_end = λ lines a b s t none g h. laws.made n a b s t g h;
  ends = λ first later text whole status none g h. begins_empty text whole g;
}

pub plan_determined : Laws → (plan : Plan) → HasOneOutput plan → IsDetermined (meaning_of plan)
plan_determined laws (Join workers) one = laws.join
plan_determined laws (Evidence workers) one = laws.evidence
plan_determined laws (Encode long) one = laws.encode long
plan_determined laws Sentences one = laws.sentences
plan_determined laws (Replay workers) one = laws.replay
plan_determined laws (Make n) one = made_determined laws n
plan_determined laws Capture one = laws.capture
plan_determined laws (Watch workers) one = absurd one
plan_determined laws Exchange one = laws.exchange
plan_determined laws Book one = laws.book

-- and an ill-formed line has one column; the lines of `watch` are those of `join`
pub plan_column : Laws → (plan : Plan) → HasOneColumn (meaning_of plan)
plan_column laws (Join workers) = laws.join.one_column
plan_column laws (Evidence workers) = laws.evidence.one_column
plan_column laws (Encode long) = (laws.encode long).one_column
plan_column laws Sentences = laws.sentences.one_column
plan_column laws (Replay workers) = laws.replay.one_column
plan_column laws (Make n) = (made_determined laws n).one_column
plan_column laws Capture = laws.capture.one_column
plan_column laws (Watch workers) = laws.join.one_column
plan_column laws Exchange = laws.exchange.one_column
plan_column laws Book = laws.book.one_column
