-- each input of some commands has an output
use Rattle.std.proofs.Common.{ℕ, ◌≤◌, ◌^◌, Bool, List, [], refl, arith}
use Rattle.line_engine.specs.Meaning.{Meaning}
use Rattle.line_engine.specs.Determined.{HasOutputs, LacksNoOutput}
use Rattle.line_engine.proofs.PublicLaws.{lacks_no_output}
use Rattle.join_groups.specs.Meanings.{groups_meaning}
use Rattle.join_groups.specs.Output.{TellsAnswer, TellsEvidence}
use Rattle.traffic_replay.specs.Meaning.{replay_meaning}
use Rattle.stream_capture.specs.Telling.{capture_meaning}
use Rattle.generated_join.specs.Summary.{IsMade}
use Rattle.sentence_files.specs.Booking.{book_meaning}
use Rattle.command_line.specs.declared.plans.Plan.{Plan}
use Rattle.command_line.specs.declared.plans.Plan.TheVariants.{Join, Evidence, Encode, Sentences, Replay, Make, Capture, Watch, Exchange, Book}
use Rattle.command_line.specs.Words.{IsInRange}
use Rattle.encode_calls.specs.Encoding.{encode_meaning}
use Rattle.sentence_files.specs.Telling.{sentences_meaning}
use Rattle.station_exchange.specs.Meaning.{exchange_meaning}
use Rattle.dsc_cmd.specs.Plans.{made_meaning, meaning_of, HasOneOutput, HasSomeOutput}

pub record Laws : Type 0 where
  pub encode : (long : Bool) → HasOutputs (encode_meaning long)
  pub sentences : HasOutputs sentences_meaning
  pub exchange : HasOutputs exchange_meaning

pub plan_outputs : Laws → (plan : Plan) → HasSomeOutput plan → HasOutputs (meaning_of plan)
plan_outputs laws (Encode long) some = laws.encode long
plan_outputs laws Sentences some = laws.sentences
plan_outputs laws Exchange some = laws.exchange
plan_outputs laws (Join workers) some = absurd some
plan_outputs laws _ some = absurd some

-- ---- no input lacks an output

pub record MoreLaws : Type 0 where
  pub known : (plan : Plan) → HasSomeOutput plan → HasOutputs (meaning_of plan)
  pub join : LacksNoOutput (groups_meaning TellsAnswer)
  pub evidence : LacksNoOutput (groups_meaning TellsEvidence)
  pub replay : LacksNoOutput replay_meaning
  pub capture : LacksNoOutput capture_meaning
  pub book : LacksNoOutput book_meaning
  pub made : (n : ℕ) → n ≤ 2 ^ 32 → ((text : List ℕ) (status : ℕ) → IsMade n text status → ⊥) → ⊥

known_there : (meaning : Meaning) → HasOutputs meaning → LacksNoOutput meaning
known_there meaning has lines k = let o = has lines in k o.0 o.1 o.2

made_there : MoreLaws → (n : ℕ) → n ≤ 2 ^ 32 → LacksNoOutput (made_meaning n)
made_there laws n few = lacks_no_output (made_meaning n) (record { gives = λ lines none k. k [] refl; ends = λ lines none k. laws.made n few k })

pub plan_there : MoreLaws → (plan : Plan) → HasOneOutput plan → IsInRange plan → LacksNoOutput (meaning_of plan)
plan_there laws (Join workers) is range = laws.join
plan_there laws (Evidence workers) is range = laws.evidence
plan_there laws (Replay workers) is range = laws.replay
plan_there laws Capture is range = laws.capture
plan_there laws Book is range = laws.book
plan_there laws (Make n) is range = made_there laws n (omega (arith, range.1))
plan_there laws (Encode long) is range = known_there (meaning_of (Encode long)) (laws.known (Encode long) tt)
plan_there laws Sentences is range = known_there (meaning_of Sentences) (laws.known Sentences tt)
plan_there laws Exchange is range = known_there (meaning_of Exchange) (laws.known Exchange tt)
plan_there laws (Watch workers) is range = absurd is
