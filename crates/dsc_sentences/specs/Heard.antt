-- What is heard of a line that is a sentence: this project's profile.
use Rattle.std.specs.Prelude.{◌≡◌, nat_eq, Bool, true, false, List, ℕ, MatchOption, IfOk, Option, Some, Result, Ok, Err, codes}
use Rattle.std.specs.List.{starts_with}
use Rattle.sentence_frame.specs.declared.refusals.SentenceRefusal.{SentenceRefusal}
use Rattle.dsc_sentences.specs.declared.dsc.DscFields.{DscFields}
use Rattle.dsc_sentences.specs.declared.verdicts.Verdict.{Verdict}
use Rattle.dsc_sentences.specs.declared.verdicts.Verdict.TheVariants.{Accepted, Refused}
use Rattle.dsc_sentences.specs.Dsc.{IsDsc, SentenceText}
use Rattle.dsc_sentences.specs.Verdicts.{with_line_end, verdict_of}

-- the line is read as a DSE sentence
abbrev pub is_dse : List ℕ → Bool
is_dse line = starts_with nat_eq line (codes "$CDDSE")

-- the line is accepted as the DSC sentence with these fields
pub record IsAccepted (line : List ℕ) (s : DscFields) : Type 0 where
  pub form : is_dse line ≡ false
  pub lawful : IsDsc s
  pub text : SentenceText s (with_line_end line)

-- the verdict on a line with this answer
abbrev pub verdict_in : Result (Option DscFields) SentenceRefusal → Verdict
verdict_in (Ok found) = Accepted
verdict_in (Err refusal) = Refused refusal

-- what judging a line answers: its verdict, with the fields of an accepted DSC sentence, and none for an accepted DSE
-- sentence
pub record IsHeard (line : List ℕ) (answer : Result (Option DscFields) SentenceRefusal) : Type 0 where
  pub verdict : verdict_in answer ≡ verdict_of line
  pub found : IfOk answer (λ found. MatchOption found (is_dse line ≡ true) (IsAccepted line))
  pub only : (s : DscFields) → IsAccepted line s → answer ≡ Ok (Some s)
