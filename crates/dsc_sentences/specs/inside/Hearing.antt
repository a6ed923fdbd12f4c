-- What is heard of the bytes of a sentence, one form at a time.
use Rattle.std.specs.Prelude.{◌≡◌, ℕ, List, IfOk, MatchOption, Option, Some, None, Result, Ok}
use Rattle.sentence_frame.specs.declared.refusals.SentenceRefusal.{SentenceRefusal}
use Rattle.sentence_frame.specs.Refusals.{texts_of}
use Rattle.dsc_sentences.specs.declared.dsc.DscFields.{DscFields}
use Rattle.dsc_sentences.specs.Dsc.{dsc, IsDsc, SentenceText}
use Rattle.dsc_sentences.specs.Dse.{dse}
use Rattle.dsc_sentences.specs.Verdicts.{told}
use Rattle.dsc_sentences.specs.Heard.{verdict_in}

-- what is answered of bytes that are read as a DSC sentence
pub record IsHeardAsDsc (bytes : List ℕ) (answer : Result (Option DscFields) SentenceRefusal) : Type 0 where
  pub verdict : verdict_in answer ≡ told (texts_of dsc bytes)
  pub found : IfOk answer (λ found. MatchOption found ⊥ (λ s. IsDsc s × SentenceText s bytes))
  pub only : (s : DscFields) → IsDsc s → SentenceText s bytes → answer ≡ Ok (Some s)

-- what is answered of bytes that are read as a DSE sentence
pub record IsHeardAsDse (bytes : List ℕ) (answer : Result (Option DscFields) SentenceRefusal) : Type 0 where
  pub verdict : verdict_in answer ≡ told (texts_of dse bytes)
  pub found : IfOk answer (λ found. found ≡ None)
