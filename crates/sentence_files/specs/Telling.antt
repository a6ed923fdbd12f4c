-- What `sentences` writes: this project's profile.
use Rattle.std.specs.Prelude.{◌≡◌, ℕ, Bool, true, false, if◌then◌else◌, List, [], ◌∷◌, ◌++◌}
use Rattle.std.specs.List.{list_all, flat_map}
use Rattle.line_grammar.specs.Bytes.{line_feed}
use Rattle.line_grammar.specs.Columns.{IsColumn}
use Rattle.line_engine.specs.Lines.{Lines}
use Rattle.line_engine.specs.Meaning.{Meaning}
use Rattle.input_lines.specs.declared.calls.CallLine.{CallLine}
use Rattle.input_lines.specs.declared.calls.CallLine.TheVariants as line
use Rattle.input_lines.specs.declared.sentences.SentenceLine.{SentenceLine}
use Rattle.input_lines.specs.declared.sentences.SentenceLine.TheVariants.{Said, Sentence}
use Rattle.input_lines.specs.SentenceLine.{IsSentenceLine}
use Rattle.dsc_sentences.specs.declared.verdicts.Verdict.{Verdict}
use Rattle.dsc_sentences.specs.declared.verdicts.Verdict.TheVariants.{Accepted, Refused}
use Rattle.dsc_sentences.specs.CallSentences.{sentences_of}
use Rattle.dsc_sentences.specs.Verdicts.{verdict_of, verdict_text}

-- the lines say these, one by one
abbrev pub AreSentenceLines : List SentenceLine → Lines → Type 0
AreSentenceLines [] [] = Unit {0}
AreSentenceLines [] (text ∷ lines) = ⊥
AreSentenceLines (one ∷ all) [] = ⊥
AreSentenceLines (one ∷ all) (text ∷ lines) = IsSentenceLine one text × AreSentenceLines all lines

-- a test of verdicts: whether a sentence is accepted
abbrev pub is_accepted : Verdict → Bool
is_accepted Accepted = true
is_accepted (Refused refusal) = false

-- what a line of calls gives: nothing; or the sentences of a call, each with CR and LF
abbrev pub call_sentences : CallLine → List ℕ
call_sentences line.Nothing = []
call_sentences (line.Call c expansion) = sentences_of c expansion

-- what a line gives: what a line of calls does; or the verdict on a sentence, with LF
abbrev pub line_text : SentenceLine → List ℕ
line_text (Said says) = call_sentences says
line_text (Sentence bytes) = verdict_text (verdict_of bytes.now) ++ line_feed ∷ []

-- a line isn't a refused sentence
abbrev pub is_well : SentenceLine → Bool
is_well (Said says) = true
is_well (Sentence bytes) = is_accepted (verdict_of bytes.now)

-- what these lines give, one after the other
pub record Gives (lines : Lines) (text : List ℕ) : Type 0 where
  pub said : List SentenceLine
  pub are_lines : AreSentenceLines said lines
  pub text_is : text ≡ flat_map line_text said

-- an input of these lines has this text and status: 1 where a sentence is refused
pub record EndsSo (lines : Lines) (text : List ℕ) (status : ℕ) : Type 0 where
  pub said : List SentenceLine
  pub are_lines : AreSentenceLines said lines
  pub text_is : text ≡ flat_map line_text said
  pub status_is : status ≡ (if list_all is_well said then 0 else 1)

-- what is written of each line is given as soon as the line is read
abbrev pub sentences_meaning : Meaning
sentences_meaning = record {
  IsIllFormed = λ earlier text n. IsColumn IsSentenceLine text n;
  IsOverfull = λ earlier text. ⊥;
  Gives = Gives;
  Ends = EndsSo;
}
