-- What `book` writes: this project's profile.
use Rattle.std.specs.Prelude.{◌≡◌, ◌↔◌, ℕ, Bool, ◌&&◌, true, false, if◌then◌else◌, Some, List, []}
use Rattle.std.specs.List.{Contains, list_any}
use Rattle.line_grammar.specs.Columns.{IsColumn}
use Rattle.line_engine.specs.Lines.{Lines}
use Rattle.line_engine.specs.Meaning.{Meaning}
use Rattle.input_lines.specs.BookLine.{is_sentence, IsBookLine}
use Rattle.dsc_sentences.specs.declared.dsc.DscFields.{DscFields}
use Rattle.dsc_sentences.specs.declared.verdicts.Verdict.{Verdict}
use Rattle.dsc_sentences.specs.declared.verdicts.Verdict.TheVariants.{Accepted, Refused}
use Rattle.dsc_sentences.specs.Heard.{IsAccepted}
use Rattle.dsc_sentences.specs.Verdicts.{verdict_of}
use Rattle.casualty_book.specs.declared.rows.BookRow.{BookRow}
use Rattle.casualty_book.specs.Sentences.{row_of}
use Rattle.casualty_book.specs.Books.{IsBook}
use Rattle.casualty_book.specs.Texts.{book_text}

-- the line is a sentence that is accepted as a DSC sentence
pub record IsDscLine (line : List ℕ) : Type 0 where
  pub sentence : is_sentence line ≡ true
  pub fields : DscFields
  pub accepted : IsAccepted line fields

-- such a line gives this row
pub record GivesRow (line : List ℕ) (row : BookRow) : Type 0 where
  pub told : IsDscLine line
  pub row_is : row_of told.fields ≡ Some row

-- one of the lines gives this row
pub record HasRow (lines : Lines) (row : BookRow) : Type 0 where
  pub line : List ℕ
  pub there : Contains lines line
  pub gives : GivesRow line row

-- the text of the book of these lines: each row that they give, once, by rising order
pub record IsBookText (lines : Lines) (text : List ℕ) : Type 0 where
  pub rows : List BookRow
  pub book : IsBook rows
  pub rows_are : (row : BookRow) → Contains rows row ↔ HasRow lines row
  pub text_is : text ≡ book_text rows

-- a test of verdicts: whether a sentence is refused
abbrev pub is_refusal : Verdict → Bool
is_refusal Accepted = false
is_refusal (Refused refusal) = true

-- the line is a sentence that is refused
abbrev pub is_refused : List ℕ → Bool
is_refused line = is_sentence line && is_refusal (verdict_of line)

-- an input of these lines has this text and status: 1 where a sentence is refused
pub record EndsBook (lines : Lines) (text : List ℕ) (status : ℕ) : Type 0 where
  pub told : IsBookText lines text
  pub status_is : status ≡ (if list_any is_refused lines then 1 else 0)

-- nothing is written before all lines are known
abbrev pub book_meaning : Meaning
book_meaning = record {
  IsIllFormed = λ earlier text n. IsColumn IsBookLine text n;
  IsOverfull = λ earlier text. ⊥;
  Gives = λ lines text. text ≡ [];
  Ends = EndsBook;
}

-- the same lines are accepted as DSC sentences in both inputs
abbrev pub HaveSameSentences : Lines → Lines → Type 0
HaveSameSentences a b = (line : List ℕ) → IsDscLine line → Contains a line ↔ Contains b line
