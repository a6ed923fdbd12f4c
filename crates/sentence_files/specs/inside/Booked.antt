-- What the command has taken so far: this project's profile.
use Rattle.std.specs.Prelude.{◌≡◌, ◌↔◌, ◌⊎◌, ◌||◌, ℕ, List, [], Option, Some, None}
use Rattle.std.specs.List.{Contains, list_any}
use Rattle.line_engine.specs.Lines.{Lines}
use Rattle.dsc_sentences.specs.declared.dsc.DscFields.{DscFields}
use Rattle.casualty_book.specs.declared.rows.BookRow.{BookRow}
use Rattle.casualty_book.specs.Sentences.{row_of}
use Rattle.sentence_files.specs.declared.books.Logs.{Logs}
use Rattle.sentence_files.specs.Booking.{GivesRow, HasRow, is_refused}

-- it was given these lines: its book has the rows that they give, and it knows whether one is a sentence that is
-- refused
pub record HasTaken (command : Logs) (lines : Lines) : Type 0 where
  pub rows_are : (row : BookRow) → Contains command.book row ↔ HasRow lines row
  pub refused_is : command.refused ≡ list_any is_refused lines

-- it was given these lines, and wrote nothing
pub record StandsFor (command : Logs) (lines : Lines) (text : List ℕ) : Type 0 where
  pub taken : HasTaken command lines
  pub unwritten : text ≡ []

-- it took one line more
pub record TakesOne (old new : Logs) (line : List ℕ) : Type 0 where
  pub rows_are : (row : BookRow) → Contains new.book row ↔ (Contains old.book row ⊎ GivesRow line row)
  pub refused_is : new.refused ≡ (old.refused || is_refused line)

-- the row of what is heard of a line
abbrev pub row_heard : Option DscFields → Option BookRow
row_heard None = None
row_heard (Some s) = row_of s
