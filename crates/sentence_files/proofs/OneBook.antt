-- the sentences that are accepted determine the text of the book
use Rattle.std.proofs.Common.{◌≡◌, ℕ, List, sym, ap, ◌∙◌}
use Rattle.line_engine.specs.Lines.{Lines}
use Rattle.line_engine.specs.Determined.{IsDetermined}
use Rattle.input_lines.specs.BookLine.{IsBookLine}
use Rattle.input_lines.proofs.PublicLaws.{one_column}
use Rattle.casualty_book.specs.declared.rows.BookRow.{BookRow}
use Rattle.casualty_book.specs.Books.{IsBook, HaveSameRows}
use Rattle.casualty_book.specs.Texts.{book_text}
use Rattle.line_engine.proofs.PublicLaws.{begins_empty}
use Rattle.sentence_files.specs.Booking.{HasRow, IsBookText, HaveSameSentences, book_meaning}

-- books with the same rows are one list
abbrev pub OneList : Type 0
OneList = (left right : List BookRow) → IsBook left → IsBook right → HaveSameRows left right → left ≡ right

carried : (a b : Lines) → HaveSameSentences a b → (row : BookRow) → HasRow a row → HasRow b row
carried a b same row has = record { line = has.line; there = (same has.line has.gives.told).0 has.there; gives = has.gives }

turned : (a b : Lines) → HaveSameSentences a b → HaveSameSentences b a
turned a b same line told = ((same line told).1, (same line told).0)

pub one_text : OneList → (a b : Lines) → HaveSameSentences a b → (text other : List ℕ) → IsBookText a text → IsBookText b other → text ≡ other
one_text one a b same text other g h =
    let rows = one g.rows h.rows g.book h.book (λ row. (
      λ here. (h.rows_are row).1 (carried a b same row ((g.rows_are row).0 here)),
      λ here. (g.rows_are row).1 (carried b a (turned a b same) row ((h.rows_are row).0 here)),
    )) in
    g.text_is ∙ ap book_text rows ∙ sym h.text_is

pub book_determined : OneList → IsDetermined book_meaning
book_determined one = record {
  one_column = λ earlier line m n h k. one_column IsBookLine line m n h k;
  one_text = λ lines a b none g h. g ∙ sym h;
  grows = λ first later text whole none g h. begins_empty text whole g;
  one_end = λ lines a b s t none g h. (one_text one lines lines (λ line told. (λ here. here, λ here. here)) a b g.told h.told, g.status_is ∙ sym h.status_is);
  ends = λ first later text whole status none g h. begins_empty text whole g;
}
