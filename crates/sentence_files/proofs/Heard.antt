-- what is taken of a sentence that was heard
use Rattle.std.proofs.Common.{◌≡◌, ◌↔◌, ◌⊎◌, ℕ, Bool, true, false, ◌&&◌, ◌||◌, List, Option, Some, None, Result, Ok, inl, inr, sym, ap, subst, ◌∙◌}
use Rattle.std.specs.List.{Contains}
use Rattle.std.proofs.Math.Bool.{or-false}
use Rattle.std.proofs.lemmas.Option.{same_Some}
use Rattle.sentence_frame.specs.declared.refusals.SentenceRefusal.{SentenceRefusal}
use Rattle.input_lines.specs.BookLine.{is_sentence}
use Rattle.dsc_sentences.specs.declared.dsc.DscFields.{DscFields}
use Rattle.dsc_sentences.specs.Heard.{IsHeard}
use Rattle.dsc_sentences.specs.Verdicts.{verdict_of}
use Rattle.casualty_book.specs.declared.rows.BookRow.{BookRow}
use Rattle.casualty_book.specs.Books.{HasAlsoOf}
use Rattle.sentence_files.specs.declared.books.Logs.{Logs}
use Rattle.sentence_files.specs.Booking.{GivesRow, is_refusal, is_refused}
use Rattle.sentence_files.specs.inside.Booked.{TakesOne, row_heard}

abbrev the_answer : Option DscFields → Result (Option DscFields) SentenceRefusal
the_answer heard = Ok heard

same_heard : (a b : Option DscFields) → the_answer a ≡ the_answer b → a ≡ b
same_heard a b e = cc

-- a sentence gives the row of what is heard of it, and no other one
heard_gives : (line : List ℕ) (heard : Option DscFields) → is_sentence line ≡ true → IsHeard line (Ok heard) → (row : BookRow) → row_heard heard ≡ Some row → GivesRow line row
heard_gives line None sentence h row e = absurd (cc)
heard_gives line (Some s) sentence h row e = record { told = record { sentence = sentence; fields = s; accepted = h.found }; row_is = e }

only_gives : (line : List ℕ) (heard : Option DscFields) → IsHeard line (Ok heard) → (row : BookRow) → GivesRow line row → row_heard heard ≡ Some row
only_gives line heard h row g = ap row_heard (same_heard heard (Some g.told.fields) (h.only g.told.fields g.told.accepted)) ∙ g.row_is

rows_added : (old new : List BookRow) (gives : Option BookRow) (G : BookRow → Type 0) → ((row : BookRow) → G row ↔ (gives ≡ Some row)) → HasAlsoOf old gives new
    → (row : BookRow) → Contains new row ↔ (Contains old row ⊎ G row)
rows_added old new None G g e row = (
  λ here. inl (subst (λ (l : List BookRow). Contains l row) e here),
  λ either. elim either [
    | inl here ↦ subst (λ (l : List BookRow). Contains l row) (sym e) here
    | inr gives ↦ absurd (let is = (g row).0 gives in cc)
  ],
)
rows_added old new (Some r) G g h row = (
  λ here. elim ((h row).0 here) [
    | inl before ↦ inl before
    | inr same ↦ inr ((g row).1 (ap Some same))
  ],
  λ either. elim either [
    | inl before ↦ (h row).1 (inl before)
    | inr gives ↦ (h row).1 (inr (same_Some r row ((g row).0 gives)))
  ],
)

pub heard_taken : (old new : Logs) (line : List ℕ) (heard : Option DscFields) → is_sentence line ≡ true → IsHeard line (Ok heard)
    → HasAlsoOf old.book (row_heard heard) new.book → new.refused ≡ old.refused → TakesOne old new line
heard_taken old new line heard sentence h rows refused = record {
  rows_are = rows_added old.book new.book (row_heard heard) (λ row. GivesRow line row) (λ row. (only_gives line heard h row, heard_gives line heard sentence h row)) rows;
  refused_is =
      let accepted : is_refused line ≡ false = ap (λ (b : Bool). b && is_refusal (verdict_of line)) sentence ∙ ap is_refusal (sym h.verdict) in
      refused ∙ sym (or-false old.refused) ∙ ap (λ (b : Bool). old.refused || b) (sym accepted);
}
