-- what the command has taken, one line further
use Rattle.std.proofs.Common.{◌≡◌, ℕ, Bool, true, false, ◌&&◌, ◌||◌, List, [], ◌∷◌, ◌++◌, inl, inr, refl, sym, ap, subst, ◌∙◌}
use Rattle.std.specs.List.{Contains, list_any}
use Rattle.std.proofs.lemmas.List.Elements.{Contains-append_left, Contains-push, Contains-push_cases}
use Rattle.std.proofs.Math.Bool.{or-false, or_assoc}
use Rattle.plain_laws.proofs.Lists.{holds_none}
use Rattle.line_engine.specs.Lines.{Lines}
use Rattle.input_lines.specs.BookLine.{is_sentence}
use Rattle.dsc_sentences.specs.Verdicts.{verdict_of}
use Rattle.casualty_book.specs.declared.rows.BookRow.{BookRow}
use Rattle.sentence_files.specs.declared.books.Logs.{Logs}
use Rattle.sentence_files.specs.Booking.{GivesRow, is_refusal, is_refused}
use Rattle.sentence_files.specs.inside.Booked.{HasTaken, StandsFor, TakesOne}

-- before the first line
pub none_taken : (command : Logs) → command.book ≡ [] → command.refused ≡ false → StandsFor command [] []
none_taken command book refused = record {
  taken = record {
    rows_are = λ row. (
      λ here. absurd (holds_none row (subst (λ (l : List BookRow). Contains l row) book here)),
      λ has. absurd (holds_none has.line has.there),
    );
    refused_is = refused;
  };
  unwritten = refl;
}

any_more : (lines : Lines) (line : List ℕ) → list_any is_refused (lines ++ line ∷ []) ≡ (list_any is_refused lines || is_refused line)
any_more [] line = or-false (is_refused line)
any_more (l ∷ lines) line = ap (λ (b : Bool). is_refused l || b) (any_more lines line) ∙ sym (or_assoc (is_refused l) (list_any is_refused lines) (is_refused line))

pub more_taken : (old new : Logs) (lines : Lines) (line : List ℕ) → HasTaken old lines → TakesOne old new line → HasTaken new (lines ++ line ∷ [])
more_taken old new lines line h t = record {
  rows_are = λ row. (
    λ here. elim ((t.rows_are row).0 here) [
      | inl before ↦
          let has = (h.rows_are row).0 before in
          record { line = has.line; there = Contains-append_left lines (line ∷ []) has.line has.there; gives = has.gives }
      | inr gives ↦ record { line = line; there = Contains-push lines line; gives = gives }
    ],
    λ has. elim (Contains-push_cases lines line has.line has.there) [
      | inl before ↦ (t.rows_are row).1 (inl ((h.rows_are row).1 (record { line = has.line; there = before; gives = has.gives })))
      | inr same ↦ (t.rows_are row).1 (inr (subst (λ (l : List ℕ). GivesRow l row) (sym same) has.gives))
    ],
  );
  refused_is = t.refused_is ∙ ap (λ (b : Bool). b || is_refused line) h.refused_is ∙ sym (any_more lines line);
}

pub stands_on : (old new : Logs) (lines : Lines) (line text : List ℕ) → StandsFor old lines text → TakesOne old new line → StandsFor new (lines ++ line ∷ []) text
stands_on old new lines line text h t = record { taken = more_taken old new lines line h.taken t; unwritten = h.unwritten }

-- a line that is no sentence changes holds_none
pub takes_nothing : (command : Logs) (line : List ℕ) → (is_sentence line ≡ true → ⊥) → TakesOne command command line
takes_nothing command line other = record {
  rows_are = λ row. (
    λ here. inl here,
    λ either. elim either [
      | inl here ↦ here
      | inr gives ↦ absurd (other gives.told.sentence)
    ],
  );
  refused_is = sym (or-false command.refused) ∙ ap (λ (b : Bool). command.refused || b) (sym (not_refused (is_sentence line) other));
}
  where
    not_refused : (b : Bool) → (b ≡ true → ⊥) → (b && is_refusal (verdict_of line)) ≡ false
    not_refused true h = absurd (h refl)
    not_refused false h = refl
