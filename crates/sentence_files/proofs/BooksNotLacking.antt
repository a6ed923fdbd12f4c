-- no log lacks its book
use Rattle.std.proofs.Common.{◌≡◌, ◌↔◌, ◌⊎◌, ℕ, if◌then◌else◌, Option, IfSome, List, [], ◌∷◌, inl, inr, refl, sym, ◌∙◌, ap, subst}
use Rattle.std.specs.List.{All, Contains, list_any}
use Rattle.std.proofs.lemmas.Option.{same_Some}
use Rattle.std.proofs.lemmas.List.Elements.{All-nil, All-cons, Contains-append_left, Contains-append_right, Contains-append_cases, Contains-push, Contains-push_cases}
use Rattle.plain_laws.proofs.Lists.{holds_none}
use Rattle.line_engine.specs.Lines.{Lines}
use Rattle.line_engine.specs.Determined.{IsNeverStuck}
use Rattle.dsc_sentences.specs.declared.dsc.DscFields.{DscFields}
use Rattle.dsc_sentences.specs.Dsc.{IsDsc, SentenceText}
use Rattle.dsc_sentences.specs.Verdicts.{with_line_end}
use Rattle.casualty_book.specs.declared.rows.BookRow.{BookRow}
use Rattle.casualty_book.specs.Rows.{IsLawful}
use Rattle.casualty_book.specs.Sentences.{row_of}
use Rattle.casualty_book.specs.Books.{IsBook, HaveSameRows}
use Rattle.casualty_book.specs.Texts.{book_text}
use Rattle.sentence_files.specs.Booking.{GivesRow, HasRow, IsBookText, is_refused, book_meaning}

-- it can't be that there is none
abbrev IsThere : Type 0 → Type 0
IsThere A = (A → ⊥) → ⊥

either_way : (A : Type 0) → IsThere (A ⊎ (A → ⊥))
either_way A k = k (inr (λ a. k (inl a)))

-- the laws of books and of sentences
pub record Laws : Type 0 where
  pub book : (rows : List BookRow) → All IsLawful rows → (book : List BookRow) × IsBook book × HaveSameRows book rows
  pub lawful : (s : DscFields) → IsDsc s → IfSome (row_of s) IsLawful
  pub one : (s t : DscFields) (bytes : List ℕ) → IsDsc s → IsDsc t → SentenceText s bytes → SentenceText t bytes → s ≡ t

-- the head of a list, and what comes after it
one_of : {K : Type 0} (x : K) (xs : List K) (k : K) → Contains (x ∷ xs) k → (x ≡ k) ⊎ Contains xs k
one_of x xs k here =
    elim (Contains-append_cases (x ∷ []) xs k here) [
      | inl front ↦
          elim (Contains-push_cases [] x k front) [
            | inl none ↦ absurd (holds_none k none)
            | inr same ↦ inl same
          ]
      | inr there ↦ inr there
    ]

first : {K : Type 0} (x : K) (xs : List K) → Contains (x ∷ xs) x
first x xs = Contains-append_left (x ∷ []) xs x (Contains-push [] x)

later : {K : Type 0} (x : K) (xs : List K) (k : K) → Contains xs k → Contains (x ∷ xs) k
later x xs k there = Contains-append_right (x ∷ []) xs k there

module _ (laws : Laws) where
  -- a line gives one row, and a lawful one
  gives_one : (line : List ℕ) (a b : BookRow) → GivesRow line a → GivesRow line b → a ≡ b
  gives_one line a b g h =
      let same = laws.one g.told.fields h.told.fields (with_line_end line) g.told.accepted.lawful h.told.accepted.lawful g.told.accepted.text h.told.accepted.text in
      same_Some a b (sym g.row_is ∙ ap row_of same ∙ h.row_is)

  gives_lawful : (line : List ℕ) (row : BookRow) → GivesRow line row → IsLawful row
  gives_lawful line row g = subst (λ (o : Option BookRow). IfSome o IsLawful) g.row_is (laws.lawful g.told.fields g.told.accepted.lawful)

  -- the rows that lines give
  record RowsOf (lines : Lines) : Type 0 where
    rows : List BookRow
    lawful : All IsLawful rows
    are : (row : BookRow) → Contains rows row ↔ HasRow lines row

  none_given : RowsOf []
  none_given = record {
    rows = [];
    lawful = All-nil IsLawful;
    are = λ row. (λ here. absurd (holds_none row here), λ has. absurd (holds_none has.line has.there));
  }

  one_given : (line : List ℕ) (lines : Lines) (row : BookRow) → GivesRow line row → RowsOf lines → RowsOf (line ∷ lines)
  one_given line lines row g rest = record {
    rows = row ∷ rest.rows;
    lawful = All-cons IsLawful row rest.rows (gives_lawful line row g) rest.lawful;
    are = λ r. (
      λ here. elim (one_of row rest.rows r here) [
        | inl same ↦ record { line = line; there = first line lines; gives = subst (GivesRow line) same g }
        | inr there ↦ (let has = (rest.are r).0 there in record { line = has.line; there = later line lines has.line has.there; gives = has.gives })
      ],
      λ has. elim (one_of line lines has.line has.there) [
        | inl same ↦
            let is = gives_one line row r g (subst (λ (l : List ℕ). GivesRow l r) (sym same) has.gives) in
            subst (λ (x : BookRow). Contains (row ∷ rest.rows) x) is (first row rest.rows)
        | inr there ↦ later row rest.rows r ((rest.are r).1 (record { line = has.line; there = there; gives = has.gives }))
      ],
    );
  }

  nothing_given : (line : List ℕ) (lines : Lines) → ((row : BookRow) → GivesRow line row → ⊥) → RowsOf lines → RowsOf (line ∷ lines)
  nothing_given line lines none rest = record {
    rows = rest.rows;
    lawful = rest.lawful;
    are = λ r. (
      λ here. (let has = (rest.are r).0 here in record { line = has.line; there = later line lines has.line has.there; gives = has.gives }),
      λ has. elim (one_of line lines has.line has.there) [
        | inl same ↦ absurd (none r (subst (λ (l : List ℕ). GivesRow l r) (sym same) has.gives))
        | inr there ↦ (rest.are r).1 (record { line = has.line; there = there; gives = has.gives })
      ],
    );
  }

  rows_there : (lines : Lines) → IsThere (RowsOf lines)
  rows_there [] k = k none_given
  rows_there (line ∷ lines) k =
      rows_there lines (λ rest.
      either_way ((row : BookRow) × GivesRow line row) (λ c. elim c [
        | inl g ↦ k (one_given line lines g.0 g.1 rest)
        | inr none ↦ k (nothing_given line lines (λ row g. none (row, g)) rest)
      ]))

  text_of : (lines : Lines) → RowsOf lines → (text : List ℕ) × IsBookText lines text
  text_of lines given =
      let made = laws.book given.rows given.lawful in (
        book_text made.0,
        record {
          rows = made.0;
          book = made.1;
          rows_are = λ r. (λ here. (given.are r).0 ((made.2 r).0 here), λ has. (made.2 r).1 ((given.are r).1 has));
          text_is = refl;
        },
      )

  pub book_never_stuck : IsNeverStuck book_meaning
  book_never_stuck = record {
    gives = λ lines none k. k [] refl;
    ends = λ lines none k.
        rows_there lines (λ given.
        let text = text_of lines given in k text.0 (if list_any is_refused lines then 1 else 0) (record { told = text.1; status_is = refl }));
  }
