-- the text of a book, row by row
use Rattle.std.proofs.Common.{◌≡◌, ℕ, List, [], ◌∷◌, ◌++◌, sym, ap, subst, ◌∙◌, append-nil, append_assoc}
use Rattle.casualty_book.specs.declared.rows.BookRow.{BookRow}
use Rattle.casualty_book.specs.Texts.{row_text, book_text}

-- these rows are left, and with their text the whole text comes after what was there before
pub record IsLeft (rows left : List BookRow) (before after : List ℕ) : Type 0 where
  pub text_is : after ++ book_text left ≡ before ++ book_text rows

pub all_left : (rows left : List BookRow) (before : List ℕ) → left ≡ rows → IsLeft rows left before before
all_left rows left before e = record { text_is = ap (λ (l : List BookRow). before ++ book_text l) e }

-- one row more was appended
pub appended : (rows whole left : List BookRow) (row : BookRow) (before after more : List ℕ) → whole ≡ row ∷ left → IsLeft rows whole before after
    → more ≡ after ++ (row_text row ++ 10 ∷ []) → IsLeft rows left before more
appended rows whole left row before after more split h e =
    let here = subst (λ (l : List BookRow). IsLeft rows l before after) split h in
    record { text_is = ap (λ (t : List ℕ). t ++ book_text left) e ∙ append_assoc after (row_text row ++ 10 ∷ []) (book_text left) ∙ here.text_is }

-- all rows were appended
pub all_appended : (rows left : List BookRow) (before after : List ℕ) → left ≡ [] → IsLeft rows left before after → after ≡ before ++ book_text rows
all_appended rows left before after none h = sym (append-nil after) ∙ ap (λ (l : List BookRow). after ++ book_text l) (sym none) ∙ h.text_is
