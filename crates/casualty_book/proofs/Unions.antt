-- books that have the same rows, and their unions
use Rattle.std.specs.List.{All, Contains}
use Rattle.std.proofs.Common.{arith, inl, sym, subst, Bool, Option, Some, IsTrue, get_or}
use Rattle.std.specs.Prelude.{◌≡◌, ◌↔◌, ◌⊎◌, List}
use Rattle.std.proofs.lemmas.List.Elements.{Contains-get_or}
use Rattle.casualty_book.specs.declared.rows.BookRow.{BookRow}
use Rattle.casualty_book.specs.Books.{IsBook, IsUnion, HaveSameRows, HasAlsoOf}
use Rattle.casualty_book.proofs.Orders.{rows_total, rows_exact}
use Rattle.casualty_book.proofs.Sets.{one_rising}

pub one_book : (left right : List BookRow) → IsBook left → IsBook right → HaveSameRows left right → left ≡ right
one_book left right hl hr same = one_rising rows_total rows_exact left right hl.rising hr.rising same

-- what holds of each row that is there holds of all
pub all_there : (P : BookRow → Type 0) (rows : List BookRow) → ((r : BookRow) → Contains rows r → P r) → All P rows
all_there P rows h k d small = h (get_or rows k d) (Contains-get_or rows k d small)

either_way : {A B : Type 0} → A ⊎ B → B ⊎ A
either_way h = grind arith

pub commutes : (a b both other : List BookRow) → IsBook both → IsBook other → IsUnion a b both → IsUnion b a other → both ≡ other
commutes a b both other hb ho h g = one_book both other hb ho (λ r. (
  λ here. (g r).1 (either_way ((h r).0 here)),
  λ here. (h r).1 (either_way ((g r).0 here)),
))

to_right : {A B C D E : Type 0} → (D → A ⊎ B) → (B ⊎ C → E) → D ⊎ C → A ⊎ E
to_right split join h = grind arith

to_left : {A B C D E : Type 0} → (E → B ⊎ C) → (A ⊎ B → D) → A ⊎ E → D ⊎ C
to_left split join h = grind arith

pub associates : (a b c ab bc left right : List BookRow) → IsBook left → IsBook right → IsUnion a b ab → IsUnion ab c left → IsUnion b c bc → IsUnion a bc right → left ≡ right
associates a b c ab bc left right hl hr h1 h2 h3 h4 = one_book left right hl hr (λ r. (
  λ here. (h4 r).1 (to_right (h1 r).0 (h3 r).1 ((h2 r).0 here)),
  λ here. (h2 r).1 (to_left (h3 r).0 (h1 r).1 ((h4 r).0 here)),
))

itself_or : {A : Type 0} → A ⊎ A → A
itself_or h = grind arith

pub with_itself : (a both : List BookRow) → IsBook a → IsBook both → IsUnion a a both → both ≡ a
with_itself a both ha hb h = one_book both a hb ha (λ r. (λ here. itself_or ((h r).0 here), λ here. (h r).1 (inl here)))

-- what `note` answers about the row that a sentence gives
pub adds : (row : BookRow) (gives : Option BookRow) (rows : List BookRow) (added : Bool) → gives ≡ Some row → IsTrue added ↔ (Contains rows row → ⊥)
    → IsTrue added ↔ ((r : BookRow) × (gives ≡ Some r) × (Contains rows r → ⊥))
adds row gives rows added e h = grind arith

pub with_row : (rows : List BookRow) (row : BookRow) (gives : Option BookRow) (more : List BookRow) → gives ≡ Some row
    → ((r : BookRow) → Contains more r ↔ (Contains rows r ⊎ (row ≡ r))) → HasAlsoOf rows gives more
with_row rows row gives more e h = subst (λ (g : Option BookRow). HasAlsoOf rows g more) (sym e) h
