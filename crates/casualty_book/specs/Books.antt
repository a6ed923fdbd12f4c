-- Books as sets of rows: this project's profile.
use Rattle.std.specs.Prelude.{◌≡◌, ◌↔◌, ◌⊎◌, List, Option, Some, None}
use Rattle.std.specs.List.{All, Contains}
use Rattle.std.specs.List.Sorted.{IsStrictlySortedBy}
use Rattle.casualty_book.specs.declared.rows.BookRow.{BookRow}
use Rattle.casualty_book.specs.Rows.{row_order, IsLawful}

-- the rows of a book: each is there once, they rise, and all are lawful
pub record IsBook (rows : List BookRow) : Type 0 where
  pub rising : IsStrictlySortedBy row_order rows
  pub lawful : All IsLawful rows

-- a row is in a book with this one exactly where it is in the book before, or is this one
abbrev pub HasAlso : List BookRow → BookRow → List BookRow → Type 0
HasAlso rows row more = (r : BookRow) → Contains more r ↔ (Contains rows r ⊎ (row ≡ r))

-- the same, where there may be no row: then nothing changes
abbrev pub HasAlsoOf : List BookRow → Option BookRow → List BookRow → Type 0
HasAlsoOf rows None more = more ≡ rows
HasAlsoOf rows (Some row) more = HasAlso rows row more

-- a row is in the union exactly where it is in one of the two
abbrev pub IsUnion : List BookRow → List BookRow → List BookRow → Type 0
IsUnion left right both = (r : BookRow) → Contains both r ↔ (Contains left r ⊎ Contains right r)

-- two books have the same rows
abbrev pub HaveSameRows : List BookRow → List BookRow → Type 0
HaveSameRows left right = (r : BookRow) → Contains left r ↔ Contains right r
