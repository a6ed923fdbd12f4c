-- How a book keeps its rows: as numbers that are ordered like the rows. No part of what a book promises.
use Rattle.std.specs.Prelude.{ℕ, zero, suc, ◌+◌, ◌-◌, ◌*◌, ◌/◌, ◌%◌, ◌==◌, if◌then◌else◌, ◌≡◌, List, [], ◌∷◌, map, Option, Some, None}
use Rattle.std.specs.List.{All}
use Rattle.std.specs.Cmp.{IsTotalOrder, then_total, on_total, nat_cmp_total}
use Rattle.std.specs.Ordering.{on, then_cmp, nat_cmp}
use Rattle.std.specs.declared.cmp.Ordering.{Ordering}
use Rattle.casualty_book.specs.declared.rows.BookRow.{BookRow}
use Rattle.casualty_book.specs.declared.packing.Packed.{Packed}
use Rattle.casualty_book.specs.Rows.{IsLawful, rank}
use Rattle.casualty_book.specs.Books.{IsBook}

-- digits as one number: each one and 1, the first times this weight, the next times a sixteenth of it, and so on
unfoldable pub number_from : ℕ → List ℕ → ℕ
number_from weight [] = 0
number_from weight (d ∷ ds) = (d + 1) * weight + number_from (weight / 16) ds

-- 16 to the power of 15
abbrev pub first_weight : ℕ
first_weight = 1152921504606846976

-- digits as one number of 64 bits
abbrev pub number_of : List ℕ → ℕ
number_of ds = number_from first_weight ds

-- at most so many digits of a number
unfoldable pub digits_in : ℕ → ℕ → List ℕ
digits_in zero number = []
digits_in (suc n) number =
    if number / 1152921504606846976 == 0 then []
    else (number / 1152921504606846976 - 1) ∷ digits_in n (number % 1152921504606846976 * 16)

-- the digits of a number
abbrev pub digits_of : ℕ → List ℕ
digits_of number = digits_in 16 number

-- nothing is 0, and a number one more
abbrev pub code : Option ℕ → ℕ
code None = 0
code (Some n) = n + 1

-- what stands for a number or for nothing
abbrev pub told : ℕ → Option ℕ
told zero = None
told (suc n) = Some n

-- keys of one casualty are ordered by their other fields as rows are
abbrev pub order_behind : Packed → Packed → Ordering
order_behind =
    then_cmp (on (λ (k : Packed). rank k.kind) nat_cmp)
    (then_cmp (on (λ (k : Packed). k.from) nat_cmp)
    (then_cmp (on (λ (k : Packed). k.nature) nat_cmp)
    (then_cmp (on (λ (k : Packed). k.place) nat_cmp)
    (then_cmp (on (λ (k : Packed). k.time) nat_cmp)
    (on (λ (k : Packed). k.second) nat_cmp)))))

-- the order of keys
abbrev pub key_order : Packed → Packed → Ordering
key_order = then_cmp (on (λ (k : Packed). k.casualty) nat_cmp) order_behind

pub key_total : IsTotalOrder key_order
key_total =
    then_total (on_total (λ (k : Packed). k.casualty) nat_cmp_total)
    (then_total (on_total (λ (k : Packed). rank k.kind) nat_cmp_total)
    (then_total (on_total (λ (k : Packed). k.from) nat_cmp_total)
    (then_total (on_total (λ (k : Packed). k.nature) nat_cmp_total)
    (then_total (on_total (λ (k : Packed). k.place) nat_cmp_total)
    (then_total (on_total (λ (k : Packed). k.time) nat_cmp_total)
    (on_total (λ (k : Packed). k.second) nat_cmp_total))))))

-- a row as a key
abbrev pub pack : BookRow → Packed
pack row = record {
  casualty = number_of row.casualty;
  kind = row.kind;
  from = number_of row.from;
  nature = code row.nature;
  place = number_of row.place.items;
  time = code row.time;
  second = code row.second;
}

-- the row of a key
abbrev pub unpack : Packed → BookRow
unpack key = record {
  casualty = digits_of key.casualty;
  kind = key.kind;
  from = digits_of key.from;
  nature = told key.nature;
  place = record { items = digits_of key.place };
  time = told key.time;
  second = told key.second;
}

-- a key is that of a lawful row
pub record IsPacked (key : Packed) : Type 0 where
  pub lawful : IsLawful (unpack key)
  pub same : pack (unpack key) ≡ key

-- the rows of keys
abbrev pub rows_of : List Packed → List BookRow
rows_of keys = map unpack keys

-- the keys that a book keeps
pub record IsKept (keys : List Packed) : Type 0 where
  pub book : IsBook (rows_of keys)
  pub packed : All IsPacked keys
