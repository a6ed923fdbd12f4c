-- The rows of the casualty book and their order: this project's profile.
use Rattle.std.specs.Prelude.{ℕ, ◌≤◌, IfSome}
use Rattle.std.specs.Cmp.Lexicographic.{slice_cmp}
use Rattle.std.specs.Option.{option_cmp}
use Rattle.std.specs.Ordering.{nat_cmp, ordering_then}
use Rattle.std.specs.declared.cmp.Ordering.{Ordering}
use Rattle.sentence_frame.specs.Texts.{IsDigits, IsUpToDigits}
use Rattle.casualty_book.specs.declared.rows.BookKind.{BookKind}
use Rattle.casualty_book.specs.declared.rows.BookKind.TheVariants.{Alert, Ack, Relay, RelayAck}
use Rattle.casualty_book.specs.declared.rows.BookRow.{BookRow}

-- what values a row may have
pub record IsLawful (row : BookRow) : Type 0 where
  pub casualty : IsDigits 10 row.casualty
  pub from : IsDigits 10 row.from
  pub nature : IfSome row.nature (λ n. n ≤ 99)
  pub place : IsUpToDigits 16 row.place.items
  pub time : IfSome row.time (λ n. n ≤ 9999)
  pub second : IfSome row.second (λ n. n ≤ 99)

-- the kinds in their order
abbrev pub rank : BookKind → ℕ
rank Alert = 0
rank Ack = 1
rank Relay = 2
rank RelayAck = 3

-- rows are ordered by casualty, kind, sender, nature, place, time and what is to follow; nothing comes before
-- something, and lists are ordered digit by digit, a beginning first
abbrev pub row_order : BookRow → BookRow → Ordering
row_order a b =
    ordering_then (slice_cmp nat_cmp a.casualty b.casualty)
    (ordering_then (nat_cmp (rank a.kind) (rank b.kind))
    (ordering_then (slice_cmp nat_cmp a.from b.from)
    (ordering_then (option_cmp nat_cmp a.nature b.nature)
    (ordering_then (slice_cmp nat_cmp a.place.items b.place.items)
    (ordering_then (option_cmp nat_cmp a.time b.time)
    (option_cmp nat_cmp a.second b.second))))))
