-- The text of a row: this project's profile.
use Rattle.std.specs.Prelude.{ℕ, List, ◌∷◌, [], ◌++◌, Option, Some, None, codes}
use Rattle.std.specs.List.{flat_map}
use Rattle.line_grammar.specs.Bytes.{line_feed}
use Rattle.sentence_frame.specs.Texts.{digits, digit_text}
use Rattle.casualty_book.specs.declared.rows.BookKind.{BookKind}
use Rattle.casualty_book.specs.declared.rows.BookKind.TheVariants.{Alert, Ack, Relay, RelayAck}
use Rattle.casualty_book.specs.declared.rows.BookRow.{BookRow}

-- the words of the kinds
abbrev pub kind_text : BookKind → List ℕ
kind_text Alert = codes "alert"
kind_text Ack = codes "ack"
kind_text Relay = codes "relay"
kind_text RelayAck = codes "relayack"

-- a number in so many digits, or a hyphen where there is none
abbrev pub number_or_hyphen : ℕ → Option ℕ → List ℕ
number_or_hyphen width None = codes "-"
number_or_hyphen width (Some n) = digits width n

-- digits, or a hyphen where there are none
abbrev pub digits_or_hyphen : List ℕ → List ℕ
digits_or_hyphen [] = codes "-"
digits_or_hyphen (d ∷ ds) = digit_text (d ∷ ds)

-- the text of a row, without a line feed
unfoldable pub row_text : BookRow → List ℕ
row_text row =
    codes "casualty " ++ (digit_text row.casualty
    ++ (codes " " ++ (kind_text row.kind
    ++ (codes " from=" ++ (digit_text row.from
    ++ (codes " nature=" ++ (number_or_hyphen 2 row.nature
    ++ (codes " pos=" ++ (digits_or_hyphen row.place.items
    ++ (codes " time=" ++ (number_or_hyphen 4 row.time
    ++ (codes " then=" ++ number_or_hyphen 2 row.second))))))))))))

-- the text of rows, each with a line feed
abbrev pub book_text : List BookRow → List ℕ
book_text rows = flat_map (λ row. row_text row ++ line_feed ∷ []) rows
