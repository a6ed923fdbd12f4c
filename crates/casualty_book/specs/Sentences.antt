-- Which row of the book a DSC sentence gives: this project's profile.
use Rattle.std.specs.Prelude.{ℕ, ◌==◌, Bool, false, if◌then◌else◌, Option, Some, None, List}
use Rattle.dsc_symbols.specs.declared.last_digits.TheConstants.{ALERT, DISTRESS, DISTRESS_ACKNOWLEDGEMENT, DISTRESS_RELAY}
use Rattle.call_values.specs.declared.choices.End.{End}
use Rattle.call_values.specs.declared.choices.End.TheVariants.{Ask, Reply, Plain}
use Rattle.dsc_sentences.specs.declared.dsc.DscFields.{DscFields}
use Rattle.casualty_book.specs.declared.rows.BookKind.{BookKind}
use Rattle.casualty_book.specs.declared.rows.BookKind.TheVariants.{Alert, Ack, Relay, RelayAck}
use Rattle.casualty_book.specs.declared.rows.BookRow.{BookRow}

-- the row of this kind about a casualty and its nature of distress; the other fields are those of the sentence
abbrev pub row_with : BookKind → List ℕ → Option ℕ → DscFields → BookRow
row_with kind casualty nature s = record {
  casualty = casualty;
  kind = kind;
  from = s.address;
  nature = nature;
  place = s.place;
  time = s.time;
  second = s.second;
}

-- the kind of a relay, or of its acknowledgement where the end of sequence says that one is given
abbrev pub relay_kind : End → BookKind
relay_kind Ask = Relay
relay_kind Reply = RelayAck
relay_kind Plain = Relay

-- the kind of a distress call by its first telecommand: of an acknowledgement or of a relay
abbrev pub kind_of : Option ℕ → End → Option BookKind
kind_of None end = None
kind_of (Some first) end = if first == DISTRESS_ACKNOWLEDGEMENT then Some Ack else if first == DISTRESS_RELAY then Some (relay_kind end) else None

-- the row of a kind about the ship that a sentence names as in distress, where there are both
abbrev pub row_about : Option BookKind → Option (List ℕ) → DscFields → Option BookRow
row_about None distress s = None
row_about (Some kind) None s = None
row_about (Some kind) (Some casualty) s = Some (row_with kind casualty s.nature s)

-- a field says this number
abbrev pub says : Option ℕ → ℕ → Bool
says None n = false
says (Some m) n = m == n

-- the row of a sentence: an alert is about its sender, a call of the category distress about the ship that it names as
-- in distress
unfoldable pub row_of : DscFields → Option BookRow
row_of s =
    if s.format == ALERT then Some (row_with Alert s.address s.first s)
    else if says s.category DISTRESS then row_about (kind_of s.first s.end) s.distress s
    else None
