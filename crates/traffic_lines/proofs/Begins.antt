-- the first byte of a line
use Rattle.std.proofs.Common.{◌≡◌, ℕ, true, List, [], ◌∷◌, ◌++◌, codes, decimal, refl, sym, subst, arith}
use Rattle.std.proofs.lemmas.Bool.{and_parts}
use Rattle.std.specs.List.{list_all}
use Rattle.line_grammar.specs.declared.decimal.TheConstants.{LARGEST_NUMBER}
use Rattle.line_grammar.specs.Grammar.{finish, none, written}
use Rattle.line_grammar.specs.Tokens.{HasNoLeadingZero, is_digit}
use Rattle.line_grammar.proofs.Decimals.{decimal_number}
use Rattle.traffic_lines.specs.declared.lines.Event as events
use Rattle.traffic_lines.specs.declared.{lines.Hearing.Hearing, lines.StationOwn.StationOwn, lines.TrafficLine.TrafficLine}
use Rattle.traffic_lines.specs.declared.lines.TrafficLine.TheVariants.{Ship, Coast, Base, Group, Event}
use Rattle.traffic_lines.specs.Events.{station_rows, station_parts, hearing_rows, hearing_parts, event, event_parts}
use Rattle.traffic_lines.specs.Lines.{lines, line_parts, IsFirstByte, IsLineText}

abbrev Begins : TrafficLine → List ℕ → Type 0
Begins line text = (b : ℕ) × (rest : List ℕ) × IsFirstByte line b × (text ≡ b ∷ rest)

first_digit : (at : ℕ) (what : events.Event StationOwn Hearing) (number rest : List ℕ) → HasNoLeadingZero number → list_all is_digit number ≡ true → Begins (Event at what) (number ++ rest)
first_digit at what [] rest h k = absurd h
first_digit at what (b ∷ bytes) rest h k = (b, bytes ++ rest, (and_parts (is_digit b) (list_all is_digit bytes) k).0, refl)

pub begins : (line : TrafficLine) (text : List ℕ) → IsLineText line text → Begins line text
begins (Ship m) text h = (115, _, refl, h.1)
begins (Coast m b) text h = (115, _, refl, h.1)
begins (Base s) text h = (98, _, refl, h.1)
begins (Group m) text h = (103, _, refl, h.1)
begins (Event at what) text h =
    let number = decimal_number 0 LARGEST_NUMBER at (omega arith) (omega (arith, h.0.0)) (omega arith) in
    subst (Begins (Event at what)) (sym h.1)
    (first_digit at what (decimal at) (codes " " ++ written (event station_rows hearing_rows finish) (event_parts station_parts hearing_parts what none)) number.leading number.digits)
