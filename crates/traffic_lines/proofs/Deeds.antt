-- the row of a deed that the first byte tells, where the station's own rows are missed
use Rattle.std.proofs.Common.{◌≡◌, ℕ, List, ◌∷◌, [], Result, refl}
use Rattle.line_grammar.specs.Grammar.{Grammar, finish, Parts}
use Rattle.line_grammar.specs.Rows.{FindsRow}
use Rattle.line_grammar.specs.Sections.{nth, last}
use Rattle.line_grammar.proofs.Fronts.{IsMissed}
use Rattle.line_grammar.proofs.Rows.{or, first_found, later_found, later_row}
use Rattle.traffic_lines.specs.declared.lines.Event.{Event}
use Rattle.traffic_lines.specs.Events.{deeds, tick, answer, decline, send, IsEvent, event_parts}

-- the rows after the station's own
abbrev others : Grammar → Grammar
others rest = or tick (or answer (or decline send)) rest

module _ {O C : Type 0} (own : Grammar → Grammar) (P : O → Type 0) (f : O → Parts → Parts) (Q : C → Type 0) (k : C → Parts → Parts) (bytes : List ℕ) (r : Result (Event O C) ℕ) (missed : IsMissed (own finish) bytes) where
  abbrev Found : (Grammar → Grammar) → (Parts → Parts) → Type 0
  Found rows place = FindsRow rows place (IsEvent P Q) (event_parts f k) bytes r

  after_own : Found others (last 2) → Found (deeds own) (last 1)
  after_own h = later_found (last 1) (IsEvent P Q) (event_parts f k) own others bytes r missed h

  pub is_tick : Found tick (nth 2) → Found (deeds own) (last 1)
  is_tick h = after_own (first_found (last 2) (IsEvent P Q) (event_parts f k) tick (or answer (or decline send)) bytes r h)

  pub is_answer : (back : List ℕ) → bytes ≡ 97 ∷ back → Found answer (nth 3) → Found (deeds own) (last 1)
  is_answer back e h =
      after_own (later_row (last 2) (IsEvent P Q) (event_parts f k) 1 (97 ∷ []) back bytes r others (or answer (or decline send)) e refl refl (
      first_found (last 3) (IsEvent P Q) (event_parts f k) answer (or decline send) bytes r h))

  pub is_decline : (back : List ℕ) → bytes ≡ 100 ∷ back → Found decline (nth 4) → Found (deeds own) (last 1)
  is_decline back e h =
      after_own (later_row (last 2) (IsEvent P Q) (event_parts f k) 2 (100 ∷ []) back bytes r others (or decline send) e refl refl (
      first_found (last 4) (IsEvent P Q) (event_parts f k) decline send bytes r h))

  pub is_send : (back : List ℕ) → bytes ≡ 115 ∷ back → Found send (last 5) → Found (deeds own) (last 1)
  is_send back e h = after_own (later_row (last 2) (IsEvent P Q) (event_parts f k) 3 (115 ∷ []) back bytes r others send e refl refl h)
