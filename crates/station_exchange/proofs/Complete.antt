-- each file of an exchange has an output
use Rattle.std.proofs.Common.{ℕ, if◌then◌else◌, ◌⊎◌, Some, None, List, [], ◌∷◌, ◌++◌, refl, sym, subst, append_assoc, append-nil, inl, inr}
use Rattle.line_engine.specs.Lines.{Lines}
use Rattle.line_engine.specs.Faults.{IsFaultless}
use Rattle.line_engine.specs.Determined.{HasOutputs}
use Rattle.line_engine.proofs.PublicLaws.{has_outputs, sound_line_of}
use Rattle.traffic_lines.specs.declared.worlds.WorldLine.TheVariants.{Ship, Coast, Base, EndEvent}
use Rattle.traffic_lines.proofs.PublicLaws.{IsExchangePoint}
use Rattle.input_lines.proofs.PublicLaws.{world_lines_judged}
use Rattle.station_exchange.specs.Said.{Said, point_of, world_of, AreSaid}
use Rattle.station_exchange.specs.Output.{text_of, all_accepted}
use Rattle.station_exchange.specs.Meaning.{IsIllFormed, Exchanges, exchange_meaning}
use Rattle.station_exchange.proofs.Unique.{OneWorldLine, taken_behind}

-- the point after lines names an identity in its range
point_lawful : (said : Said) (lines : Lines) → AreSaid said lines → IsExchangePoint (point_of said)
point_lawful [] lines are = tt
point_lawful (None ∷ said) lines are = point_lawful said are.0 are.4
point_lawful (Some (Ship mmsi) ∷ said) lines are = are.3.1.0
point_lawful (Some (Coast mmsi band) ∷ said) lines are = tt
point_lawful (Some (Base second) ∷ said) lines are = tt
point_lawful (Some (EndEvent entry) ∷ said) lines are = tt

-- lines without a fault say something
said_of : (earlier : Lines) (said : Said) → AreSaid said earlier → (lines : Lines) → IsFaultless exchange_meaning (earlier ++ lines) → (all : Said) × AreSaid all (earlier ++ lines)
said_of earlier said are [] none = (said, subst (AreSaid said) (sym (append-nil earlier)) are)
said_of earlier said are (line ∷ lines) none =
    elim (world_lines_judged (point_of said) (point_lawful said earlier are) line) [
      | inl w ↦
          let rest = subst (IsFaultless exchange_meaning) (sym (append_assoc earlier (line ∷ []) lines)) none in
          let all = said_of (earlier ++ line ∷ []) (w.0 ∷ said) (earlier, line, refl, w.1, are) lines rest in
          (all.0, subst (AreSaid all.0) (append_assoc earlier (line ∷ []) lines) all.1)
      | inr c ↦
          absurd (sound_line_of exchange_meaning (earlier ++ line ∷ lines) earlier line lines none refl c.0 (record { said = said; are_said = are; is_column = c.1 }))
    ]

exchange_of : (lines : Lines) → IsFaultless exchange_meaning lines → (text : List ℕ) × Exchanges lines text
exchange_of lines none =
    let s = said_of [] [] refl lines none in
    (text_of (world_of s.0), record { said = s.0; are_said = s.1; text_is = refl })

column_of : OneWorldLine → (earlier : Lines) (line : List ℕ) → IsFaultless exchange_meaning earlier
    → ((n : ℕ) × IsIllFormed earlier line n) ⊎ ((n : ℕ) → IsIllFormed earlier line n → ⊥)
column_of one earlier line none =
    let s = said_of [] [] refl earlier none in
    elim (world_lines_judged (point_of s.0) (point_lawful s.0 earlier s.1) line) [
      | inl w ↦ inr (taken_behind one s.0 earlier line w.0 s.1 w.1).well_formed
      | inr c ↦ inl (c.0, record { said = s.0; are_said = s.1; is_column = c.1 })
    ]

pub exchange_has_outputs : OneWorldLine → HasOutputs exchange_meaning
exchange_has_outputs one =
    has_outputs exchange_meaning
    (record {
      column = column_of one;
      group = λ earlier line none. inr (λ full. full);
      gives = exchange_of;
      ends = λ lines none. let e = exchange_of lines none in (e.0, (if all_accepted (world_of e.1.said) then 0 else 1), (e.1, refl));
    })
