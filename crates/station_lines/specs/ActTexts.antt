-- The lines of a station's acts, one row for each: this project's profile.
use Rattle.std.specs.Prelude.{ℕ, List, codes, decimal}
use Rattle.traffic_rules.specs.declared.acts.Act.{Act}
use Rattle.traffic_rules.specs.declared.acts.Act.TheVariants.{Send, Shown, Held, Answered, GaveUp, Distress, AlertEnded, CasualtyClosed}
use Rattle.line_grammar.specs.Shapes.{digits}
use Rattle.line_grammar.specs.Sections.{labelled}
use Rattle.line_grammar.specs.Grammar.{Grammar, finish, word, none, part, written}
use Rattle.call_texts.specs.CallGrammar.{identity, ship_in_distress}
use Rattle.call_texts.specs.CallParts.{form_of, parts_of, ship_in_distress_parts}
use Rattle.station_lines.specs.Moments.{number, at_moment}

-- a call is sent, so many times in a row
abbrev pub send : Grammar → Grammar
send call = labelled (codes "send ") number (word (codes " ") call)

-- the heard call is shown to the operator
abbrev pub shown : Grammar
shown = word (codes "shown") finish

-- the call is held under this number
abbrev pub held : Grammar
held = labelled (codes "held ") number finish

-- the heard call answers the one that is held under this number
abbrev pub answered : Grammar
answered = labelled (codes "answered ") number finish

-- the call that is held under this number is given up
abbrev pub gave_up : Grammar
gave_up = labelled (codes "gaveup ") number finish

-- the operator is informed of a ship in distress, with the same fields as in a call's text
abbrev pub distress : Grammar
distress = word (codes "distress") (ship_in_distress finish)

-- the station's own distress alert is off
abbrev pub ended : Grammar
ended = word (codes "ended") finish

-- another station has acknowledged the distress alert of this ship
abbrev pub closed : Grammar
closed = labelled (codes "closed ") identity finish

-- what is written of an act
abbrev pub told_act : Act → List ℕ
told_act (Send call times) = written (send (form_of call finish)) (part (decimal times) (parts_of call none))
told_act Shown = written shown none
told_act (Held k) = written held (part (decimal k) none)
told_act (Answered k) = written answered (part (decimal k) none)
told_act (GaveUp k) = written gave_up (part (decimal k) none)
told_act (Distress casualty) = written distress (ship_in_distress_parts casualty none)
told_act AlertEnded = written ended none
told_act (CasualtyClosed ship) = written closed (part (digits 9 ship) none)

-- an act's line at a moment, without its end
abbrev pub act_text : ℕ → Act → List ℕ
act_text at act = at_moment at (told_act act)
