-- the rows of events, and the parts of their texts
use Rattle.std.proofs.Common.{◌≡◌, ℕ, Bool, true, false, ◌⊎◌, inl, inr, Option, Some, None, codes, refl, arith}
use Rattle.call_values.specs.declared.calls.Call.{Call}
use Rattle.call_texts.proofs.PublicLaws.{identity_told, address_told, position_told, nature_told, comm_told, calls_section, tail_section}
use Rattle.line_grammar.specs.Grammar.{Grammar, Parts}
use Rattle.line_grammar.proofs.Rows.{under}
use Rattle.line_grammar.proofs.Sections.{Section, worded, labelled, nothing, followed, sided}
use Rattle.traffic_lines.specs.declared.{lines.ShipOwn.ShipOwn, lines.CoastOwn.CoastOwn, lines.StationOwn.StationOwn, lines.Hearing.Hearing, lines.Event.Event, lines.Deed.Deed}
use Rattle.traffic_lines.specs.declared.lines.ShipOwn.TheVariants.{Position, Delay, Alert, Cancel}
use Rattle.traffic_lines.specs.declared.lines.CoastOwn.TheVariants.{Accept, Relay}
use Rattle.traffic_lines.specs.declared.lines.StationOwn.TheVariants as own
use Rattle.traffic_lines.specs.declared.lines.Hearing.TheVariants.{Hear, Heard}
use Rattle.traffic_lines.specs.declared.lines.Event.TheVariants.{Does, Comes}
use Rattle.traffic_lines.specs.declared.lines.Deed.TheVariants.{Own, Tick, Send, Answer}
use Rattle.traffic_lines.specs.Events.{ship_rows, ship_parts, IsShipOwn, perhaps_delay, delay_parts, IsPerhapsDelay, ask_or_tell, ask_parts, coast_rows, coast_parts, IsCoastOwn, station_rows, station_parts, IsStationOwn, hearing_rows, hearing_parts, IsHearing, get, get_parts, IsGet, deeds, deed_parts, IsDeed, event, event_parts, IsEvent}
use Rattle.traffic_lines.proofs.Tokens.{range_told, number_told}

-- what a ship alone does
pub ship_section : Section {V = ShipOwn} ship_rows IsShipOwn ship_parts
ship_section =
    under
    (sided (labelled (codes "position ") position_told) (sided (labelled (codes "delay ") (range_told 210000 270000 (omega arith))) (
    sided (followed (labelled (codes "alert nature=") nature_told) (labelled (codes " then=") comm_told)) (worded (codes "cancel") nothing))))
    (elim [ inl p ↦ (Position p, λ q. refl, λ h. h) | inr (inl ms) ↦ (Delay ms, λ q. refl, λ h. h) | inr (inr (inl w)) ↦ (Alert w.0 w.1, λ q. refl, λ h. h) | inr (inr (inr u)) ↦ (Cancel, λ q. refl, λ h. h) ])
    (elim [ Position p ↦ (inl p, refl, λ h. h) | Delay ms ↦ (inr (inl ms), refl, λ h. h) | Alert nature comm ↦ (inr (inr (inl (nature, comm))), refl, λ h. h) | Cancel ↦ (inr (inr (inr tt)), refl, λ h. h) ])

-- what a coast station alone does
delay_section : Section {V = Option ℕ} perhaps_delay IsPerhapsDelay delay_parts
delay_section =
    under
    (sided nothing (labelled (codes " ") (range_told 60000 165000 (omega arith))))
    (elim [ inl u ↦ (None, λ q. refl, λ h. h) | inr ms ↦ (Some ms, λ q. refl, λ h. h) ])
    (elim [ None ↦ (inl tt, refl, λ h. h) | Some ms ↦ (inr ms, refl, λ h. h) ])

ask_section : Section {V = Bool} ask_or_tell (λ _. Unit {0}) ask_parts
ask_section =
    under
    (sided (worded (codes " ask") nothing) (worded (codes " tell") nothing))
    (elim [ inl u ↦ (true, λ q. refl, λ h. h) | inr u ↦ (false, λ q. refl, λ h. h) ])
    (elim [ true ↦ (inl tt, refl, λ h. h) | false ↦ (inr tt, refl, λ h. h) ])

pub coast_section : Section {V = CoastOwn} coast_rows IsCoastOwn coast_parts
coast_section =
    under
    (sided (followed (labelled (codes "accept ") identity_told) delay_section) (
    followed (labelled (codes "relay ") identity_told) (followed (labelled (codes " to=") address_told) ask_section)))
    (elim [ inl w ↦ (Accept w.0 w.1, λ q. refl, λ h. h) | inr w ↦ (Relay w.0 w.1.0 w.1.1, λ q. refl, λ h. (h.0, h.1.0)) ])
    (elim [ Accept ship delay ↦ (inl (ship, delay), refl, λ h. h) | Relay ship to ask ↦ (inr (ship, (to, ask)), refl, λ h. (h.0, (h.1, tt))) ])

-- what a station of either kind alone does
pub station_section : Section {V = StationOwn} station_rows IsStationOwn station_parts
station_section =
    under
    (sided ship_section coast_section)
    (elim [ inl what ↦ (own.Ship what, λ q. refl, λ h. h) | inr what ↦ (own.Coast what, λ q. refl, λ h. h) ])
    (elim [ own.Ship what ↦ (inl what, refl, λ h. h) | own.Coast what ↦ (inr what, refl, λ h. h) ])

-- what comes to a station
pub hearing_section : Section {V = Hearing} hearing_rows IsHearing hearing_parts
hearing_section =
    under
    (sided (worded (codes "hear ") (followed calls_section tail_section)) (labelled (codes "heard g") number_told))
    (elim [ inl w ↦ (Hear w.0 w.1, λ q. refl, λ h. h) | inr group ↦ (Heard group, λ q. refl, λ h. h) ])
    (elim [ Hear call tail ↦ (inl (call, tail), refl, λ h. h) | Heard group ↦ (inr group, refl, λ h. h) ])

pub get_section : Section {V = ℕ} get IsGet get_parts
get_section = labelled (codes "get ") number_told

-- what a station does, and events
module _ {O : Type 0} {own : Grammar → Grammar} {P : O → Type 0} {f : O → Parts → Parts} (o : Section own P f) where
  deed_section : Section {V = Deed O} (deeds own) (IsDeed P) (deed_parts f)
  deed_section =
      under
      (sided o (sided (worded (codes "tick") nothing) (sided (labelled (codes "answer ") (range_told 1 16 (omega arith))) (
      sided (labelled (codes "decline ") (range_told 1 16 (omega arith))) (worded (codes "send ") calls_section)))))
      (elim [ inl w ↦ (Own w, λ q. refl, λ h. h) | inr (inl u) ↦ (Tick, λ q. refl, λ h. h) | inr (inr (inl k)) ↦ (Answer k true, λ q. refl, λ h. h) | inr (inr (inr (inl k))) ↦ (Answer k false, λ q. refl, λ h. h) | inr (inr (inr (inr call))) ↦ (Send call, λ q. refl, λ h. h) ])
      (elim [ Own w ↦ (inl w, refl, λ h. h) | Tick ↦ (inr (inl tt), refl, λ h. h) | Answer k true ↦ (inr (inr (inl k)), refl, λ h. h) | Answer k false ↦ (inr (inr (inr (inl k))), refl, λ h. h) | Send call ↦ (inr (inr (inr (inr call))), refl, λ h. h) ])

  pub event_section : {C : Type 0} {comes : Grammar → Grammar} {Q : C → Type 0} {g : C → Parts → Parts} → Section comes Q g → Section {V = Event O C} (event own comes) (IsEvent P Q) (event_parts f g)
  event_section c =
      under
      (sided c deed_section)
      (elim [ inl w ↦ (Comes w, λ q. refl, λ h. h) | inr deed ↦ (Does deed, λ q. refl, λ h. h) ])
      (elim [ Comes w ↦ (inl w, refl, λ h. h) | Does deed ↦ (inr deed, refl, λ h. h) ])
