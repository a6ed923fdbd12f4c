-- the rows of lines, and the parts of their texts
use Rattle.std.proofs.Common.{◌≡◌, ◌≢◌, ℕ, true, ◌⊎◌, inl, inr, codes, refl, arith}
use Rattle.call_values.specs.declared.choices.Band.{Band}
use Rattle.call_values.specs.declared.choices.Band.TheVariants.{Mf, Hf, Vhf}
use Rattle.call_values.specs.Identity.{IsMmsi}
use Rattle.call_texts.specs.CallGrammar.{identity}
use Rattle.call_texts.proofs.PublicLaws.{identity_told}
use Rattle.line_grammar.specs.Shapes.{digits}
use Rattle.line_grammar.specs.Tokens.{Token}
use Rattle.line_grammar.specs.Grammar.{Grammar, Parts}
use Rattle.line_grammar.proofs.Sections.{TokenTexts, Section, worded, fielded, labelled, nothing, followed, sided}
use Rattle.line_grammar.proofs.Rows.{under}
use Rattle.traffic_lines.specs.declared.{lines.StationLine.StationLine, lines.ShipLine.ShipLine, lines.TrafficLine.TrafficLine, worlds.WorldLine.WorldLine}
use Rattle.traffic_lines.specs.declared.lines.StationLine.TheVariants as station
use Rattle.traffic_lines.specs.declared.lines.ShipLine.TheVariants as body
use Rattle.traffic_lines.specs.declared.lines.TrafficLine.TheVariants.{Ship, Coast, Base, Group, Event}
use Rattle.traffic_lines.specs.declared.worlds.EndEvent as entries
use Rattle.traffic_lines.specs.declared.worlds.EndEvent.TheVariants.{AtShip, AtCoast}
use Rattle.traffic_lines.specs.declared.worlds.WorldLine.TheVariants as world
use Rattle.traffic_lines.specs.Lines.{ship, band, band_parts, coast, coast_station_parts, stations, stations_parts, IsStation, base, base_parts, IsBase, group, group_parts, at_moment, moment_parts, IsAtMoment, ship_event, ship_event_parts, IsShipEvent, coast_event, coast_event_parts, IsCoastEvent, ship_lines, ship_lines_parts, IsShipLine, station_event, station_event_parts, IsStationEvent, lines, line_parts, IsLine}
use Rattle.traffic_lines.specs.Worlds.{at_ship, at_coast, end_event, end_event_parts, IsEndEvent, world_lines, world_parts, IsWorld}
use Rattle.traffic_lines.proofs.Tokens.{number_told, up_to_told}
use Rattle.traffic_lines.proofs.EventSections.{ship_section, coast_section, station_section, hearing_section, get_section, event_section}

-- in front of the events
pub identity_section : Section {V = ℕ} ship IsMmsi group_parts
identity_section = labelled (codes "station ship ") identity_told

band_section : Section {V = Band} band (λ _. Unit {0}) band_parts
band_section =
    under
    (sided (worded (codes " mf") nothing) (sided (worded (codes " hf") nothing) (worded (codes " vhf") nothing)))
    (elim [ inl u ↦ (Mf, λ q. refl, λ h. h) | inr (inl u) ↦ (Hf, λ q. refl, λ h. h) | inr (inr u) ↦ (Vhf, λ q. refl, λ h. h) ])
    (elim [ Mf ↦ (inl tt, refl, λ h. h) | Hf ↦ (inr (inl tt), refl, λ h. h) | Vhf ↦ (inr (inr tt), refl, λ h. h) ])

-- a coast station of such an identity
pub party_section : (party : Token) (Lawful : ℕ → Type 0) → TokenTexts party Lawful (digits 9) → Section {V = ℕ × Band} (coast party) (λ says. Lawful says.0 × Unit {0}) coast_station_parts
party_section party Lawful told = followed (labelled (codes "station coast ") told) band_section

pub stations_section : Section {V = StationLine} stations IsStation stations_parts
stations_section =
    under
    (sided identity_section (party_section identity IsMmsi identity_told))
    (elim [ inl m ↦ (station.Ship m, λ q. refl, λ h. h) | inr w ↦ (station.Coast w.0 w.1, λ q. refl, λ h. h.0) ])
    (elim [ station.Ship m ↦ (inl m, refl, λ h. h) | station.Coast m b ↦ (inr (m, b), refl, λ h. (h, tt)) ])

pub base_section : Section {V = ℕ} base IsBase base_parts
base_section = labelled (codes "base ") (up_to_told 9999999999 (omega arith))

pub group_section : Section {V = ℕ} group IsMmsi group_parts
group_section = labelled (codes "group ") identity_told

-- at a moment
pub moment_section : {E : Type 0} {event : Grammar → Grammar} {Lawful : E → Type 0} {parts : E → Parts → Parts} → Section event Lawful parts
    → Section {V = ℕ × E} (at_moment event) (IsAtMoment Lawful) (moment_parts parts)
moment_section s = followed (fielded number_told) (worded (codes " ") s)

pub ship_event_section : Section ship_event IsShipEvent ship_event_parts
ship_event_section = moment_section (event_section ship_section hearing_section)

pub coast_event_section : Section coast_event IsCoastEvent coast_event_parts
coast_event_section = moment_section (event_section coast_section hearing_section)

-- a group or an event of a ship
pub ship_lines_section : Section {V = ShipLine} ship_lines IsShipLine ship_lines_parts
ship_lines_section =
    under
    (sided group_section ship_event_section)
    (elim [ inl m ↦ (body.Group m, λ q. refl, λ h. h) | inr w ↦ (body.Event w.0 w.1, λ q. refl, λ h. h) ])
    (elim [ body.Group m ↦ (inl m, refl, λ h. h) | body.Event at what ↦ (inr (at, what), refl, λ h. h) ])

-- all lines of traffic files
pub lines_section : Section {V = TrafficLine} lines IsLine line_parts
lines_section =
    under
    (sided identity_section (sided (party_section identity IsMmsi identity_told) (sided base_section (sided group_section (moment_section (event_section station_section hearing_section))))))
    (elim [ inl m ↦ (Ship m, λ q. refl, λ h. h) | inr (inl w) ↦ (Coast w.0 w.1, λ q. refl, λ h. h.0) | inr (inr (inl s)) ↦ (Base s, λ q. refl, λ h. h) | inr (inr (inr (inl m))) ↦ (Group m, λ q. refl, λ h. h) | inr (inr (inr (inr w))) ↦ (Event w.0 w.1, λ q. refl, λ h. h) ])
    (elim [ Ship m ↦ (inl m, refl, λ h. h) | Coast m b ↦ (inr (inl (m, b)), refl, λ h. (h, tt)) | Base s ↦ (inr (inr (inl s)), refl, λ h. h) | Group m ↦ (inr (inr (inr (inl m))), refl, λ h. h) | Event at what ↦ (inr (inr (inr (inr (at, what)))), refl, λ h. h) ])

-- the event lines of exchanges, and all lines of theirs
pub end_event_section : Section {V = entries.EndEvent} end_event IsEndEvent end_event_parts
end_event_section =
    under
    (sided (worded (codes "s ") (moment_section (event_section ship_section get_section))) (worded (codes "c ") (moment_section (event_section coast_section get_section))))
    (elim [ inl w ↦ (AtShip w.0 w.1, λ q. refl, λ h. h) | inr w ↦ (AtCoast w.0 w.1, λ q. refl, λ h. h) ])
    (elim [ AtShip at what ↦ (inl (at, what), refl, λ h. h) | AtCoast at what ↦ (inr (at, what), refl, λ h. h) ])

pub world_section : Section {V = WorldLine} world_lines IsWorld world_parts
world_section =
    under
    (sided identity_section (sided (party_section identity IsMmsi identity_told) (sided base_section end_event_section)))
    (elim [ inl m ↦ (world.Ship m, λ q. refl, λ h. h) | inr (inl w) ↦ (world.Coast w.0 w.1, λ q. refl, λ h. h.0) | inr (inr (inl s)) ↦ (world.Base s, λ q. refl, λ h. h) | inr (inr (inr e)) ↦ (world.EndEvent e, λ q. refl, λ h. h) ])
    (elim [ world.Ship m ↦ (inl m, refl, λ h. h) | world.Coast m b ↦ (inr (inl (m, b)), refl, λ h. (h, tt)) | world.Base s ↦ (inr (inr (inl s)), refl, λ h. h) | world.EndEvent e ↦ (inr (inr (inr e)), refl, λ h. h) ])
