-- the rows of each point, and its lines among all
use Rattle.std.proofs.Common.{◌≡◌, ◌≢◌, ℕ, ◌<◌, ◌≤◌, true, false, List, Option, Some, None, refl, arith}
use Rattle.call_values.specs.declared.choices.Band.{Band}
use Rattle.call_values.specs.Identity.{IsMmsi}
use Rattle.line_grammar.specs.Grammar.{finish}
use Rattle.line_grammar.specs.Rows.{IsWritten}
use Rattle.line_grammar.specs.inside.Reading.{fits}
use Rattle.line_grammar.specs.inside.Soundness.{is_sound, is_unambiguous}
use Rattle.line_grammar.proofs.Judged.{HasGrammar}
use Rattle.line_grammar.proofs.Rows.{WholeRows, IsAmong, among_grammar}
use Rattle.traffic_lines.specs.declared.lines.Event as events
use Rattle.traffic_lines.specs.declared.lines.Event.TheVariants.{Does, Comes}
use Rattle.traffic_lines.specs.declared.lines.Deed.TheVariants.{Own, Tick, Send, Answer}
use Rattle.traffic_lines.specs.declared.lines.CoastOwn.{CoastOwn}
use Rattle.traffic_lines.specs.declared.lines.Hearing.{Hearing}
use Rattle.traffic_lines.specs.declared.lines.ShipOwn.{ShipOwn}
use Rattle.traffic_lines.specs.declared.lines.StationOwn.{StationOwn}
use Rattle.traffic_lines.specs.declared.lines.StationOwn.TheVariants as own
use Rattle.traffic_lines.specs.declared.lines.StationLine.TheVariants as station
use Rattle.traffic_lines.specs.declared.lines.ShipLine.{ShipLine}
use Rattle.traffic_lines.specs.declared.lines.ShipLine.TheVariants as body
use Rattle.traffic_lines.specs.declared.lines.Point.TheVariants as point
use Rattle.traffic_lines.specs.declared.lines.TrafficLine.{TrafficLine}
use Rattle.traffic_lines.specs.declared.lines.TrafficLine.TheVariants.{Ship, Coast, Base, Group, Event}
use Rattle.traffic_lines.specs.declared.worlds.ExchangePoint.{ExchangePoint}
use Rattle.traffic_lines.specs.declared.worlds.ExchangePoint.TheVariants as world_point
use Rattle.traffic_lines.specs.declared.worlds.WorldLine.{WorldLine}
use Rattle.traffic_lines.specs.declared.worlds.WorldLine.TheVariants as world
use Rattle.traffic_lines.specs.Events.{IsShipOwn, IsCoastOwn, IsStationOwn, IsHearing, IsEvent}
use Rattle.traffic_lines.specs.Lines.{ship, coast, coast_station_parts, group_parts, stations, stations_parts, IsStation, base, base_parts, IsBase, ship_event, ship_event_parts, IsShipEvent, coast_event, coast_event_parts, IsCoastEvent, ship_lines, ship_lines_parts, IsShipLine, lines, line_parts, IsLine, event_with, IsOfShip, IsOfCoast, IsLineText, IsTrafficLine, line_of_station, line_of_ship, line_of_coast, ship_point, IsFull}
use Rattle.traffic_lines.specs.Worlds.{other_identity, end_event, end_event_parts, IsEndEvent, IsOtherCoast, world_lines, world_parts, IsWorld, IsWorldLine}
use Rattle.traffic_lines.proofs.LineSections.{identity_section, stations_section, base_section, group_section, ship_event_section, coast_event_section, ship_lines_section, lines_section, end_event_section, world_section}
use Rattle.traffic_lines.proofs.OtherIdentities.{other_rows}

-- ---- the rows, which distinguish their values
pub identity_rows : WholeRows ship IsMmsi group_parts
unfolding fits
identity_rows = record { section = identity_section; sound = refl; plain = refl; all = refl }

pub stations_rows : WholeRows stations IsStation stations_parts
unfolding fits
stations_rows = record { section = stations_section; sound = refl; plain = refl; all = refl }

pub base_rows : WholeRows base IsBase base_parts
unfolding fits
base_rows = record { section = base_section; sound = refl; plain = refl; all = refl }

pub ship_event_rows : WholeRows ship_event IsShipEvent ship_event_parts
unfolding fits
ship_event_rows = record { section = ship_event_section; sound = refl; plain = refl; all = refl }

pub coast_event_rows : WholeRows coast_event IsCoastEvent coast_event_parts
unfolding fits
coast_event_rows = record { section = coast_event_section; sound = refl; plain = refl; all = refl }

pub ship_lines_rows : WholeRows ship_lines IsShipLine ship_lines_parts
unfolding fits
ship_lines_rows = record { section = ship_lines_section; sound = refl; plain = refl; all = refl }

pub lines_rows : WholeRows lines IsLine line_parts
unfolding fits
lines_rows = record { section = lines_section; sound = refl; plain = refl; all = refl }

pub end_event_rows : WholeRows end_event IsEndEvent end_event_parts
unfolding fits
end_event_rows = record { section = end_event_section; sound = refl; plain = refl; all = refl }

pub world_rows : WholeRows world_lines IsWorld world_parts
unfolding fits
world_rows = record { section = world_section; sound = refl; plain = refl; all = refl }

-- ---- the points of traffic files
pub stations_among : IsAmong (IsWritten stations IsStation stations_parts) (IsTrafficLine point.Station) line_of_station
stations_among = record {
  to = elim [ station.Ship m ↦ λ bytes h. (tt, h) | station.Coast m b ↦ λ bytes h. (tt, h) ];
  back = elim [ Ship m ↦ λ bytes h. (station.Ship m, h.1) | Coast m b ↦ λ bytes h. (station.Coast m b, h.1) | Base s ↦ λ bytes h. absurd h.0 | Group m ↦ λ bytes h. absurd h.0 | Event at what ↦ λ bytes h. absurd h.0 ];
}

pub base_among : IsAmong (IsWritten base IsBase base_parts) (IsTrafficLine point.Base) Base
base_among = record {
  to = λ s bytes h. (tt, h);
  back = elim [ Ship m ↦ λ bytes h. absurd h.0 | Coast m b ↦ λ bytes h. absurd h.0 | Base s ↦ λ bytes h. (s, h.1) | Group m ↦ λ bytes h. absurd h.0 | Event at what ↦ λ bytes h. absurd h.0 ];
}

-- an event of a ship, and of a coast station, is one of a station
ship_to : (at : ℕ) (what : events.Event ShipOwn Hearing) (bytes : List ℕ) → IsWritten ship_event IsShipEvent ship_event_parts (at, what) bytes
    → IsOfShip (event_with own.Ship what) × IsLineText (Event at (event_with own.Ship what)) bytes
ship_to at (Comes w) bytes h = (tt, h)
ship_to at (Does (Own w)) bytes h = (tt, h)
ship_to at (Does Tick) bytes h = (tt, h)
ship_to at (Does (Answer k true)) bytes h = (tt, h)
ship_to at (Does (Answer k false)) bytes h = (tt, h)
ship_to at (Does (Send call)) bytes h = (tt, h)

ship_back : (at : ℕ) (what : events.Event StationOwn Hearing) (bytes : List ℕ) → IsOfShip what → IsLineText (Event at what) bytes
    → (w : ℕ × events.Event ShipOwn Hearing) × IsWritten ship_event IsShipEvent ship_event_parts w bytes
ship_back at (Comes w) bytes o h = ((at, Comes w), h)
ship_back at (Does (Own (own.Ship w))) bytes o h = ((at, Does (Own w)), h)
ship_back at (Does (Own (own.Coast w))) bytes o h = absurd o
ship_back at (Does Tick) bytes o h = ((at, Does Tick), h)
ship_back at (Does (Answer k true)) bytes o h = ((at, Does (Answer k true)), h)
ship_back at (Does (Answer k false)) bytes o h = ((at, Does (Answer k false)), h)
ship_back at (Does (Send call)) bytes o h = ((at, Does (Send call)), h)

coast_to : (at : ℕ) (what : events.Event CoastOwn Hearing) (bytes : List ℕ) → IsWritten coast_event IsCoastEvent coast_event_parts (at, what) bytes
    → IsOfCoast (event_with own.Coast what) × IsLineText (Event at (event_with own.Coast what)) bytes
coast_to at (Comes w) bytes h = (tt, h)
coast_to at (Does (Own w)) bytes h = (tt, h)
coast_to at (Does Tick) bytes h = (tt, h)
coast_to at (Does (Answer k true)) bytes h = (tt, h)
coast_to at (Does (Answer k false)) bytes h = (tt, h)
coast_to at (Does (Send call)) bytes h = (tt, h)

coast_back : (at : ℕ) (what : events.Event StationOwn Hearing) (bytes : List ℕ) → IsOfCoast what → IsLineText (Event at what) bytes
    → (w : ℕ × events.Event CoastOwn Hearing) × IsWritten coast_event IsCoastEvent coast_event_parts w bytes
coast_back at (Comes w) bytes o h = ((at, Comes w), h)
coast_back at (Does (Own (own.Coast w))) bytes o h = ((at, Does (Own w)), h)
coast_back at (Does (Own (own.Ship w))) bytes o h = absurd o
coast_back at (Does Tick) bytes o h = ((at, Does Tick), h)
coast_back at (Does (Answer k true)) bytes o h = ((at, Does (Answer k true)), h)
coast_back at (Does (Answer k false)) bytes o h = ((at, Does (Answer k false)), h)
coast_back at (Does (Send call)) bytes o h = ((at, Does (Send call)), h)

pub coast_among : IsAmong (IsWritten coast_event IsCoastEvent coast_event_parts) (IsTrafficLine point.Coast) line_of_coast
coast_among = record {
  to = λ w bytes h. coast_to w.0 w.1 bytes h;
  back = elim [ Ship m ↦ λ bytes h. absurd h.0 | Coast m b ↦ λ bytes h. absurd h.0 | Base s ↦ λ bytes h. absurd h.0 | Group m ↦ λ bytes h. absurd h.0 | Event at what ↦ λ bytes h. coast_back at what bytes h.0 h.1 ];
}

-- where groups may come
groups_to : (held : ℕ) → held < 16 → (w : ShipLine) (bytes : List ℕ) → IsWritten ship_lines IsShipLine ship_lines_parts w bytes → IsTrafficLine (point.Groups held) (line_of_ship w) bytes
groups_to held few (body.Group m) bytes h = (few, h)
groups_to held few (body.Event at what) bytes h = ship_to at what bytes h

groups_back : (held : ℕ) (line : TrafficLine) (bytes : List ℕ) → IsTrafficLine (point.Groups held) line bytes → (w : ShipLine) × IsWritten ship_lines IsShipLine ship_lines_parts w bytes
groups_back held (Group m) bytes h = (body.Group m, h.1)
groups_back held (Event at what) bytes h = (let w = ship_back at what bytes h.0 h.1 in (body.Event w.0.0 w.0.1, w.1))
groups_back held _ bytes h = absurd h.0

pub groups_among : (held : ℕ) → held < 16 → IsAmong (IsWritten ship_lines IsShipLine ship_lines_parts) (IsTrafficLine (point.Groups held)) line_of_ship
groups_among held few = record { to = groups_to held few; back = groups_back held }

-- where they may not
full_to : (groups : Option ℕ) (at : ℕ) (what : events.Event ShipOwn Hearing) (bytes : List ℕ) → IsWritten ship_event IsShipEvent ship_event_parts (at, what) bytes
    → IsTrafficLine (ship_point groups) (line_of_ship (body.Event at what)) bytes
full_to (Some held) at what bytes h = ship_to at what bytes h
full_to None at what bytes h = ship_to at what bytes h

full_back : (groups : Option ℕ) → IsFull groups → (line : TrafficLine) (bytes : List ℕ) → IsTrafficLine (ship_point groups) line bytes
    → (w : ℕ × events.Event ShipOwn Hearing) × IsWritten ship_event IsShipEvent ship_event_parts w bytes
full_back (Some held) full (Group m) bytes h = absurd (omega (arith, full, h.0))
full_back (Some held) full (Event at what) bytes h = ship_back at what bytes h.0 h.1
full_back (Some held) full _ bytes h = absurd h.0
full_back None full (Event at what) bytes h = ship_back at what bytes h.0 h.1
full_back None full _ bytes h = absurd h.0

pub full_among : (groups : Option ℕ) → IsFull groups
    → IsAmong (IsWritten ship_event IsShipEvent ship_event_parts) (IsTrafficLine (ship_point groups)) (λ (w : ℕ × events.Event ShipOwn Hearing). line_of_ship (body.Event w.0 w.1))
full_among groups full = record { to = λ w bytes h. full_to groups w.0 w.1 bytes h; back = full_back groups full }

-- ---- the points of files of exchanges
pub world_ship_among : IsAmong (IsWritten ship IsMmsi group_parts) (IsWorldLine world_point.Ship) world.Ship
world_ship_among = record {
  to = λ m bytes h. (tt, h);
  back = elim [ world.Ship m ↦ λ bytes h. (m, h.1) | world.Coast m b ↦ λ bytes h. absurd h.0 | world.Base s ↦ λ bytes h. absurd h.0 | world.EndEvent e ↦ λ bytes h. absurd h.0 ];
}

pub other_among : (ship : ℕ)
    → IsAmong (IsWritten (coast (other_identity ship)) (IsOtherCoast ship) coast_station_parts) (IsWorldLine (world_point.Coast ship)) (λ (w : ℕ × Band). world.Coast w.0 w.1)
other_among ship = record {
  to = λ w bytes h. (h.0.0.1, (h.0.0.0, h.1));
  back = elim [ world.Ship m ↦ λ bytes h. absurd h.0 | world.Coast m b ↦ λ bytes h. ((m, b), (((h.1.0, h.0), tt), h.1.1)) | world.Base s ↦ λ bytes h. absurd h.0 | world.EndEvent e ↦ λ bytes h. absurd h.0 ];
}

pub world_base_among : IsAmong (IsWritten base IsBase base_parts) (IsWorldLine world_point.Base) world.Base
world_base_among = record {
  to = λ s bytes h. (tt, h);
  back = elim [ world.Ship m ↦ λ bytes h. absurd h.0 | world.Coast m b ↦ λ bytes h. absurd h.0 | world.Base s ↦ λ bytes h. (s, h.1) | world.EndEvent e ↦ λ bytes h. absurd h.0 ];
}

pub end_event_among : IsAmong (IsWritten end_event IsEndEvent end_event_parts) (IsWorldLine world_point.Events) world.EndEvent
end_event_among = record {
  to = λ e bytes h. (tt, h);
  back = elim [ world.Ship m ↦ λ bytes h. absurd h.0 | world.Coast m b ↦ λ bytes h. absurd h.0 | world.Base s ↦ λ bytes h. absurd h.0 | world.EndEvent e ↦ λ bytes h. (e, h.1) ];
}

-- a point names an identity
abbrev pub IsExchangePoint : ExchangePoint → Type 0
IsExchangePoint (world_point.Coast mmsi) = IsMmsi mmsi
IsExchangePoint _ = Unit {0}

-- the lines of each point are those of a sound grammar
pub world_grammar : (at : ExchangePoint) → IsExchangePoint at → HasGrammar (IsWorldLine at)
world_grammar world_point.Ship is = among_grammar identity_rows world_ship_among
world_grammar (world_point.Coast mmsi) is = among_grammar (other_rows mmsi is) (other_among mmsi)
world_grammar world_point.Base is = among_grammar base_rows world_base_among
world_grammar world_point.Events is = among_grammar end_event_rows end_event_among
