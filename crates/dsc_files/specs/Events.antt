-- The events of traffic lines, as events of any file: this project's profile.
use Rattle.std.specs.Prelude.{ℕ}
use Rattle.traffic_lines.specs.declared.lines.ShipOwn.TheVariants as ship
use Rattle.traffic_lines.specs.declared.lines.CoastOwn.TheVariants as coast
use Rattle.traffic_lines.specs.declared.lines.StationOwn.{StationOwn}
use Rattle.traffic_lines.specs.declared.lines.StationOwn.TheVariants as own
use Rattle.traffic_lines.specs.declared.lines.Deed.{Deed}
use Rattle.traffic_lines.specs.declared.lines.Deed.TheVariants.{Own, Tick, Send, Answer}
use Rattle.traffic_lines.specs.declared.lines.Hearing.{Hearing}
use Rattle.traffic_lines.specs.declared.lines.Hearing.TheVariants.{Hear, Heard}
use Rattle.traffic_lines.specs.declared.lines.Event.{Event}
use Rattle.traffic_lines.specs.declared.lines.Event.TheVariants.{Does, Comes}
use Rattle.traffic_lines.specs.Lines.{deed_with}
use Rattle.dsc_files.specs.declared.events.EventLine.{EventLine}
use Rattle.dsc_files.specs.declared.events.EventLine.TheVariants as line
use Rattle.dsc_files.specs.declared.events.ExchangeLine.{ExchangeLine}
use Rattle.dsc_files.specs.declared.events.ExchangeLine.TheVariants as exchange

-- what a station of one kind alone does
abbrev pub own_line : StationOwn → EventLine
own_line (own.Ship (ship.Position p)) = line.Position p
own_line (own.Ship (ship.Delay ms)) = line.Delay ms
own_line (own.Ship (ship.Alert nature comm)) = line.Alert nature comm
own_line (own.Ship ship.Cancel) = line.Cancel
own_line (own.Coast (coast.Accept mmsi delay)) = line.Accept mmsi delay
own_line (own.Coast (coast.Relay mmsi to ask)) = line.Relay mmsi to ask

-- what a station does
abbrev pub deed_line : Deed StationOwn → EventLine
deed_line (Own what) = own_line what
deed_line Tick = line.Tick
deed_line (Send call) = line.Send call
deed_line (Answer k accepts) = line.Answer k accepts

-- an event of a traffic file; the expansion of a heard call is left out
abbrev pub event_line : Event StationOwn Hearing → EventLine
event_line (Does deed) = deed_line deed
event_line (Comes (Hear call extra)) = line.Hear call
event_line (Comes (Heard group)) = line.Heard group

-- what happens at an end of an exchange
abbrev pub exchange_line : {O : Type 0} → (O → StationOwn) → Event O ℕ → ExchangeLine
exchange_line name (Does deed) = exchange.Event (deed_line (deed_with name deed))
exchange_line name (Comes number) = exchange.Get number
