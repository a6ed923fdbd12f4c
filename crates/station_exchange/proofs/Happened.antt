-- What comes of an event line.
use Rattle.std.proofs.Common.{◌≡◌, ℕ, codes, refl, sym, ◌∙◌, ap}
use Rattle.traffic_lines.specs.declared.lines.ShipOwn.{ShipOwn}
use Rattle.traffic_lines.specs.declared.lines.ShipOwn.TheVariants as own_ship
use Rattle.traffic_lines.specs.declared.lines.CoastOwn.{CoastOwn}
use Rattle.traffic_lines.specs.declared.lines.CoastOwn.TheVariants as own_coast
use Rattle.traffic_lines.specs.declared.lines.Deed.{Deed}
use Rattle.traffic_lines.specs.declared.lines.Deed.TheVariants.{Own, Tick, Send, Answer}
use Rattle.traffic_lines.specs.declared.lines.Event.{Event}
use Rattle.traffic_lines.specs.declared.lines.Event.TheVariants.{Does, Comes}
use Rattle.traffic_lines.specs.declared.worlds.EndEvent.{EndEvent}
use Rattle.traffic_lines.specs.declared.worlds.EndEvent.TheVariants.{AtShip, AtCoast}
use Rattle.station_lines.specs.Events.{ship_deed, coast_deed}
use Rattle.exchange.specs.declared.events.WorldEvent.{WorldEvent}
use Rattle.exchange.specs.WorldRules.{IsFromOutside, IsOwnOfShip, IsOwnOfCoast}
use Rattle.station_exchange.specs.Events.{event_at_ship, event_of}
use Rattle.station_exchange.specs.Output.{end_text}

-- an event of an end's own is no heard call
ship_own : (base at : ℕ) (deed : Deed ShipOwn) → IsOwnOfShip (ship_deed base at deed)
ship_own base at (Own (own_ship.Position place)) = tt
ship_own base at (Own (own_ship.Delay delay)) = tt
ship_own base at (Own (own_ship.Alert nature comm)) = tt
ship_own base at (Own own_ship.Cancel) = tt
ship_own base at _ = tt

coast_own : (deed : Deed CoastOwn) → IsOwnOfCoast (coast_deed deed)
coast_own (Own (own_coast.Accept mmsi delay)) = tt
coast_own (Own (own_coast.Relay mmsi to ask)) = tt
coast_own _ = tt

-- calls are heard as deliveries alone
pub outside : (base : ℕ) (entry : EndEvent) → IsFromOutside (event_of base entry)
outside base (AtShip at (Does deed)) = ship_own base at deed
outside base (AtShip at (Comes number)) = tt
outside base (AtCoast at (Does deed)) = coast_own deed
outside base (AtCoast at (Comes number)) = tt

-- the end of a line is that of its event
ship_end : (base at : ℕ) (what : Event ShipOwn ℕ) → codes "s " ≡ end_text (event_at_ship base at what)
ship_end base at (Does deed) = refl
ship_end base at (Comes number) = refl

-- the event that was made is that of a line
pub end_at_ship : (base at : ℕ) (what : Event ShipOwn ℕ) (entry : EndEvent) (made : WorldEvent)
    → made ≡ event_of base entry → entry ≡ AtShip at what → codes "s " ≡ end_text made
end_at_ship base at what entry made same is = ship_end base at what ∙ ap (λ (e : EndEvent). end_text (event_of base e)) (sym is) ∙ ap end_text (sym same)
