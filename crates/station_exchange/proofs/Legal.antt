-- the history of the exchange by its lines is legal
use Rattle.std.proofs.Common.{◌≡◌, ℕ, Some, None, [], ◌∷◌, refl, sym, subst}
use Rattle.traffic_lines.specs.declared.lines.Event.TheVariants.{Does, Comes}
use Rattle.traffic_lines.specs.declared.worlds.EndEvent as entries
use Rattle.traffic_lines.specs.declared.worlds.EndEvent.TheVariants.{AtShip, AtCoast}
use Rattle.traffic_lines.specs.declared.worlds.ExchangePoint.{ExchangePoint}
use Rattle.traffic_lines.specs.declared.worlds.ExchangePoint.TheVariants as point
use Rattle.traffic_lines.specs.declared.worlds.WorldLine.{WorldLine}
use Rattle.traffic_lines.specs.declared.worlds.WorldLine.TheVariants.{Ship, Coast, Base, EndEvent}
use Rattle.traffic_lines.specs.Worlds.{IsEndEvent, MayStandInWorld}
use Rattle.line_engine.specs.Lines.{Lines}
use Rattle.station_lines.proofs.PublicLaws.{ship_deed_lawful, coast_deed_lawful}
use Rattle.exchange.specs.declared.events.WorldEvent.{WorldEvent}
use Rattle.exchange.specs.WorldHistories.{WorldHistory}
use Rattle.exchange.specs.WorldRules.{Parties, IsFromOutside, IsWorldEvent, world_continued, IsLegal}
use Rattle.station_exchange.specs.Events.{event_of}
use Rattle.station_exchange.specs.Said.{Said, point_of, base_of, parties_of, world_of, AreSaid}
use Rattle.station_exchange.proofs.Happened.{outside}

-- a legal exchange goes on legally
abbrev pub GoesOn : Type 0
GoesOn = (who : Parties) (w : WorldHistory) (event : WorldEvent) → IsFromOutside event → IsWorldEvent event → IsLegal who w → IsLegal who (world_continued who w event)

-- the parts of the event of an event line are in their ranges
entry_lawful : (base : ℕ) (entry : entries.EndEvent) → IsEndEvent entry → IsWorldEvent (event_of base entry)
entry_lawful base (AtShip at (Does deed)) is = ship_deed_lawful base at deed is.1
entry_lawful base (AtShip at (Comes number)) is = tt
entry_lawful base (AtCoast at (Does deed)) is = coast_deed_lawful deed is.1
entry_lawful base (AtCoast at (Comes number)) is = tt

-- in front of the events
abbrev IsEarly : ExchangePoint → Type 0
IsEarly point.Events = ⊥
IsEarly _ = Unit {0}

abbrev Names : WorldLine → Type 0
Names (EndEvent entry) = ⊥
Names _ = Unit {0}

early : (says : WorldLine) → Names says → (p : ExchangePoint) → MayStandInWorld p says → IsEarly p
early (EndEvent entry) names = absurd names
early _ names = elim [ point.Ship ↦ λ may. tt | point.Coast ship ↦ λ may. tt | point.Base ↦ λ may. tt | point.Events ↦ λ may. may ]

-- nothing happened there
none_early : (said : Said) (lines : Lines) → AreSaid said lines → IsEarly (point_of said) → world_of said ≡ []
none_early [] lines are early = refl
none_early (None ∷ said) lines are early = none_early said are.0 are.4 early
none_early (Some (Ship mmsi) ∷ said) lines are in_front = none_early said are.0 are.4 (early (Ship mmsi) tt (point_of said) are.3.0)
none_early (Some (Coast mmsi band) ∷ said) lines are in_front = none_early said are.0 are.4 (early (Coast mmsi band) tt (point_of said) are.3.0)
none_early (Some (Base second) ∷ said) lines are in_front = none_early said are.0 are.4 (early (Base second) tt (point_of said) are.3.0)
none_early (Some (EndEvent entry) ∷ said) lines are early = absurd early

nothing_legal : (who : Parties) (w : WorldHistory) → w ≡ [] → IsLegal who w
nothing_legal who w none = subst (IsLegal who) (sym none) (record { ship = tt; coast = tt; answered = tt })

pub said_legal : GoesOn → (said : Said) (lines : Lines) → AreSaid said lines → IsLegal (parties_of said) (world_of said)
said_legal goes [] lines are = nothing_legal (parties_of []) [] refl
said_legal goes (None ∷ said) lines are = said_legal goes said are.0 are.4
said_legal goes (Some (Ship mmsi) ∷ said) lines are =
    nothing_legal (parties_of (Some (Ship mmsi) ∷ said)) (world_of said) (none_early said are.0 are.4 (early (Ship mmsi) tt (point_of said) are.3.0))
said_legal goes (Some (Coast mmsi band) ∷ said) lines are =
    nothing_legal (parties_of (Some (Coast mmsi band) ∷ said)) (world_of said) (none_early said are.0 are.4 (early (Coast mmsi band) tt (point_of said) are.3.0))
said_legal goes (Some (Base second) ∷ said) lines are = said_legal goes said are.0 are.4
said_legal goes (Some (EndEvent entry) ∷ said) lines are =
    goes (parties_of said) (world_of said) (event_of (base_of said) entry) (outside (base_of said) entry) (entry_lawful (base_of said) entry are.3.1.0)
    (said_legal goes said are.0 are.4)
