-- what comes of an event line
use Rattle.std.proofs.Common.{◌≡◌, ℕ, Bool, false, Some, List, ◌++◌, is_ok, Result, Ok, Err, OnOk, IfOk, refl, sym, ap, ◌∙◌, subst}
use Rattle.call_values.specs.declared.calls.Call.{Call}
use Rattle.slot_join.specs.declared.joined.Joined.{Joined}
use Rattle.slot_join.specs.declared.joined.Joined.TheVariants.{Reported, Missing, Differ, Outside, Check}
use Rattle.slot_join.specs.Answer.{IsAnswer}
use Rattle.traffic_rules.specs.Histories.{History}
use Rattle.traffic_rules.specs.Rules.{Rules, answer_to, continued}
use Rattle.ship_station.specs.declared.events.ShipWhat.TheVariants as at_ship
use Rattle.coast_station.specs.declared.events.CoastWhat.TheVariants as at_coast
use Rattle.station_lines.specs.Events.{EventLine, ship_deed, coast_deed, ship_event, coast_event}
use Rattle.traffic_lines.specs.declared.{lines.ShipOwn.ShipOwn, lines.CoastOwn.CoastOwn, lines.Deed.Deed, lines.Hearing.TheVariants.Heard}
use Rattle.traffic_lines.specs.declared.lines.StationOwn.TheVariants as own
use Rattle.traffic_lines.specs.declared.lines.Deed.TheVariants.{Own, Tick, Send, Answer}
use Rattle.traffic_lines.specs.Lines.{deed_with}
use Rattle.traffic_lines.specs.declared.lines.Event.TheVariants as event
use Rattle.traffic_replay.specs.declared.outcomes.Unreported.{Unreported}
use Rattle.traffic_replay.specs.Said.{Said}
use Rattle.traffic_replay.specs.HeardGroups.{facts_since_heard}
use Rattle.traffic_replay.specs.Happenings.{Taking, taking_ship, taking_coast, heard_as, ComesOf}
use Rattle.station_lines.specs.Answers.{answer_lines}
use Rattle.traffic_replay.specs.Output.{unreported_line}
use Rattle.traffic_replay.specs.inside.Happens.{Takes, Happens}

-- both kinds of station take lines by their deeds and by the calls that they hear
ship_deeds : (base at : ℕ) (deed : Deed ShipOwn) → ship_event base at (event.Does (deed_with own.Ship deed)) ≡ Some (ship_deed base at deed)
ship_deeds base at (Own what) = refl
ship_deeds base at _ = refl

pub ship_takes : (base at : ℕ) → base ≡ at → Takes taking_ship own.Ship (ship_deed base) at_ship.Heard at
ship_takes base at same = subst (λ (b : ℕ). Takes taking_ship own.Ship (ship_deed base) at_ship.Heard b) same
    (record { deeds = ship_deeds base; calls = λ at call extra. refl; heard = refl })

coast_deeds : (base at : ℕ) (deed : Deed CoastOwn) → coast_event base at (event.Does (deed_with own.Coast deed)) ≡ Some (coast_deed deed)
coast_deeds base at (Own what) = refl
coast_deeds base at _ = refl

pub coast_takes : (base : ℕ) → Takes taking_coast own.Coast (λ at. coast_deed) at_coast.Heard base
coast_takes base = record { deeds = coast_deeds base; calls = λ at call extra. refl; heard = refl }

-- what a step says where it ends well
pub tell : {E : Type 0} {S L : Type 0} {A B : Bool → Type 0} (r : Result Bool E) → ((b : Bool) → S → L → A b → B b) → OnOk r S → OnOk r L → IfOk r A → IfOk r B
tell (Ok b) f s l a = f b s l a
tell (Err e) f s l a = tt

-- an event line gives an event
pub plain_happens : {What : Type 0} (rules : Rules What) (taking : Taking What) (IsAt : History What → Type 0) (h : History What) (said : Said) (at : ℕ) (what : EventLine)
    (old new : List ℕ) (accepted : Bool) (event : What) → ComesOf taking said at what (Ok event)
    → IsAt (continued rules h at event) → new ≡ old ++ answer_lines at (answer_to rules h at event) → accepted ≡ is_ok (answer_to rules h at event)
    → Happens rules taking IsAt h said at what old new accepted
plain_happens rules taking IsAt h said at what old new accepted event comes stands lines well =
    record { outcome = Ok event; comes = comes; stands = stands; lines = lines; well = well }

-- what is heard comes to the same with an event made of the call
made : {What : Type 0} → (Call → What) → Result Call Unreported → Result What Unreported
made make (Ok call) = Ok (make call)
made make (Err u) = Err u

heard_made : {What : Type 0} (make : Call → What) (group : ℕ) (answer : Joined) → made make (heard_as (λ (c : Call). c) group answer) ≡ heard_as make group answer
unfolding made
heard_made make group (Reported found extra) = refl
heard_made make group _ = refl

heard_event : {What : Type 0} (make : Call → What) (group : ℕ) (answer : Joined) (call : Call) → heard_as (λ (c : Call). c) group answer ≡ Ok call → Ok (make call) ≡ heard_as make group answer
unfolding made
heard_event make group answer call is = ap (made make) (sym is) ∙ heard_made make group answer

heard_none : {What : Type 0} (make : Call → What) (group : ℕ) (answer : Joined) (u : Unreported) → heard_as (λ (c : Call). c) group answer ≡ Err u → Err u ≡ heard_as make group answer
unfolding made
heard_none make group answer u is = ap (made make) (sym is) ∙ heard_made make group answer

-- a heard group reports its call
pub heard_happens : {What : Type 0} (rules : Rules What) (taking : Taking What) (IsAt : History What → Type 0) (h : History What) (said : Said) (at group : ℕ)
    (old new : List ℕ) (accepted : Bool) (answer : Joined) (call : Call) → IsAnswer (facts_since_heard group said) answer → heard_as (λ (c : Call). c) group answer ≡ Ok call
    → IsAt (continued rules h at (taking.heard call)) → new ≡ old ++ answer_lines at (answer_to rules h at (taking.heard call)) → accepted ≡ is_ok (answer_to rules h at (taking.heard call))
    → Happens rules taking IsAt h said at (event.Comes (Heard group)) old new accepted
heard_happens rules taking IsAt h said at group old new accepted answer call answers is stands lines well =
    record { outcome = Ok (taking.heard call); comes = (answer, answers, heard_event taking.heard group answer call is); stands = stands; lines = lines; well = well }

-- a heard group isn't reported
pub unheard_happens : {What : Type 0} (rules : Rules What) (taking : Taking What) (IsAt : History What → Type 0) (h : History What) (said : Said) (at group : ℕ)
    (old new : List ℕ) (accepted : Bool) (answer : Joined) (u : Unreported) → IsAnswer (facts_since_heard group said) answer → heard_as (λ (c : Call). c) group answer ≡ Err u
    → IsAt h → new ≡ old ++ unreported_line at u → accepted ≡ false → Happens rules taking IsAt h said at (event.Comes (Heard group)) old new accepted
unheard_happens rules taking IsAt h said at group old new accepted answer u answers is stands lines well =
    record { outcome = Err u; comes = (answer, answers, heard_none taking.heard group answer u is); stands = stands; lines = lines; well = well }
