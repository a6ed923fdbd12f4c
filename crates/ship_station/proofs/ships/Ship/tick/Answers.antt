use Rattle.std.proofs.Common.{◌≡◌, ℕ, ◌==◌, ◌&&◌, false, is_some, None, Option, List, ◌++◌, length, drop, if◌then◌else◌, refl, sym, ◌∙◌, ap}
use Rattle.std.specs.List.{list_any}
use Rattle.traffic_rules.specs.declared.acts.Act.{Act}
use Rattle.traffic_rules.specs.declared.refusals.StationRefusal.TheVariants.{NeedsDelay}
use Rattle.traffic_rules.specs.Histories.{Entry, History}
use Rattle.traffic_rules.specs.Holding.{Places}
use Rattle.traffic_rules.specs.Repeating.{repeats}
use Rattle.traffic_rules.specs.After.{after_tick}
use Rattle.traffic_rules.proofs.PublicLaws.{after_ticking}
use Rattle.ship_station.specs.declared.alerts.OwnAlert.{OwnAlert}
use Rattle.ship_station.specs.declared.events.ShipWhat.{ShipWhat}
use Rattle.ship_station.specs.declared.events.ShipWhat.TheVariants.{Tick}
use Rattle.ship_station.specs.declared.ships.Ship.{Ship}
use Rattle.ship_station.specs.Events.{ship_occurs}
use Rattle.ship_station.specs.Past.{is_attempt, is_end, kept, open_alert, last_attempt, delays_left}
use Rattle.ship_station.specs.ShipRules.{Identities, held, at_tick, refusal_at}
use Rattle.ship_station.specs.StandsFor.{Keeps}
use Rattle.ship_station.proofs.Steps.{accepted, answered, not_refused}
use Rattle.ship_station.proofs.Keeping.{keeps_after}
use Rattle.ship_station.proofs.Endings.{tick_end}
use Rattle.ship_station.proofs.Traffic.{attempts_missed, ends_missed, tick_quiet, tick_same, tick_test}
use Rattle.ship_station.proofs.ships.Ship.tick.Goals as goal

-- a ship says that it lacks a delay as its history does
delay_held : (who : Identities) (h : History ShipWhat) (ship : Ship) → Keeps ship who h → (is_some ship.alert && (length ship.delays.items == 0)) ≡ false
    → refusal_at who h Tick ≡ None
delay_held who h ship keeps some =
    not_refused _ NeedsDelay (sym (ap (λ (o : Option OwnAlert). is_some o && (length ship.delays.items == 0)) keeps.alert
    ∙ ap (λ (l : List ℕ). is_some (open_alert h) && (length l == 0)) keeps.delays) ∙ some)

pub returns-clause-answer : goal.returns-clause-answer
returns-clause-answer c who h stands late =
    let keeps = stands.1 in
    let ship = c.args.self.now in
    let at = c.args.at in
    let none = delay_held who h ship keeps (sym c.lacks_delay.ensures ∙ c.if-lacks_delay.false) in
    let front : c.attempt_again.new.acts.items ≡ at_tick who.own (kept h) (open_alert h) (delays_left h) (last_attempt h) at =
    c.attempt_again.ensures.acts ∙ tick_same who h ship at keeps in
    let same : c.attempt_again.new.self.held ≡ held h = ap (λ (s : Ship). s.held) c.attempt_again.ensures.others ∙ keeps.held in
    answered who h at Tick c.repeat.new.acts.items late none
    (sym (c.repeat.ensures.acts ∙ ap (λ (l : Places). c.attempt_again.new.acts.items ++ repeats at 1 l) same ∙ ap (λ (l : List Act). l ++ repeats at 1 (held h)) front))

pub returns-clause-goes_on : goal.returns-clause-goes_on
returns-clause-goes_on c who h stands late event =
    let keeps = stands.1 in
    let ship = c.args.self.now in
    let at = c.args.at in
    let none = delay_held who h ship keeps (sym c.lacks_delay.ensures ∙ c.if-lacks_delay.false) in
    let tick = at_tick who.own (kept h) (open_alert h) (delays_left h) (last_attempt h) at in
    let front : c.attempt_again.new.acts.items ≡ tick = c.attempt_again.ensures.acts ∙ tick_same who h ship at keeps in
    let others = c.attempt_again.ensures.others in
    let same : c.attempt_again.new.self.held ≡ held h = ap (λ (s : Ship). s.held) others ∙ keeps.held in
    let e : Entry ShipWhat = record { at = at; what = Tick; acts = tick ++ repeats at 1 (held h) } in
    let tried = list_any is_attempt tick in
    accepted who h at Tick (tick ++ repeats at 1 (held h)) _ late event stands.0 none refl
    (keeps_after who h e ship _ false tried keeps (record { place = refl; delay = refl; alert = refl })
    (tick_test is_end ends_missed tick at (held h) ∙ tick_end who.own (kept h) (open_alert h) (delays_left h) (last_attempt h) at)
    (tick_test is_attempt attempts_missed tick at (held h))
    (record {
      own = ap (λ (s : Ship). s.own) others;
      groups = ap (λ (s : Ship). s.groups) others;
      last = ap (λ (s : Ship). s.last) others;
      position = ap (λ (s : Ship). s.position) others;
      time = ap (λ (s : Ship). s.time) others;
      alert = ap (λ (s : Ship). s.alert) others;
      attempted = c.attempt_again.ensures.attempted ∙ ap (λ (l : List Act). if list_any is_attempt l then at else ship.attempted_at) front;
      delays = c.attempt_again.ensures.delays ∙ ap (λ (l : List Act). if list_any is_attempt l then drop 1 ship.delays.items else ship.delays.items) front;
    })
    (c.repeat.ensures.held ∙ ap (λ (l : Places). after_tick l at) same
    ∙ sym (after_ticking ship_occurs e h tick refl refl (tick_quiet who.own (kept h) (open_alert h) (delays_left h) (last_attempt h) at))))
