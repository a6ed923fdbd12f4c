-- a ship that keeps what a history with one more accepted event says stands for that history
use Rattle.std.proofs.Common.{◌≡◌, ℕ, ◌≤◌, ◌==◌, Bool, false, Some, None, is_some, Result, Ok, List, ◌∷◌, length, if◌then◌else◌, sym, ◌∙◌, ap, subst}
use Rattle.std.specs.Prelude.{OnOk, OnErr}
use Rattle.std.proofs.lemmas.Result.{on_err_weaker}
use Rattle.traffic_rules.specs.declared.acts.Act.{Act}
use Rattle.traffic_rules.specs.declared.refusals.StationRefusal.{StationRefusal}
use Rattle.traffic_rules.specs.declared.refusals.StationRefusal.TheVariants.{AlertActive, NeedsDelay}
use Rattle.traffic_rules.specs.Histories.{Entry, History, last_moment}
use Rattle.traffic_rules.specs.Rules.{refusal_or, answer_to, continued, Legal}
use Rattle.traffic_rules.proofs.PublicLaws.{refused_on_time, answer_accepted, continued_accepted, legal_continued, goes_on}
use Rattle.traffic_rules.specs.Giving.{answer_with}
use Rattle.traffic_rules.specs.Occurrences.{other}
use Rattle.traffic_rules.proofs.PublicLaws.{AreQuiet, after_nothing}
use Rattle.ship_station.specs.declared.events.ShipWhat.{ShipWhat}
use Rattle.ship_station.specs.declared.events.ShipWhat.TheVariants.{Alert}
use Rattle.ship_station.specs.declared.ships.Ship.{Ship}
use Rattle.ship_station.specs.Events.{IsShipWhat, ship_occurs}
use Rattle.ship_station.specs.Past.{open_alert, delays_left}
use Rattle.ship_station.specs.ShipRules.{Identities, held, refused_where, refusal_at, due_at, ship_rules}
use Rattle.ship_station.specs.StandsFor.{Keeps, StandsFor}

-- after an accepted event the ship stands for the history that goes on
pub accepted : (who : Identities) (h : History ShipWhat) (at : ℕ) (what : ShipWhat) (acts : List Act) (new : Ship) → last_moment h ≤ at → IsShipWhat what
    → Legal (ship_rules who) h → refusal_at who h what ≡ None → due_at who h at what ≡ acts
    → Keeps new who (record { at = at; what = what; acts = acts } ∷ h) → StandsFor new who (continued (ship_rules who) h at what)
accepted who h at what acts new late event legal none due keeps =
    let goes = continued_accepted (ship_rules who) h at what (refused_on_time (ship_rules who) h at what late ∙ none) in
    let here = subst (λ (some : List Act). Keeps new who (record { at = at; what = what; acts = some } ∷ h)) (sym due) keeps in
    (legal_continued (ship_rules who) h at what event legal, subst (λ (g : History ShipWhat). Keeps new who g) (sym goes) here)

-- a test that is false refuses nothing
pub not_refused : (test : Bool) (refusal : StationRefusal) → test ≡ false → refused_where test refusal ≡ None
not_refused test refusal h = ap (λ b. refused_where b refusal) h

-- the answer to an event that isn't refused is the acts that are due
pub answered : (who : Identities) (h : History ShipWhat) (at : ℕ) (what : ShipWhat) (acts : List Act) → last_moment h ≤ at
    → refusal_at who h what ≡ None → due_at who h at what ≡ acts → Ok acts ≡ answer_to (ship_rules who) h at what
answered who h at what acts late none due =
    ap (λ (some : List Act). Ok some) (sym due) ∙ sym (answer_accepted (ship_rules who) h at what (refused_on_time (ship_rules who) h at what late ∙ none))

-- a ship that is as it was after a refusal, and keeps what its history says after an accepted event, goes on as its
-- history does
pub goes : (who : Identities) (h : History ShipWhat) (at : ℕ) (what : ShipWhat) (old new : Ship) (result : Result (Unit {0}) StationRefusal) (acts : List Act)
    → last_moment h ≤ at → IsShipWhat what → StandsFor old who h → answer_with result acts ≡ refusal_or (refusal_at who h what) (due_at who h at what)
    → OnErr result (new ≡ old)
    → (refusal_at who h what ≡ None → OnOk result (Keeps new who (record { at = at; what = what; acts = due_at who h at what } ∷ h)))
    → StandsFor new who (continued (ship_rules who) h at what)
goes who h at what old new result acts late event stands answer same keeps =
    goes_on (ship_rules who) h at what (λ (g : History ShipWhat). Keeps new who g) result acts late event stands.0 answer
    (on_err_weaker result (λ is. subst (λ (ship : Ship). Keeps ship who h) (sym is) stands.1) same) keeps

-- an event that mentions no held call
pub holds_on : (e : Entry ShipWhat) (h : History ShipWhat) → ship_occurs e.what ≡ other → AreQuiet e.acts → held (e ∷ h) ≡ held h
holds_on e h happens quiet = after_nothing ship_occurs e h happens quiet

pub alert_accepted : (who : Identities) (h : History ShipWhat) (nature comm : ℕ) → is_some (open_alert h) ≡ false → (length (delays_left h) == 0) ≡ false
    → refusal_at who h (Alert nature comm) ≡ None
alert_accepted who h nature comm off some =
    ap (λ (b : Bool). if b then Some AlertActive else refused_where (length (delays_left h) == 0) NeedsDelay) off
    ∙ ap (λ (b : Bool). refused_where b NeedsDelay) some
