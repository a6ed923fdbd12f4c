-- the lines of a traffic file determine what is told of them
use Rattle.std.proofs.Common.{◌≡◌, ℕ, Bool, if◌then◌else◌, Option, Some, Result, Ok, List, [], ◌∷◌, ◌++◌, refl, sym, ◌∙◌, ap, subst}
use Rattle.std.proofs.lemmas.Option.{same_Some}
use Rattle.traffic_rules.specs.Rules.{Rules}
use Rattle.line_grammar.specs.Columns.{IsColumn}
use Rattle.line_engine.specs.Lines.{Lines}
use Rattle.line_engine.specs.Determined.{IsDetermined, BeginsWith}
use Rattle.slot_evidence.specs.Facts.{Facts}
use Rattle.slot_join.specs.declared.joined.Joined.{Joined}
use Rattle.slot_join.specs.Answer.{IsAnswer}
use Rattle.ship_station.specs.ShipRules.{ship_rules}
use Rattle.coast_station.specs.CoastRules.{coast_rules}
use Rattle.station_lines.specs.Events.{EventLine}
use Rattle.traffic_lines.specs.declared.lines.Event.TheVariants.{Does, Comes}
use Rattle.traffic_lines.specs.declared.lines.Hearing.TheVariants.{Hear, Heard}
use Rattle.traffic_lines.specs.declared.lines.TrafficLine.TheVariants as line
use Rattle.input_lines.specs.PointLine.{joined, traffic, IsPointLine}
use Rattle.input_lines.proofs.PublicLaws.{one_column}
use Rattle.traffic_replay.specs.declared.outcomes.Unreported.{Unreported}
use Rattle.traffic_replay.specs.Said.{Said, Kind, ship, coast, kind_of, identities_of, station_of, point_of}
use Rattle.traffic_replay.specs.HeardGroups.{facts_since_heard}
use Rattle.traffic_replay.specs.Happenings.{Taking, taking_ship, taking_coast, heard_as, ComesOf, Happening, AreHappenings}
use Rattle.traffic_replay.specs.Output.{text_of, all_accepted}
use Rattle.traffic_replay.specs.Meaning.{IsIllFormed, Tells, StationTells, Replays, replay_meaning}
use Rattle.traffic_replay.proofs.Unique.{OnePointLine, same_said}
use Rattle.traffic_replay.proofs.Fronts.{front_of}

-- facts have one answer
abbrev pub OneAnswer : Type 0
OneAnswer = (F : Facts) (a b : Joined) → IsAnswer F a → IsAnswer F b → a ≡ b

-- an event line that gives an event of itself
abbrev IsPlain : {What : Type 0} → Option What → Result What Unreported → Type 0
IsPlain {What} gives outcome = (event : What) × (gives ≡ Some event) × (outcome ≡ Ok event)

same_plain : {What : Type 0} (gives : Option What) (a b : Result What Unreported) → IsPlain gives a → IsPlain gives b → a ≡ b
same_plain {What} gives a b x y = let event : x.0 ≡ y.0 = same_Some _ _ (sym x.1 ∙ y.1) in x.2 ∙ ap (λ (e : What). Ok e) event ∙ sym y.2

same_heard : OneAnswer → {What : Type 0} (taking : Taking What) (said : Said) (at group : ℕ) (a b : Result What Unreported)
    → ComesOf taking said at (Comes (Heard group)) a → ComesOf taking said at (Comes (Heard group)) b → a ≡ b
same_heard one taking said at group a b x y =
    x.2 ∙ ap (heard_as taking.heard group) (one (facts_since_heard group said) x.0 y.0 x.1 y.1) ∙ sym y.2

-- one thing comes of an event line
same_outcome : OneAnswer → {What : Type 0} (taking : Taking What) (said : Said) (at : ℕ) (what : EventLine) (a b : Result What Unreported)
    → ComesOf taking said at what a → ComesOf taking said at what b → a ≡ b
same_outcome one taking said at (Does deed) a b x y = same_plain _ a b x y
same_outcome one taking said at (Comes (Hear call extra)) a b x y = same_plain _ a b x y
same_outcome one taking said at (Comes (Heard group)) a b x y = same_heard one taking said at group a b x y

happening_of : {What : Type 0} → ℕ → Result What Unreported → Happening What
happening_of at outcome = record { at = at; outcome = outcome }

same_happening : {What : Type 0} (g h : Happening What) → g.at ≡ h.at → g.outcome ≡ h.outcome → g ≡ h
unfolding happening_of
same_happening {What} g h at outcome = ap (λ (n : ℕ). happening_of n g.outcome) at ∙ ap (λ (o : Result What Unreported). happening_of h.at o) outcome

same_happened : OneAnswer → {What : Type 0} (taking : Taking What) (said : Said) (a b : List (Happening What)) → AreHappenings taking said a → AreHappenings taking said b → a ≡ b
same_happened one taking [] a b x y = x ∙ sym y
same_happened one taking (joined l ∷ said) a b x y = same_happened one taking said a b x y
same_happened one taking (traffic (line.Ship mmsi) ∷ said) a b x y = same_happened one taking said a b x y
same_happened one taking (traffic (line.Coast mmsi band) ∷ said) a b x y = same_happened one taking said a b x y
same_happened one taking (traffic (line.Base second) ∷ said) a b x y = same_happened one taking said a b x y
same_happened one taking (traffic (line.Group mmsi) ∷ said) a b x y = same_happened one taking said a b x y
same_happened one taking (traffic (line.Event at what) ∷ said) [] b x y = absurd x
same_happened one taking (traffic (line.Event at what) ∷ said) (g ∷ a) [] x y = absurd y
same_happened one {What} taking (traffic (line.Event at what) ∷ said) (g ∷ a) (h ∷ b) x y =
    let same : g ≡ h = same_happening g h (x.0 ∙ sym y.0) (same_outcome one taking said at what g.outcome h.outcome x.1 y.1) in
    ap (λ (i : Happening What). i ∷ a) same ∙ ap (λ (l : List (Happening What)). h ∷ l) (same_happened one taking said a b x.2 y.2)

same_telling : OneAnswer → {What : Type 0} (rules : Rules What) (taking : Taking What) (said : Said) (a b : List ℕ) (v w : Bool) → Tells rules taking said a v → Tells rules taking said b w
    → (a ≡ b) × (v ≡ w)
same_telling one rules taking said a b v w x y =
    let happened = same_happened one taking said x.happened y.happened x.are_happenings y.are_happenings in
    (x.text_is ∙ ap (text_of rules) happened ∙ sym y.text_is, x.well_is ∙ ap (all_accepted rules) happened ∙ sym y.well_is)

same_station : OneAnswer → (kind : Kind) (said : Said) (a b : List ℕ) (v w : Bool) → StationTells kind said a v → StationTells kind said b w → (a ≡ b) × (v ≡ w)
same_station one ship said a b v w x y = same_telling one (ship_rules (identities_of said)) taking_ship said a b v w x y
same_station one (coast band) said a b v w x y = same_telling one (coast_rules (station_of band said)) taking_coast said a b v w x y

-- lines have one replay
same_replay : OnePointLine → OneAnswer → (lines : Lines) (a b : List ℕ) (v w : Bool) → Replays lines a v → Replays lines b w → (a ≡ b) × (v ≡ w)
same_replay point one lines a b v w x y =
    let said : y.said ≡ x.said = same_said point y.said x.said lines y.are_said x.are_said in
    same_station one (kind_of x.said) x.said a b v w x.tells (subst (λ (s : Said). StationTells (kind_of s) s b w) said y.tells)

same_column : OnePointLine → (lines : Lines) (text : List ℕ) (m n : ℕ) → IsIllFormed lines text m → IsIllFormed lines text n → m ≡ n
same_column point lines text m n x y =
    let said : y.said ≡ x.said = same_said point y.said x.said lines y.are_said x.are_said in
    one_column (IsPointLine (point_of x.said)) text m n x.is_column
    (subst (λ (s : Said). IsColumn (IsPointLine (point_of s)) text n) said y.is_column)

begins : OnePointLine → OneAnswer → (first later : Lines) (text whole : List ℕ) (v w : Bool) → Replays first text v → Replays (first ++ later) whole w → BeginsWith whole text
begins point one first later text whole v w x y =
    let front = front_of y.said (first ++ later) first later whole w refl y.are_said y.tells in
    let same = (same_replay point one first front.behind.text text front.behind.is_well v (record { said = front.said; are_said = front.are_said; tells = front.behind.tells }) x).0 in
    subst (BeginsWith whole) same front.behind.begins

pub replay_determined : OnePointLine → OneAnswer → IsDetermined replay_meaning
replay_determined point one = record {
  one_column = λ earlier line m n h k. same_column point earlier line m n h k;
  one_text = λ lines a b none g h. (same_replay point one lines a b g.0 h.0 g.1 h.1).0;
  grows = λ first later text whole none g h. begins point one first later text whole g.0 h.0 g.1 h.1;
  one_end = λ lines a b s t none g h.
      let same = same_replay point one lines a b g.0 h.0 g.1 h.1 in
      (same.0, g.2 ∙ ap (λ (w : Bool). if w then 0 else 1) same.1 ∙ sym h.2);
  ends = λ first later text whole status none g h. begins point one first later text whole g.0 h.0 g.1 h.1;
}
