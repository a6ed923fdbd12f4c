-- what the first lines of a traffic file said, and their text
use Rattle.std.proofs.Common.{◌≡◌, ℕ, Bool, true, List, [], ◌∷◌, ◌++◌, refl, sym, ◌∙◌, ap, subst, append-nil, inl, inr}
use Rattle.traffic_rules.specs.Rules.{Rules}
use Rattle.line_engine.specs.Lines.{Lines}
use Rattle.line_engine.specs.Determined.{BeginsWith}
use Rattle.station_lines.proofs.PublicLaws.{no_more, last_of, begins_itself, begins_further}
use Rattle.ship_station.specs.ShipRules.{ship_rules}
use Rattle.coast_station.specs.CoastRules.{coast_rules}
use Rattle.station_lines.specs.Events.{EventLine}
use Rattle.traffic_lines.specs.declared.{lines.Point.Point, lines.TrafficLine.TrafficLine}
use Rattle.traffic_lines.specs.declared.lines.Point.TheVariants as point
use Rattle.traffic_lines.specs.declared.lines.TrafficLine.TheVariants as line
use Rattle.traffic_lines.specs.Lines.{MayStand}
use Rattle.input_lines.specs.ReceiverLine.{ReceiverLine, nothing, reception, evidence}
use Rattle.input_lines.specs.PointLine.{PointLine, joined, traffic, IsPointLine}
use Rattle.traffic_replay.specs.Said.{Said, Kind, ship, coast, kind_of, identities_of, station_of, among_events, point_of, AreSaid}
use Rattle.traffic_replay.specs.Happenings.{Taking, taking_ship, taking_coast, Happening, AreHappenings}
use Rattle.traffic_replay.specs.Output.{history_of, text_of, all_accepted, written_behind}
use Rattle.traffic_replay.specs.Meaning.{Tells, StationTells}

-- events come after the groups alone
abbrev IsBeforeEvents : Point → Type 0
IsBeforeEvents point.Ship = ⊥
IsBeforeEvents point.Coast = ⊥
IsBeforeEvents _ = Unit {0}

no_more_early : (kind : Kind) → IsBeforeEvents (among_events kind) → ⊥
no_more_early ship early = early
no_more_early (coast band) early = early

-- a line that names something, and is no event
abbrev pub Names : TrafficLine → Type 0
Names (line.Event at what) = ⊥
Names _ = Unit {0}

pub early : (says : TrafficLine) → Names says → (p : Point) → MayStand p says → IsBeforeEvents p
early (line.Event at what) names = absurd names
early _ names = elim [ point.Station ↦ λ may. tt | point.Base ↦ λ may. tt | point.Groups held ↦ λ may. tt | point.Ship ↦ λ may. may | point.Coast ↦ λ may. may ]

-- in front of the first event nothing happened
pub none_early : {What : Type 0} (taking : Taking What) (said : Said) (lines : Lines) → AreSaid said lines → IsBeforeEvents (point_of said) → AreHappenings taking said []
none_early taking [] lines are early = refl
none_early taking (joined nothing ∷ said) lines are early = none_early taking said are.0 are.4 early
none_early taking (joined (reception group e) ∷ said) lines are early = absurd (no_more_early (kind_of said) early)
none_early taking (joined (evidence group pairs) ∷ said) lines are early = absurd (no_more_early (kind_of said) early)
none_early taking (traffic (line.Ship mmsi) ∷ said) lines are in_front = none_early taking said are.0 are.4 (early (line.Ship mmsi) tt (point_of said) are.3.0)
none_early taking (traffic (line.Coast mmsi band) ∷ said) lines are in_front = none_early taking said are.0 are.4 (early (line.Coast mmsi band) tt (point_of said) are.3.0)
none_early taking (traffic (line.Base second) ∷ said) lines are in_front = none_early taking said are.0 are.4 (early (line.Base second) tt (point_of said) are.3.0)
none_early taking (traffic (line.Group mmsi) ∷ said) lines are in_front = none_early taking said are.0 are.4 (early (line.Group mmsi) tt (point_of said) are.3.0)
none_early taking (traffic (line.Event at what) ∷ said) lines are early = absurd (no_more_early (kind_of said) early)

-- a text that begins with one that is told so
pub record IsFurther (Told : List ℕ → Bool → Type 0) (whole : List ℕ) : Type 0 where
  pub text : List ℕ
  pub is_well : Bool
  pub tells : Told text is_well
  pub begins : BeginsWith whole text

-- one that begins with that of what was said
abbrev IsBehind : Kind → Said → List ℕ → Type 0
IsBehind kind said whole = IsFurther (StationTells kind said) whole

tells_none : (kind : Kind) (said : Said) (lines : Lines) → AreSaid said lines → IsBeforeEvents (point_of said) → StationTells kind said [] true
tells_none ship said lines are early = record { happened = []; are_happenings = none_early taking_ship said lines are early; text_is = refl; well_is = refl }
tells_none (coast band) said lines are early = record { happened = []; are_happenings = none_early taking_coast said lines are early; text_is = refl; well_is = refl }

-- every text begins with that of lines without an event
behind_none : (kind : Kind) (said : Said) (lines : Lines) (whole : List ℕ) → AreSaid said lines → IsBeforeEvents (point_of said) → IsBehind kind said whole
behind_none kind said lines whole are early = record { text = []; is_well = true; tells = tells_none kind said lines are early; begins = (whole, refl) }

behind_same : (kind : Kind) (said : Said) (whole : List ℕ) (is_well : Bool) → StationTells kind said whole is_well → IsBehind kind said whole
behind_same kind said whole is_well tells = record { text = whole; is_well = is_well; tells = tells; begins = begins_itself whole }

-- a line of receivers, or one that says nothing, gives no text
without_joined : (kind : Kind) (l : ReceiverLine) (said : Said) (whole : List ℕ) (is_well : Bool) → StationTells kind (joined l ∷ said) whole is_well → StationTells kind said whole is_well
without_joined ship l said whole is_well tells =
    record { happened = tells.happened; are_happenings = tells.are_happenings; text_is = tells.text_is; well_is = tells.well_is }
without_joined (coast band) l said whole is_well tells =
    record { happened = tells.happened; are_happenings = tells.are_happenings; text_is = tells.text_is; well_is = tells.well_is }

-- the text of an event comes after that of the lines before it
without_event : {What : Type 0} (rules : Rules What) (taking : Taking What) (said : Said) (at : ℕ) (what : EventLine) (happened : List (Happening What)) (whole : List ℕ)
    → AreHappenings taking (traffic (line.Event at what) ∷ said) happened → whole ≡ text_of rules happened → IsFurther (Tells rules taking said) whole
without_event rules taking said at what [] whole are is = absurd are
without_event rules taking said at what (h ∷ happened) whole are is = record {
  text = text_of rules happened;
  is_well = all_accepted rules happened;
  tells = record { happened = happened; are_happenings = are.2; text_is = refl; well_is = refl };
  begins = (written_behind rules (history_of rules happened) h.at h.outcome, is);
}

behind_event : (kind : Kind) (at : ℕ) (what : EventLine) (said : Said) (whole : List ℕ) (is_well : Bool) → StationTells kind (traffic (line.Event at what) ∷ said) whole is_well
    → IsBehind kind said whole
behind_event ship at what said whole is_well tells =
    without_event (ship_rules (identities_of said)) taking_ship said at what tells.happened whole tells.are_happenings tells.text_is
behind_event (coast band) at what said whole is_well tells =
    without_event (coast_rules (station_of band said)) taking_coast said at what tells.happened whole tells.are_happenings tells.text_is

-- the text of lines begins with that of all but the last
one_less : (last : PointLine) (said : Said) (lines : Lines) (text whole : List ℕ) (is_well : Bool) → AreSaid said lines → IsPointLine (point_of said) last text
    → StationTells (kind_of (last ∷ said)) (last ∷ said) whole is_well → IsBehind (kind_of said) said whole
one_less (joined l) said lines text whole is_well are is tells = behind_same (kind_of said) said whole is_well (without_joined (kind_of said) l said whole is_well tells)
one_less (traffic (line.Ship mmsi)) said lines text whole is_well are is tells = behind_none (kind_of said) said lines whole are (early (line.Ship mmsi) tt (point_of said) is.0)
one_less (traffic (line.Coast mmsi band)) said lines text whole is_well are is tells = behind_none (kind_of said) said lines whole are (early (line.Coast mmsi band) tt (point_of said) is.0)
one_less (traffic (line.Base second)) said lines text whole is_well are is tells = behind_none (kind_of said) said lines whole are (early (line.Base second) tt (point_of said) is.0)
one_less (traffic (line.Group mmsi)) said lines text whole is_well are is tells = behind_none (kind_of said) said lines whole are (early (line.Group mmsi) tt (point_of said) is.0)
one_less (traffic (line.Event at what)) said lines text whole is_well are is tells = behind_event (kind_of said) at what said whole is_well tells

-- what the first lines said
pub record IsFront (first : Lines) (whole : List ℕ) : Type 0 where
  pub said : Said
  pub are_said : AreSaid said first
  pub behind : IsBehind (kind_of said) said whole

further : (first : Lines) (whole middle : List ℕ) → BeginsWith whole middle → IsFront first middle → IsFront first whole
further first whole middle begins f = record {
  said = f.said;
  are_said = f.are_said;
  behind =
      record { text = f.behind.text; is_well = f.behind.is_well; tells = f.behind.tells; begins = begins_further whole middle f.behind.text begins f.behind.begins };
}

all_of : (said : Said) (lines first later : Lines) (whole : List ℕ) (is_well : Bool) → lines ≡ first ++ later → later ≡ [] → AreSaid said lines → StationTells (kind_of said) said whole is_well
    → IsFront first whole
all_of said lines first later whole is_well e none are tells = record {
  said = said;
  are_said = subst (AreSaid said) (e ∙ ap (λ (l : Lines). first ++ l) none ∙ append-nil first) are;
  behind = behind_same (kind_of said) said whole is_well tells;
}

-- the text of lines begins with that of the first of them
pub front_of : (said : Said) (lines first later : Lines) (whole : List ℕ) (is_well : Bool) → lines ≡ first ++ later → AreSaid said lines → StationTells (kind_of said) said whole is_well
    → IsFront first whole
front_of [] lines first later whole is_well e are tells =
    record { said = []; are_said = no_more first later (sym are ∙ e); behind = behind_same ship [] whole is_well tells }
front_of (last ∷ said) lines first later whole is_well e are tells =
    elim (last_of first later are.0 are.1 (sym e ∙ are.2)) [
      | inl none ↦ all_of (last ∷ said) lines first later whole is_well e none are tells
      | inr rest ↦
          let less = one_less last said are.0 are.1 whole is_well are.4 are.3 tells in
          further first whole less.text less.begins (front_of said are.0 first rest.0 less.text less.is_well rest.1 are.4 less.tells)
    ]
