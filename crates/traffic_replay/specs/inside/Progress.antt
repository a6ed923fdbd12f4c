-- What a replay has come to.
use Rattle.std.specs.Prelude.{◌≡◌, ℕ, ◌≤◌, ◌<◌, ◌==◌, Bool, true, List, [], ◌∷◌, ◌++◌, ◌⊎◌, length}
use Rattle.ten_unit.specs.declared.character.Element.{Element}
use Rattle.slot_evidence.specs.Facts.{Facts}
use Rattle.phasing.specs.declared.reception.TheConstants.{LONGEST}
use Rattle.line_engine.specs.Lines.{Lines}
use Rattle.traffic_lines.specs.declared.{lines.Point.Point, lines.StationLine.StationLine}
use Rattle.traffic_lines.specs.declared.lines.Point.TheVariants as point
use Rattle.traffic_lines.specs.declared.lines.StationLine.TheVariants as named
use Rattle.traffic_rules.specs.Histories.{History}
use Rattle.traffic_rules.specs.Rules.{Rules}
use Rattle.ship_station.specs.declared.ships.Ship.{Ship}
use Rattle.ship_station.specs.ShipRules.{Identities, ship_rules}
use Rattle.ship_station.specs.StandsFor.{StandsFor as ShipStandsFor}
use Rattle.coast_station.specs.declared.coasts.Coast.{Coast}
use Rattle.coast_station.specs.CoastRules.{coast_rules}
use Rattle.coast_station.specs.StandsFor.{StandsFor as CoastStandsFor}
use Rattle.call_values.specs.declared.{choices.Band.Band, bounds.TheConstants.LAST_BASE}
use Rattle.input_lines.specs.ReceiverLine.{ReceiverLine}
use Rattle.input_lines.specs.PointLine.{PointLine, joined, IsBody, IsPointLine}
use Rattle.traffic_lines.specs.Lines.{IsTrafficLine}
use Rattle.line_grammar.specs.Columns.{IsColumn}
use Rattle.line_engine.specs.declared.command.Refusal.{Refusal}
use Rattle.line_engine.specs.declared.command.Refusal.TheVariants as refusal
use Rattle.input_lines.specs.declared.join.JoinLine.{JoinLine as Got}
use Rattle.input_lines.specs.declared.join.JoinLine.TheVariants as got
use Rattle.join_groups.specs.Groups.{facts_of_line, names}
use Rattle.join_groups.specs.declared.groups.TheConstants.{MOST_IN_BATCH}
use Rattle.join_groups.specs.Holds.{HoldsSome}
use Rattle.join_groups.specs.Meanings.{BringsTooMany}
use Rattle.traffic_replay.specs.declared.{command.Replay.Replay, stages.Groups.Groups, stages.Stage.Stage}
use Rattle.traffic_replay.specs.declared.stages.Stage.TheVariants as stage
use Rattle.traffic_replay.specs.Said.{Said, ship, coast, kind_of, base_of, groups_of, identities_of, station_of, among_events, point_of, AreSaid}
use Rattle.traffic_replay.specs.HeardGroups.{of_receivers}
use Rattle.traffic_replay.specs.Happenings.{Taking, taking_ship, taking_coast, AreHappenings}
use Rattle.traffic_replay.specs.Output.{history_of}
use Rattle.traffic_replay.specs.Meaning.{Tells}
use Rattle.traffic_replay.specs.inside.Kept.{KeepsGroups}

-- the identities of a ship whose groups are being named
abbrev pub identities_in : Groups → Identities
identities_in g = record { own = g.own; groups = g.named.items }

-- the point of the next line, by the stage
abbrev pub point_at : Stage → Point
point_at stage.Station = point.Station
point_at (stage.Base station) = point.Base
point_at (stage.Groups g) = point.Groups (length g.named.items)
point_at (stage.Ship base s) = point.Ship
point_at (stage.Coast s) = point.Coast

-- a ship's groups are being named
abbrev pub AreGroups : Stage → Type 0
AreGroups (stage.Groups g) = Unit {0}
AreGroups _ = ⊥

-- what is known of a stage whatever was said
abbrev pub IsReadyAt : Stage → Type 0
IsReadyAt (stage.Groups g) = (g.base ≤ LAST_BASE) × (length g.named.items ≤ 16)
IsReadyAt (stage.Ship base s) = base ≤ LAST_BASE
IsReadyAt _ = Unit {0}

-- nothing happened at a station of either kind
abbrev pub IsQuiet : Said → (text : List ℕ) → (is_well : Bool) → Type 0
IsQuiet said text is_well = AreHappenings taking_ship said [] × AreHappenings taking_coast said [] × (text ≡ []) × (is_well ≡ true)

-- what happened so far, and its text; the station stands for its history
pub record TellsSoFar {What : Type 0} (rules : Rules What) (taking : Taking What) (IsAt : History What → Type 0) (said : Said) (text : List ℕ) (is_well : Bool) : Type 0 where
  pub tells : Tells rules taking said text is_well
  pub stands : IsAt (history_of rules tells.happened)

-- what a stage keeps of what was said and told: a station's events come after the base, and after a ship's groups,
-- alone
abbrev pub KeepsStation : Stage → Said → (text : List ℕ) → (is_well : Bool) → Type 0
KeepsStation stage.Station said text is_well = (groups_of said ≡ []) × IsQuiet said text is_well
KeepsStation (stage.Base (named.Ship own)) said text is_well =
    (kind_of said ≡ ship) × (identities_of said ≡ record { own = own; groups = [] }) × IsQuiet said text is_well
KeepsStation (stage.Base (named.Coast own band)) said text is_well =
    (kind_of said ≡ coast band) × (station_of band said ≡ record { own = own; band = band }) × IsQuiet said text is_well
KeepsStation (stage.Groups g) said text is_well = (kind_of said ≡ ship) × (identities_of said ≡ identities_in g) × (g.base ≡ base_of said) × IsQuiet said text is_well
KeepsStation (stage.Ship base s) said text is_well =
    (kind_of said ≡ ship) × (base ≡ base_of said) × TellsSoFar (ship_rules (identities_of said)) taking_ship (ShipStandsFor s (identities_of said)) said text is_well
KeepsStation (stage.Coast s) said text is_well =
    (band : Band) × (kind_of said ≡ coast band) × TellsSoFar (coast_rules (station_of band said)) taking_coast (CoastStandsFor s (station_of band said)) said text is_well

-- a replay keeps what these lines say, and this is their text
pub record Keeps (replay : Replay) (said : Said) (text : List ℕ) : Type 0 where
  pub point : point_at replay.stage ≡ point_of said
  pub ready : IsReadyAt replay.stage
  pub heard : KeepsGroups replay.heard said
  pub few : length replay.heard.batch.items < MOST_IN_BATCH
  pub station : KeepsStation replay.stage said text replay.is_well

-- a replay stands for these lines, and this is their text
pub record StandsFor (replay : Replay) (lines : Lines) (text : List ℕ) : Type 0 where
  pub said : Said
  pub are_said : AreSaid said lines
  pub keeps : Keeps replay said text

-- from one stage to events: a ship begins after its groups
abbrev pub GoesOn : Stage → Stage → Type 0
GoesOn (stage.Groups g) to = (s : Ship) × (to ≡ stage.Ship g.base s) × ShipStandsFor s (identities_in g) []
GoesOn from to = to ≡ from

-- the stage has begun with what was said, of which this is the text, and the groups keep it
abbrev pub IsBegun : Replay → Said → List ℕ → Type 0
IsBegun replay said text = KeepsStation replay.stage said text replay.is_well × KeepsGroups replay.heard said × (length replay.heard.batch.items < MOST_IN_BATCH)

-- the stage after the base of a station that was named
abbrev pub IsBehindBase : StationLine → (base : ℕ) → Stage → Type 0
IsBehindBase (named.Ship own) base to = (g : Groups) × (to ≡ stage.Groups g) × (identities_in g ≡ record { own = own; groups = [] }) × (g.base ≡ base)
IsBehindBase (named.Coast own band) base to = (s : Coast) × (to ≡ stage.Coast s) × CoastStandsFor s (record { own = own; band = band }) []

-- faults of the station's lines are faults of this line at this point
abbrev pub IsOwnLine : Point → List ℕ → Type 0
IsOwnLine at text = (n : ℕ) → 1 ≤ n → IsColumn (IsTrafficLine at) text n → IsColumn (IsPointLine at) text n

-- what is known of a replay whatever was said
pub record IsReady (replay : Replay) : Type 0 where
  pub stage : IsReadyAt replay.stage
  pub heard : HoldsSome replay.heard

-- what was read of a line of receivers has no more elements than a reception may have
abbrev pub IsShort : Got → Type 0
IsShort read = (group : ℕ) (e : List Element) → read ≡ got.Reception group e → length e ≤ LONGEST

-- what was read of a line may come at this point
abbrev pub MayBeRead : Point → Got → Type 0
MayBeRead at got.Nothing = Unit {0}
MayBeRead at _ = IsBody at

-- a line of receivers gives these facts of its group
pub record IsShown (line : ReceiverLine) (group : ℕ) (G : Facts) : Type 0 where
  pub named : (k : ℕ) → names k line ≡ (group == k)
  pub facts : facts_of_line group line ≡ G
  pub point : (earlier : Said) → point_of (joined line ∷ earlier) ≡ among_events (kind_of earlier)

-- after what was said this brings a group too many
pub record BringsGroup (said : Said) (says : PointLine) : Type 0 where
  pub line : ReceiverLine
  pub is_joined : says ≡ joined line
  pub brings : BringsTooMany (of_receivers said) line

-- after what was said this line says something more, which brings no group too many, and the replay keeps it
pub record Takes (replay : Replay) (said : Said) (line : List ℕ) (text : List ℕ) : Type 0 where
  pub says : PointLine
  pub is_line : IsPointLine (point_of said) says line
  pub few : BringsGroup said says → ⊥
  pub keeps : Keeps replay (says ∷ said) text

-- after what was said this line is refused for this reason
abbrev pub Refuses : Said → (line : List ℕ) → Refusal → Type 0
Refuses said line (refusal.Column n) = IsColumn (IsPointLine (point_of said)) line n
Refuses said line refusal.TooManyGroups = (says : PointLine) × (IsPointLine (point_of said) says line × BringsGroup said says)
Refuses said line refusal.Memory = Unit {0}

-- a line is taken, whatever was said before it and whatever text is in front of what is written
abbrev pub TakesLine : (old new : Replay) → (line before after : List ℕ) → Type 0
TakesLine old new line before after = (said : Said) (text : List ℕ) → Keeps old said (text ++ before) → Takes new said line (text ++ after)

-- and it is refused for this reason
abbrev pub RefusesLine : (old : Replay) → (line : List ℕ) → Refusal → Type 0
RefusesLine old line why = (said : Said) (text : List ℕ) → Keeps old said text → Refuses said line why

-- a line is taken at which nothing is written
abbrev pub Begins : (old new : Replay) → (line : List ℕ) → Type 0
Begins old new line = (said : Said) (text : List ℕ) → Keeps old said text → Takes new said line text

-- what a line showed of a group is refused for want of memory, or since it brings a group too many
abbrev pub RefusesGroup : (old : Replay) → (group : ℕ) → Refusal → Type 0
RefusesGroup old group why = (why ≡ refusal.Memory) ⊎ ((said : Said) (line : ReceiverLine) (G : Facts) (text : List ℕ) → Keeps old said text
    → IsShown line group G → (why ≡ refusal.TooManyGroups) × BringsTooMany (of_receivers said) line)
