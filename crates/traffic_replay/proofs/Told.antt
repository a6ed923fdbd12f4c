-- what was told so far, line by line
use Rattle.std.proofs.Common.{◌≡◌, ◌≤◌, ◌<◌, ◌+◌, ℕ, Bool, false, ◌&&◌, List, [], ◌∷◌, ◌++◌, length, refl, sym, ◌∙◌, ap, subst, append_assoc, arith}
use Rattle.traffic_rules.specs.Histories.{History}
use Rattle.traffic_rules.specs.Rules.{Rules}
use Rattle.std.proofs.lemmas.List.{length_push}
use Rattle.call_values.specs.declared.bounds.TheConstants.{LAST_BASE}
use Rattle.ship_station.specs.declared.{events.ShipWhat.ShipWhat, ships.Ship.Ship}
use Rattle.ship_station.specs.ShipRules.{Identities, ship_rules}
use Rattle.ship_station.specs.StandsFor.{StandsFor as ShipStandsFor}
use Rattle.coast_station.specs.declared.{coasts.Coast.Coast, events.CoastWhat.CoastWhat}
use Rattle.coast_station.specs.CoastRules.{Station as Who, coast_rules}
use Rattle.coast_station.specs.StandsFor.{StandsFor as CoastStandsFor}
use Rattle.station_lines.specs.Events.{EventLine}
use Rattle.traffic_lines.specs.declared.lines.TrafficLine.TheVariants as line
use Rattle.traffic_lines.specs.declared.lines.Point.TheVariants as point
use Rattle.traffic_lines.specs.declared.lines.StationLine.{StationLine}
use Rattle.traffic_lines.specs.declared.lines.StationLine.TheVariants as named
use Rattle.traffic_lines.specs.Lines.{line_of_station}
use Rattle.input_lines.specs.ReceiverLine.{ReceiverLine}
use Rattle.input_lines.specs.PointLine.{joined, traffic, IsBody}
use Rattle.join_groups.specs.declared.groups.TheConstants.{MOST_IN_BATCH}
use Rattle.traffic_replay.specs.declared.{command.Replay.Replay, stages.Groups.Groups, stages.Stage.Stage}
use Rattle.traffic_replay.specs.declared.stages.Stage.TheVariants as stage
use Rattle.traffic_replay.specs.Said.{Said, kind_of, base_of, groups_of, identities_of, station_of, among_events, behind_base, point_of}
use Rattle.traffic_replay.specs.Happenings.{Taking, taking_ship, taking_coast}
use Rattle.traffic_replay.specs.HeardGroups.{hears}
use Rattle.traffic_replay.proofs.GroupKeeping.{silent as quiet_line}
use Rattle.traffic_replay.specs.Output.{history_of, all_accepted, written_behind}
use Rattle.traffic_replay.specs.inside.Happens.{Happens}
use Rattle.traffic_replay.specs.inside.Kept.{KeepsGroups}
use Rattle.traffic_replay.specs.inside.Progress.{GoesOn, IsBehindBase, identities_in, IsReadyAt, Keeps, KeepsStation, TellsSoFar, point_at}

abbrev identities : ℕ → List ℕ → Identities
identities own groups = record { own = own; groups = groups }

pub same_identities : {a b : ℕ} {gs hs : List ℕ} → a ≡ b → gs ≡ hs → identities a gs ≡ identities b hs
same_identities {a} {b} {gs} {hs} own groups = ap (λ (o : ℕ). identities o gs) own ∙ ap (λ (l : List ℕ). identities b l) groups

carry : {What : Type 0} (rules : Rules What) (taking : Taking What) (IsAt : History What → Type 0) (l : ReceiverLine) (said : Said) (text : List ℕ) (is_well : Bool)
    → TellsSoFar rules taking IsAt said text is_well → TellsSoFar rules taking IsAt (joined l ∷ said) text is_well
carry rules taking IsAt l said text is_well told = record {
  tells = record { happened = told.tells.happened; are_happenings = told.tells.are_happenings; text_is = told.tells.text_is; well_is = told.tells.well_is };
  stands = told.stands;
}

-- a line of receivers, or one that says nothing, leaves what a stage keeps
pub silent : (at : Stage) (l : ReceiverLine) (said : Said) (text : List ℕ) (is_well : Bool) → KeepsStation at said text is_well → KeepsStation at (joined l ∷ said) text is_well
silent stage.Station l said text is_well keeps = keeps
silent (stage.Base (named.Ship own)) l said text is_well keeps = keeps
silent (stage.Base (named.Coast own band)) l said text is_well keeps = keeps
silent (stage.Groups g) l said text is_well keeps = keeps
silent (stage.Ship base s) l said text is_well keeps =
    (keeps.0, keeps.1, carry (ship_rules (identities_of said)) taking_ship (ShipStandsFor s (identities_of said)) l said text is_well keeps.2)
silent (stage.Coast s) l said text is_well keeps =
    (keeps.0, keeps.1, carry (coast_rules (station_of keeps.0 said)) taking_coast (CoastStandsFor s (station_of keeps.0 said)) l said text is_well keeps.2)

-- a ship begins after its groups
pub ship_begins : (g : Groups) (s : Ship) (said : Said) (text : List ℕ) (is_well : Bool) → ShipStandsFor s (identities_in g) [] → KeepsStation (stage.Groups g) said text is_well
    → KeepsStation (stage.Ship g.base s) said text is_well
ship_begins g s said text is_well stands keeps = (
  keeps.0,
  keeps.2,
  record {
    tells = record { happened = []; are_happenings = keeps.3.0; text_is = keeps.3.2; well_is = keeps.3.3 };
    stands = subst (λ (who : Identities). ShipStandsFor s who []) (sym keeps.1) stands;
  },
)

-- receivers showed something: the stage goes on to events
abbrev Begun : Stage → ReceiverLine → Said → List ℕ → Bool → Type 0
Begun to l said text is_well = (point_at to ≡ among_events (kind_of said)) × IsReadyAt to × KeepsStation to (joined l ∷ said) text is_well

begun : (from to : Stage) (l : ReceiverLine) (said : Said) (text : List ℕ) (is_well : Bool) → GoesOn from to → IsBody (point_at from) → IsReadyAt from → KeepsStation from said text is_well
    → Begun to l said text is_well
begun (stage.Groups g) to l said text is_well begins body ready keeps =
    subst (λ (t : Stage). Begun t l said text is_well) (sym begins.1)
    (sym (ap among_events keeps.0), ready.0, silent (stage.Ship g.base begins.0) l said text is_well (ship_begins g begins.0 said text is_well begins.2 keeps))
begun (stage.Ship base s) to l said text is_well begins body ready keeps =
    subst (λ (t : Stage). Begun t l said text is_well) (sym begins) (sym (ap among_events keeps.0), ready, silent (stage.Ship base s) l said text is_well keeps)
begun (stage.Coast s) to l said text is_well begins body ready keeps =
    subst (λ (t : Stage). Begun t l said text is_well) (sym begins) (sym (ap among_events keeps.1), ready, silent (stage.Coast s) l said text is_well keeps)
begun _ to l said text is_well begins body ready keeps = absurd body

pub keeps_shown : (old new : Replay) (l : ReceiverLine) (said : Said) (text : List ℕ) → Keeps old said text → new.is_well ≡ old.is_well → GoesOn old.stage new.stage → IsBody (point_at old.stage)
    → point_of (joined l ∷ said) ≡ among_events (kind_of said) → KeepsGroups new.heard (joined l ∷ said) → length new.heard.batch.items < MOST_IN_BATCH
    → Keeps new (joined l ∷ said) text
keeps_shown old new l said text keeps well begins body point heard few =
    let there = begun old.stage new.stage l said text old.is_well begins body keeps.ready keeps.station in
    record {
      point = there.0 ∙ sym point;
      ready = there.1;
      heard = heard;
      few = few;
      station = subst (λ (w : Bool). KeepsStation new.stage (joined l ∷ said) text w) (sym well) there.2;
    }

-- a text is appended after what was there
behind : (text out new lines all : List ℕ) → new ≡ out ++ lines → text ++ out ≡ all → text ++ new ≡ all ++ lines
behind text out new lines all h k = ap (λ (l : List ℕ). text ++ l) h ∙ sym (append_assoc text out lines) ∙ ap (λ (l : List ℕ). l ++ lines) k

-- one event line more
more : {What : Type 0} (rules : Rules What) (taking : Taking What) (IsAt IsAfter : History What → Type 0) (said : Said) (text out new : List ℕ) (is_well accepted : Bool)
    (when : ℕ) (what : EventLine) → (told : TellsSoFar rules taking IsAt said (text ++ out) is_well)
    → Happens rules taking IsAfter (history_of rules told.tells.happened) said when what out new accepted
    → TellsSoFar rules taking IsAfter (traffic (line.Event when what) ∷ said) (text ++ new) (is_well && accepted)
more rules taking IsAt IsAfter said text out new is_well accepted when what told did =
    let happened = told.tells.happened in
    record {
      tells = record {
        happened = record { at = when; outcome = did.outcome } ∷ happened;
        are_happenings = (refl, did.comes, told.tells.are_happenings);
        text_is = behind text out new (written_behind rules (history_of rules happened) when did.outcome) _ did.lines told.tells.text_is;
        well_is = ap (λ (b : Bool). b && accepted) told.tells.well_is ∙ ap (λ (b : Bool). all_accepted rules happened && b) did.well;
      };
      stands = did.stands;
    }

pub more_at_ship : (base : ℕ) (s after : Ship) (said : Said) (text out new : List ℕ) (is_well accepted : Bool) (when : ℕ) (what : EventLine)
    → KeepsStation (stage.Ship base s) said (text ++ out) is_well
    → ((who : Identities) (h : History ShipWhat) → base ≡ base_of said → ShipStandsFor s who h → Happens (ship_rules who) taking_ship (ShipStandsFor after who) h said when what out new accepted)
    → KeepsStation (stage.Ship base after) (traffic (line.Event when what) ∷ said) (text ++ new) (is_well && accepted)
more_at_ship base s after said text out new is_well accepted when what keeps did =
    let who = identities_of said in (
      keeps.0,
      keeps.1,
      more (ship_rules who) taking_ship (ShipStandsFor s who) (ShipStandsFor after who) said text out new is_well accepted when what keeps.2
          (did who (history_of (ship_rules who) keeps.2.tells.happened) keeps.1 keeps.2.stands),
    )

pub more_at_coast : (s after : Coast) (said : Said) (text out new : List ℕ) (is_well accepted : Bool) (when : ℕ) (what : EventLine)
    → KeepsStation (stage.Coast s) said (text ++ out) is_well
    → ((who : Who) (h : History CoastWhat) → CoastStandsFor s who h → Happens (coast_rules who) taking_coast (CoastStandsFor after who) h said when what out new accepted)
    → KeepsStation (stage.Coast after) (traffic (line.Event when what) ∷ said) (text ++ new) (is_well && accepted)
more_at_coast s after said text out new is_well accepted when what keeps did =
    let who = station_of keeps.0 said in (
      keeps.0,
      keeps.1,
      more (coast_rules who) taking_coast (CoastStandsFor s who) (CoastStandsFor after who) said text out new is_well accepted when what keeps.2
          (did who (history_of (coast_rules who) keeps.2.tells.happened) keeps.2.stands),
    )

-- a station is named
station_named : (says : StationLine) (said : Said) (text : List ℕ) (is_well : Bool) → KeepsStation stage.Station said text is_well
    → KeepsStation (stage.Base says) (traffic (line_of_station says) ∷ said) text is_well
station_named (named.Ship own) said text is_well keeps = (refl, ap (λ (gs : List ℕ). identities own gs) keeps.0, keeps.1)
station_named (named.Coast own band) said text is_well keeps = (refl, refl, keeps.1)

station_quiet : (says : StationLine) (k : ℕ) → hears k (traffic (line_of_station says)) ≡ false
station_quiet (named.Ship own) k = refl
station_quiet (named.Coast own band) k = refl

station_point : (says : StationLine) (said : Said) → point.Base ≡ point_of (traffic (line_of_station says) ∷ said)
station_point (named.Ship own) said = refl
station_point (named.Coast own band) said = refl

pub keeps_station : (old new : Replay) (says : StationLine) (said : Said) (text : List ℕ) → old.stage ≡ stage.Station → Keeps old said text
    → new ≡ record (old) { stage = stage.Base says } → Keeps new (traffic (line_of_station says) ∷ said) text
keeps_station old new says said text is keeps same = subst (λ (r : Replay). Keeps r (traffic (line_of_station says) ∷ said) text) (sym same) (record {
  point = station_point says said;
  ready = tt;
  heard = quiet_line old.heard said (line_of_station says) (station_quiet says) keeps.heard;
  few = keeps.few;
  station = station_named says said text old.is_well (subst (λ (s : Stage). KeepsStation s said text old.is_well) is keeps.station);
})

-- the base is named
base_named : (says : StationLine) (base : ℕ) (to : Stage) (said : Said) (text : List ℕ) (is_well : Bool) → IsBehindBase says base to → KeepsStation (stage.Base says) said text is_well
    → KeepsStation to (traffic (line.Base base) ∷ said) text is_well
base_named (named.Ship own) base to said text is_well behind keeps =
    subst (λ (t : Stage). KeepsStation t (traffic (line.Base base) ∷ said) text is_well) (sym behind.1) (keeps.0, keeps.1 ∙ sym behind.2, behind.3, keeps.2)
base_named (named.Coast own band) base to said text is_well behind keeps =
    subst (λ (t : Stage). KeepsStation t (traffic (line.Base base) ∷ said) text is_well) (sym behind.1) (
      band,
      keeps.0,
      record {
        tells = record { happened = []; are_happenings = keeps.2.1; text_is = keeps.2.2; well_is = keeps.2.3 };
        stands = subst (λ (who : Who). CoastStandsFor behind.0 who []) (sym keeps.1) behind.2;
      },
    )

base_point : (says : StationLine) (base : ℕ) (to : Stage) (said : Said) (text : List ℕ) (is_well : Bool) → IsBehindBase says base to → KeepsStation (stage.Base says) said text is_well
    → point_at to ≡ point_of (traffic (line.Base base) ∷ said)
base_point (named.Ship own) base to said text is_well behind keeps =
    ap point_at behind.1 ∙ ap (λ (who : Identities). point.Groups (length who.groups)) behind.2 ∙ sym (ap behind_base keeps.0)
base_point (named.Coast own band) base to said text is_well behind keeps = ap point_at behind.1 ∙ sym (ap behind_base keeps.0)

base_ready : (says : StationLine) (base : ℕ) (to : Stage) → base ≤ LAST_BASE → IsBehindBase says base to → IsReadyAt to
base_ready (named.Ship own) base to within behind =
    subst IsReadyAt (sym behind.1) (subst (λ (b : ℕ). b ≤ LAST_BASE) (sym behind.3) within, subst (λ (who : Identities). length who.groups ≤ 16) (sym behind.2) (omega arith))
base_ready (named.Coast own band) base to within behind = subst IsReadyAt (sym behind.1) tt

pub keeps_base : (old new : Replay) (says : StationLine) (base : ℕ) (to : Stage) (said : Said) (text : List ℕ) → old.stage ≡ stage.Base says → base ≤ LAST_BASE → Keeps old said text
    → IsBehindBase says base to → new ≡ record (old) { stage = to } → Keeps new (traffic (line.Base base) ∷ said) text
keeps_base old new says base to said text is within keeps behind same =
    let here = subst (λ (s : Stage). KeepsStation s said text old.is_well) is keeps.station in
    subst (λ (r : Replay). Keeps r (traffic (line.Base base) ∷ said) text) (sym same) (record {
      point = base_point says base to said text old.is_well behind here;
      ready = base_ready says base to within behind;
      heard = quiet_line old.heard said (line.Base base) (λ k. refl) keeps.heard;
      few = keeps.few;
      station = base_named says base to said text old.is_well behind here;
    })

-- a group is named
pub group_named : (old new : Groups) (mmsi : ℕ) (said : Said) (text : List ℕ) (is_well : Bool) → new.own ≡ old.own → new.base ≡ old.base → new.named.items ≡ old.named.items ++ mmsi ∷ []
    → KeepsStation (stage.Groups old) said text is_well → KeepsStation (stage.Groups new) (traffic (line.Group mmsi) ∷ said) text is_well
group_named old new mmsi said text is_well own base named keeps = (
  keeps.0,
  ap (λ (who : Identities). identities who.own (who.groups ++ mmsi ∷ [])) keeps.1 ∙ ap (λ (gs : List ℕ). identities old.own gs) (sym named)
      ∙ ap (λ (o : ℕ). identities o new.named.items) (sym own),
  base ∙ keeps.2,
  keeps.3,
)

pub keeps_group : (old new : Replay) (from to : Groups) (mmsi : ℕ) (said : Said) (text : List ℕ) → old.stage ≡ stage.Groups from → Keeps old said text
    → length from.named.items < 16 → to.own ≡ from.own → to.base ≡ from.base → to.named.items ≡ from.named.items ++ mmsi ∷ [] → new ≡ record (old) { stage = stage.Groups to }
    → Keeps new (traffic (line.Group mmsi) ∷ said) text
keeps_group old new from to mmsi said text is keeps room own base named same =
    let here : KeepsStation (stage.Groups from) said text old.is_well = subst (λ (s : Stage). KeepsStation s said text old.is_well) is keeps.station in
    let ready : IsReadyAt (stage.Groups from) = subst IsReadyAt is keeps.ready in
    let held : length (groups_of said) ≡ length from.named.items = ap (λ (who : Identities). length who.groups) here.1 in
    let more : length to.named.items ≡ length from.named.items + 1 = ap length named ∙ length_push from.named.items mmsi in
    let next : length to.named.items ≡ length (groups_of said) + 1 = omega (arith, held, more) in
    let most : length to.named.items ≤ 16 = omega (arith, more, room) in
    subst (λ (r : Replay). Keeps r (traffic (line.Group mmsi) ∷ said) text) (sym same) (record {
      point = ap point.Groups next;
      ready = (subst (λ (b : ℕ). b ≤ LAST_BASE) (sym base) ready.0, most);
      heard = quiet_line old.heard said (line.Group mmsi) (λ k. refl) keeps.heard;
      few = keeps.few;
      station = group_named from to mmsi said text old.is_well own base named here;
    })

-- an event line is kept where the station is
pub keeps_at_ship : (old new : Replay) (base : ℕ) (s after : Ship) (said : Said) (text out written : List ℕ) (accepted : Bool) (when : ℕ) (what : EventLine) → base ≤ LAST_BASE
    → KeepsStation (stage.Ship base s) said (text ++ out) old.is_well
    → ((who : Identities) (h : History ShipWhat) → base ≡ base_of said → ShipStandsFor s who h → Happens (ship_rules who) taking_ship (ShipStandsFor after who) h said when what out written accepted)
    → KeepsGroups new.heard (traffic (line.Event when what) ∷ said) → length new.heard.batch.items < MOST_IN_BATCH
    → new.stage ≡ stage.Ship base after → new.is_well ≡ (old.is_well && accepted) → Keeps new (traffic (line.Event when what) ∷ said) (text ++ written)
keeps_at_ship old new base s after said text out written accepted when what within keeps did heard few to well = record {
  point = ap point_at to ∙ sym (ap among_events keeps.0);
  ready = subst IsReadyAt (sym to) within;
  heard = heard;
  few = few;
  station = subst (λ (t : Stage). KeepsStation t (traffic (line.Event when what) ∷ said) (text ++ written) new.is_well) (sym to)
      (subst (λ (w : Bool). KeepsStation (stage.Ship base after) (traffic (line.Event when what) ∷ said) (text ++ written) w) (sym well)
      (more_at_ship base s after said text out written old.is_well accepted when what keeps did));
}

pub keeps_at_coast : (old new : Replay) (s after : Coast) (said : Said) (text out written : List ℕ) (accepted : Bool) (when : ℕ) (what : EventLine)
    → KeepsStation (stage.Coast s) said (text ++ out) old.is_well
    → ((who : Who) (h : History CoastWhat) → CoastStandsFor s who h → Happens (coast_rules who) taking_coast (CoastStandsFor after who) h said when what out written accepted)
    → KeepsGroups new.heard (traffic (line.Event when what) ∷ said) → length new.heard.batch.items < MOST_IN_BATCH
    → new.stage ≡ stage.Coast after → new.is_well ≡ (old.is_well && accepted) → Keeps new (traffic (line.Event when what) ∷ said) (text ++ written)
keeps_at_coast old new s after said text out written accepted when what keeps did heard few to well = record {
  point = ap point_at to ∙ sym (ap among_events keeps.1);
  ready = subst IsReadyAt (sym to) tt;
  heard = heard;
  few = few;
  station = subst (λ (t : Stage). KeepsStation t (traffic (line.Event when what) ∷ said) (text ++ written) new.is_well) (sym to)
      (subst (λ (w : Bool). KeepsStation (stage.Coast after) (traffic (line.Event when what) ∷ said) (text ++ written) w) (sym well)
      (more_at_coast s after said text out written old.is_well accepted when what keeps did));
}
