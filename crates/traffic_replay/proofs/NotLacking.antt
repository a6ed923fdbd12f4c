-- no traffic file lacks an output
use Rattle.std.proofs.Common.{◌≡◌, ℕ, ◌<◌, Bool, true, false, if◌then◌else◌, Result, Ok, List, [], ◌∷◌, ◌++◌, refl, sym, subst, append_assoc, append-nil}
use Rattle.call_values.specs.declared.choices.Band.{Band}
use Rattle.line_engine.specs.Lines.{Lines}
use Rattle.line_engine.specs.Faults.{IsFaultless}
use Rattle.line_engine.specs.Determined.{LacksNoOutput}
use Rattle.line_engine.proofs.PublicLaws.{lacks_no_output, sound_line_of}
use Rattle.ship_station.specs.ShipRules.{ship_rules}
use Rattle.ship_station.specs.declared.events.ShipWhat.{ShipWhat}
use Rattle.ship_station.specs.declared.events.ShipWhat.TheVariants as at_ship
use Rattle.coast_station.specs.CoastRules.{coast_rules}
use Rattle.coast_station.specs.declared.events.CoastWhat.{CoastWhat}
use Rattle.coast_station.specs.declared.events.CoastWhat.TheVariants as at_coast
use Rattle.station_lines.specs.Events.{EventLine, own_ship_event, coast_deed}
use Rattle.traffic_lines.specs.declared.lines.Deed.TheVariants.{Own, Tick, Send, Answer}
use Rattle.traffic_lines.specs.declared.lines.Event.TheVariants.{Does, Comes}
use Rattle.traffic_lines.specs.declared.lines.Hearing.TheVariants.{Hear, Heard}
use Rattle.traffic_lines.specs.declared.lines.StationOwn.TheVariants as own
use Rattle.traffic_lines.specs.declared.lines.Point.{Point}
use Rattle.traffic_lines.specs.declared.lines.Point.TheVariants as point
use Rattle.traffic_lines.specs.declared.lines.TrafficLine.TheVariants as line
use Rattle.traffic_lines.specs.Lines.{IsOfShip, IsOfCoast, MayStand}
use Rattle.input_lines.specs.ReceiverLine.{nothing, reception, evidence}
use Rattle.input_lines.specs.PointLine.{PointLine, joined, traffic, IsPointLine}
use Rattle.input_lines.proofs.PublicLaws.{line_there}
use Rattle.join_groups.proofs.PublicLaws.{AreSome, group_small, AnswerLaw}
use Rattle.traffic_replay.specs.declared.outcomes.Unreported.{Unreported}
use Rattle.traffic_replay.specs.Said.{Said, Kind, ship, coast, kind_of, base_of, identities_of, station_of, among_events, behind_base, point_of, AreSaid}
use Rattle.traffic_replay.specs.HeardGroups.{of_receivers, hears, since_heard, facts_since_heard}
use Rattle.traffic_replay.specs.Happenings.{heard_as, taking_ship, taking_coast, Taking, ComesOf, Happening, AreHappenings}
use Rattle.traffic_replay.specs.Output.{text_of, all_accepted}
use Rattle.traffic_replay.specs.Meaning.{StationTells, Replays, replay_meaning}
use Rattle.traffic_replay.proofs.Fronts.{early, none_early}

-- it can't be that there is none
abbrev IsThere : Type 0 → Type 0
IsThere A = (A → ⊥) → ⊥

-- ---- what the receivers of a group showed since it was heard

some_if : (k : ℕ) (here : PointLine) (said : Said) (lines : Lines) (b : Bool) → AreSaid (here ∷ said) lines → AreSome (of_receivers (since_heard k said))
    → AreSome (of_receivers (if b then [] else here ∷ since_heard k said))
some_if k here said lines true are rest = tt
some_if k (joined l) said lines false are rest = ((are.1, are.3.1), rest)
some_if k (traffic l) said lines false are rest = rest

some_since : (k : ℕ) (said : Said) (lines : Lines) → AreSaid said lines → AreSome (of_receivers (since_heard k said))
some_since k [] lines are = tt
some_since k (here ∷ said) lines are = some_if k here said lines (hears k here) are (some_since k said are.0 are.4)

since_small : (k : ℕ) (said : Said) (lines : Lines) → AreSaid said lines → (p v : ℕ) → facts_since_heard k said p v ≡ true → v < 128
unfolding facts_since_heard
since_small k said lines are p v = group_small (of_receivers (since_heard k said)) k p v (some_since k said lines are)

-- ---- the point after lines is one of their kind of station

-- a point after lines of this kind of station
abbrev IsPointOf : Point → Kind → Type 0
IsPointOf (point.Groups held) kind = kind ≡ ship
IsPointOf point.Ship kind = kind ≡ ship
IsPointOf point.Coast ship = ⊥
IsPointOf point.Coast (coast band) = Unit {0}
IsPointOf _ kind = Unit {0}

among : (kind : Kind) → IsPointOf (among_events kind) kind
among ship = refl
among (coast band) = tt

behind : (kind : Kind) → IsPointOf (behind_base kind) kind
behind ship = refl
behind (coast band) = tt

group_kind : (p : Point) (kind : Kind) (mmsi : ℕ) → IsPointOf p kind → MayStand p (line.Group mmsi) → kind ≡ ship
group_kind (point.Groups held) kind mmsi of may = of
group_kind _ kind mmsi of may = absurd may

point_kind : (said : Said) (lines : Lines) → AreSaid said lines → IsPointOf (point_of said) (kind_of said)
point_kind [] lines are = tt
point_kind (joined nothing ∷ said) lines are = point_kind said are.0 are.4
point_kind (joined (reception group e) ∷ said) lines are = among (kind_of said)
point_kind (joined (evidence group pairs) ∷ said) lines are = among (kind_of said)
point_kind (traffic (line.Ship mmsi) ∷ said) lines are = tt
point_kind (traffic (line.Coast mmsi band) ∷ said) lines are = tt
point_kind (traffic (line.Base second) ∷ said) lines are = behind (kind_of said)
point_kind (traffic (line.Group mmsi) ∷ said) lines are = group_kind (point_of said) (kind_of said) mmsi (point_kind said are.0 are.4) are.3.0
point_kind (traffic (line.Event at what) ∷ said) lines are = among (kind_of said)

ship_event_of : (p : Point) (at : ℕ) (what : EventLine) → IsPointOf p ship → MayStand p (line.Event at what) → IsOfShip what
ship_event_of (point.Groups held) at what of may = may
ship_event_of point.Ship at what of may = may
ship_event_of point.Coast at what of may = absurd of
ship_event_of _ at what of may = absurd may

not_ship : (band : Band) → coast band ≡ ship → ⊥
not_ship band h = cc

coast_event_of : (band : Band) (p : Point) (at : ℕ) (what : EventLine) → IsPointOf p (coast band) → MayStand p (line.Event at what) → IsOfCoast what
coast_event_of band (point.Groups held) at what of may = absurd (not_ship band of)
coast_event_of band point.Ship at what of may = absurd (not_ship band of)
coast_event_of band point.Coast at what of may = may
coast_event_of band _ at what of may = absurd may

-- ---- what comes of event lines

module _ (law : AnswerLaw) where
  comes_ship : (said : Said) (lines : Lines) → AreSaid said lines → (at : ℕ) (what : EventLine) → IsOfShip what → IsThere ((outcome : Result ShipWhat Unreported) × ComesOf taking_ship said at what outcome)
  comes_ship said lines are at (Does (Own (own.Ship what))) is k = let e = own_ship_event (base_of said) at what in k (Ok e, (e, refl, refl))
  comes_ship said lines are at (Does (Own (own.Coast what))) is k = is
  comes_ship said lines are at (Does Tick) is k = k (Ok at_ship.Tick, (at_ship.Tick, refl, refl))
  comes_ship said lines are at (Does (Send call)) is k = k (Ok (at_ship.Send call), (at_ship.Send call, refl, refl))
  comes_ship said lines are at (Does (Answer number accepts)) is k = k (Ok (at_ship.Answer number accepts), (at_ship.Answer number accepts, refl, refl))
  comes_ship said lines are at (Comes (Hear call extra)) is k = k (Ok (at_ship.Heard call), (at_ship.Heard call, refl, refl))
  comes_ship said lines are at (Comes (Heard group)) is k =
      law (facts_since_heard group said) (since_small group said lines are) (λ answer of. k (heard_as at_ship.Heard group answer, (answer, of, refl)))

  comes_coast : (said : Said) (lines : Lines) → AreSaid said lines → (at : ℕ) (what : EventLine) → IsOfCoast what → IsThere ((outcome : Result CoastWhat Unreported) × ComesOf taking_coast said at what outcome)
  comes_coast said lines are at (Does (Own (own.Coast what))) is k = let e = coast_deed (Own what) in k (Ok e, (e, refl, refl))
  comes_coast said lines are at (Does (Own (own.Ship what))) is k = is
  comes_coast said lines are at (Does Tick) is k = k (Ok at_coast.Tick, (at_coast.Tick, refl, refl))
  comes_coast said lines are at (Does (Send call)) is k = k (Ok (at_coast.Send call), (at_coast.Send call, refl, refl))
  comes_coast said lines are at (Does (Answer number accepts)) is k = k (Ok (at_coast.Answer number accepts), (at_coast.Answer number accepts, refl, refl))
  comes_coast said lines are at (Comes (Hear call extra)) is k = k (Ok (at_coast.Heard call), (at_coast.Heard call, refl, refl))
  comes_coast said lines are at (Comes (Heard group)) is k =
      law (facts_since_heard group said) (since_small group said lines are) (λ answer of. k (heard_as at_coast.Heard group answer, (answer, of, refl)))

  abbrev Happened : {What : Type 0} → Taking What → Said → Type 0
  Happened {What} taking said = (happened : List (Happening What)) × AreHappenings taking said happened

  module _ {What : Type 0} (taking : Taking What) (kind : Kind) (IsOf : EventLine → Type 0)
      (of_kind : (p : Point) (at : ℕ) (what : EventLine) → IsPointOf p kind → MayStand p (line.Event at what) → IsOf what)
      (comes : (said : Said) (lines : Lines) → AreSaid said lines → (at : ℕ) (what : EventLine) → IsOf what → IsThere ((outcome : Result What Unreported) × ComesOf taking said at what outcome)) where
    happened_there : (said : Said) (lines : Lines) → AreSaid said lines → kind_of said ≡ kind → IsThere (Happened taking said)
    happened_there [] lines are is k = k ([], refl)
    happened_there (joined l ∷ said) lines are is k = happened_there said are.0 are.4 is k
    happened_there (traffic (line.Ship mmsi) ∷ said) lines are is k = k ([], none_early taking said are.0 are.4 (early (line.Ship mmsi) tt (point_of said) are.3.0))
    happened_there (traffic (line.Coast mmsi band) ∷ said) lines are is k = k ([], none_early taking said are.0 are.4 (early (line.Coast mmsi band) tt (point_of said) are.3.0))
    happened_there (traffic (line.Base second) ∷ said) lines are is k = happened_there said are.0 are.4 is k
    happened_there (traffic (line.Group mmsi) ∷ said) lines are is k = happened_there said are.0 are.4 is k
    happened_there (traffic (line.Event at what) ∷ said) lines are is k =
        let of = subst (IsPointOf (point_of said)) is (point_kind said are.0 are.4) in
        comes said are.0 are.4 at what (of_kind (point_of said) at what of are.3.0) (λ came.
        happened_there said are.0 are.4 is (λ rest. k (record { at = at; outcome = came.0 } ∷ rest.0, (refl, came.1, rest.1))))

  tells_there : (kind : Kind) (said : Said) (lines : Lines) → AreSaid said lines → kind_of said ≡ kind → IsThere ((text : List ℕ) × (is_well : Bool) × StationTells kind said text is_well)
  tells_there ship said lines are kind k =
      let rules = ship_rules (identities_of said) in
      happened_there taking_ship ship IsOfShip ship_event_of comes_ship said lines are kind (λ h. k (text_of rules h.0, all_accepted rules h.0, record { happened = h.0; are_happenings = h.1; text_is = refl; well_is = refl }))
  tells_there (coast band) said lines are kind k =
      let rules = coast_rules (station_of band said) in
      happened_there taking_coast (coast band) IsOfCoast (coast_event_of band) comes_coast said lines are kind (λ h. k (text_of rules h.0, all_accepted rules h.0, record { happened = h.0; are_happenings = h.1; text_is = refl; well_is = refl }))

  -- lines without a fault say something
  said_there : (earlier : Lines) (said : Said) → AreSaid said earlier → (lines : Lines) → IsFaultless replay_meaning (earlier ++ lines) → IsThere ((all : Said) × AreSaid all (earlier ++ lines))
  said_there earlier said are [] none k = k (said, subst (AreSaid said) (sym (append-nil earlier)) are)
  said_there earlier said are (text ∷ lines) none k =
      line_there (IsPointLine (point_of said)) text
      (λ n column. sound_line_of replay_meaning (earlier ++ text ∷ lines) earlier text lines none refl n (record { said = said; are_said = are; is_column = column })) (λ w is.
      said_there (earlier ++ text ∷ []) (w ∷ said) (earlier, text, refl, is, are) lines (subst (IsFaultless replay_meaning) (sym (append_assoc earlier (text ∷ []) lines)) none) (λ all.
      k (all.0, subst (AreSaid all.0) (append_assoc earlier (text ∷ []) lines) all.1)))

  replays_there : (lines : Lines) → IsFaultless replay_meaning lines → IsThere ((text : List ℕ) × (is_well : Bool) × Replays lines text is_well)
  replays_there lines none k =
      said_there [] [] refl lines none (λ said.
      tells_there (kind_of said.0) said.0 lines said.1 refl (λ told.
      k (told.0, told.1, record { said = said.0; are_said = said.1; tells = told.2 })))

  pub replay_lacks_none : LacksNoOutput replay_meaning
  replay_lacks_none =
      lacks_no_output replay_meaning
      (record {
        gives = λ lines none k. replays_there lines none (λ r. k r.0 (r.1, r.2));
        ends = λ lines none k. replays_there lines none (λ r. k r.0 (if r.1 then 0 else 1) (r.1, r.2, refl));
      })
