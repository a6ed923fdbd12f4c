-- the history that a traffic file says is legal
use Rattle.std.proofs.Common.{◌≡◌, ℕ, Some, Result, Ok, Err, List, [], ◌∷◌, refl, sym, ◌∙◌, subst}
use Rattle.call_values.specs.declared.calls.Call.{Call}
use Rattle.line_engine.specs.Lines.{Lines}
use Rattle.slot_join.specs.declared.joined.Joined.{Joined}
use Rattle.slot_join.specs.declared.joined.Joined.TheVariants.{Reported, Missing, Differ, Outside, Check}
use Rattle.traffic_rules.specs.Histories.{History}
use Rattle.traffic_rules.specs.Rules.{Rules, Legal}
use Rattle.traffic_rules.proofs.PublicLaws.{legal_continued}
use Rattle.station_lines.specs.Events.{EventLine}
use Rattle.traffic_lines.specs.declared.{lines.Event.TheVariants.Comes, lines.Hearing.TheVariants.Heard}
use Rattle.traffic_lines.specs.declared.lines.TrafficLine.TheVariants as line
use Rattle.traffic_lines.specs.Events.{IsStationOwn, IsHearing, IsEvent}
use Rattle.input_lines.specs.PointLine.{joined, traffic}
use Rattle.traffic_replay.specs.declared.outcomes.Unreported.{Unreported}
use Rattle.traffic_replay.specs.Said.{Said, base_of, AreSaid}
use Rattle.traffic_replay.specs.Happenings.{heard_as, Taking, ComesOf, Happening, AreHappenings}
use Rattle.traffic_replay.specs.Output.{history_behind, history_of}

-- what is an event is one of these rules
abbrev IsOf : {What : Type 0} → Rules What → Result What Unreported → Type 0
IsOf {What} rules outcome = (what : What) → outcome ≡ Ok what → rules.IsEvent what

module _ {What : Type 0} (rules : Rules What) (taking : Taking What)
    (lawful : (base at : ℕ) (what : EventLine) (event : What) → IsEvent IsStationOwn IsHearing what → taking.event base at what ≡ Some event → rules.IsEvent event)
    (heard : (call : Call) → rules.IsEvent (taking.heard call)) where
  same_event : (a b : What) → ◌≡◌ {A = Result What Unreported} (Ok a) (Ok b) → a ≡ b
  same_event a b h = cc

  no_event : (u : Unreported) (b : What) → ◌≡◌ {A = Result What Unreported} (Err u) (Ok b) → ⊥
  no_event u b h = cc

  of_answer : (group : ℕ) (answer : Joined) → IsOf rules (heard_as taking.heard group answer)
  of_answer group (Reported call extra) what same = subst rules.IsEvent (same_event (taking.heard call) what same) (heard call)
  of_answer group _ what same = absurd (no_event _ what same)

  -- what comes of an event line
  of_line : (earlier : Said) (at : ℕ) (what : EventLine) (outcome : Result What Unreported) → IsEvent IsStationOwn IsHearing what → ComesOf taking earlier at what outcome
      → IsOf rules outcome
  of_line earlier at (Comes (Heard group)) outcome is comes event same = of_answer group comes.0 event (sym comes.2 ∙ same)
  of_line earlier at what outcome is comes event same =
      subst rules.IsEvent (same_event comes.0 event (sym comes.2 ∙ same)) (lawful (base_of earlier) at what comes.0 is comes.1)

  next_legal : (h : History What) (at : ℕ) (outcome : Result What Unreported) → IsOf rules outcome → Legal rules h → Legal rules (history_behind rules h at outcome)
  next_legal h at (Ok what) of legal = legal_continued rules h at what (of what refl) legal
  next_legal h at (Err unreported) of legal = legal

  -- whatever the rules, a history of their events that goes on by them is legal
  pub happened_legal : (said : Said) (lines : Lines) (happened : List (Happening What)) → AreSaid said lines → AreHappenings taking said happened → Legal rules (history_of rules happened)
  happened_legal [] lines happened are so = subst (λ (l : List (Happening What)). Legal rules (history_of rules l)) (sym so) tt
  happened_legal (joined l ∷ said) lines happened are so = happened_legal said are.0 happened are.4 so
  happened_legal (traffic (line.Ship mmsi) ∷ said) lines happened are so = happened_legal said are.0 happened are.4 so
  happened_legal (traffic (line.Coast mmsi band) ∷ said) lines happened are so = happened_legal said are.0 happened are.4 so
  happened_legal (traffic (line.Base second) ∷ said) lines happened are so = happened_legal said are.0 happened are.4 so
  happened_legal (traffic (line.Group mmsi) ∷ said) lines happened are so = happened_legal said are.0 happened are.4 so
  happened_legal (traffic (line.Event at what) ∷ said) lines [] are so = absurd so
  happened_legal (traffic (line.Event at what) ∷ said) lines (h ∷ happened) are so =
      next_legal (history_of rules happened) h.at h.outcome (of_line said at what h.outcome are.3.1.0.1 so.1) (happened_legal said are.0 happened are.4 so.2)
