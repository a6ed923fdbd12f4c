-- What was read of a line of receivers, and of a line that says nothing.
use Rattle.std.proofs.Common.{◌≡◌, ℕ, Option, Some, Ok, List, ◌∷◌, refl, sym, subst}
use Rattle.std.proofs.lemmas.Bool.{false≢true}
use Rattle.ten_unit.specs.declared.character.Element.{Element}
use Rattle.slot_evidence.specs.declared.places.Seen.{Seen}
use Rattle.slot_evidence.specs.Facts.{facts_of}
use Rattle.slot_evidence.specs.Sheet.{IsEnds}
use Rattle.traffic_lines.specs.declared.{lines.TrafficLine.TrafficLine, lines.Point.Point}
use Rattle.input_lines.specs.declared.join.JoinLine.{JoinLine as Got}
use Rattle.input_lines.specs.declared.join.JoinLine.TheVariants as got
use Rattle.input_lines.specs.ReceiverLine.{ReceiverLine, nothing, reception, evidence}
use Rattle.input_lines.specs.PointLine.{joined, traffic, MayBeJoined, IsPointLine}
use Rattle.input_lines.specs.Lines.{Says, ReadsJoinedAt}
use Rattle.join_groups.specs.Groups.{facts_of_line}
use Rattle.join_groups.specs.Meanings.{BringsTooMany}
use Rattle.join_groups.proofs.PublicLaws.{says_reception, says_evidence}
use Rattle.traffic_replay.specs.declared.command.Replay.{Replay}
use Rattle.traffic_replay.specs.Said.{Said, kind_of, among_events, point_of}
use Rattle.traffic_replay.specs.HeardGroups.{of_receivers}
use Rattle.traffic_replay.specs.inside.Progress.{Keeps, IsShown, BringsGroup, MayBeRead}
use Rattle.traffic_replay.proofs.GroupKeeping.{keeps_nothing}
use Rattle.traffic_replay.proofs.Told.{silent}

apart : {group : ℕ} {e : List Element} → got.Reception group e ≡ got.Nothing → ⊥
apart h = cc

apart_too : {group : ℕ} {sheet : List Seen} → got.Evidence group sheet ≡ got.Nothing → ⊥
apart_too h = cc

body_of : (line : ReceiverLine) (read : Got) → (read ≡ got.Nothing → ⊥) → Says line read → (earlier : Said) → point_of (joined line ∷ earlier) ≡ among_events (kind_of earlier)
body_of nothing read some h earlier = absurd (some h)
body_of (reception g f) read some h earlier = refl
body_of (evidence g pairs) read some h earlier = refl

pub reception_shows : (line : ReceiverLine) (read : Got) (group : ℕ) (e : List Element) → read ≡ got.Reception group e → Says line read → IsShown line group (facts_of e)
reception_shows line read group e is h =
    let said : Says line (got.Reception group e) = subst (Says line) is h in
    let parts = says_reception line group e said in
    record { named = parts.0; facts = parts.1; point = body_of line (got.Reception group e) (λ none. apart none) said }

-- what a line of evidence shows, and that its sheet keeps the ends of it
pub record Tells (line : ReceiverLine) (group : ℕ) (sheet : List Seen) : Type 0 where
  pub shown : IsShown line group (facts_of_line group line)
  pub ends : IsEnds (facts_of_line group line) sheet

pub evidence_shows : (line : ReceiverLine) (read : Got) (group : ℕ) (sheet : List Seen) → read ≡ got.Evidence group sheet → Says line read → Tells line group sheet
evidence_shows line read group sheet is h =
    let said : Says line (got.Evidence group sheet) = subst (Says line) is h in
    let parts = says_evidence line group sheet said in
    record { shown = record { named = parts.0; facts = refl; point = body_of line (got.Evidence group sheet) (λ none. apart_too none) said }; ends = parts.1 }

same_line : {a b : ReceiverLine} → joined a ≡ joined b → a ≡ b
same_line h = cc

-- a line that was taken brings no group too many
pub joined_taken : (said : Said) (line : ReceiverLine) → (BringsTooMany (of_receivers said) line → ⊥) → BringsGroup said (joined line) → ⊥
joined_taken said line few b = few (subst (λ (l : ReceiverLine). BringsTooMany (of_receivers said) l) (same_line (sym b.is_joined)) b.brings)

pub traffic_taken : (said : Said) (says : TrafficLine) → BringsGroup said (traffic says) → ⊥
traffic_taken said says b = absurd (let h : traffic says ≡ joined b.line = b.is_joined in cc)

-- a line of receivers at a point, or one that says nothing
pub record IsReceivers (at_point : Point) (read : Got) (text : List ℕ) : Type 0 where
  pub line : ReceiverLine
  pub is_line : IsPointLine at_point (joined line) text
  pub says_it : Says line read
  pub may : MayBeRead at_point read

may_be : (at_point : Point) (line : ReceiverLine) (one : Got) → MayBeJoined at_point line → Says line one → MayBeRead at_point one
may_be at_point line got.Nothing may says = tt
may_be at_point (reception g f) (got.Reception group e) may says = may
may_be at_point (reception g f) (got.Evidence group sheet) may says = may
may_be at_point (evidence g pairs) (got.Reception group e) may says = may
may_be at_point (evidence g pairs) (got.Evidence group sheet) may says = may
may_be at_point nothing (got.Reception group e) may says = absurd (apart says)
may_be at_point nothing (got.Evidence group sheet) may says = absurd (apart_too says)

pub receivers_line : (at_point : Point) (read : Option Got) (one : Got) (text : List ℕ) → read ≡ Some one → ReadsJoinedAt at_point text (Ok read) → IsReceivers at_point one text
receivers_line at_point read one text is h =
    let some : ReadsJoinedAt at_point text (Ok (Some one)) = subst (λ (o : Option Got). ReadsJoinedAt at_point text (Ok o)) is h in
    record { line = some.0; is_line = some.1.0; says_it = some.1.1; may = may_be at_point some.0 one some.1.0.0 some.1.1 }

-- a line that says nothing
pub nothing_taken : (replay : Replay) (said : Said) (line : ReceiverLine) (text : List ℕ) → Says line got.Nothing → Keeps replay said text
    → (BringsTooMany (of_receivers said) line → ⊥) × Keeps replay (joined line ∷ said) text
nothing_taken replay said (reception g f) text is keeps = absurd (apart (sym is))
nothing_taken replay said (evidence g pairs) text is keeps = absurd (apart_too (sym is.1.0))
nothing_taken replay said nothing text is keeps = (
  λ b. false≢true b.named,
  record {
    point = keeps.point;
    ready = keeps.ready;
    heard = keeps_nothing replay.heard said keeps.heard;
    few = keeps.few;
    station = silent replay.stage nothing said text replay.is_well keeps.station;
  },
)
