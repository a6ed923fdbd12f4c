-- Lines say one thing.
use Rattle.std.proofs.Common.{◌≡◌, ℕ, List, [], ◌∷◌, refl, sym, ap, subst, ◌∙◌}
use Rattle.std.proofs.lemmas.List.{same_from_push}
use Rattle.line_grammar.specs.Columns.{IsColumn}
use Rattle.line_engine.specs.Lines.{Lines}
use Rattle.line_engine.specs.declared.command.Refusal.TheVariants.{Column, TooManyGroups, Memory}
use Rattle.line_engine.specs.declared.command.Refusal.{Refusal}
use Rattle.line_engine.specs.Commands.{IsTakenBehind, IsRefusedBehind}
use Rattle.traffic_lines.specs.declared.lines.Point.{Point}
use Rattle.input_lines.specs.PointLine.{PointLine, joined, IsPointLine}
use Rattle.station_lines.proofs.PublicLaws.{not_empty}
use Rattle.traffic_replay.specs.Said.{Said, point_of, AreSaid}
use Rattle.join_groups.specs.Meanings.{BringsTooMany}
use Rattle.traffic_replay.specs.HeardGroups.{of_receivers}
use Rattle.traffic_replay.specs.Meaning.{replay_meaning}
use Rattle.traffic_replay.specs.inside.Progress.{BringsGroup, Refuses}

-- a line at a point says one thing
abbrev pub OnePointLine : Type 0
OnePointLine = (at : Point) (a b : PointLine) (text : List ℕ) → IsPointLine at a text → IsPointLine at b text → a ≡ b

pub same_said : OnePointLine → (a b : Said) (lines : Lines) → AreSaid a lines → AreSaid b lines → a ≡ b
same_said one [] [] lines x y = refl
same_said one [] (w ∷ b) lines x y = absurd (not_empty y.0 y.1 (sym x ∙ y.2))
same_said one (v ∷ a) [] lines x y = absurd (not_empty x.0 x.1 (sym y ∙ x.2))
same_said one (v ∷ a) (w ∷ b) lines x y =
    let both = same_from_push x.0 y.0 x.1 y.1 (sym x.2 ∙ y.2) in
    let rest : a ≡ b = same_said one a b x.0 x.4 (subst (AreSaid b) (sym both.0) y.4) in
    let there : IsPointLine (point_of a) w x.1 = subst (λ (s : Said). IsPointLine (point_of s) w x.1) (sym rest) (subst (λ (t : List ℕ). IsPointLine (point_of b) w t) (sym both.1) y.3) in
    ap (λ (l : PointLine). l ∷ a) (one (point_of a) v w x.1 x.3 there) ∙ ap (λ (l : Said). w ∷ l) rest

pub taken_behind : OnePointLine → (said : Said) (lines : Lines) (text : List ℕ) (says : PointLine) → AreSaid said lines → IsPointLine (point_of said) says text → (BringsGroup said says → ⊥)
    → IsTakenBehind replay_meaning lines text
taken_behind one said lines text says are is few = record {
  well_formed = λ n ill.
      let same : ill.said ≡ said = same_said one ill.said said lines ill.are_said are in
      (subst (λ (s : Said). IsColumn (IsPointLine (point_of s)) text n) same ill.is_column).is_none says is;
  not_overfull = λ o.
      let same : o.said ≡ said = same_said one o.said said lines o.are_said are in
      let there : IsPointLine (point_of said) (joined o.line) text = subst (λ (s : Said). IsPointLine (point_of s) (joined o.line) text) same o.is_line in
      few (record { line = o.line; is_joined = one (point_of said) says (joined o.line) text is there; brings = subst (λ (s : Said). BringsTooMany (of_receivers s) o.line) same o.brings });
}

pub refused_behind : OnePointLine → (said : Said) (lines : Lines) (text : List ℕ) (says : PointLine) → AreSaid said lines → IsPointLine (point_of said) says text → BringsGroup said says
    → IsRefusedBehind replay_meaning lines text TooManyGroups
refused_behind one said lines text says are is brings = (
  λ n ill.
      let same : ill.said ≡ said = same_said one ill.said said lines ill.are_said are in
      (subst (λ (s : Said). IsColumn (IsPointLine (point_of s)) text n) same ill.is_column).is_none says is,
  record { said = said; are_said = are; line = brings.line; is_line = subst (λ (w : PointLine). IsPointLine (point_of said) w text) brings.is_joined is; brings = brings.brings },
)

-- a line is refused for the reason that was told
pub refused_so : OnePointLine → (said : Said) (lines : Lines) (text : List ℕ) (refusal : Refusal) → AreSaid said lines → Refuses said text refusal → IsRefusedBehind replay_meaning lines text refusal
refused_so one said lines text (Column n) are h = record { said = said; are_said = are; is_column = h }
refused_so one said lines text TooManyGroups are h = refused_behind one said lines text h.0 are h.1.0 h.1.1
refused_so one said lines text Memory are h = tt
