-- Lines say one thing.
use Rattle.std.proofs.Common.{◌≡◌, ℕ, Option, List, [], ◌∷◌, refl, sym, ap, subst, ◌∙◌}
use Rattle.std.proofs.lemmas.List.{same_from_push}
use Rattle.line_grammar.specs.Columns.{IsColumn}
use Rattle.line_engine.specs.Lines.{Lines}
use Rattle.line_engine.specs.declared.command.Refusal.TheVariants.{Column, TooManyGroups, Memory}
use Rattle.line_engine.specs.declared.command.Refusal.{Refusal}
use Rattle.line_engine.specs.Commands.{IsTakenBehind, IsRefusedBehind}
use Rattle.traffic_lines.specs.declared.worlds.ExchangePoint.{ExchangePoint}
use Rattle.traffic_lines.specs.declared.worlds.WorldLine.{WorldLine}
use Rattle.input_lines.specs.WorldLine.{IsWorldFileLine}
use Rattle.station_lines.proofs.PublicLaws.{not_empty}
use Rattle.station_exchange.specs.Said.{Said, point_of, AreSaid}
use Rattle.station_exchange.specs.Meaning.{exchange_meaning}
use Rattle.station_exchange.specs.inside.Progress.{Refuses}

-- a line at a point says one thing
abbrev pub OneWorldLine : Type 0
OneWorldLine = (at : ExchangePoint) (a b : Option WorldLine) (text : List ℕ) → IsWorldFileLine at a text → IsWorldFileLine at b text → a ≡ b

pub same_said : OneWorldLine → (a b : Said) (lines : Lines) → AreSaid a lines → AreSaid b lines → a ≡ b
same_said one [] [] lines x y = refl
same_said one [] (w ∷ b) lines x y = absurd (not_empty y.0 y.1 (sym x ∙ y.2))
same_said one (v ∷ a) [] lines x y = absurd (not_empty x.0 x.1 (sym y ∙ x.2))
same_said one (v ∷ a) (w ∷ b) lines x y =
    let both = same_from_push x.0 y.0 x.1 y.1 (sym x.2 ∙ y.2) in
    let rest : a ≡ b = same_said one a b x.0 x.4 (subst (AreSaid b) (sym both.0) y.4) in
    let there : IsWorldFileLine (point_of a) w x.1 =
    subst (λ (s : Said). IsWorldFileLine (point_of s) w x.1) (sym rest) (subst (λ (t : List ℕ). IsWorldFileLine (point_of b) w t) (sym both.1) y.3) in
    ap (λ (l : Option WorldLine). l ∷ a) (one (point_of a) v w x.1 x.3 there) ∙ ap (λ (l : Said). w ∷ l) rest

pub taken_behind : OneWorldLine → (said : Said) (lines : Lines) (text : List ℕ) (says : Option WorldLine) → AreSaid said lines → IsWorldFileLine (point_of said) says text
    → IsTakenBehind exchange_meaning lines text
taken_behind one said lines text says are is = record {
  well_formed = λ n ill.
      let same : ill.said ≡ said = same_said one ill.said said lines ill.are_said are in
      (subst (λ (s : Said). IsColumn (IsWorldFileLine (point_of s)) text n) same ill.is_column).is_none says is;
  not_overfull = λ o. o;
}

-- a line is refused for the reason that was told
pub refused_so : (said : Said) (lines : Lines) (text : List ℕ) (refusal : Refusal) → AreSaid said lines → Refuses said text refusal → IsRefusedBehind exchange_meaning lines text refusal
refused_so said lines text (Column n) are h = record { said = said; are_said = are; is_column = h }
refused_so said lines text TooManyGroups are h = absurd h
refused_so said lines text Memory are h = tt
