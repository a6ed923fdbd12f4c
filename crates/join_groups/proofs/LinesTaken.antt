-- A command over groups stands for the lines that it took.
use Rattle.std.proofs.Common.{◌≡◌, ◌<◌, ℕ, List, length, [], ◌∷◌, ◌++◌, refl, ap, subst, ◌∙◌}
use Rattle.line_engine.specs.declared.command.Refusal.{Refusal}
use Rattle.line_engine.specs.declared.command.Refusal.TheVariants.{Column, TooManyGroups, Memory}
use Rattle.line_engine.specs.Lines.{Lines}
use Rattle.line_engine.specs.Commands.{IsTakenBehind, IsRefusedBehind}
use Rattle.input_lines.specs.ReceiverLine.{ReceiverLine, IsLine}
use Rattle.join_groups.specs.declared.groups.NamedGroups.{NamedGroups}
use Rattle.join_groups.specs.declared.groups.TheConstants.{MOST_IN_BATCH}
use Rattle.join_groups.specs.Groups.{AreLines}
use Rattle.join_groups.specs.Output.{Telling}
use Rattle.join_groups.specs.Meanings.{BringsTooMany, groups_meaning}
use Rattle.join_groups.specs.inside.Kept.{Keeps, IsRefused, StandsFor}

-- a line says one thing
abbrev pub OneLine : Type 0
OneLine = (a b : ReceiverLine) (text : List ℕ) → IsLine a text → IsLine b text → a ≡ b

pub lines_push : (said : List ReceiverLine) (lines : Lines) (line : ReceiverLine) (text : List ℕ) → AreLines said lines → IsLine line text → AreLines (said ++ line ∷ []) (lines ++ text ∷ [])
lines_push [] [] line text are is = (is, tt)
lines_push [] (t ∷ lines) line text are is = absurd are
lines_push (s ∷ said) [] line text are is = absurd are
lines_push (s ∷ said) (t ∷ lines) line text are is = (are.0, lines_push said lines line text are.1 is)

pub same_said : OneLine → (a b : List ReceiverLine) (lines : Lines) → AreLines a lines → AreLines b lines → a ≡ b
same_said one [] [] lines x y = refl
same_said one [] (t ∷ b) [] x y = absurd y
same_said one [] (t ∷ b) (l ∷ lines) x y = absurd x
same_said one (s ∷ a) [] [] x y = absurd x
same_said one (s ∷ a) [] (l ∷ lines) x y = absurd y
same_said one (s ∷ a) (t ∷ b) [] x y = absurd x
same_said one (s ∷ a) (t ∷ b) (l ∷ lines) x y =
    ap (λ (w : ReceiverLine). w ∷ a) (one s t l x.0 y.0) ∙ ap (λ (w : List ReceiverLine). t ∷ w) (same_said one a b lines x.1 y.1)

-- the line that was taken, as the groups say it
abbrev pub Took : NamedGroups → NamedGroups → List ℕ → Type 0
Took old new text = (said : List ReceiverLine) → Keeps old said → (line : ReceiverLine) × (IsLine line text × (BringsTooMany said line → ⊥) × Keeps new (said ++ line ∷ []))

pub stands_after : (old new : NamedGroups) (text : List ℕ) (lines : Lines) (told : List ℕ) → Took old new text → (length old.batch.items < MOST_IN_BATCH → length new.batch.items < MOST_IN_BATCH)
    → StandsFor old lines told → StandsFor new (lines ++ text ∷ []) told
stands_after old new text lines told took few stands =
    let line = took stands.said stands.keeps in record {
      text_is = stands.text_is;
      said = stands.said ++ line.0 ∷ [];
      are_lines = lines_push stands.said lines line.0 text stands.are_lines line.1.0;
      keeps = line.1.2;
      few = few stands.few;
    }

pub taken_behind : OneLine → (tells : Telling) (old new : NamedGroups) (text : List ℕ) (lines : Lines) (told : List ℕ) → Took old new text → StandsFor old lines told
    → IsTakenBehind (groups_meaning tells) lines text
taken_behind one tells old new text lines told took stands =
    let line = took stands.said stands.keeps in record {
      well_formed = λ n column. column.is_none line.0 line.1.0;
      not_overfull = λ o.
          let said : o.said ≡ stands.said = same_said one o.said stands.said lines o.are_lines stands.are_lines in
          let same : o.line ≡ line.0 = one o.line line.0 text o.is_line line.1.0 in
          line.1.1 (subst (λ (l : ReceiverLine). BringsTooMany stands.said l) same (subst (λ (s : List ReceiverLine). BringsTooMany s o.line) said o.brings));
    }

pub refused_behind : (tells : Telling) (old : NamedGroups) (text : List ℕ) (lines : Lines) (told : List ℕ) (refusal : Refusal) → ((said : List ReceiverLine) → Keeps old said → IsRefused said text refusal)
    → StandsFor old lines told → IsRefusedBehind (groups_meaning tells) lines text refusal
refused_behind tells old text lines told (Column n) refused stands = refused stands.said stands.keeps
refused_behind tells old text lines told TooManyGroups refused stands =
    let line = refused stands.said stands.keeps in
    (λ n column. column.is_none line.0 line.1.0, record { said = stands.said; are_lines = stands.are_lines; line = line.0; is_line = line.1.0; brings = line.1.1 })
refused_behind tells old text lines told Memory refused stands = tt
