-- Lines that say something of their own determine their output: this project's profile.
use Rattle.std.specs.Prelude.{◌≡◌, ℕ, List, [], ◌∷◌, ◌++◌}
use Rattle.std.proofs.Common.{sym, ◌∙◌, ap, append_assoc, append-nil}
use Rattle.line_engine.specs.Lines.{Lines}
use Rattle.line_engine.specs.Meaning.{Meaning}
use Rattle.line_engine.specs.Determined.{HasOneColumn, IsDetermined, BeginsWith}
use Rattle.line_engine.specs.Said.{said_behind, said, IsSaying}

said_append : (says : Lines → List ℕ → List ℕ) (earlier first later : Lines) → said_behind says earlier (first ++ later) ≡ said_behind says earlier first ++ said_behind says (earlier ++ first) later
unfolding said_behind
said_append says earlier [] later = ap (λ (l : Lines). said_behind says l later) (sym (append-nil earlier))
said_append says earlier (line ∷ first) later =
    ap (λ (t : List ℕ). says earlier line ++ t) (said_append says (earlier ++ line ∷ []) first later)
    ∙ sym (append_assoc (says earlier line) (said_behind says (earlier ++ line ∷ []) first) (said_behind says ((earlier ++ line ∷ []) ++ first) later))
    ∙ ap (λ (l : Lines). says earlier line ++ said_behind says (earlier ++ line ∷ []) first ++ said_behind says l later) (append_assoc earlier (line ∷ []) first)

-- one line more
pub said_push : (says : Lines → List ℕ → List ℕ) (lines : Lines) (line : List ℕ) → said says (lines ++ line ∷ []) ≡ said says lines ++ says lines line
unfolding said_behind
said_push says lines line = said_append says [] lines (line ∷ []) ∙ ap (λ (t : List ℕ). said says lines ++ t) (append-nil (says lines line))

said_begins : (says : Lines → List ℕ → List ℕ) (first later : Lines) (text whole : List ℕ) → text ≡ said says first → whole ≡ said says (first ++ later) → BeginsWith whole text
said_begins says first later text whole e f =
    (said_behind says first later, f ∙ said_append says [] first later ∙ ap (λ (t : List ℕ). t ++ said_behind says first later) (sym e))

-- what a command whose lines say something of their own gives as its law
pub said_determined : (meaning : Meaning) (says : Lines → List ℕ → List ℕ) (status_of : Lines → ℕ) → HasOneColumn meaning → IsSaying meaning says status_of → IsDetermined meaning
said_determined meaning says status_of one is = record {
  one_column = one;
  one_text = λ lines a b none g h. is.gives lines a g ∙ sym (is.gives lines b h);
  grows = λ first later text whole none g h. said_begins says first later text whole (is.gives first text g) (is.gives (first ++ later) whole h);
  one_end = λ lines a b s t none g h. ((is.ends lines a s g).0 ∙ sym (is.ends lines b t h).0, (is.ends lines a s g).1 ∙ sym (is.ends lines b t h).1);
  ends = λ first later text whole status none g h. said_begins says first later text whole (is.gives first text g) (is.ends (first ++ later) whole status h).0;
}
