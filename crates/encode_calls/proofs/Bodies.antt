-- the body of a transmission isn't empty
use Rattle.std.proofs.Common.{◌≡◌, ℕ, Bool, true, false, Option, List, [], ◌∷◌, ◌++◌, map, sym, ap, ◌∙◌, append_assoc, append-nil}
use Rattle.std.specs.Prelude.{codes, decimal}
use Rattle.call_values.specs.declared.calls.Call.{Call}
use Rattle.expansion.specs.declared.values.Sets.{Sets}
use Rattle.time_diversity.specs.OnAir.{on_air}
use Rattle.phasing.specs.Sent.{dots, sent}
use Rattle.input_lines.specs.ReceiverLine.{sign_of, text_of_reception}
use Rattle.encode_calls.specs.Transmissions.{list_on_air, transmitted}
use Rattle.encode_calls.specs.Encoding.{encoded_line}

signs_of_body : (long : Bool) (group : ℕ) (call : Call) (expansion : Option Sets)
    → text_of_reception true group (transmitted long call expansion) ≡ codes "r g" ++ (decimal group ++ (codes " " ++ map sign_of (transmitted long call expansion)))
unfolding transmitted sent dots
signs_of_body false group call expansion = ap (λ (l : List ℕ). codes "r g" ++ (decimal group ++ (codes " " ++ l))) (append-nil (map sign_of (transmitted false call expansion)))
signs_of_body true group call expansion = ap (λ (l : List ℕ). codes "r g" ++ (decimal group ++ (codes " " ++ l))) (append-nil (map sign_of (transmitted true call expansion)))

-- what is before the signs
pub front_appended : (o : List ℕ) (group : ℕ) → o ++ ((([] ++ codes "r g") ++ decimal group) ++ 32 ∷ []) ≡ ((o ++ codes "r g") ++ decimal group) ++ codes " "
front_appended o group = simp append_assoc

-- the parts of a line, appended one by one
line_parts : (o n s : List ℕ) → ((((o ++ codes "r g") ++ n) ++ codes " ") ++ s) ++ 10 ∷ [] ≡ o ++ ((codes "r g" ++ (n ++ (codes " " ++ s))) ++ 10 ∷ [])
line_parts o n s =
    ap (λ (l : List ℕ). l ++ 10 ∷ [])
    (append_assoc ((o ++ codes "r g") ++ n) (codes " ") s ∙ append_assoc (o ++ codes "r g") n (codes " " ++ s) ∙ append_assoc o (codes "r g") (n ++ (codes " " ++ s)))
    ∙ append_assoc o (codes "r g" ++ (n ++ (codes " " ++ s))) (10 ∷ [])

pub line_appended : (o : List ℕ) (long : Bool) (group : ℕ) (call : Call) (expansion : Option Sets)
    → ((((o ++ codes "r g") ++ decimal group) ++ codes " ") ++ map sign_of (sent (on_air (list_on_air call expansion)) long)) ++ 10 ∷ [] ≡ o ++ encoded_line long group (call, expansion)
unfolding encoded_line transmitted
line_appended o long group call expansion =
    line_parts o (decimal group) (map sign_of (sent (on_air (list_on_air call expansion)) long))
    ∙ ap (λ (l : List ℕ). o ++ (l ++ 10 ∷ [])) (sym (signs_of_body long group call expansion))
