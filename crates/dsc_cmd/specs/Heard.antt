-- The receptions of a group's lines: ITU-R M.493, time diversity; that evidence stands for receptions is this project's
-- profile.
use Rattle.std.specs.Prelude.{◌≡◌, ℕ, true, List, [], ◌∷◌, ◌++◌, All}
use Rattle.ten_unit.specs.declared.character.Element.{Element}
use Rattle.call_values.specs.declared.calls.Call.{Call}
use Rattle.call_values.specs.Calls.{IsCall}
use Rattle.call_grammar.specs.Spelling.{spell}
use Rattle.slot_evidence.specs.declared.places.Seen.{Seen}
use Rattle.slot_evidence.specs.Facts.{facts_of_all}
use Rattle.slot_evidence.specs.Sheet.{IsEnds, facts_in}
use Rattle.slot_join.specs.Heard.{IsHeard}
use Rattle.input_lines.specs.ReceiverLine.{ReceiverLine, nothing, reception, evidence}
use Rattle.input_lines.specs.Lines.{facts_of_pairs}
use Rattle.join_groups.specs.Groups.{is_named}

-- evidence stands for these receptions: its pairs are the ends of their facts
pub record StandsForThem (pairs : List (ℕ × ℕ)) (receptions : List (List Element)) : Type 0 where
  pub sheet : List Seen
  pub ends : IsEnds (facts_of_all receptions) sheet
  pub same : (p v : ℕ) → facts_of_pairs pairs p v ≡ facts_in sheet p v

-- the receptions of a line, as far as it is of this group: that of a reception line, and those for which evidence
-- stands; any other line has none
abbrev pub AreBehindLine : ℕ → ReceiverLine → List (List Element) → Type 0
AreBehindLine k nothing receptions = receptions ≡ []
AreBehindLine k (reception group e) receptions = (group ≡ k → receptions ≡ e ∷ []) × ((group ≡ k → ⊥) → receptions ≡ [])
AreBehindLine k (evidence group pairs) receptions = (group ≡ k → StandsForThem pairs receptions) × ((group ≡ k → ⊥) → receptions ≡ [])

-- the receptions of the group's lines, in turn
abbrev pub AreBehind : ℕ → List ReceiverLine → List (List Element) → Type 0
AreBehind k [] receptions = receptions ≡ []
AreBehind k (line ∷ said) receptions =
    (here : List (List Element)) × (rest : List (List Element)) × (receptions ≡ here ++ rest) × AreBehindLine k line here × AreBehind k said rest

-- lines name the group, and all the receptions of its lines heard this call and what follows it: truly phased, and in
-- each character wrong in one sense alone
pub record IsOfCall (said : List ReceiverLine) (k : ℕ) (call : Call) (tail : List ℕ) (receptions : List (List Element)) : Type 0 where
  pub lawful : IsCall call
  pub named : is_named said k ≡ true
  pub behind : AreBehind k said receptions
  pub heard : All (λ reception. IsHeard reception (spell call ++ tail)) receptions
