-- The groups of an input's lines and their facts: this project's profile, over the facts of receptions.
use Rattle.std.specs.Prelude.{◌≡◌, ℕ, ◌<◌, Bool, false, ◌&&◌, ◌==◌, List, [], ◌∷◌}
use Rattle.std.specs.List.{list_any}
use Rattle.slot_evidence.specs.Facts.{Facts, facts_of}
use Rattle.line_engine.specs.Lines.{Lines}
use Rattle.input_lines.specs.ReceiverLine.{ReceiverLine, nothing, reception, evidence, IsLine}
use Rattle.input_lines.specs.Lines.{facts_of_pairs}

-- the lines say these, one by one
abbrev pub AreLines : List ReceiverLine → Lines → Type 0
AreLines [] [] = Unit {0}
AreLines [] (text ∷ lines) = ⊥
AreLines (line ∷ said) [] = ⊥
AreLines (line ∷ said) (text ∷ lines) = IsLine line text × AreLines said lines

-- whether a line names this group
abbrev pub names : ℕ → ReceiverLine → Bool
names k nothing = false
names k (reception group e) = group == k
names k (evidence group pairs) = group == k

-- whether some line names this group
unfoldable pub is_named : List ReceiverLine → ℕ → Bool
is_named said k = list_any (names k) said

-- the facts that a line gives of this group: those that a reception shows, or those of the pairs
abbrev pub facts_of_line : ℕ → ReceiverLine → Facts
facts_of_line k nothing p v = false
facts_of_line k (reception group e) p v = group == k && facts_of e p v
facts_of_line k (evidence group pairs) p v = group == k && facts_of_pairs pairs p v

-- the facts of a group: what any of the lines gives of it
unfoldable pub group_facts : List ReceiverLine → ℕ → Facts
group_facts said k p v = list_any (λ line. facts_of_line k line p v) said

-- all these numbers are above this one
abbrev pub AreAbove : ℕ → List ℕ → Type 0
AreAbove n [] = Unit {0}
AreAbove n (k ∷ numbers) = (n < k) × AreAbove n numbers

-- numbers that rise
abbrev pub IsRising : List ℕ → Type 0
IsRising [] = Unit {0}
IsRising (k ∷ numbers) = AreAbove k numbers × IsRising numbers

-- whether a number is one of these
abbrev pub is_among : List ℕ → ℕ → Bool
is_among numbers k = list_any (λ n. n == k) numbers

-- the groups that lines name, by rising number
pub record AreGroups (said : List ReceiverLine) (groups : List ℕ) : Type 0 where
  pub rising : IsRising groups
  pub named : (k : ℕ) → is_among groups k ≡ is_named said k
