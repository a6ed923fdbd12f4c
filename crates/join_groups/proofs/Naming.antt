-- One line more: which groups are named, and their facts.
use Rattle.std.proofs.Common.{◌≡◌, ℕ, Bool, false, ◌||◌, ◌==◌, List, [], ◌∷◌, ◌++◌, refl, ap, ◌∙◌}
use Rattle.std.proofs.Math.Path.{fun_ext}
use Rattle.std.specs.List.{list_any}
use Rattle.std.proofs.lemmas.List.Folds.{list_any-append}
use Rattle.std.proofs.Math.Bool.{or-false}
use Rattle.std.proofs.lemmas.Bool.{or_from, and_left, or_parts}
use Rattle.slot_evidence.specs.Facts.{Facts, union}
use Rattle.input_lines.specs.ReceiverLine.{ReceiverLine, nothing, reception, evidence}
use Rattle.join_groups.specs.Groups.{names, is_named, facts_of_line, group_facts}

-- facts that are equal everywhere are the same
pub same_facts : (F G : Facts) → ((p v : ℕ) → F p v ≡ G p v) → F ≡ G
same_facts F G h = fun_ext (λ p. fun_ext (λ v. h p v))

pub named_push : (said : List ReceiverLine) (line : ReceiverLine) (k : ℕ) → is_named (said ++ line ∷ []) k ≡ (is_named said k || names k line)
unfolding is_named
named_push said line k = list_any-append (names k) said (line ∷ []) ∙ ap (λ (b : Bool). list_any (names k) said || b) (or-false (names k line))

pub facts_push : (said : List ReceiverLine) (line : ReceiverLine) (k : ℕ) → group_facts (said ++ line ∷ []) k ≡ union (group_facts said k) (facts_of_line k line)
unfolding group_facts
facts_push said line k = same_facts (group_facts (said ++ line ∷ []) k) (union (group_facts said k) (facts_of_line k line)) (λ p v.
    list_any-append (λ l. facts_of_line k l p v) said (line ∷ [])
    ∙ ap (λ (b : Bool). list_any (λ l. facts_of_line k l p v) said || b) (or-false (facts_of_line k line p v)))

-- a line gives no facts of a group that it doesn't name
pub unnamed_line : (line : ReceiverLine) (k p v : ℕ) → names k line ≡ false → facts_of_line k line p v ≡ false
unnamed_line nothing k p v h = refl
unnamed_line (reception group e) k p v h = and_left (group == k) _ h
unnamed_line (evidence group pairs) k p v h = and_left (group == k) _ h

-- nor do lines
pub unnamed_facts : (said : List ReceiverLine) (k p v : ℕ) → is_named said k ≡ false → group_facts said k p v ≡ false
unfolding is_named group_facts
unnamed_facts [] k p v h = refl
unnamed_facts (line ∷ said) k p v h =
    let parts = or_parts (names k line) (list_any (names k) said) h in
    or_from (facts_of_line k line p v) (list_any (λ l. facts_of_line k l p v) said) (unnamed_line line k p v parts.0) (unnamed_facts said k p v parts.1)

-- a line that doesn't name the group changes nothing of it
pub facts_of_others : (said : List ReceiverLine) (line : ReceiverLine) (k : ℕ) → names k line ≡ false → group_facts (said ++ line ∷ []) k ≡ group_facts said k
facts_of_others said line k h =
    facts_push said line k ∙ same_facts (union (group_facts said k) (facts_of_line k line)) (group_facts said k) (λ p v.
    ap (λ (b : Bool). group_facts said k p v || b) (unnamed_line line k p v h) ∙ or-false (group_facts said k p v))

pub named_of_others : (said : List ReceiverLine) (line : ReceiverLine) (k : ℕ) → names k line ≡ false → is_named (said ++ line ∷ []) k ≡ is_named said k
named_of_others said line k h = named_push said line k ∙ ap (λ (b : Bool). is_named said k || b) h ∙ or-false (is_named said k)
