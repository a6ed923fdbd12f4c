-- One line more: which groups are named, and their facts since they were last heard.
use Rattle.std.proofs.Common.{◌≡◌, ℕ, Bool, true, false, cond, ◌||◌, [], ◌∷◌, refl, ap, ◌∙◌}
use Rattle.std.proofs.Math.Bool.{or_comm}
use Rattle.slot_evidence.specs.Facts.{Facts, union, no_facts}
use Rattle.traffic_lines.specs.declared.lines.TrafficLine.{TrafficLine}
use Rattle.input_lines.specs.ReceiverLine.{ReceiverLine}
use Rattle.input_lines.specs.PointLine.{joined, traffic}
use Rattle.join_groups.specs.Groups.{names, is_named, facts_of_line, group_facts}
use Rattle.join_groups.proofs.PublicLaws.{same_facts, unnamed_line}
use Rattle.traffic_replay.specs.Said.{Said}
use Rattle.traffic_replay.specs.HeardGroups.{of_receivers, hears, since_heard, facts_since_heard}

union_swap : (F G : Facts) → union F G ≡ union G F
union_swap F G = same_facts (union F G) (union G F) (λ p v. or_comm (F p v) (G p v))

named_more : (said : Said) (line : ReceiverLine) (k : ℕ) → is_named (of_receivers (joined line ∷ said)) k ≡ (names k line || is_named (of_receivers said) k)
unfolding is_named
named_more said line k = refl

pub named_of_others : (said : Said) (line : ReceiverLine) (k : ℕ) → names k line ≡ false → is_named (of_receivers (joined line ∷ said)) k ≡ is_named (of_receivers said) k
named_of_others said line k h = named_more said line k ∙ ap (λ (b : Bool). b || is_named (of_receivers said) k) h

-- the line's group is named with those that were
pub named_push : (said : Said) (line : ReceiverLine) (k : ℕ) → is_named (of_receivers (joined line ∷ said)) k ≡ (is_named (of_receivers said) k || names k line)
named_push said line k = named_more said line k ∙ or_comm (names k line) (is_named (of_receivers said) k)

facts_more : (said : Said) (line : ReceiverLine) (k : ℕ) → facts_since_heard k (joined line ∷ said) ≡ union (facts_of_line k line) (facts_since_heard k said)
unfolding facts_since_heard group_facts
facts_more said line k =
    same_facts (facts_since_heard k (joined line ∷ said)) (union (facts_of_line k line) (facts_since_heard k said)) (λ p v. refl)

-- the line's facts come to those that were there
pub facts_push : (said : Said) (line : ReceiverLine) (k : ℕ) → facts_since_heard k (joined line ∷ said) ≡ union (facts_since_heard k said) (facts_of_line k line)
facts_push said line k = facts_more said line k ∙ union_swap (facts_of_line k line) (facts_since_heard k said)

-- a line that doesn't name the group changes nothing of it
pub facts_of_others : (said : Said) (line : ReceiverLine) (k : ℕ) → names k line ≡ false → facts_since_heard k (joined line ∷ said) ≡ facts_since_heard k said
facts_of_others said line k h =
    facts_more said line k
    ∙ same_facts (union (facts_of_line k line) (facts_since_heard k said)) (facts_since_heard k said) (λ p v. ap (λ (b : Bool). b || facts_since_heard k said p v) (unnamed_line line k p v h))

-- a station's line that doesn't hear the group changes nothing of it
pub facts_unheard : (said : Said) (line : TrafficLine) (k : ℕ) → hears k (traffic line) ≡ false → facts_since_heard k (traffic line ∷ said) ≡ facts_since_heard k said
unfolding facts_since_heard
facts_unheard said line k h = ap (λ (b : Bool). group_facts (of_receivers (cond b [] (traffic line ∷ since_heard k said))) k) h

-- a line that hears it leaves none
pub facts_heard : (said : Said) (line : TrafficLine) (k : ℕ) → hears k (traffic line) ≡ true → facts_since_heard k (traffic line ∷ said) ≡ no_facts
unfolding facts_since_heard group_facts
facts_heard said line k h =
    ap (λ (b : Bool). group_facts (of_receivers (cond b [] (traffic line ∷ since_heard k said))) k) h
    ∙ same_facts (group_facts [] k) no_facts (λ p v. refl)

-- before the first line there are none
pub facts_of_none : (k : ℕ) → no_facts ≡ facts_since_heard k []
unfolding facts_since_heard group_facts
facts_of_none k = same_facts no_facts (group_facts [] k) (λ p v. refl)
