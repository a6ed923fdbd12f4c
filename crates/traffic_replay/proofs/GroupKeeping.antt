-- What is held of groups after one line more.
use Rattle.std.proofs.Common.{◌≡◌, ℕ, Bool, true, false, not, ◌&&◌, ◌||◌, ◌==◌, [], ◌∷◌, refl, sym, ap, ◌∙◌}
use Rattle.slot_evidence.specs.Facts.{Facts, no_facts}
use Rattle.traffic_lines.specs.declared.{lines.TrafficLine.TrafficLine, lines.TrafficLine.TheVariants.Event, lines.Event.TheVariants.Comes, lines.Hearing.TheVariants.Heard}
use Rattle.input_lines.specs.ReceiverLine.{ReceiverLine, nothing}
use Rattle.input_lines.specs.PointLine.{joined, traffic}
use Rattle.join_groups.specs.declared.groups.NamedGroups.{NamedGroups}
use Rattle.join_groups.specs.Groups.{names, is_named, facts_of_line}
use Rattle.join_groups.specs.Holds.{Holds, number_in, named_with, facts_with, facts_without}
use Rattle.join_groups.proofs.PublicLaws.{holds_same, line_of_one}
use Rattle.traffic_replay.specs.Said.{Said}
use Rattle.traffic_replay.specs.HeardGroups.{of_receivers, hears, facts_since_heard}
use Rattle.traffic_replay.specs.inside.Kept.{KeepsGroups}
use Rattle.traffic_replay.proofs.GroupFacts.{named_push, named_of_others, facts_push, facts_of_others, facts_unheard, facts_heard, facts_of_none}

-- the same groups, by what other lines say
keeps_same : (groups : NamedGroups) (named other : ℕ → Bool) (F G : ℕ → Facts) → ((k : ℕ) → named k ≡ other k) → ((k : ℕ) → F k ≡ G k) → Holds groups named F → Holds groups other G
keeps_same groups named other F G n f h =
    holds_same (number_in groups) groups.sheets.items groups.batch.items named other F G n (λ k p v. ap (λ (X : Facts). X p v) (f k)) h

-- groups that hold what a line gives of its group keep what is said with it
pub keeps_line : (groups : NamedGroups) (said : Said) (line : ReceiverLine) (group : ℕ) (G : Facts) → ((j : ℕ) → names j line ≡ (group == j)) → facts_of_line group line ≡ G
    → Holds groups (named_with group (is_named (of_receivers said))) (facts_with group G (λ k. facts_since_heard k said)) → KeepsGroups groups (joined line ∷ said)
keeps_line groups said line group G named facts h =
    holds_same (number_in groups) groups.sheets.items groups.batch.items (named_with group (is_named (of_receivers said))) (is_named (of_receivers (joined line ∷ said)))
    (facts_with group G (λ k. facts_since_heard k said)) (λ k. facts_since_heard k (joined line ∷ said))
    (λ k. sym (named_push said line k ∙ ap (λ (b : Bool). is_named (of_receivers said) k || b) (named k)))
    (λ k p v. sym (ap (λ (F : Facts). F p v) (facts_push said line k)
    ∙ ap (λ (b : Bool). facts_since_heard k said p v || b) (line_of_one line group k p v named ∙ ap (λ (F : Facts). group == k && F p v) facts)))
    h

-- a station's line that hears no group
pub silent : (groups : NamedGroups) (said : Said) (line : TrafficLine) → ((k : ℕ) → hears k (traffic line) ≡ false) → KeepsGroups groups said → KeepsGroups groups (traffic line ∷ said)
silent groups said line quiet keeps =
    keeps_same groups (is_named (of_receivers said)) (is_named (of_receivers said)) (λ k. facts_since_heard k said) (λ k. facts_since_heard k (traffic line ∷ said))
    (λ k. refl) (λ k. sym (facts_unheard said line k (quiet k))) keeps

-- a group that is heard begins anew
pub keeps_anew : (groups : NamedGroups) (said : Said) (at group : ℕ) → Holds groups (is_named (of_receivers said)) (facts_without group (λ k. facts_since_heard k said))
    → KeepsGroups groups (traffic (Event at (Comes (Heard group))) ∷ said)
keeps_anew groups said at group h =
    holds_same (number_in groups) groups.sheets.items groups.batch.items (is_named (of_receivers said)) (is_named (of_receivers said))
    (facts_without group (λ k. facts_since_heard k said)) (λ k. facts_since_heard k (traffic (Event at (Comes (Heard group))) ∷ said))
    (λ k. refl) (λ k p v. by_test k p v (group == k) refl) h
  where
    by_test : (k p v : ℕ) (t : Bool) → (group == k) ≡ t → facts_without group (λ j. facts_since_heard j said) k p v ≡ facts_since_heard k (traffic (Event at (Comes (Heard group))) ∷ said) p v
    by_test k p v true e =
        ap (λ (b : Bool). not b && facts_since_heard k said p v) e ∙ sym (ap (λ (F : Facts). F p v) (facts_heard said (Event at (Comes (Heard group))) k e))
    by_test k p v false e =
        ap (λ (b : Bool). not b && facts_since_heard k said p v) e ∙ sym (ap (λ (F : Facts). F p v) (facts_unheard said (Event at (Comes (Heard group))) k e))

-- before the first line
pub none_kept : (groups : NamedGroups) → Holds groups (λ k. false) (λ k. no_facts) → KeepsGroups groups []
unfolding is_named
none_kept groups h =
    keeps_same groups (λ k. false) (is_named (of_receivers [])) (λ k. no_facts) (λ k. facts_since_heard k []) (λ k. refl) facts_of_none h

-- a line that says nothing changes nothing
pub keeps_nothing : (groups : NamedGroups) (said : Said) → KeepsGroups groups said → KeepsGroups groups (joined nothing ∷ said)
keeps_nothing groups said keeps =
    keeps_same groups (is_named (of_receivers said)) (is_named (of_receivers (joined nothing ∷ said))) (λ k. facts_since_heard k said) (λ k. facts_since_heard k (joined nothing ∷ said))
    (λ k. sym (named_of_others said nothing k refl)) (λ k. sym (facts_of_others said nothing k refl)) keeps
