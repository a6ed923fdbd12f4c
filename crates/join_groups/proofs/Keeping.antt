-- What is kept after one line more.
use Rattle.std.proofs.Common.{◌≡◌, ℕ, ◌≤◌, Bool, true, false, ◌&&◌, ◌||◌, ◌==◌, List, [], ◌∷◌, ◌++◌, length, refl, sym, ap, subst, ◌∙◌, inl, inr, arith}
use Rattle.std.proofs.lemmas.Bool.{cases_eq, eq-eqb, ne_eqb, eqb-true}
use Rattle.slot_evidence.specs.declared.places.Seen.{Seen}
use Rattle.slot_evidence.specs.Facts.{Facts, facts_of, no_facts}
use Rattle.slot_evidence.specs.Sheet.{IsEnds}
use Rattle.ten_unit.specs.declared.character.Element.{Element}
use Rattle.input_lines.specs.ReceiverLine.{ReceiverLine, nothing, reception, evidence, IsLine}
use Rattle.input_lines.specs.Lines.{Says, facts_of_pairs}
use Rattle.input_lines.proofs.PublicLaws.{reception_few}
use Rattle.input_lines.specs.declared.join.JoinLine.{JoinLine as Got}
use Rattle.input_lines.specs.declared.join.JoinLine.TheVariants as got
use Rattle.join_groups.specs.declared.groups.NamedGroups.{NamedGroups}
use Rattle.join_groups.specs.Groups.{names, is_named, facts_of_line, group_facts}
use Rattle.join_groups.specs.Holds.{IsFull, Holds, number_in, named_with, facts_with}
use Rattle.join_groups.specs.Meanings.{BringsTooMany}
use Rattle.join_groups.specs.inside.Kept.{Keeps, IsShort}
use Rattle.join_groups.proofs.Naming.{same_facts, named_push, facts_push, unnamed_line, named_of_others, facts_of_others}
use Rattle.join_groups.proofs.Holding.{holds_same}

-- a line of one group gives facts of this group alone
pub line_of_one : (line : ReceiverLine) (group k p v : ℕ) → ((j : ℕ) → names j line ≡ (group == j)) → facts_of_line k line p v ≡ (group == k && facts_of_line group line p v)
line_of_one line group k p v named =
    elim (cases_eq group k) [
      | inl here ↦ ap (λ (j : ℕ). facts_of_line j line p v) (sym here) ∙ sym (ap (λ (b : Bool). b && facts_of_line group line p v) (eq-eqb group k here))
      | inr apart ↦ (let no : (group == k) ≡ false = ne_eqb group k apart in
          unnamed_line line k p v (named k ∙ no) ∙ sym (ap (λ (b : Bool). b && facts_of_line group line p v) no))
    ]

-- before the first line
pub keeps_none : (groups : NamedGroups) → Holds groups (λ k. false) (λ k. no_facts) → Keeps groups []
unfolding is_named group_facts
keeps_none groups h =
    holds_same (number_in groups) groups.sheets.items groups.batch.items (λ k. false) (is_named []) (λ k. no_facts) (group_facts []) (λ k. refl) (λ k p v. refl) h

-- groups that hold what a line showed of its group keep what is said with it
pub keeps_line : (groups : NamedGroups) (said : List ReceiverLine) (line : ReceiverLine) (group : ℕ) (G : Facts) → ((j : ℕ) → names j line ≡ (group == j)) → facts_of_line group line ≡ G
    → Holds groups (named_with group (is_named said)) (facts_with group G (group_facts said)) → Keeps groups (said ++ line ∷ [])
keeps_line groups said line group G named facts h =
    holds_same (number_in groups) groups.sheets.items groups.batch.items (named_with group (is_named said)) (is_named (said ++ line ∷ [])) (facts_with group G (group_facts said)) (group_facts (said ++ line ∷ []))
    (λ k. sym (named_push said line k ∙ ap (λ (b : Bool). is_named said k || b) (named k)))
    (λ k p v. sym (ap (λ (F : Facts). F p v) (facts_push said line k)
    ∙ ap (λ (b : Bool). group_facts said k p v || b) (line_of_one line group k p v named ∙ ap (λ (F : Facts). group == k && F p v) facts)))
    h

-- groups are full exactly where this line brings one too many
pub full_brings : (said : List ReceiverLine) (line : ReceiverLine) (group : ℕ) → ((j : ℕ) → names j line ≡ (group == j)) → IsFull (is_named said) group → BringsTooMany said line
full_brings said line group named full = record {
  group = group;
  named = named group ∙ eq-eqb group group refl;
  is_new = full.is_new;
  groups = full.groups;
  are_groups = record { rising = full.rising; named = full.are };
  many = full.many;
}

-- the group that is one too many is this line's
pub brings_full : (said : List ReceiverLine) (line : ReceiverLine) (group : ℕ) → ((j : ℕ) → names j line ≡ (group == j)) → BringsTooMany said line → IsFull (is_named said) group
brings_full said line group named b =
    let same : group ≡ b.group = eqb-true group b.group (sym (named b.group) ∙ b.named) in
    record {
      is_new = subst (λ (k : ℕ). is_named said k ≡ false) (sym same) b.is_new;
      groups = b.groups;
      rising = b.are_groups.rising;
      are = b.are_groups.named;
      many = b.many;
    }

-- a line of at most 4,200 bytes has no more elements
pub short_read : (says : ReceiverLine) (read : Got) (text : List ℕ) → IsLine says text → Says says read → length text ≤ 4200 → IsShort read
short_read nothing read text is says few = λ group e this. absurd (two (sym says ∙ this))
  where
    two : {group : ℕ} {e : List Element} → got.Nothing ≡ got.Reception group e → ⊥
    two h = cc
short_read (evidence g pairs) read text is says few = λ group e this. absurd (two (sym says.1.0 ∙ this))
  where
    two : {g group : ℕ} {sheet : List Seen} {e : List Element} → got.Evidence g sheet ≡ got.Reception group e → ⊥
    two h = cc
short_read (reception g heard) read text is says few = λ group e this.
    let same : length heard ≡ length e = ap length (elements (sym says ∙ this)) in
    omega (arith, reception_few g heard text is, same, few)
  where
    elements : {g group : ℕ} {heard e : List Element} → got.Reception g heard ≡ got.Reception group e → heard ≡ e
    elements h = cc

-- what a line says, once it is read
pub says_reception : (line : ReceiverLine) (group : ℕ) (e : List Element) → Says line (got.Reception group e) → ((k : ℕ) → names k line ≡ (group == k)) × (facts_of_line group line ≡ facts_of e)
says_reception nothing group e is = absurd (two is)
  where
    two : {group : ℕ} {e : List Element} → got.Reception group e ≡ got.Nothing → ⊥
    two h = cc
says_reception (evidence g pairs) group e is = absurd (two is.1.0)
  where
    two : {g group : ℕ} {sheet : List Seen} {e : List Element} → got.Reception group e ≡ got.Evidence g sheet → ⊥
    two h = cc
says_reception (reception g heard) group e is =
    let is_group : group ≡ g = (parts is).0 in
    let is_heard : e ≡ heard = (parts is).1 in
    let same : (g == group) ≡ true = ap (λ (n : ℕ). g == n) is_group ∙ eq-eqb g g refl in (
      λ k. ap (λ (n : ℕ). n == k) (sym is_group),
      same_facts (facts_of_line group (reception g heard)) (facts_of heard) (λ p v. ap (λ (b : Bool). b && facts_of heard p v) same) ∙ ap facts_of (sym is_heard),
    )
  where
    parts : {group g : ℕ} {e heard : List Element} → got.Reception group e ≡ got.Reception g heard → (group ≡ g) × (e ≡ heard)
    parts h = (cc, cc)

-- a line of evidence names its group, and its sheet keeps the ends of what it says
pub says_evidence : (line : ReceiverLine) (group : ℕ) (sheet : List Seen) → Says line (got.Evidence group sheet)
    → ((k : ℕ) → names k line ≡ (group == k)) × IsEnds (facts_of_line group line) sheet
says_evidence nothing group sheet is = absurd (two is)
  where
    two : {group : ℕ} {sheet : List Seen} → got.Evidence group sheet ≡ got.Nothing → ⊥
    two h = cc
says_evidence (reception g heard) group sheet is = absurd (two is)
  where
    two : {g group : ℕ} {sheet : List Seen} {heard : List Element} → got.Evidence group sheet ≡ got.Reception g heard → ⊥
    two h = cc
says_evidence (evidence g pairs) group sheet is =
    let is_group : group ≡ g = (parts is.1.0).0 in
    let is_sheet : sheet ≡ is.0 = (parts is.1.0).1 in
    let same : (g == group) ≡ true = ap (λ (n : ℕ). g == n) is_group ∙ eq-eqb g g refl in
    let facts : facts_of_line group (evidence g pairs) ≡ facts_of_pairs pairs =
    same_facts (facts_of_line group (evidence g pairs)) (facts_of_pairs pairs) (λ p v. ap (λ (b : Bool). b && facts_of_pairs pairs p v) same) in (
      λ k. ap (λ (n : ℕ). n == k) (sym is_group),
      subst (λ (F : Facts). IsEnds F sheet) (sym facts) (subst (IsEnds (facts_of_pairs pairs)) (sym is_sheet) is.1.1),
    )
  where
    parts : {group g : ℕ} {sheet other : List Seen} → got.Evidence group sheet ≡ got.Evidence g other → (group ≡ g) × (sheet ≡ other)
    parts h = (cc, cc)

-- a line of which nothing was read leaves all as it was
pub says_nothing : (said : List ReceiverLine) (line : ReceiverLine) (groups : NamedGroups) → Keeps groups said → Says line got.Nothing → (BringsTooMany said line → ⊥) × Keeps groups (said ++ line ∷ [])
says_nothing said (reception g heard) groups keeps is = absurd (cc)
says_nothing said (evidence g pairs) groups keeps is = absurd (two is.1.0)
  where
    two : {g : ℕ} {sheet : List Seen} → got.Nothing ≡ got.Evidence g sheet → ⊥
    two h = cc
says_nothing said nothing groups keeps is = (
  λ b. (let never : false ≡ true = b.named in absurd cc),
  holds_same (number_in groups) groups.sheets.items groups.batch.items (is_named said) (is_named (said ++ nothing ∷ [])) (group_facts said) (group_facts (said ++ nothing ∷ []))
      (λ k. sym (named_of_others said nothing k refl)) (λ k p v. sym (ap (λ (F : Facts). F p v) (facts_of_others said nothing k refl))) keeps,
)
