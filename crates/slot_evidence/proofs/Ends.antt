-- sheets: the facts of one, and that facts have one
use Rattle.std.proofs.Common.{◌≡◌, ℕ, ◌<◌, ◌≤◌, Bool, true, ◌||◌, ◌==◌, List, length, refl, arith, ap, sym, ◌∙◌, subst, inl, inr, set, replicate, nat_lt, ◌&&◌, ◌+◌, ◌≢◌, Option, Some, ◌∷◌, []}
use Rattle.std.proofs.lemmas.Bool.{or_cases, cases_eq, cases_lt, ne_eqb, and_left}
use Rattle.std.proofs.lemmas.List.{ext_get_or, get_or-set_same, get_or-set_other, get_or-replicate, get_or_past, length-set}
use Rattle.slot_evidence.specs.declared.places.Seen.{Seen}
use Rattle.slot_evidence.specs.declared.places.Seen.TheVariants as seen
use Rattle.slot_evidence.specs.Facts.{Facts, no_facts, one_fact, union, facts_at, facts_of, facts_of_all, Symbols}
use Rattle.slot_evidence.specs.Seen.{IsSeen, IsLawful, symbols_in}
use Rattle.slot_evidence.specs.Sheet.{IsSheet, IsEnds, seen_at, facts_in}
use Rattle.slot_evidence.proofs.Sets.{IsSeen-same, one_seen, or_none}
use Rattle.ten_unit.specs.declared.character.Element.{Element}
use Rattle.time_diversity.specs.Slots.{dx_slot, rx_slot}
use Rattle.phasing.specs.Slot.{shows}
use Rattle.phasing.specs.Origin.{lead_of}

-- the same facts have the same sheets
pub IsEnds-same : (F G : Facts) (s : List Seen) → ((p v : ℕ) → F p v ≡ G p v) → IsEnds F s → IsEnds G s
IsEnds-same F G s same ends = grind arith

-- facts have one sheet
pub one_sheet : (F : Facts) (s t : List Seen) → IsEnds F s → IsEnds F t → s ≡ t
one_sheet F s t a b =
    ext_get_or seen.None s t (a.places ∙ sym b.places) (λ p below. one_seen (F p) _ _ (a.each p) (b.each p))

-- facts have one sheet
pub same_sheet : (F G : Facts) (s t : List Seen) → ((p v : ℕ) → F p v ≡ G p v) → IsEnds F s → IsEnds G t → s ≡ t
same_sheet F G s t same a b = one_sheet G s t (IsEnds-same F G s same a) b

-- what is kept is kept of the symbols that it names
pub seen_by : (x : Seen) → IsLawful x → IsSeen (symbols_in x) x
seen_by x h = grind arith

-- a sheet keeps the ends of its own facts
pub own_ends : (s : List Seen) → IsSheet s → IsEnds (facts_in s) s
own_ends s h = record { places = h.places; each = λ p. seen_by (seen_at s p) (h.lawful p) }

-- the blank sheet shows nothing anywhere
pub blank_at : (p : ℕ) → seen_at (replicate 64 seen.None) p ≡ seen.None
blank_at p =
    elim (cases_lt p 64) [
      | inl inside ↦ get_or-replicate 64 p seen.None seen.None inside
      | inr past ↦ get_or_past (replicate 64 seen.None) p seen.None past
    ]

-- no facts have the blank sheet
pub IsEnds-blank : IsEnds no_facts (replicate 64 seen.None)
IsEnds-blank = record { places = refl; each = λ p. subst (IsSeen (no_facts p)) (sym (blank_at p)) (λ v. refl) }

-- a write at one place
pub IsEnds-set : (F G : Facts) (s : List Seen) (p : ℕ) (x : Seen) → p < 64 → IsEnds F s → IsSeen (G p) x → ((q v : ℕ) → q ≢ p → F q v ≡ G q v) → IsEnds G (set s p x)
IsEnds-set F G s p x inside ends here others = record {
  places = length-set s p x ∙ ends.places;
  each =
      λ q.
      elim (cases_eq q p) [
        | inl same ↦
            let at : seen_at (set s p x) q ≡ x = ap (seen_at (set s p x)) same ∙ get_or-set_same s p x seen.None (omega (arith, ends.places)) in
            subst (IsSeen (G q)) (sym at) (subst (λ (k : ℕ). IsSeen (G k) x) (sym same) here)
        | inr other ↦
            subst (IsSeen (G q)) (sym (get_or-set_other s p q x seen.None other))
            (IsSeen-same (F q) (G q) (seen_at s q) (λ v. others q v other) (ends.each q))
      ];
}

-- a write at the next place keeps what holds of the places before
pub fill_more : (P : ℕ → Seen → Type 0) (s : List Seen) (p : ℕ) (x : Seen) → p < length s → ((k : ℕ) → k < p → P k (seen_at s k)) → P p x → (k : ℕ) → k < p + 1 → P k (seen_at (set s p x) k)
fill_more P s p x inside before here k below =
    elim (cases_eq k p) [
      | inl same ↦
          let at : seen_at (set s p x) k ≡ x = ap (seen_at (set s p x)) same ∙ get_or-set_same s p x seen.None inside in
          subst (P k) (sym at) (subst (λ (q : ℕ). P q x) (sym same) here)
      | inr other ↦ subst (P k) (sym (get_or-set_other s p k x seen.None other)) (before k (omega arith))
    ]

-- what holds of each place, and past the end of a place that showed nothing, holds everywhere
pub everywhere : (P : ℕ → Seen → Type 0) (s : List Seen) (n : ℕ) → length s ≤ n → ((k : ℕ) → k < n → P k (seen_at s k)) → ((k : ℕ) → n ≤ k → P k seen.None) → (k : ℕ) → P k (seen_at s k)
everywhere P s n long inside outside k =
    elim (cases_lt k n) [
      | inl below ↦ inside k below
      | inr past ↦ subst (P k) (sym (get_or_past s k seen.None (omega arith))) (outside k past)
    ]

-- one more fact
pub one_symbol : (p symbol : ℕ) → IsSeen (one_fact p symbol p) (seen.One symbol)
one_symbol p symbol = grind arith

pub IsEnds-add : (F : Facts) (s : List Seen) (p symbol : ℕ) (x : Seen) → p < 64 → IsEnds F s → IsSeen (λ v. F p v || one_fact p symbol p v) x → IsEnds (union F (one_fact p symbol)) (set s p x)
IsEnds-add F s p symbol x inside ends here =
    IsEnds-set F (union F (one_fact p symbol)) s p x inside ends here
    (λ q v other. or_none (F q v) _ (and_left (q == p) (v == symbol) (ne_eqb q p other)))

-- the facts of a place of a reception, by its two slots
pub place_facts : (inside small a b : Bool) → inside ≡ true → ((small && a) || (small && b)) ≡ (inside && (small && (a || b)))
place_facts inside small a b h = grind arith

pub place_seen : (e : List Element) (lead p dx rx : ℕ) (x : Seen) → p < 64 → dx ≡ dx_slot p → rx ≡ rx_slot p → IsSeen (λ v. (nat_lt v 128 && shows e lead dx v) || (nat_lt v 128 && shows e lead rx v)) x → IsSeen (facts_at e (Some lead) p) x
place_seen e lead p dx rx x inside is_dx is_rx h = grind arith

-- the sheet of what the places show at the origin's lead
pub IsEnds-read : (e : List Element) (lead : ℕ) (s : List Seen) → Some lead ≡ lead_of e → IsSheet s → ((p : ℕ) → IsSeen (facts_at e (Some lead) p) (seen_at s p)) → IsEnds (facts_of e) s
unfolding facts_of
IsEnds-read e lead s origin sheet each = record {
  places = sheet.places;
  each = λ p. subst (λ (o : Option ℕ). IsSeen (facts_at e o p) (seen_at s p)) origin (each p);
}

-- a symbol that is kept was shown
pub kept_shown : (S : Symbols) (x : Seen) (v : ℕ) → IsSeen S x → symbols_in x v ≡ true → S v ≡ true
kept_shown S x v is kept = grind arith

-- a reception shows places and symbols that there are
at_small : (e : List Element) (lead : Option ℕ) (p v : ℕ) → facts_at e lead p v ≡ true → (p < 64) × (v < 128)
at_small e lead p v is = grind arith

pub fact_small : (e : List Element) (p v : ℕ) → facts_of e p v ≡ true → (p < 64) × (v < 128)
unfolding facts_of
fact_small e p v is = at_small e (lead_of e) p v is

-- and so do all receptions
pub all_small : (list : List (List Element)) (p v : ℕ) → facts_of_all list p v ≡ true → (p < 64) × (v < 128)
unfolding facts_of_all
all_small [] p v is = absurd (cc)
all_small (e ∷ list) p v is =
    elim (or_cases _ _ is) [
      | inl here ↦ fact_small e p v here
      | inr later ↦ all_small list p v later
    ]
