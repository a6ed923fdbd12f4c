-- The two numbers of each place, and what a sheet says of it.
use Rattle.std.proofs.Common.{◌≡◌, ℕ, zero, suc, ◌-◌, ◌&&◌, eqb, map, set, ◌<◌, ◌+◌, min, max, Bool, List, [], ◌∷◌, length, slice_index, slice_index_or, refl, ap, sym, ◌∙◌, arith, subst}
use Rattle.std.proofs.lemmas.List.{get_or_default}
use lib.Pointwise.{pointwise}
use Rattle.slot_evidence.specs.declared.places.Seen.{Seen}
use Rattle.slot_evidence.specs.declared.places.Seen.TheVariants as seen
use Rattle.slot_evidence.specs.Seen.{IsLawful}
use Rattle.slot_evidence.specs.Sheet.{seen_at, IsSheet}
use Rattle.slot_evidence.specs.inside.Back.{least_back, past_back, leasts_back, pasts_back}
use Rattle.slot_evidence.specs.TwoNumbers.{span_seen, seen_between, seen_with, least_of, past_of, AreInOrder}
use Rattle.slot_evidence.specs.inside.Kept.{seen_of, AreOrdered, AreKept}

-- what the numbers of a place say: the one symbol, or two that differ
pub one_or_differ : (least greatest : ℕ) (P : Seen → Type 0) → (least ≡ greatest → P (seen.One least)) → ((least ≡ greatest → ⊥) → P (seen.Differ least greatest)) → P (seen_between least (suc greatest))
one_or_differ least greatest P one several = grind arith

pub lawful_between : (least past : ℕ) → AreInOrder least past → IsLawful (seen_between least past)
lawful_between least past order = grind arith

-- rows in order have as many numbers, and are in order at each place
pub as_many : (leasts pasts : List ℕ) → AreOrdered leasts pasts → length pasts ≡ length leasts
as_many [] [] ordered = refl
as_many [] (past ∷ pasts) ordered = absurd ordered
as_many (least ∷ leasts) [] ordered = absurd ordered
as_many (least ∷ leasts) (past ∷ pasts) ordered = ap suc (as_many leasts pasts ordered.1)

pub ordered_at : (leasts pasts : List ℕ) → AreOrdered leasts pasts → (p : ℕ) → AreInOrder (slice_index_or leasts p 128) (slice_index_or pasts p 0)
ordered_at [] [] ordered p = refl
ordered_at [] (past ∷ pasts) ordered p = absurd ordered
ordered_at (least ∷ leasts) [] ordered p = absurd ordered
ordered_at (least ∷ leasts) (past ∷ pasts) ordered zero = ordered.0
ordered_at (least ∷ leasts) (past ∷ pasts) ordered (suc p) = ordered_at leasts pasts ordered.1 p

pub ordered_from : (leasts pasts : List ℕ) → length pasts ≡ length leasts → ((p : ℕ) → p < length leasts → AreInOrder (slice_index_or leasts p 128) (slice_index_or pasts p 0)) → AreOrdered leasts pasts
ordered_from [] [] long each = tt
ordered_from [] (past ∷ pasts) long each = absurd (omega arith)
ordered_from (least ∷ leasts) [] long each = absurd (omega arith)
ordered_from (least ∷ leasts) (past ∷ pasts) long each = (each 0 (omega arith), ordered_from leasts pasts (omega arith) (λ p below. each (suc p) (omega arith)))

-- what the sheet says of each place
at_place : (leasts pasts : List ℕ) → AreOrdered leasts pasts → (p : ℕ) → seen_at (seen_of leasts pasts) p ≡ seen_between (slice_index_or leasts p 128) (slice_index_or pasts p 0)
at_place [] [] ordered p = refl
at_place [] (past ∷ pasts) ordered p = absurd ordered
at_place (least ∷ leasts) [] ordered p = absurd ordered
at_place (least ∷ leasts) (past ∷ pasts) ordered zero = refl
at_place (least ∷ leasts) (past ∷ pasts) ordered (suc p) = at_place leasts pasts ordered.1 p

seen_long : (leasts pasts : List ℕ) → AreOrdered leasts pasts → length (seen_of leasts pasts) ≡ length leasts
seen_long [] [] ordered = refl
seen_long [] (past ∷ pasts) ordered = absurd ordered
seen_long (least ∷ leasts) [] ordered = absurd ordered
seen_long (least ∷ leasts) (past ∷ pasts) ordered = ap suc (seen_long leasts pasts ordered.1)

pub kept_long : (leasts pasts : List ℕ) → AreKept leasts pasts → length (seen_of leasts pasts) ≡ 64
kept_long leasts pasts kept = seen_long leasts pasts kept.ordered ∙ kept.places

-- what is kept at a place is what its two words keep
pub kept_at : (leasts pasts : List ℕ) → AreKept leasts pasts → (p : ℕ) → seen_at (seen_of leasts pasts) p ≡ seen_between (slice_index_or leasts p 128) (slice_index_or pasts p 0)
kept_at leasts pasts kept = at_place leasts pasts kept.ordered

pub kept_here : (leasts pasts : List ℕ) → AreKept leasts pasts → (p : ℕ) → p < 64 → seen_at (seen_of leasts pasts) p ≡ seen_between (slice_index leasts p) (slice_index pasts p)
kept_here leasts pasts kept p inside =
    kept_at leasts pasts kept p ∙ ap (λ (n : ℕ). seen_between n (slice_index pasts p)) (get_or_default leasts p 128 0 (omega (arith, kept.places)))

-- what the words keep is a sheet
pub IsSheet-kept : (leasts pasts : List ℕ) → AreKept leasts pasts → IsSheet (seen_of leasts pasts)
IsSheet-kept leasts pasts kept = record {
  places = kept_long leasts pasts kept;
  lawful = λ p. subst IsLawful (sym (kept_at leasts pasts kept p)) (lawful_between _ _ (ordered_at leasts pasts kept.ordered p));
}

-- the derived comparison of two sheets' numbers is that of what they say
pub same_told : (a b c d : List ℕ) (s t : List Seen) (e r : Bool) → AreKept a b → AreKept c d → seen_of a b ≡ s → seen_of c d ≡ t → e ≡ pointwise eqb a c → r ≡ (e && pointwise eqb b d)
    → r ≡ (pointwise eqb (map least_of s) (map least_of t) && pointwise eqb (map past_of s) (map past_of t))
same_told a b c d s t e r left right is_s is_t is_e is_r =
    let leasts : map least_of s ≡ a = sym (ap (map least_of) is_s) ∙ leasts_back a b left.ordered in
    let others : map least_of t ≡ c = sym (ap (map least_of) is_t) ∙ leasts_back c d right.ordered in
    let pasts : map past_of s ≡ b = sym (ap (map past_of) is_s) ∙ pasts_back a b left.ordered in
    let more : map past_of t ≡ d = sym (ap (map past_of) is_t) ∙ pasts_back c d right.ordered in
    cc

-- a place's two numbers say what its least and its greatest symbol say
pub between_span : (least past : ℕ) → (past ≡ 0 → ⊥) → seen_between least past ≡ span_seen least (past - 1)
between_span least past some = grind arith

-- a write of both numbers at a place
pub ordered_set : (leasts pasts : List ℕ) (p least past : ℕ) → AreOrdered leasts pasts → AreInOrder least past → AreOrdered (set leasts p least) (set pasts p past)
ordered_set [] [] p least past ordered order = tt
ordered_set [] (y ∷ pasts) p least past ordered order = absurd ordered
ordered_set (x ∷ leasts) [] p least past ordered order = absurd ordered
ordered_set (x ∷ leasts) (y ∷ pasts) zero least past ordered order = (order, ordered.1)
ordered_set (x ∷ leasts) (y ∷ pasts) (suc p) least past ordered order = (ordered.0, ordered_set leasts pasts p least past ordered.1 order)

pub seen_set : (leasts pasts : List ℕ) (p least past : ℕ) → AreOrdered leasts pasts → seen_of (set leasts p least) (set pasts p past) ≡ set (seen_of leasts pasts) p (seen_between least past)
seen_set [] [] p least past ordered = refl
seen_set [] (y ∷ pasts) p least past ordered = absurd ordered
seen_set (x ∷ leasts) [] p least past ordered = absurd ordered
seen_set (x ∷ leasts) (y ∷ pasts) zero least past ordered = refl
seen_set (x ∷ leasts) (y ∷ pasts) (suc p) least past ordered = ap (λ (l : List Seen). seen_between x y ∷ l) (seen_set leasts pasts p least past ordered.1)

-- the two numbers of a place, back from what the sheet says of it
pub least_at : (leasts pasts : List ℕ) (p : ℕ) → AreKept leasts pasts → p < 64 → least_of (seen_at (seen_of leasts pasts) p) ≡ slice_index leasts p
least_at leasts pasts p kept inside =
    ap least_of (kept_at leasts pasts kept p)
    ∙ least_back _ _ (ordered_at leasts pasts kept.ordered p)
    ∙ get_or_default leasts p 128 0 (omega (arith, kept.places))

pub past_at : (leasts pasts : List ℕ) (p : ℕ) → AreKept leasts pasts → past_of (seen_at (seen_of leasts pasts) p) ≡ slice_index pasts p
past_at leasts pasts p kept = ap past_of (kept_at leasts pasts kept p) ∙ past_back (slice_index_or leasts p 128) _

-- a symbol more at a place
pub added : (leasts pasts : List ℕ) (p symbol least past : ℕ) (old : List Seen) → AreKept leasts pasts → p < 64 → least ≡ min (slice_index leasts p) symbol → past ≡ max (slice_index pasts p) (symbol + 1)
    → seen_of leasts pasts ≡ old → seen_of (set leasts p least) (set pasts p past) ≡ set old p (seen_with (seen_at old p) symbol)
added leasts pasts p symbol least past old kept inside is_least is_past is =
    let lower : min (least_of (seen_at (seen_of leasts pasts) p)) symbol ≡ least = ap (λ (n : ℕ). min n symbol) (least_at leasts pasts p kept inside) ∙ sym is_least in
    let upper : max (past_of (seen_at (seen_of leasts pasts) p)) (symbol + 1) ≡ past = ap (λ (n : ℕ). max n (symbol + 1)) (past_at leasts pasts p kept) ∙ sym is_past in
    let here : seen_with (seen_at (seen_of leasts pasts) p) symbol ≡ seen_between least past =
    ap (λ (n : ℕ). seen_between n (max (past_of (seen_at (seen_of leasts pasts) p)) (symbol + 1))) lower ∙ ap (seen_between least) upper
    in
    seen_set leasts pasts p least past kept.ordered
    ∙ ap (set (seen_of leasts pasts) p) (sym here)
    ∙ ap (λ (s : List Seen). set s p (seen_with (seen_at s p) symbol)) is
