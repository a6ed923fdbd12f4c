-- sets of symbols with the same ends are kept alike, and so are their unions
use Rattle.std.proofs.Common.{◌≡◌, ℕ, ◌≤◌, true, false, ◌||◌, ◌==◌, List, refl, sym, subst, inl, inr, arith, ◌∙◌}
use Rattle.std.proofs.lemmas.Bool.{eq-eqb, eqb-true, or_left, or_right, or_cases, false_from_ne_true}
use Rattle.slot_evidence.specs.declared.places.Seen.{Seen}
use Rattle.slot_evidence.specs.declared.places.Seen.TheVariants as seen
use Rattle.slot_evidence.specs.Facts.{Symbols, Facts}
use Rattle.slot_evidence.specs.Seen.{IsSeen, symbols_in}
use Rattle.slot_evidence.specs.Sheet.{IsEnds, seen_at, facts_in}
use Rattle.slot_evidence.specs.Alike.{IsBetween, AreAlike}

-- a symbol of a set is between itself and itself
pub itself : (S : Symbols) (v : ℕ) → S v ≡ true → IsBetween S v
itself S v has = record { low = v; high = v; has_low = has; has_high = has; above = omega arith; below = omega arith }

-- what is between two of a span is in it
inside_span : (S T : Symbols) (a b u : ℕ) → AreAlike S T → ((w : ℕ) → S w ≡ true → (a ≤ w) × (w ≤ b)) → T u ≡ true → (a ≤ u) × (u ≤ b)
inside_span S T a b u alike span has =
    let c = alike.back u has in
    let low = span c.low c.has_low in
    let high = span c.high c.has_high in
    (omega (arith, low.0, c.above), omega (arith, high.1, c.below))

-- a symbol that bounds a set below, or above, bounds those that are like it
least_too : (S T : Symbols) (a b : ℕ) → AreAlike S T → ((w : ℕ) → S w ≡ true → (a ≤ w) × (w ≤ b)) → S a ≡ true → T a ≡ true
least_too S T a b alike span has =
    let d = alike.forth a has in
    let within = inside_span S T a b d.low alike span d.has_low in
    let same : d.low ≡ a = omega (arith, within.0, d.above) in
    subst (λ (u : ℕ). T u ≡ true) same d.has_low

greatest_too : (S T : Symbols) (a b : ℕ) → AreAlike S T → ((w : ℕ) → S w ≡ true → (a ≤ w) × (w ≤ b)) → S b ≡ true → T b ≡ true
greatest_too S T a b alike span has =
    let d = alike.forth b has in
    let within = inside_span S T a b d.high alike span d.has_high in
    let same : d.high ≡ b = omega (arith, within.1, d.below) in
    subst (λ (u : ℕ). T u ≡ true) same d.has_high

-- alike sets are kept alike
pub kept_alike : (S T : Symbols) (x : Seen) → AreAlike S T → IsSeen S x → IsSeen T x
kept_alike S T seen.None alike none =
    λ v. false_from_ne_true (T v) (λ has. let b = alike.back v has in let no : S b.low ≡ false = none b.low in let yes : S b.low ≡ true = b.has_low in cc)
kept_alike S T (seen.One w) alike one =
    let span : (u : ℕ) → S u ≡ true → (w ≤ u) × (u ≤ w) = λ u has. let is = one.1 u has in (omega (arith, is), omega (arith, is)) in (
      least_too S T w w alike span one.0,
      λ u has. let within = inside_span S T w w u alike span has in omega (arith, within.0, within.1),
    )
kept_alike S T (seen.Differ a b) alike several = record {
  has_least = least_too S T a b alike several.between several.has_least;
  has_greatest = greatest_too S T a b alike several.between several.has_greatest;
  apart = several.apart;
  between = λ u has. inside_span S T a b u alike several.between has;
}

between_either : (S T U V : Symbols) → ((v : ℕ) → S v ≡ true → IsBetween T v) → ((v : ℕ) → U v ≡ true → IsBetween V v)
    → (v : ℕ) → (S v || U v) ≡ true → IsBetween (λ w. T w || V w) v
between_either S T U V one other v has = grind arith

-- unions of alike sets are alike
pub unions_alike : (S T U V : Symbols) → AreAlike S T → AreAlike U V → AreAlike (λ v. S v || U v) (λ v. T v || V v)
unions_alike S T U V one other = record {
  forth = between_either S T U V one.forth other.forth;
  back = between_either T S V U one.back other.back;
}

-- sets that have the same symbols are alike, and sets are alike either way round
pub same_alike : (S T : Symbols) → ((v : ℕ) → S v ≡ T v) → AreAlike S T
same_alike S T same = record { forth = λ v has. itself T v (sym (same v) ∙ has); back = λ v has. itself S v (same v ∙ has) }

pub flip_alike : (S T : Symbols) → AreAlike S T → AreAlike T S
flip_alike S T a = record { forth = a.back; back = a.forth }

pub itself_alike : (S : Symbols) → AreAlike S S
itself_alike S = record { forth = itself S; back = itself S }

-- the symbols that are kept are alike those of which they are kept
kept_by : (S : Symbols) (x : Seen) → IsSeen S x → AreAlike S (symbols_in x)
kept_by S seen.None none = record {
  forth = λ v has. let no : S v ≡ false = none v in let yes : S v ≡ true = has in absurd (cc);
  back = λ v has. absurd (cc has);
}
kept_by S (seen.One w) one = record {
  forth = λ v has. let is = one.1 v has in itself (λ u. u == w) v (eq-eqb v w is);
  back = λ v has. let is = eqb-true v w has in itself S v (subst (λ (u : ℕ). S u ≡ true) (sym is) one.0);
}
kept_by S (seen.Differ a b) several = record {
  forth = λ v has. let within = several.between v has in record {
    low = a;
    high = b;
    has_low = or_left (a == a) (a == b) (eq-eqb a a refl);
    has_high = or_right (b == a) (b == b) (eq-eqb b b refl);
    above = within.0;
    below = within.1;
  };
  back = λ v has. elim (or_cases (v == a) (v == b) has) [
    | inl least ↦ itself S v (subst (λ (u : ℕ). S u ≡ true) (sym (eqb-true v a least)) several.has_least)
    | inr greatest ↦ itself S v (subst (λ (u : ℕ). S u ≡ true) (sym (eqb-true v b greatest)) several.has_greatest)
  ];
}

-- a sheet's facts are alike those of which it keeps the ends
pub sheet_alike : (F : Facts) (sheet : List Seen) (p : ℕ) → IsEnds F sheet → AreAlike (F p) (facts_in sheet p)
sheet_alike F sheet p ends = kept_by (F p) (seen_at sheet p) (ends.each p)
