-- the identities but for one
use Rattle.std.proofs.Common.{◌≡◌, ◌≢◌, ℕ, ◌+◌, ◌-◌, Bool, true, false, ◌&&◌, ◌==◌, if◌then◌else◌, List, [], ◌∷◌, refl, ap, arith}
use Rattle.std.proofs.lemmas.Bool.{eqb-true}
use Rattle.std.proofs.lemmas.Bool.Decides.{nat_tests}
use Rattle.call_values.specs.Identity.{IsMmsi}
use Rattle.line_grammar.specs.Grammar.{finish}
use Rattle.line_grammar.specs.Shapes.{digits, is_within}
use Rattle.line_grammar.specs.inside.Soundness.{is_sound, are_ranges}
use Rattle.line_grammar.proofs.Digits.{one_number}
use Rattle.line_grammar.proofs.Rows.{WholeRows}
use Rattle.line_grammar.proofs.Sections.{TokenTexts}
use Rattle.traffic_lines.specs.Lines.{coast, coast_station_parts}
use Rattle.traffic_lines.specs.Worlds.{others, other_identity, IsOtherCoast}
use Rattle.traffic_lines.proofs.LineSections.{party_section}

-- an identity but this one
abbrev IsOther : (mmsi : ℕ) → ℕ → Type 0
IsOther mmsi n = IsMmsi n × (n ≢ mmsi)

-- the ranges by what the one identity is
abbrev ranges : (mmsi : ℕ) → (is_first is_last : Bool) → List (ℕ × ℕ)
ranges mmsi is_first is_last =
    (if is_first then (1, 999999999) else (0, mmsi - 1)) ∷ (if is_last then (0, mmsi - 1) else (mmsi + 1, 999999999)) ∷ []

inside : (mmsi n : ℕ) (s t : Bool) → (mmsi == 0) ≡ s → (mmsi == 999999999) ≡ t → IsMmsi mmsi → IsMmsi n → n ≢ mmsi → is_within (ranges mmsi s t) n ≡ true
inside mmsi n true true e f m h other = absurd (omega (arith, eqb-true mmsi 0 e, eqb-true mmsi 999999999 f))
inside mmsi n true false e f m h other = grind (arith, nat_tests)
inside mmsi n false true e f m h other = grind (arith, nat_tests)
inside mmsi n false false e f m h other = grind (arith, nat_tests)

other : (mmsi n : ℕ) (s t : Bool) → (mmsi == 0) ≡ s → (mmsi == 999999999) ≡ t → IsMmsi mmsi → is_within (ranges mmsi s t) n ≡ true → IsOther mmsi n
other mmsi n true true e f m h = absurd (omega (arith, eqb-true mmsi 0 e, eqb-true mmsi 999999999 f))
other mmsi n true false e f m h = (grind (arith, nat_tests), λ same. grind (arith, nat_tests))
other mmsi n false true e f m h = (grind (arith, nat_tests), λ same. grind (arith, nat_tests))
other mmsi n false false e f m h = (grind (arith, nat_tests), λ same. grind (arith, nat_tests))

some : (mmsi : ℕ) (s t : Bool) → (mmsi == 0) ≡ s → (mmsi == 999999999) ≡ t → IsMmsi mmsi → are_ranges 9 (ranges mmsi s t) ≡ true
some mmsi true true e f m = absurd (omega (arith, eqb-true mmsi 0 e, eqb-true mmsi 999999999 f))
some mmsi true false e f m = grind (arith, nat_tests)
some mmsi false true e f m = grind (arith, nat_tests)
some mmsi false false e f m = grind (arith, nat_tests)

pub others_ranges : (mmsi : ℕ) → IsMmsi mmsi → are_ranges 9 (others mmsi) ≡ true
others_ranges mmsi m = some mmsi (mmsi == 0) (mmsi == 999999999) refl refl m

pub other_told : (mmsi : ℕ) → IsMmsi mmsi → TokenTexts (other_identity mmsi) (IsOther mmsi) (digits 9)
other_told mmsi m = record {
  is = λ n h. (n, inside mmsi n (mmsi == 0) (mmsi == 999999999) refl refl m h.0 h.1, refl);
  of = λ bytes h. (h.0, other mmsi h.0 (mmsi == 0) (mmsi == 999999999) refl refl m h.1, h.2);
  one = λ a b h k e. one_number 9 a b (omega (arith, h.0)) (omega (arith, k.0)) e;
}

-- their row
other_sound : (mmsi : ℕ) → IsMmsi mmsi → is_sound (coast (other_identity mmsi) finish) ≡ true
other_sound mmsi m = ap (λ (b : Bool). b && true) (others_ranges mmsi m)

pub other_rows : (mmsi : ℕ) → IsMmsi mmsi → WholeRows (coast (other_identity mmsi)) (IsOtherCoast mmsi) coast_station_parts
other_rows mmsi m = record { section = party_section (other_identity mmsi) (IsOther mmsi) (other_told mmsi m); sound = other_sound mmsi m; plain = refl; all = refl }
