-- the digits of records are digits, as many as there may be
use Rattle.std.proofs.Common.{◌≡◌, ℕ, zero, suc, ◌+◌, ◌/◌, ◌%◌, ◌≤◌, Bool, true, ◌&&◌, nat_lt, List, [], ◌∷◌, ◌++◌, length, refl, sym, ◌∙◌, ap, arith, length-append}
use Rattle.std.specs.List.{list_all}
use Rattle.std.proofs.lemmas.Bool.{and_from, lt-ltb}
use Rattle.std.proofs.lemmas.List.{map-append}
use Rattle.std.proofs.lemmas.List.Folds.{list_all-append}
use Rattle.call_values.specs.declared.bodies.Body.{Body}
use Rattle.call_values.specs.declared.bodies.Body.TheVariants.{Alert, Distress, Request, Service}
use Rattle.call_values.specs.declared.fields.FieldKind.{FieldKind}
use Rattle.call_values.specs.declared.fields.FieldKind.TheVariants.{Absent, Hundreds, Hf, Vhf, Tens}
use Rattle.call_values.specs.declared.parts.Message.TheVariants.{Fields, At}
use Rattle.call_values.specs.declared.parts.Kind.TheVariants.{Test, AskPosition, Position}
use Rattle.sentence_frame.specs.Texts.{digits, digit_text, AreDigits, IsDigits, IsUpToDigits}
use Rattle.dsc_sentences.specs.Calls.{decimals, position_number, frequency_place, place_of}

abbrev is_value : ℕ → Bool
is_value d = nat_lt d 10

pub decimals_length : (width n : ℕ) → length (decimals width n) ≡ width
unfolding decimals
decimals_length zero n = refl
decimals_length (suc width) n =
    let h = decimals_length width (n / 10) in
    omega (arith, length-append (decimals width (n / 10)) ((n % 10) ∷ []), h)

pub decimals_digits : (width n : ℕ) → AreDigits (decimals width n)
unfolding decimals
decimals_digits zero n = refl
decimals_digits (suc width) n =
    list_all-append is_value (decimals width (n / 10)) ((n % 10) ∷ [])
    ∙ and_from (list_all is_value (decimals width (n / 10))) (is_value (n % 10) && true)
    (decimals_digits width (n / 10)) (and_from (is_value (n % 10)) true (lt-ltb (n % 10) 10 (omega arith)) refl)

pub are_decimals : (width n : ℕ) → IsDigits width (decimals width n)
are_decimals width n = record { long = decimals_length width n; digits = decimals_digits width n }

-- digits are the text of their values
pub digits_are_decimals : (width n : ℕ) → digits width n ≡ digit_text (decimals width n)
unfolding digits decimals
digits_are_decimals zero n = refl
digits_are_decimals (suc width) n =
    ap (λ (l : List ℕ). l ++ (48 + n % 10) ∷ []) (digits_are_decimals width (n / 10))
    ∙ sym (map-append (λ (d : ℕ). 48 + d) (decimals width (n / 10)) ((n % 10) ∷ []))

up_to : (width n : ℕ) → width ≤ 16 → IsUpToDigits 16 (decimals width n)
up_to width n h = let e = decimals_length width n in record { long = omega (arith, e, h); digits = decimals_digits width n }

frequency_digits : (k : FieldKind) → IsUpToDigits 8 (frequency_place k)
frequency_digits Absent = record { long = omega arith; digits = refl }
frequency_digits (Hundreds n) = let e = decimals_length 6 n in record { long = omega (arith, e); digits = decimals_digits 6 n }
frequency_digits (Hf n) = let e = decimals_length 6 (300000 + n) in record { long = omega (arith, e); digits = decimals_digits 6 (300000 + n) }
frequency_digits (Vhf n) = let e = decimals_length 6 (900000 + n) in record { long = omega (arith, e); digits = decimals_digits 6 (900000 + n) }
frequency_digits (Tens n) = let e = decimals_length 8 (40000000 + n) in record { long = omega (arith, e); digits = decimals_digits 8 (40000000 + n) }

both_digits : (xs ys : List ℕ) → IsUpToDigits 8 xs → IsUpToDigits 8 ys → IsUpToDigits 16 (xs ++ ys)
both_digits xs ys hx hy = record {
  long = omega (arith, length-append xs ys, hx.long, hy.long);
  digits = list_all-append is_value xs ys ∙ and_from (list_all is_value xs) (list_all is_value ys) hx.digits hy.digits;
}

pub place_digits : (body : Body) → IsUpToDigits 16 (place_of body)
place_digits (Alert casualty) = up_to 10 (position_number casualty.position) (omega arith)
place_digits (Distress from acknowledges casualty) = up_to 10 (position_number casualty.position) (omega arith)
place_digits (Request category from first second (Fields f1 f2)) = both_digits (frequency_place f1) (frequency_place f2) (frequency_digits f1) (frequency_digits f2)
place_digits (Request category from first second (At position)) = up_to 10 (position_number position) (omega arith)
place_digits (Service category from (Test reply)) = record { long = omega arith; digits = refl }
place_digits (Service category from AskPosition) = record { long = omega arith; digits = refl }
place_digits (Service category from (Position position time)) = up_to 10 (position_number position) (omega arith)
