-- the fields of a DSC sentence, their texts and their values
use Rattle.std.proofs.Common.{◌≡◌, ℕ, ◌≤◌, Bool, true, false, List, [], Option, IfSome, refl, ap, arith, codes}
use Rattle.sentence_frame.specs.Shapes as shape
use Rattle.sentence_frame.specs.Shapes.{Shape, accepts, is_among, number_of, digits_of}
use Rattle.sentence_frame.specs.Texts.{digits, digit_text, perhaps_text, IsDigits, IsUpToDigits}
use Rattle.sentence_frame.specs.inside.Fields.{perhaps}
use Rattle.sentence_frame.specs.Refusals.{is_head}
use Rattle.sentence_frame.specs.Laws.{AreTexts}
use Rattle.sentence_frame.proofs.FieldLaws.{IsKind, number_kind, code_kind, digits_kind, up_to_kind, maybe_kind, one_value}
use Rattle.sentence_frame.proofs.Sentences.{accepted}
use Rattle.sentence_frame.proofs.Rooms.{are_texts}
use Rattle.arrayvec.specs.ArrayVec.{ArrayVec}
use Rattle.call_values.specs.declared.choices.End.{End}
use Rattle.dsc_symbols.specs.declared.last_digits.TheConstants.{CATEGORIES, FORMATS}
use Rattle.dsc_sentences.specs.declared.dsc.DscFields.{DscFields}
use Rattle.dsc_sentences.specs.Dsc.{texts, shapes, IsDsc, dsc, end_text, expanded_text}
use Rattle.dsc_sentences.proofs.Letters.{end_kind, mark_kind, is_there}
use Rattle.dsc_sentences.specs.inside.DscReading.{end_in}

pub format_kind : IsKind (shape.code FORMATS) (digits 2) number_of (λ n. is_among FORMATS n ≡ true)
format_kind = code_kind FORMATS refl

nothing_code : (numbers : List ℕ) → accepts (shape.code numbers) [] ≡ false
unfolding accepts
nothing_code numbers = refl

nothing_two : accepts (shape.number 2 99) [] ≡ false
unfolding accepts
nothing_two = refl

nothing_four : accepts (shape.number 4 9999) [] ≡ false
unfolding accepts
nothing_four = refl

nothing_ten : accepts (shape.digits 10) [] ≡ false
unfolding accepts
nothing_ten = refl

pub category_kind : IsKind (shape.maybe (shape.code CATEGORIES)) (perhaps_text (digits 2)) (perhaps number_of) (λ o. IfSome o (λ n. is_among CATEGORIES n ≡ true))
category_kind = maybe_kind (shape.code CATEGORIES) (digits 2) number_of (λ n. is_among CATEGORIES n ≡ true) (code_kind CATEGORIES refl) (nothing_code CATEGORIES)

pub two_kind : IsKind (shape.maybe (shape.number 2 99)) (perhaps_text (digits 2)) (perhaps number_of) (λ o. IfSome o (λ n. n ≤ 99))
two_kind = maybe_kind (shape.number 2 99) (digits 2) number_of (λ n. n ≤ 99) (number_kind 2 99 (omega arith)) nothing_two

pub four_kind : IsKind (shape.maybe (shape.number 4 9999)) (perhaps_text (digits 4)) (perhaps number_of) (λ o. IfSome o (λ n. n ≤ 9999))
four_kind = maybe_kind (shape.number 4 9999) (digits 4) number_of (λ n. n ≤ 9999) (number_kind 4 9999 (omega arith)) nothing_four

pub ten_kind : IsKind (shape.maybe (shape.digits 10)) (perhaps_text digit_text) (perhaps digits_of) (λ o. IfSome o (IsDigits 10))
ten_kind = maybe_kind (shape.digits 10) digit_text digits_of (IsDigits 10) (digits_kind 10) nothing_ten

-- lawful fields have accepted texts
pub fields_accepted : (s : DscFields) → IsDsc s → accepted shapes (texts s) ≡ true
unfolding shapes texts
fields_accepted s h =
    let e1 = format_kind.shown s.format h.format in
    let e2 = (digits_kind 10).shown s.address h.address in
    let e3 = category_kind.shown s.category h.category in
    let e4 = two_kind.shown s.first h.first in
    let e5 = two_kind.shown s.second h.second in
    let e6 = (up_to_kind 16).shown s.place.items h.place in
    let e7 = four_kind.shown s.time h.time in
    let e8 = ten_kind.shown s.distress h.distress in
    let e9 = two_kind.shown s.nature h.nature in
    let e10 = end_kind.shown s.end tt in
    let e11 = mark_kind.shown s.expanded tt in
    rw (e1, e2, e3, e4, e5, e6, e7, e8, e9, e10, e11) refl

-- the head of a DSC sentence is one
pub head_is : is_head (codes "$CDDSC") ≡ true
unfolding is_head
head_is = refl

-- the texts of a DSC sentence's fields are those of its form
pub call_texts : (s : DscFields) → IsDsc s → AreTexts dsc (texts s)
unfolding texts shapes
call_texts s h = are_texts dsc (texts s) head_is (λ e. cc) refl refl refl (omega arith) (fields_accepted s h)

-- a record by its fields, so that records with the same fields are one
unfoldable made : ℕ → List ℕ → Option ℕ → Option ℕ → Option ℕ → ArrayVec ℕ → Option ℕ → Option (List ℕ) → Option ℕ → End → Bool → DscFields
made format address category first second place time distress nature end expanded = record {
  format = format;
  address = address;
  category = category;
  first = first;
  second = second;
  place = place;
  time = time;
  distress = distress;
  nature = nature;
  end = end;
  expanded = expanded;
}

record SameFields (v w : DscFields) : Type 0 where
  format : v.format ≡ w.format
  address : v.address ≡ w.address
  category : v.category ≡ w.category
  first : v.first ≡ w.first
  second : v.second ≡ w.second
  place : v.place ≡ w.place
  time : v.time ≡ w.time
  distress : v.distress ≡ w.distress
  nature : v.nature ≡ w.nature
  end : v.end ≡ w.end
  expanded : v.expanded ≡ w.expanded

made_same : (v w : DscFields) → SameFields v w
    → made v.format v.address v.category v.first v.second v.place v.time v.distress v.nature v.end v.expanded
    ≡ made w.format w.address w.category w.first w.second w.place w.time w.distress w.nature w.end w.expanded
made_same v w h = cc

same_fields : (v w : DscFields) → SameFields v w → v ≡ w
unfolding made
same_fields v w h = made_same v w h

-- two lawful records with the same texts are one
pub one_record : (v w : DscFields) → IsDsc v → IsDsc w → texts v ≡ texts w → v ≡ w
unfolding texts
one_record v w hv hw e =
    let e1 = one_value (shape.code FORMATS) (digits 2) number_of (λ n. is_among FORMATS n ≡ true) format_kind v.format w.format hv.format hw.format (cc) in
    let e2 = one_value (shape.digits 10) digit_text digits_of (IsDigits 10) (digits_kind 10) v.address w.address hv.address hw.address (cc) in
    let e3 = one_value (shape.maybe (shape.code CATEGORIES)) (perhaps_text (digits 2)) (perhaps number_of) (λ o. IfSome o (λ n. is_among CATEGORIES n ≡ true)) category_kind v.category w.category hv.category hw.category (cc) in
    let two = one_value (shape.maybe (shape.number 2 99)) (perhaps_text (digits 2)) (perhaps number_of) (λ o. IfSome o (λ n. n ≤ 99)) two_kind in
    let e4 = two v.first w.first hv.first hw.first (cc) in
    let e5 = two v.second w.second hv.second hw.second (cc) in
    let e6 = one_value (shape.at_most 16) digit_text digits_of (IsUpToDigits 16) (up_to_kind 16) v.place.items w.place.items hv.place hw.place (cc) in
    let e7 = one_value (shape.maybe (shape.number 4 9999)) (perhaps_text (digits 4)) (perhaps number_of) (λ o. IfSome o (λ n. n ≤ 9999)) four_kind v.time w.time hv.time hw.time (cc) in
    let e8 = one_value (shape.maybe (shape.digits 10)) (perhaps_text digit_text) (perhaps digits_of) (λ o. IfSome o (IsDigits 10)) ten_kind v.distress w.distress hv.distress hw.distress (cc) in
    let e9 = two v.nature w.nature hv.nature hw.nature (cc) in
    let e10 = one_value (shape.letter (codes "RBS")) end_text end_in (λ e. Unit {0}) end_kind v.end w.end tt tt (cc) in
    let e11 = one_value (shape.maybe (shape.letter (codes "E"))) expanded_text is_there (λ b. Unit {0}) mark_kind v.expanded w.expanded tt tt (cc) in
    same_fields v w (record {
      format = e1;
      address = e2;
      category = e3;
      first = e4;
      second = e5;
      place = ap (λ (l : List ℕ). record { items = l }) e6;
      time = e7;
      distress = e8;
      nature = e9;
      end = e10;
      expanded = e11;
    })
