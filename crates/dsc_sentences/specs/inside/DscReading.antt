-- How the fields of a DSC sentence are read one after another.
use Rattle.std.specs.Prelude.{◌≡◌, ℕ, MatchResult, Err, not, ◌==◌, if◌then◌else◌, List, slice_index, Result, Ok, codes}
use Rattle.dsc_symbols.specs.declared.last_digits.TheConstants.{CATEGORIES, FORMATS}
use Rattle.call_values.specs.declared.choices.End.{End}
use Rattle.call_values.specs.declared.choices.End.TheVariants.{Ask, Reply, Plain}
use Rattle.sentence_frame.specs.declared.refusals.SentenceRefusal.{SentenceRefusal}
use Rattle.sentence_frame.specs.Shapes.{number, code, digits, at_most, letter, maybe, is_nothing, number_of, digits_of}
use Rattle.sentence_frame.specs.inside.Fields.{first_of, rest_of, field, perhaps, and_then}
use Rattle.dsc_sentences.specs.declared.dsc.DscFields.{DscFields}
use Rattle.sentence_frame.specs.Refusals.{texts_of}
use Rattle.dsc_sentences.specs.Dsc.{texts, dsc, IsDsc}

-- the end of sequence of a letter
abbrev pub end_in : List ℕ → End
end_in text = if slice_index text 0 == 82 then Ask else if slice_index text 0 == 66 then Reply else Plain

-- the values of the fields, or the first refusal
unfoldable pub read_fields : List ℕ → Result DscFields SentenceRefusal
read_fields behind0 =
    let behind1 = rest_of behind0 in
    let behind2 = rest_of behind1 in
    let behind3 = rest_of behind2 in
    let behind4 = rest_of behind3 in
    let behind5 = rest_of behind4 in
    let behind6 = rest_of behind5 in
    let behind7 = rest_of behind6 in
    let behind8 = rest_of behind7 in
    let behind9 = rest_of behind8 in
    let behind10 = rest_of behind9 in
    and_then (field 1 (code FORMATS) number_of (first_of behind0)) (λ format.
    and_then (field 2 (digits 10) digits_of (first_of behind1)) (λ address.
    and_then (field 3 (maybe (code CATEGORIES)) (perhaps number_of) (first_of behind2)) (λ category.
    and_then (field 4 (maybe (number 2 99)) (perhaps number_of) (first_of behind3)) (λ first.
    and_then (field 5 (maybe (number 2 99)) (perhaps number_of) (first_of behind4)) (λ second.
    and_then (field 6 (at_most 16) (λ t. record { items = digits_of t }) (first_of behind5)) (λ place.
    and_then (field 7 (maybe (number 4 9999)) (perhaps number_of) (first_of behind6)) (λ time.
    and_then (field 8 (maybe (digits 10)) (perhaps digits_of) (first_of behind7)) (λ distress.
    and_then (field 9 (maybe (number 2 99)) (perhaps number_of) (first_of behind8)) (λ nature.
    and_then (field 10 (letter (codes "RBS")) end_in (first_of behind9)) (λ end.
    and_then (field 11 (maybe (letter (codes "E"))) (λ t. not (is_nothing t)) (first_of behind10)) (λ expanded.
    Ok (record {
      format = format;
      address = address;
      category = category;
      first = first;
      second = second;
      place = place;
      time = time;
      distress = distress;
      nature = nature;
      end = end;
      expanded = expanded;
    })
    )))))))))))

-- what is answered of bytes: the fields whose texts they have, or the first refusal
abbrev pub FieldsAnswer : Result DscFields SentenceRefusal → List ℕ → Type 0
FieldsAnswer answer bytes = MatchResult answer (λ s. (texts_of dsc bytes ≡ Ok (texts s)) × IsDsc s) (λ e. texts_of dsc bytes ≡ Err e)
