-- How the fields of a DSE sentence are read one after another.
use Rattle.std.specs.Prelude.{◌≡◌, ℕ, ◌+◌, ◌==◌, if◌then◌else◌, List, [], ◌∷◌, slice_index, Option, Some, None, Result, Ok, Err, MatchResult, codes}
use Rattle.sentence_frame.specs.declared.refusals.SentenceRefusal.{SentenceRefusal}
use Rattle.sentence_frame.specs.declared.refusals.SentenceRefusal.TheVariants.{Field}
use Rattle.sentence_frame.specs.Shapes.{accepts, number, code, digits, letter, maybe, is_nothing, number_of, digits_of}
use Rattle.sentence_frame.specs.inside.Fields.{first_of, rest_of, field, perhaps, and_then}
use Rattle.sentence_frame.specs.Refusals.{texts_of}
use Rattle.expansion.specs.declared.last_digits.TheConstants.{COURSE, ENHANCED_POSITION, SPEED}
use Rattle.expansion.specs.declared.bounds.TheConstants.{LAST_ENHANCEMENT, LAST_SPEED, LAST_COURSE}
use Rattle.expansion.specs.declared.parts.PartKind.{PartKind}
use Rattle.expansion.specs.declared.parts.PartKind.TheVariants.{LeftOut, NoInformation, Digits}
use Rattle.dsc_sentences.specs.declared.dse.Flag.{Flag}
use Rattle.dsc_sentences.specs.declared.dse.Flag.TheVariants.{A, Q, R}
use Rattle.dsc_sentences.specs.declared.dse.DseFields.{DseFields}
use Rattle.dsc_sentences.specs.declared.dse_reading.DseParts.{DseParts}
use Rattle.dsc_sentences.specs.Dse.{texts, dse, IsDse}

-- the flag of a letter
abbrev pub flag_in : List ℕ → Flag
flag_in text = if slice_index text 0 == 65 then A else if slice_index text 0 == 81 then Q else R

-- the first byte of a text
abbrev pub first_byte : List ℕ → ℕ
first_byte text = slice_index text 0

-- what data say
abbrev pub part_of : Option ℕ → PartKind
part_of None = NoInformation
part_of (Some n) = Digits n

-- a set that was read or isn't there, the number of the next field, and what follows
pub record Taken : Type 0 where
  pub part : PartKind
  pub next : ℕ
  pub rest : List ℕ

-- the set with this code, where it comes next
unfoldable pub read_set : ℕ → ℕ → ℕ → ℕ → List ℕ → Result Taken SentenceRefusal
read_set k n width most fields =
    if accepts (code (n ∷ [])) (first_of fields)
    then and_then (field (k + 1) (maybe (number width most)) (perhaps number_of) (first_of (rest_of fields)))
    (λ said. Ok (record { part = part_of said; next = k + 2; rest = rest_of (rest_of fields) }))
    else Ok (record { part = LeftOut; next = k; rest = fields })

-- the values of the fields, or the first refusal
unfoldable pub read_fields : List ℕ → Result DseParts SentenceRefusal
read_fields behind0 =
    let behind1 = rest_of behind0 in
    let behind2 = rest_of behind1 in
    let behind3 = rest_of behind2 in
    let behind4 = rest_of behind3 in
    and_then (field 1 (letter (codes "1")) first_byte (first_of behind0)) (λ total.
    and_then (field 2 (letter (codes "1")) first_byte (first_of behind1)) (λ number.
    and_then (field 3 (letter (codes "AQR")) flag_in (first_of behind2)) (λ flag.
    and_then (field 4 (digits 10) digits_of (first_of behind3)) (λ address.
    and_then (read_set 5 ENHANCED_POSITION 8 LAST_ENHANCEMENT behind4) (λ enhanced.
    and_then (read_set enhanced.next SPEED 4 LAST_SPEED enhanced.rest) (λ speed.
    and_then (read_set speed.next COURSE 4 LAST_COURSE speed.rest) (λ course.
    if is_nothing course.rest
    then Ok (record { flag = flag; address = address; sets = record { enhanced = enhanced.part; speed = speed.part; course = course.part } })
    else Err (Field course.next))))))))

-- what is answered of bytes: the fields whose texts they have, or the first refusal
abbrev pub FieldsAnswer : Result DseFields SentenceRefusal → List ℕ → Type 0
FieldsAnswer answer bytes = MatchResult answer (λ s. (texts_of dse bytes ≡ Ok (texts s)) × IsDse s) (λ e. texts_of dse bytes ≡ Err e)

-- the fields of these parts
abbrev pub fields_of : DseParts → DseFields
fields_of parts = record { flag = parts.flag; address = parts.address; expansion = parts.sets }

-- the same of the parts that are read
abbrev pub PartsAnswer : Result DseParts SentenceRefusal → List ℕ → Type 0
PartsAnswer answer bytes =
    MatchResult answer (λ parts. (texts_of dse bytes ≡ Ok (texts (fields_of parts))) × IsDse (fields_of parts)) (λ e. texts_of dse bytes ≡ Err e)
