-- DSE sentences: the frame is that of IEC 61162-1; the fields, codes and data are this project's profile.
use Rattle.std.specs.Prelude.{◌≡◌, ◌↔◌, ℕ, ◌==◌, nat_lt, if◌then◌else◌, List, [], ◌∷◌, ◌++◌, drop, filter, IfOk, Result, Ok, Err, codes}
use Rattle.sentence_frame.specs.declared.refusals.SentenceRefusal.{SentenceRefusal}
use Rattle.sentence_frame.specs.Shapes.{Shape, number, code, digits, letter, maybe, number_of}
use Rattle.sentence_frame.specs.Texts as text
use Rattle.sentence_frame.specs.Texts.{digit_text, IsDigits}
use Rattle.sentence_frame.specs.Frames.{sentence}
use Rattle.sentence_frame.specs.Refusals.{Form, texts_of}
use Rattle.expansion.specs.declared.last_digits.TheConstants.{COURSE, ENHANCED_POSITION, SPEED}
use Rattle.expansion.specs.declared.bounds.TheConstants.{LAST_ENHANCEMENT, LAST_SPEED, LAST_COURSE}
use Rattle.expansion.specs.declared.parts.PartKind.{PartKind}
use Rattle.expansion.specs.declared.parts.PartKind.TheVariants.{LeftOut, NoInformation, Digits}
use Rattle.expansion.specs.declared.values.Sets.{Sets}
use Rattle.expansion.specs.Expansions.{IsExpansion}
use Rattle.dsc_sentences.specs.declared.dse.Flag.{Flag}
use Rattle.dsc_sentences.specs.declared.dse.Flag.TheVariants.{A, Q, R}
use Rattle.dsc_sentences.specs.declared.dse.DseFields.{DseFields}

-- the letter of a flag
abbrev pub flag_text : Flag → List ℕ
flag_text A = codes "A"
flag_text Q = codes "Q"
flag_text R = codes "R"

-- the code and the data of a set that is there: its digits, or nothing for no information
abbrev pub set_texts : ℕ → ℕ → PartKind → List (List ℕ)
set_texts set width LeftOut = []
set_texts set width NoInformation = text.digits 2 set ∷ [] ∷ []
set_texts set width (Digits n) = text.digits 2 set ∷ text.digits width n ∷ []

-- the sets of an expansion, each by the last two digits of its specifier
abbrev pub expansion_texts : Sets → List (List ℕ)
expansion_texts x = set_texts ENHANCED_POSITION 8 x.enhanced ++ (set_texts SPEED 4 x.speed ++ set_texts COURSE 4 x.course)

-- the texts of the fields: total, number, flag, address, and the sets
unfoldable pub texts : DseFields → List (List ℕ)
texts s = codes "1" ∷ codes "1" ∷ flag_text s.flag ∷ digit_text s.address ∷ expansion_texts s.expansion

-- what the data after a code may be
abbrev pub data_shape : ℕ → Shape
data_shape set =
    maybe (if set == ENHANCED_POSITION then number 8 LAST_ENHANCEMENT else if set == SPEED then number 4 LAST_SPEED else number 4 LAST_COURSE)

-- what pairs of a code and data may be, where these codes may come: each code passes the one before it
unfoldable pub pair_shapes : List ℕ → List (List ℕ) → List Shape
pair_shapes codes (first ∷ behind ∷ texts) =
    code codes ∷ data_shape (number_of first) ∷ pair_shapes (filter (λ each. nat_lt (number_of first) each) codes) texts
pair_shapes codes _ = []

-- what the fields may be: two ones, a flag, ten digits, and pairs of a code and data
abbrev pub shapes : List (List ℕ) → List Shape
shapes texts =
    letter (codes "1") ∷ letter (codes "1") ∷ letter (codes "AQR") ∷ digits 10 ∷ pair_shapes (ENHANCED_POSITION ∷ SPEED ∷ COURSE ∷ []) (drop 4 texts)

-- DSE sentences: the head, and one, two or three pairs after four fields
abbrev pub dse : Form
dse = record { head = codes "$CDDSE"; counts = 6 ∷ 8 ∷ 10 ∷ []; shapes = shapes }

-- what values the fields may have
pub record IsDse (s : DseFields) : Type 0 where
  pub address : IsDigits 10 s.address
  pub expansion : IsExpansion s.expansion

-- the bytes of a DSE sentence
abbrev pub SentenceText : DseFields → List ℕ → Type 0
SentenceText s bytes = bytes ≡ sentence (codes "$CDDSE") (texts s)

-- what reading answers of bytes: the one record whose bytes these are, or the first of the refusals
pub record IsReading (bytes : List ℕ) (answer : Result DseFields SentenceRefusal) : Type 0 where
  pub found : IfOk answer (λ s. SentenceText s bytes)
  pub only : (s : DseFields) → IsDse s → SentenceText s bytes → answer ≡ Ok s
  pub refused : (refusal : SentenceRefusal) → (answer ≡ Err refusal) ↔ (texts_of dse bytes ≡ Err refusal)
