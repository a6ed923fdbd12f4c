-- DSC sentences: the frame is that of IEC 61162-1; the fields, the values that each accepts, and the shortening of
-- symbols to two digits are this project's profile.
use Rattle.std.specs.Prelude.{◌≡◌, ◌↔◌, ℕ, ◌≤◌, Bool, true, false, List, [], ◌∷◌, IfSome, IfOk, Result, Ok, Err, codes}
use Rattle.dsc_symbols.specs.declared.last_digits.TheConstants.{CATEGORIES, FORMATS}
use Rattle.call_values.specs.declared.choices.End.{End}
use Rattle.call_values.specs.declared.choices.End.TheVariants.{Ask, Reply, Plain}
use Rattle.sentence_frame.specs.Shapes.{Shape, number, code, digits, at_most, letter, maybe, is_among}
use Rattle.sentence_frame.specs.Texts as text
use Rattle.sentence_frame.specs.Texts.{digit_text, perhaps_text, IsDigits, IsUpToDigits}
use Rattle.sentence_frame.specs.Frames.{sentence}
use Rattle.sentence_frame.specs.Refusals.{Form, texts_of}
use Rattle.sentence_frame.specs.declared.refusals.SentenceRefusal.{SentenceRefusal}
use Rattle.dsc_sentences.specs.declared.dsc.DscFields.{DscFields}

-- the letters of the ends of sequence: an acknowledgement is wanted, given, neither
abbrev pub end_text : End → List ℕ
end_text Ask = codes "R"
end_text Reply = codes "B"
end_text Plain = codes "S"

-- the letter of a call that an expansion follows
abbrev pub expanded_text : Bool → List ℕ
expanded_text true = codes "E"
expanded_text false = []

-- the texts of the eleven fields
unfoldable pub texts : DscFields → List (List ℕ)
texts s =
    text.digits 2 s.format
    ∷ digit_text s.address
    ∷ perhaps_text (text.digits 2) s.category
    ∷ perhaps_text (text.digits 2) s.first
    ∷ perhaps_text (text.digits 2) s.second
    ∷ digit_text s.place.items
    ∷ perhaps_text (text.digits 4) s.time
    ∷ perhaps_text digit_text s.distress
    ∷ perhaps_text (text.digits 2) s.nature
    ∷ end_text s.end
    ∷ expanded_text s.expanded
    ∷ []

-- what the eleven fields may be
unfoldable pub shapes : List Shape
shapes =
    code FORMATS
    ∷ digits 10
    ∷ maybe (code CATEGORIES)
    ∷ maybe (number 2 99)
    ∷ maybe (number 2 99)
    ∷ at_most 16
    ∷ maybe (number 4 9999)
    ∷ maybe (digits 10)
    ∷ maybe (number 2 99)
    ∷ letter (codes "RBS")
    ∷ maybe (letter (codes "E"))
    ∷ []

-- what values the eleven fields may have
pub record IsDsc (s : DscFields) : Type 0 where
  pub format : is_among FORMATS s.format ≡ true
  pub address : IsDigits 10 s.address
  pub category : IfSome s.category (λ n. is_among CATEGORIES n ≡ true)
  pub first : IfSome s.first (λ n. n ≤ 99)
  pub second : IfSome s.second (λ n. n ≤ 99)
  pub place : IsUpToDigits 16 s.place.items
  pub time : IfSome s.time (λ n. n ≤ 9999)
  pub distress : IfSome s.distress (IsDigits 10)
  pub nature : IfSome s.nature (λ n. n ≤ 99)

-- DSC sentences: the head, and eleven fields
abbrev pub dsc : Form
dsc = record { head = codes "$CDDSC"; counts = 11 ∷ []; shapes = λ texts. shapes }

-- the bytes of a DSC sentence
abbrev pub SentenceText : DscFields → List ℕ → Type 0
SentenceText s bytes = bytes ≡ sentence (codes "$CDDSC") (texts s)

-- what reading answers of bytes: the one record whose bytes these are, or the first of the refusals
pub record IsReading (bytes : List ℕ) (answer : Result DscFields SentenceRefusal) : Type 0 where
  pub found : IfOk answer (λ s. SentenceText s bytes)
  pub only : (s : DscFields) → IsDsc s → SentenceText s bytes → answer ≡ Ok s
  pub refused : (refusal : SentenceRefusal) → (answer ≡ Err refusal) ↔ (texts_of dsc bytes ≡ Err refusal)
