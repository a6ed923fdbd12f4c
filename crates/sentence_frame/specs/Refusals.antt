-- Which bytes are a sentence of accepted fields, and why others are none: the frame of IEC 61162-1; the fields and the
-- order of refusals are this project's profile.
use Rattle.std.specs.Prelude.{ℕ, ◌+◌, ◌-◌, ◌*◌, Bool, not, ◌&&◌, ◌||◌, ◌==◌, nat_eq, nat_le, nat_lt, if◌then◌else◌, List, ◌∷◌, length, take, drop, slice_index, Result, Ok, Err}
use Rattle.std.specs.List.{list_all, starts_with, slice_split}
use Rattle.line_grammar.specs.Bytes.{digit_zero}
use Rattle.line_grammar.specs.Tokens.{is_digit}
use Rattle.sentence_frame.specs.declared.refusals.SentenceRefusal.{SentenceRefusal}
use Rattle.sentence_frame.specs.declared.refusals.SentenceRefusal.TheVariants.{TooLong, Start, End, Checksum, FieldCount, Field}
use Rattle.sentence_frame.specs.Frames.{checksum}
use Rattle.sentence_frame.specs.Shapes.{Shape, accepts, is_among}

-- the first refusal of several steps
infixl 10 ◌>>=◌
abbrev pub ◌>>=◌ : {A B : Type 0} → Result A SentenceRefusal → (A → Result B SentenceRefusal) → Result B SentenceRefusal
Ok x >>= f = f x
Err e >>= f = Err e

-- what comes before the last five bytes
abbrev pub body : List ℕ → List ℕ
body bytes = take (length bytes - 5) bytes

-- the last five bytes
abbrev pub last_five : List ℕ → List ℕ
last_five bytes = drop (length bytes - 5) bytes

-- what comes after the first byte and before the last five
abbrev pub inner : List ℕ → List ℕ
inner bytes = drop 1 (body bytes)

-- a test of bytes: whether they begin with this head and a comma
abbrev pub begins : List ℕ → List ℕ → Bool
begins head bytes = starts_with nat_eq bytes head && slice_index bytes (length head) == 44

-- a test of bytes: whether it is a capital hexadecimal digit
abbrev pub is_hexadecimal : ℕ → Bool
is_hexadecimal b = is_digit b || (nat_le 65 b && nat_le b 70)

-- a test of bytes: whether they are `*`, two hexadecimal digits, CR and LF
abbrev pub is_ending : List ℕ → Bool
is_ending bytes =
    length bytes == 5 && slice_index bytes 0 == 42 && is_hexadecimal (slice_index bytes 1) && is_hexadecimal (slice_index bytes 2)
    && slice_index bytes 3 == 13 && slice_index bytes 4 == 10

-- the value of a hexadecimal digit
abbrev pub hexadecimal_value : ℕ → ℕ
hexadecimal_value b = if nat_lt b 65 then b - digit_zero else b - 55

-- the checksum that an ending has
abbrev pub written : List ℕ → ℕ
written ending = 16 * hexadecimal_value (slice_index ending 1) + hexadecimal_value (slice_index ending 2)

-- a test of bytes: whether it may come between the `$` and the `*`, which is 32 to 126, and neither of the two
abbrev pub is_clean : ℕ → Bool
is_clean b = (nat_le 32 b && nat_le b 126) && (not (b == 36) && not (b == 42))

-- a test of bytes: whether they end as sentences do, and what is between the `$` and that `*` is clean
abbrev pub is_ended : List ℕ → Bool
is_ended bytes = is_ending (last_five bytes) && list_all is_clean (inner bytes)

-- the fields, each after its comma, of bytes in the frame of sentences with this head
unfoldable pub framed : List ℕ → List ℕ → Result (List ℕ) SentenceRefusal
framed head bytes =
    if nat_lt 82 (length bytes) then Err (TooLong (length bytes)) else
    if not (begins head bytes) then Err Start else
    if not (is_ended bytes) then Err End else
    if not (checksum (inner bytes) == written (last_five bytes)) then Err (Checksum (checksum (inner bytes)) (written (last_five bytes))) else
    Ok (drop (length head) (body bytes))

-- the texts of fields: they are cut at each comma after the first
abbrev pub texts : List ℕ → List (List ℕ)
texts fields = slice_split (λ b. b == 44) (drop 1 fields)

-- the fields of bytes in the frame, where there are so many as one of these numbers
unfoldable pub opened : List ℕ → List ℕ → List ℕ → Result (List ℕ) SentenceRefusal
opened head counts bytes = do
  fields ← framed head bytes
  if is_among counts (length (texts fields)) then Ok fields else Err (FieldCount (length (texts fields)))

-- all texts, where each is accepted from field k on
unfoldable pub judged : ℕ → List Shape → List (List ℕ) → List (List ℕ) → Result (List (List ℕ)) SentenceRefusal
judged k (shape ∷ shapes) (text ∷ texts) all = if accepts shape text then judged (k + 1) shapes texts all else Err (Field k)
judged k _ _ all = Ok all

-- a test of bytes: whether sentences may have this head, `$` and four more bytes at least
unfoldable pub is_head : List ℕ → Bool
is_head head = slice_index head 0 == 36 && nat_lt 4 (length head) && list_all is_clean (drop 1 head)

-- a kind of sentences: its head, how many fields it may have, and the shapes of fields with these texts
pub record Form : Type 0 where
  pub head : List ℕ
  pub counts : List ℕ
  pub shapes : List (List ℕ) → List Shape

-- the texts of a sentence's fields, or the first of the refusals
unfoldable pub texts_of : Form → List ℕ → Result (List (List ℕ)) SentenceRefusal
texts_of form bytes = do
  fields ← opened form.head form.counts bytes
  judged 1 (form.shapes (texts fields)) (texts fields) (texts fields)
