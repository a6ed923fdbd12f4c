-- How fields are read one after another.
use Rattle.std.specs.Prelude.{◌≡◌, ◌<◌, ◌⊎◌, length, slice_index, ℕ, Bool, not, ◌&&◌, ◌==◌, if◌then◌else◌, List, take, drop, Option, Some, None, Result, Ok, Err}
use Rattle.std.specs.List.{prefix_len, list_all}
use Rattle.sentence_frame.specs.Refusals.{is_clean}
use Rattle.sentence_frame.specs.declared.refusals.SentenceRefusal.{SentenceRefusal}
use Rattle.sentence_frame.specs.declared.refusals.SentenceRefusal.TheVariants.{Field}
use Rattle.sentence_frame.specs.Shapes.{Shape, accepts, is_nothing}

-- how many bytes come before the first comma
abbrev pub text_length : List ℕ → ℕ
text_length bytes = prefix_len (λ b. not (b == 44)) bytes

-- the first text of fields that each come after a comma
unfoldable pub first_of : List ℕ → List ℕ
first_of fields = take (text_length (drop 1 fields)) (drop 1 fields)

-- what follows the first text of such fields
unfoldable pub rest_of : List ℕ → List ℕ
rest_of fields = drop (text_length (drop 1 fields)) (drop 1 fields)

-- so many bytes are all, or a comma follows them
abbrev pub ends_at : ℕ → List ℕ → Type 0
ends_at width bytes = (length bytes ≡ width) ⊎ ((width < length bytes) × (slice_index bytes width ≡ 44))

-- the value of field k, where its shape accepts its text
unfoldable pub field : {A : Type 0} → ℕ → Shape → (List ℕ → A) → List ℕ → Result A SentenceRefusal
field k shape value text = if accepts shape text then Ok (value text) else Err (Field k)

-- the value of a text that may be nothing
abbrev pub perhaps : {A : Type 0} → (List ℕ → A) → List ℕ → Option A
perhaps value text = if is_nothing text then None else Some (value text)

-- a test of bytes: whether a field's text may have it
abbrev pub is_plain : ℕ → Bool
is_plain b = is_clean b && not (b == 44)

-- a test of bytes: whether a field's text may have them all
abbrev pub are_plain : List ℕ → Bool
are_plain text = list_all is_plain text

-- one field, and then what its value is read for
unfoldable pub and_then : {A B : Type 0} → Result A SentenceRefusal → (A → Result B SentenceRefusal) → Result B SentenceRefusal
and_then (Ok value) more = more value
and_then (Err refusal) more = Err refusal
