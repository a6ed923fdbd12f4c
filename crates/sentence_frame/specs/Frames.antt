-- Sentences as bytes: IEC 61162-1, the frame of a sentence.
use Rattle.std.specs.Prelude.{ℕ, ◌+◌, ◌/◌, ◌%◌, nat_lt, if◌then◌else◌, List, [], ◌∷◌, ◌++◌, drop, bit_xor}
use Rattle.std.specs.List.{flat_map, fold}
use Rattle.line_grammar.specs.Bytes.{line_feed, carriage_return, asterisk, comma, digit_zero}

-- each text after a comma
abbrev pub behind_commas : List (List ℕ) → List ℕ
behind_commas texts = flat_map (λ text. comma ∷ text) texts

-- the exclusive or of bytes
unfoldable pub checksum : List ℕ → ℕ
checksum bytes = fold bit_xor 0 bytes

-- a number below 16 as a capital hexadecimal digit
abbrev pub hexadecimal : ℕ → ℕ
hexadecimal n = if nat_lt n 10 then digit_zero + n else 55 + n

-- `*`, two hexadecimal digits, CR and LF
abbrev pub ending : ℕ → List ℕ
ending sum = asterisk ∷ hexadecimal (sum / 16) ∷ hexadecimal (sum % 16) ∷ carriage_return ∷ line_feed ∷ []

-- what comes before the `*`, and the ending with the checksum of what comes after the `$`
abbrev pub closed : List ℕ → List ℕ
closed body = body ++ ending (checksum (drop 1 body))

-- a sentence: its head, as `$CDDSC`, each field after a comma, and the ending
unfoldable pub sentence : List ℕ → List (List ℕ) → List ℕ
sentence head texts = closed (head ++ behind_commas texts)
