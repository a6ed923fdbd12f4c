-- The plain reader of a grammar: it answers with the parts, or with how many bytes are left at the fault.
use Rattle.std.specs.Prelude.{ℕ, ◌+◌, ◌-◌, ◌*◌, ◌/◌, ◌^◌, min, zero, suc, Bool, false, ◌&&◌, nat_le, ◌==◌, if◌then◌else◌, List, [], ◌∷◌, ◌++◌, length, take, drop, Result, Ok, Err}
use Rattle.std.specs.List.{prefix_len, list_any}
use Rattle.line_grammar.specs.Bytes.{digit_zero}
use Rattle.line_grammar.specs.Shapes.{Shape, letters, fixed_number, pair, choice}
use Rattle.line_grammar.specs.Tokens.{Token, run, free_number, shaped, is_one_of, is_digit}
use Rattle.line_grammar.specs.Grammar.{Grammar, finish, anything, word, field, either, Parts, none, part, first, second}

-- the answer of two that is no fault, or else the further fault
abbrev pub further : {A : Type 0} → Result A ℕ → Result A ℕ → Result A ℕ
further (Ok value) other = Ok value
further (Err left) (Ok value) = Ok value
further (Err left) (Err right) = Err (min left right)

-- a line begins with one of these letters
abbrev pub begins_with : List ℕ → List ℕ → Bool
begins_with signs [] = false
begins_with signs (b ∷ bytes) = is_one_of signs b

-- the end of a line
unfoldable pub ended : List ℕ → Result Parts ℕ
ended [] = Ok none
ended (b ∷ bytes) = Err (suc (length bytes))

-- what follows a word at the front of these bytes
unfoldable pub after : List ℕ → List ℕ → Result (List ℕ) ℕ
after [] bytes = Ok bytes
after (c ∷ text) [] = Err 0
after (c ∷ text) (b ∷ bytes) = if b == c then after text bytes else Err (suc (length bytes))

-- some number from the least to the most has digits that begin so, where those read so far go on to every number
-- from low to high
abbrev pub reaches : (steps : ℕ) → (least : ℕ) → (most : ℕ) → (low : ℕ) → (high : ℕ) → Bool
reaches zero least most low high = nat_le low most
reaches (suc steps) least most low high =
    if nat_le least high then nat_le low most else reaches steps least most (10 * low) (10 * high + 9)

-- some number from the least to the most begins with the digits of this one, which isn't 0
unfoldable pub goes_on : (least : ℕ) → (most : ℕ) → ℕ → Bool
goes_on least most n = reaches least least most n n

-- a number that was read to its end
abbrev pub judged : (least : ℕ) → (n : ℕ) → (front : List ℕ) → (back : List ℕ) → Result (List ℕ × List ℕ) ℕ
judged least n front back = if nat_le least n then Ok (front, back) else Err (length back)

-- more digits of a number, as far as numbers go on
unfoldable pub read_digits : (least : ℕ) → (most : ℕ) → (n : ℕ) → (front : List ℕ) → (back : List ℕ) → Result (List ℕ × List ℕ) ℕ
read_digits least most n front [] = judged least n front []
read_digits least most n front (b ∷ back) =
    let next = 10 * n + (b - digit_zero) in
    if is_digit b && goes_on least most next
    then read_digits least most next (front ++ (b ∷ [])) back
    else judged least n front (b ∷ back)

-- a 0 at the front
abbrev pub judged_zero : (least : ℕ) → (bytes : List ℕ) → Result (List ℕ × List ℕ) ℕ
judged_zero least bytes = if least == 0 then Ok (digit_zero ∷ [], bytes) else Err (suc (length bytes))

-- a number from its first digit on; no digit follows a 0
unfoldable pub read_number : (least : ℕ) → (most : ℕ) → List ℕ → Result (List ℕ × List ℕ) ℕ
read_number least most [] = Err 0
read_number least most (b ∷ bytes) =
    if b == digit_zero
    then judged_zero least bytes
    else (if is_digit b && goes_on least most (b - digit_zero) then read_digits least most (b - digit_zero) (b ∷ []) bytes else Err (suc (length bytes)))

-- a shape's bytes with these in front of them
abbrev pub behind : List ℕ → Result (List ℕ × List ℕ) ℕ → Result (List ℕ × List ℕ) ℕ
behind bytes (Ok (front, back)) = Ok (bytes ++ front, back)
behind bytes (Err left) = Err left

-- what follows letters, with the letters
abbrev pub and_letters : List ℕ → Result (List ℕ) ℕ → Result (List ℕ × List ℕ) ℕ
and_letters text (Ok back) = Ok (text, back)
and_letters text (Err left) = Err left

-- some number of these ranges has so many digits more after those of this one
unfoldable pub fits : (more : ℕ) → (ranges : List (ℕ × ℕ)) → ℕ → Bool
fits more ranges n = list_any (λ range. nat_le (range.0 / 10 ^ more) n && nat_le n (range.1 / 10 ^ more)) ranges

-- the digits of a number after those of this one
unfoldable pub read_numeral : (width : ℕ) → (ranges : List (ℕ × ℕ)) → ℕ → List ℕ → Result (List ℕ × List ℕ) ℕ
read_numeral zero ranges n bytes = Ok ([], bytes)
read_numeral (suc more) ranges n [] = Err 0
read_numeral (suc more) ranges n (b ∷ bytes) =
    let next = 10 * n + (b - digit_zero) in
    if is_digit b && fits more ranges next then behind (b ∷ []) (read_numeral more ranges next bytes) else Err (suc (length bytes))

-- the second of two shapes, after the first
abbrev pub and_shape : Result (List ℕ × List ℕ) ℕ → (List ℕ → Result (List ℕ × List ℕ) ℕ) → Result (List ℕ × List ℕ) ℕ
and_shape (Ok (front, back)) right = behind front (right back)
and_shape (Err left) right = Err left

-- a shape's bytes at the front, and what follows them
unfoldable pub read_shape : Shape → List ℕ → Result (List ℕ × List ℕ) ℕ
read_shape (letters text) bytes = and_letters text (after text bytes)
read_shape (fixed_number width ranges) bytes = read_numeral width ranges 0 bytes
read_shape (pair left right) bytes = and_shape (read_shape left bytes) (read_shape right)
read_shape (choice left right) bytes = further (read_shape left bytes) (read_shape right bytes)

-- a token's bytes at the front, as far as it goes, and what follows them
unfoldable pub read_token : Token → List ℕ → Result (List ℕ × List ℕ) ℕ
read_token (run signs) bytes =
    let n = prefix_len (is_one_of signs) bytes in
    if n == 0 then Err (length bytes) else Ok (take n bytes, drop n bytes)
read_token (free_number least most) bytes = read_number least most bytes
read_token (shaped shape) bytes = read_shape shape bytes

-- the rest of a line after a word
abbrev pub and_then : Result (List ℕ) ℕ → (List ℕ → Result Parts ℕ) → Result Parts ℕ
and_then (Ok back) rest = rest back
and_then (Err left) rest = Err left

-- these parts under a name
abbrev pub named : (Parts → Parts) → Result Parts ℕ → Result Parts ℕ
named name (Ok parts) = Ok (name parts)
named name (Err left) = Err left

-- the rest of a line after a token
abbrev pub and_part : Result (List ℕ × List ℕ) ℕ → (List ℕ → Result Parts ℕ) → Result Parts ℕ
and_part (Ok (front, back)) rest = named (part front) (rest back)
and_part (Err left) rest = Err left

-- the reader of a grammar
unfoldable pub read : Grammar → List ℕ → Result Parts ℕ
read finish bytes = ended bytes
read anything bytes = Ok none
read (word text rest) bytes = and_then (after text bytes) (read rest)
read (field token rest) bytes = and_part (read_token token bytes) (read rest)
read (either left right) bytes = further (named first (read left bytes)) (named second (read right bytes))
