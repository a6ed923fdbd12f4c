-- Which grammars a reader may read by going as far as each token goes: this project's profile.
use Rattle.std.specs.Prelude.{ℕ, zero, suc, ◌+◌, ◌-◌, ◌^◌, Bool, true, false, not, nat_le, ◌&&◌, ◌||◌, ◌==◌, if◌then◌else◌, List, [], ◌∷◌, ◌++◌, length, Option, Some, None, codes}
use Rattle.std.specs.List.{flat_map, list_any, list_all}
use Rattle.line_grammar.specs.Bytes.{digit_zero}
use Rattle.line_grammar.specs.Shapes.{Shape, letters, fixed_number, pair, choice}
use Rattle.line_grammar.specs.Tokens.{Token, run, free_number, shaped, is_one_of, is_digit}
use Rattle.line_grammar.specs.inside.Reading.{fits}
use Rattle.line_grammar.specs.Grammar.{Grammar, finish, anything, word, field, either}

-- a test of bytes: whether a shape may have it
abbrev pub shape_may_have : Shape → ℕ → Bool
shape_may_have (letters text) b = is_one_of text b
shape_may_have (fixed_number width ranges) b = is_digit b
shape_may_have (pair left right) b = shape_may_have left b || shape_may_have right b
shape_may_have (choice left right) b = shape_may_have left b || shape_may_have right b

-- the bytes that may begin a shape, and perhaps more
abbrev pub firsts : Shape → List ℕ
firsts (letters []) = []
firsts (letters (c ∷ text)) = c ∷ []
firsts (fixed_number width ranges) = codes "0123456789"
firsts (pair left right) = firsts left
firsts (choice left right) = firsts left ++ firsts right

-- a test of bytes: whether it may begin a shape
abbrev pub may_begin : Shape → ℕ → Bool
may_begin (letters []) b = false
may_begin (letters (c ∷ text)) b = c == b
may_begin (fixed_number zero ranges) b = false
may_begin (fixed_number (suc more) ranges) b = is_digit b && fits more ranges (b - digit_zero)
may_begin (pair left right) b = may_begin left b
may_begin (choice left right) b = may_begin left b || may_begin right b

-- no byte may begin both shapes
abbrev pub begin_apart : Shape → Shape → Bool
begin_apart left right = list_all (λ b. not (may_begin left b && may_begin right b)) (firsts left)

-- the width of two shapes one after the other
abbrev pub both_widths : Option ℕ → Option ℕ → Option ℕ
both_widths (Some m) (Some n) = Some (m + n)
both_widths _ _ = None

-- the width that both are
abbrev pub one_width : Option ℕ → Option ℕ → Option ℕ
one_width (Some m) (Some n) = if m == n then Some m else None
one_width _ _ = None

-- there is a width
abbrev pub is_width : Option ℕ → Bool
is_width (Some m) = true
is_width None = false

-- how many bytes a shape has, where that is one number
abbrev pub width_of : Shape → Option ℕ
width_of (letters text) = Some (length text)
width_of (fixed_number width ranges) = Some width
width_of (pair left right) = both_widths (width_of left) (width_of right)
width_of (choice left right) = one_width (width_of left) (width_of right)

-- both shapes always have as many bytes
abbrev pub are_as_wide : Shape → Shape → Bool
are_as_wide left right = is_width (one_width (width_of left) (width_of right))

-- the letters that each of a shape's byte lists begins with
abbrev pub leading : Shape → List ℕ
leading (letters text) = text
leading (fixed_number width ranges) = []
leading (pair left right) = leading left
leading (choice left right) = []

-- at some place the two have different letters
abbrev pub part_ways : List ℕ → List ℕ → Bool
part_ways [] other = false
part_ways (c ∷ text) [] = false
part_ways (c ∷ text) (d ∷ other) = if c == d then part_ways text other else true

-- bytes of one shape are never where bytes of the other begin
abbrev pub are_apart : Shape → Shape → Bool
are_apart left (choice one other) = are_apart left one && are_apart left other
are_apart left right = begin_apart left right || (are_as_wide left right || part_ways (leading left) (leading right))

-- there are numbers in these ranges, none of more digits
abbrev pub are_ranges : (width : ℕ) → List (ℕ × ℕ) → Bool
are_ranges width [] = false
are_ranges width (range ∷ ranges) =
    list_all (λ each. nat_le each.0 each.1 && not (nat_le (10 ^ width) each.1)) (range ∷ ranges)

-- there is such a shape, it has a byte, and of a choice no side is where another begins
abbrev pub is_some_shape : Shape → Bool
is_some_shape (letters []) = false
is_some_shape (letters (c ∷ text)) = true
is_some_shape (fixed_number zero ranges) = false
is_some_shape (fixed_number (suc more) ranges) = are_ranges (suc more) ranges
is_some_shape (pair left right) = is_some_shape left && is_some_shape right
is_some_shape (choice left right) = are_apart left right && (is_some_shape left && is_some_shape right)

-- a test of bytes: whether a token may have it
abbrev pub may_have : Token → ℕ → Bool
may_have (run signs) b = is_one_of signs b
may_have (free_number least most) b = is_digit b
may_have (shaped shape) b = shape_may_have shape b

-- there is such a token
abbrev pub is_some_token : Token → Bool
is_some_token (run []) = false
is_some_token (run (c ∷ signs)) = true
is_some_token (free_number least most) = nat_le least most
is_some_token (shaped shape) = is_some_shape shape

-- no byte of the token begins what follows it
abbrev pub may_follow : Token → Grammar → Bool
may_follow token finish = true
may_follow token anything = false
may_follow token (word [] rest) = may_follow token rest
may_follow token (word (c ∷ text) rest) = not (may_have token c)
may_follow token (field other rest) = false
may_follow token (either left right) = may_follow token left && may_follow token right

-- each token can be distinguished from what follows it
abbrev pub is_sound : Grammar → Bool
is_sound finish = true
is_sound anything = true
is_sound (word text rest) = is_sound rest
is_sound (field token rest) = is_some_token token && (may_follow token rest && is_sound rest)
is_sound (either left right) = is_sound left && is_sound right

-- the grammars of what may follow this byte at the front of a line, and perhaps more
abbrev pub cut : ℕ → Grammar → List Grammar
cut c finish = []
cut c anything = anything ∷ []
cut c (word [] rest) = cut c rest
cut c (word (d ∷ text) rest) = if c == d then word text rest ∷ [] else []
cut c (field token rest) = if may_have token c then anything ∷ [] else []
cut c (either left right) = cut c left ++ cut c right

-- the same after several bytes, for several grammars
abbrev pub cut_all : List ℕ → List Grammar → List Grammar
cut_all [] grammars = grammars
cut_all (c ∷ text) grammars = cut_all text (flat_map (cut c) grammars)

-- whether a line may end at once
abbrev pub may_end : Grammar → Bool
may_end finish = true
may_end anything = true
may_end (word [] rest) = may_end rest
may_end (word (c ∷ text) rest) = false
may_end (field token rest) = false
may_end (either left right) = may_end left || may_end right

-- a grammar has no line that one of these has
abbrev pub differs : Grammar → List Grammar → Bool
differs finish grammars = not (list_any may_end grammars)
differs anything [] = true
differs anything (other ∷ grammars) = false
differs (word text rest) grammars = differs rest (cut_all text grammars)
differs (field token rest) grammars = list_all (may_follow token) grammars
differs (either left right) grammars = differs left grammars && differs right grammars

-- no line has two readings
abbrev pub is_unambiguous : Grammar → Bool
is_unambiguous finish = true
is_unambiguous anything = true
is_unambiguous (word text rest) = is_unambiguous rest
is_unambiguous (field token rest) = is_unambiguous rest
is_unambiguous (either left right) = differs left (right ∷ []) && (is_unambiguous left && is_unambiguous right)
