-- Bytes of lines and sentences by their names (ASCII).
use Rattle.std.specs.Prelude.{ℕ}

-- the byte LF
abbrev pub line_feed : ℕ
line_feed = 10

-- the byte CR
abbrev pub carriage_return : ℕ
carriage_return = 13

-- the byte of a blank
abbrev pub space : ℕ
space = 32

-- the byte `#`
abbrev pub number_sign : ℕ
number_sign = 35

-- the byte `$`
abbrev pub dollar_sign : ℕ
dollar_sign = 36

-- the byte `*`
abbrev pub asterisk : ℕ
asterisk = 42

-- the byte `,`
abbrev pub comma : ℕ
comma = 44

-- the byte `0`
abbrev pub digit_zero : ℕ
digit_zero = 48

-- the byte `9`
abbrev pub digit_nine : ℕ
digit_nine = 57

-- the byte `e`
abbrev pub letter_e : ℕ
letter_e = 101

-- the byte `r`
abbrev pub letter_r : ℕ
letter_r = 114
