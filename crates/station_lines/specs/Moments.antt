-- Lines that say what happens at a moment: this project's profile.
use Rattle.std.specs.Prelude.{ℕ, List, ◌++◌, codes, decimal}
use Rattle.line_grammar.specs.Tokens.{Token, free_number}

-- a number of up to 64 bits in plain decimal digits
abbrev pub number : Token
number = free_number 0 18446744073709551615

-- the moment, in milliseconds, and a blank come before what happens at it
abbrev pub at_moment : ℕ → List ℕ → List ℕ
at_moment at told = decimal at ++ codes " " ++ told
