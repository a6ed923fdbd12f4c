-- The error check character: ITU-R M.493, error check character.
use Rattle.std.specs.Prelude.{ℕ, List, [], ◌∷◌, bit_xor}

-- the error check character: the bitwise exclusive or of the symbols that it covers
unfoldable pub check_of : List ℕ → ℕ
check_of [] = 0
check_of (x ∷ rest) = bit_xor x (check_of rest)
