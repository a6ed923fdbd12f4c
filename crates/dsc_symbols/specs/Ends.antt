-- Ends of sequence: ITU-R M.493, end of sequence.
use Rattle.std.specs.Prelude.{◌≡◌, ℕ, ◌⊎◌}
use Rattle.dsc_symbols.specs.declared.ends.TheConstants as ends

-- the ends of sequence: acknowledgement wanted, acknowledgement given, neither
abbrev pub IsEnd : ℕ → Type 0
IsEnd symbol = (symbol ≡ ends.ACKNOWLEDGE_RQ) ⊎ (symbol ≡ ends.ACKNOWLEDGE_BQ) ⊎ (symbol ≡ ends.EOS)
