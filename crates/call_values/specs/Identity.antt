-- Identities: ITU-R M.585, nine digits.
use Rattle.std.specs.Prelude.{ℕ, ◌≤◌}
use Rattle.call_values.specs.declared.bounds.TheConstants.{LAST_IDENTITY}

-- a number of at most nine digits
abbrev pub IsMmsi : ℕ → Type 0
IsMmsi n = n ≤ LAST_IDENTITY
