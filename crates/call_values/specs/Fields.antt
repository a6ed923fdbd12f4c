-- Frequencies and channels: ITU-R M.493, frequency or channel information. The field in tens of hertz is this project's
-- profile.
use Rattle.std.specs.Prelude.{ℕ, ◌≤◌}
use Rattle.call_values.specs.declared.bounds.TheConstants as bounds
use Rattle.call_values.specs.declared.fields.FieldKind.{FieldKind}
use Rattle.call_values.specs.declared.fields.FieldKind.TheVariants.{Absent, Hundreds, Hf, Vhf, Tens}

-- a frequency in hundreds of hertz: six digits below 300,000
abbrev pub IsHundreds : ℕ → Type 0
IsHundreds n = n ≤ bounds.LAST_HUNDREDS

-- an MF or HF channel: five digits
abbrev pub IsHfChannel : ℕ → Type 0
IsHfChannel n = n ≤ bounds.LAST_HF_CHANNEL

-- a VHF channel: four digits
abbrev pub IsVhfChannel : ℕ → Type 0
IsVhfChannel n = n ≤ bounds.LAST_VHF_CHANNEL

-- a frequency in tens of hertz: seven digits
abbrev pub IsTens : ℕ → Type 0
IsTens n = n ≤ bounds.LAST_TENS

-- a field's number is in the range of its kind
abbrev pub IsField : FieldKind → Type 0
IsField Absent = Unit {0}
IsField (Hundreds n) = IsHundreds n
IsField (Hf n) = IsHfChannel n
IsField (Vhf n) = IsVhfChannel n
IsField (Tens n) = IsTens n
