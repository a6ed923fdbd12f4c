-- Telecommands: ITU-R M.493, telecommands. Which of them a call may have is this project's profile.
use Rattle.std.specs.Prelude.{ℕ}
use Rattle.dsc_symbols.specs.declared.sets.TheConstants.{FIRSTS, COMMS, SECONDS}
use Rattle.dsc_symbols.specs.Ranges.{IsAmong}

-- the first telecommands: F3E and G3E all modes and duplex, polling, unable to comply, data, J3E, two modes of TTY,
-- none
abbrev pub IsFirst : ℕ → Type 0
IsFirst = IsAmong FIRSTS

-- the subsequent communications: F3E and G3E all modes and duplex, data, J3E, two modes of TTY, none
abbrev pub IsComm : ℕ → Type 0
IsComm = IsAmong COMMS

-- the second telecommands: the reasons of inability and other notices, 100 to 113; none
abbrev pub IsSecond : ℕ → Type 0
IsSecond = IsAmong SECONDS
