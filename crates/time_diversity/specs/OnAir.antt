-- What the slots of a transmission show: ITU-R M.493, sections on the phasing sequence and on time diversity.
use Rattle.std.specs.Prelude.{ℕ, ◌+◌, ◌-◌, ◌*◌, ◌/◌, ◌%◌, ◌==◌, nat_lt, if◌then◌else◌, List, length, map, slice_index}
use Rattle.std.specs.List.{range_with_len}
use Rattle.dsc_symbols.specs.declared.phasing.TheConstants.{DX, RX_7}
use Rattle.time_diversity.specs.declared.slots.TheConstants.{FIRST_DX, FIRST_RX}

-- the phasing symbol: 125 in an even slot, which is a DX slot; 111 down to 104 in slots 1, 3, .. 15, which are RX slots
abbrev pub phasing_symbol : ℕ → ℕ
phasing_symbol slot = if slot % 2 == 0 then DX else RX_7 - (slot - 1) / 2

-- a DX slot shows its phasing symbol before slot 12, and from there on the characters in turn
abbrev pub dx_symbol : List ℕ → ℕ → ℕ
dx_symbol list slot = if nat_lt slot FIRST_DX then phasing_symbol slot else slice_index list ((slot - FIRST_DX) / 2)

-- an RX slot shows its phasing symbol before slot 17, and from there on the characters in turn
abbrev pub rx_symbol : List ℕ → ℕ → ℕ
rx_symbol list slot = if nat_lt slot FIRST_RX then phasing_symbol slot else slice_index list ((slot - FIRST_RX) / 2)

-- the symbol of a slot of the transmission of a list
unfoldable pub sent_symbol : List ℕ → ℕ → ℕ
sent_symbol list slot = if slot % 2 == 0 then dx_symbol list slot else rx_symbol list slot

-- the symbols of all slots of the transmission of a list
unfoldable pub on_air : List ℕ → List ℕ
on_air list = map (sent_symbol list) (range_with_len 0 (2 * length list + 12))
