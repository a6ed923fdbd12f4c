-- The input of `make N`: this project's profile, over the distress alert, the dot pattern and the time diversity of
-- ITU-R M.493.
use Rattle.std.specs.Prelude.{ℕ, ◌+◌, ◌%◌, ◌==◌, nat_le, Bool, true, ◌&&◌, ◌||◌, if◌then◌else◌, List, ◌++◌, map, length, slice_index, replicate, Some}
use Rattle.std.specs.List.{flat_map, range_with_len}
use Rattle.dsc_symbols.specs.declared.natures.TheConstants.{FIRE_OR_EXPLOSION}
use Rattle.dsc_symbols.specs.declared.telecommands.TheConstants.{ALL_MODES}
use Rattle.call_values.specs.declared.calls.Call.{Call}
use Rattle.call_values.specs.declared.calls.Call.TheVariants.{Alert}
use Rattle.call_grammar.specs.Spelling.{spell}
use Rattle.ten_unit.specs.declared.character.Element.{Element}
use Rattle.ten_unit.specs.declared.character.Element.TheVariants.{B}
use Rattle.ten_unit.specs.Word.{word_of}
use Rattle.time_diversity.specs.Slots.{dx_slot, rx_slot}
use Rattle.time_diversity.specs.OnAir.{on_air}
use Rattle.phasing.specs.Sent.{dots}
use Rattle.line_engine.specs.Lines.{Lines}
use Rattle.input_lines.specs.ReceiverLine.{ReceiverLine, reception, text_of_reception}

-- the distress alert of group k, from 42 degrees 31 minutes north, 83 degrees 12 minutes west
abbrev pub alert_of : ℕ → Call
alert_of k = Alert (record {
  mmsi = 338000000 + k;
  nature = FIRE_OR_EXPLOSION + k % 11;
  position = Some (record { quadrant = 1; lat_deg = 42; lat_min = 31; lon_deg = 83; lon_min = 12 });
  time = Some (k % 24, k % 60);
  comm = ALL_MODES;
})

-- a slot of group k's alert is lost to receiver j: after the phasing sequence one slot of four in turn; and in every
-- seventh group both slots of place 9
abbrev pub is_lost : ℕ → ℕ → ℕ → Bool
is_lost k j slot =
    (nat_le 16 slot && (slot + j) % 4 == 0) || (k % 7 == 6 && (slot == dx_slot 9 || slot == rx_slot 9))

-- what receiver j hears of a slot that shows a symbol: its word, and nothing but B, which is no word, where the slot is
-- lost
abbrev pub slot_heard : ℕ → ℕ → (slot symbol : ℕ) → List Element
slot_heard k j slot symbol = if is_lost k j slot then replicate 10 B else word_of symbol

-- what receiver j hears of the alert of group k, of which the slots show these symbols: 20 dots, and the slots in turn
unfoldable pub heard_of : ℕ → ℕ → List ℕ → List Element
heard_of k j symbols = dots 20 ++ flat_map (λ slot. slot_heard k j slot (slice_index symbols slot)) (range_with_len 0 (length symbols))

-- what receiver j hears of the alert of group k
abbrev pub heard : ℕ → ℕ → List Element
heard k j = heard_of k j (on_air (spell (alert_of k)))

-- the lines of a group: a reception of each of its four receivers
unfoldable pub lines_of_group : ℕ → List ReceiverLine
lines_of_group k = map (λ j. reception k (heard k j)) (range_with_len 0 4)

-- the lines of n groups, one group after another
unfoldable pub generated : ℕ → List ReceiverLine
generated n = flat_map lines_of_group (range_with_len 0 n)

-- the texts of the lines of n groups
unfoldable pub generated_texts : ℕ → Lines
generated_texts n = flat_map (λ k. map (λ j. text_of_reception true k (heard k j)) (range_with_len 0 4)) (range_with_len 0 n)
