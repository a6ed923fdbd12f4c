-- Characters that arrive intact: ITU-R M.493, time diversity; the definitions are this project's profile.
use Rattle.std.specs.Prelude.{◌≡◌, ℕ, ◌+◌, ◌*◌, ◌<◌, ◌≤◌, ◌⊎◌, true, List, [], ◌++◌, length, slice_index, Some, All}
use Rattle.std.specs.List.{Any}
use Rattle.ten_unit.specs.declared.character.Element.{Element}
use Rattle.time_diversity.specs.Slots.{dx_slot, rx_slot}
use Rattle.time_diversity.specs.OnAir.{on_air}
use Rattle.phasing.specs.declared.reception.TheConstants.{LEAD_OF_FIRST}
use Rattle.phasing.specs.Slot.{shows}
use Rattle.phasing.specs.Origin.{lead_of}
use Rattle.call_values.specs.declared.calls.Call.{Call}
use Rattle.call_values.specs.declared.choices.End.{End}
use Rattle.call_grammar.specs.Spelling.{format_of, through_check, end_symbol, end_of, spell}
use Rattle.expansion.specs.declared.values.Sets.{Sets}
use Rattle.expansion.specs.Expansions.{IsExpansion}
use Rattle.expansion.specs.Spelling.{spell as expanded}
use Rattle.slot_evidence.specs.Facts.{facts_of_all}
use Rattle.slot_evidence.specs.Seen.{ShowsNone}
use Rattle.slot_join.specs.declared.joined.Joined.{Joined}
use Rattle.slot_join.specs.declared.joined.Joined.TheVariants.{Reported, Missing}
use Rattle.slot_join.specs.declared.joined.Extra.{Extra}
use Rattle.slot_join.specs.declared.joined.Extra.TheVariants.{Absent, Whole, Broken}
use Rattle.slot_join.specs.Answer.{needs_both}
use Rattle.slot_join.specs.OneCall.{IsEndPlace}

-- at the reception's origin each slot of the list's transmission shows the symbol that was sent
pub record ArrivesIntact (reception : List Element) (list : List ℕ) : Type 0 where
  pub lead : ℕ
  pub origin : lead_of reception ≡ Some lead
  pub slots : (slot : ℕ) → slot < length (on_air list) → shows reception lead slot (slice_index (on_air list) slot) ≡ true

-- a copy of the list's character at this place came intact: at the lead of the reception's origin the place's DX slot
-- shows it, or its RX slot does; the last two places have no RX slot in the transmission
pub record IsIntactAt (reception : List Element) (list : List ℕ) (lead place : ℕ) : Type 0 where
  pub origin : lead_of reception ≡ Some lead
  pub copy : (shows reception lead (dx_slot place) (slice_index list place) ≡ true)
      ⊎ ((place + 2 < length list) × (shows reception lead (rx_slot place) (slice_index list place) ≡ true))

-- no copy of the list's character at this place came intact at any receiver
abbrev pub CameNowhere : List (List Element) → List ℕ → ℕ → Type 0
CameNowhere receptions list place = All (λ reception. (lead : ℕ) → IsIntactAt reception list lead place → ⊥) receptions

-- a copy of the list's character at this place came intact at some receiver
abbrev pub CameSomewhere : List (List Element) → List ℕ → ℕ → Type 0
CameSomewhere receptions list place = Any (λ reception. (lead : ℕ) × IsIntactAt reception list lead place) receptions

-- the reception ends with the list's transmission, or before
abbrev pub EndsWithin : List Element → List ℕ → Type 0
EndsWithin reception list = (lead : ℕ) → lead_of reception ≡ Some lead → length reception + LEAD_OF_FIRST ≤ lead + 10 * length (on_air list)

-- the answer names as missing a place of the call, up to its error check character, that no reception showed and no
-- copy of which came intact; if this is the place of the first end of sequence, and each reception ends with the
-- transmission, no copy of the second and of the third came intact either
pub record NamesLostPlace (receptions : List (List Element)) (call : Call) (tail : List ℕ) (answer : Joined) : Type 0 where
  pub place : ℕ
  pub inside : place < length (through_check call)
  pub blank : ShowsNone (facts_of_all receptions place)
  pub nowhere : CameNowhere receptions (spell call ++ tail) place
  pub late : IsEndPlace call place → All (λ reception. EndsWithin reception (spell call ++ tail)) receptions
      → CameNowhere receptions (spell call ++ tail) (place + 2) × CameNowhere receptions (spell call ++ tail) (place + 3)
  pub answer_is : answer ≡ Missing place

-- what was sent after the call is this expansion's list, with the call's own end of sequence
pub record IsExpandedBy (call : Call) (tail : List ℕ) (x : Sets) : Type 0 where
  pub last : End
  pub own : end_symbol last ≡ end_of call
  pub lawful : IsExpansion x
  pub list : tail ≡ expanded x last

-- no copy of the list's character at this place came intact
pub record IsLostAt (receptions : List (List Element)) (list : List ℕ) (place : ℕ) : Type 0 where
  pub inside : place < length list
  pub nowhere : CameNowhere receptions list place

-- what an answer may say of the tail: if the tail is an expansion's list, a whole expansion is this one, and no copy of
-- a broken place came intact; if nothing was sent after the call, and each reception ends with the transmission,
-- nothing follows
pub record TellsTail (receptions : List (List Element)) (call : Call) (tail : List ℕ) (extra : Extra) : Type 0 where
  pub whole : (x y : Sets) → IsExpandedBy call tail x → extra ≡ Whole y → y ≡ x
  pub broken : (x : Sets) (n : ℕ) → IsExpandedBy call tail x → extra ≡ Broken n → IsLostAt receptions (spell call ++ tail) n
  pub absent : tail ≡ [] → All (λ reception. EndsWithin reception (spell call)) receptions → extra ≡ Absent

-- the answer reports the call that was sent, and says of its tail only what holds
pub record IsSent (receptions : List (List Element)) (call : Call) (tail : List ℕ) (answer : Joined) : Type 0 where
  pub extra : Extra
  pub tells : TellsTail receptions call tail extra
  pub answer_is : answer ≡ Reported call extra

-- the call that was sent, with this tail, or a place of it no copy of which came intact
abbrev pub IsSentOrLostPlace : List (List Element) → Call → List ℕ → Joined → Type 0
IsSentOrLostPlace receptions call tail answer = IsSent receptions call tail answer ⊎ NamesLostPlace receptions call tail answer

-- the first end of sequence of the call is at this place, each reception ends with the transmission, and a copy of the
-- second or of the third end of sequence came intact at some receiver
pub record EndCameLate (receptions : List (List Element)) (call : Call) (tail : List ℕ) (place : ℕ) : Type 0 where
  pub end_place : IsEndPlace call place
  pub within : All (λ reception. EndsWithin reception (spell call ++ tail)) receptions
  pub copy : CameSomewhere receptions (spell call ++ tail) (place + 2) ⊎ CameSomewhere receptions (spell call ++ tail) (place + 3)

-- each place of the call up to its error check character came intact at some receiver, or the first end of sequence
-- came late; distress alerts and calls to all ships need both places of the format specifier, and other calls need one
pub record ArrivesInParts (receptions : List (List Element)) (call : Call) (tail : List ℕ) : Type 0 where
  pub format : CameSomewhere receptions (spell call ++ tail) 0 ⊎ CameSomewhere receptions (spell call ++ tail) 1
  pub both : needs_both (format_of call) ≡ true → CameSomewhere receptions (spell call ++ tail) 0 × CameSomewhere receptions (spell call ++ tail) 1
  pub places : (place : ℕ) → 2 ≤ place → place < length (through_check call)
      → CameSomewhere receptions (spell call ++ tail) place ⊎ EndCameLate receptions call tail place
