-- what is sent of a call arrives intact where nothing is lost
use Rattle.std.proofs.Common.{◌≡◌, ℕ, ◌+◌, ◌*◌, ◌<◌, ◌==◌, Bool, true, List, [], ◌++◌, length, take, slice_index, Some, arith, sym, subst, ◌∙◌, append-nil}
use Rattle.std.specs.List.{list_any}
use Rattle.std.proofs.lemmas.Option.{same_Some}
use Rattle.call_values.specs.declared.calls.Call.{Call}
use Rattle.call_grammar.specs.Spelling.{format_of, spell}
use Rattle.time_diversity.specs.OnAir.{on_air}
use Rattle.phasing.specs.Slot.{shows}
use Rattle.phasing.specs.Origin.{lead_of}
use Rattle.phasing.specs.Sent.{dot_count, sent}
use Rattle.phasing.specs.Start.{start_symbols, formats}
use Rattle.slot_join.specs.Intact.{ArrivesIntact, EndsWithin}
use Rattle.slot_join.proofs.LateCalls.{format_listed, call_start}

-- the law of phasing on what is sent
pub record Laws : Type 0 where
  pub lead : (slots : List ℕ) (long : Bool) (format : ℕ) → list_any (λ f. f == format) formats ≡ true → take 16 slots ≡ start_symbols format → lead_of (sent slots long) ≡ Some (dot_count long + 150)
  pub slots : (slots : List ℕ) (long : Bool) (slot : ℕ) → slot < length slots → shows (sent slots long) (dot_count long + 150) slot (slice_index slots slot) ≡ true
  pub length : (slots : List ℕ) (long : Bool) → length (sent slots long) ≡ dot_count long + 10 * length slots

origin : Laws → (call : Call) (tail : List ℕ) (long : Bool) → lead_of (sent (on_air (spell call ++ tail)) long) ≡ Some (dot_count long + 150)
origin laws call tail long = laws.lead (on_air (spell call ++ tail)) long (format_of call) (format_listed call) (call_start call tail)

pub arrives : Laws → (call : Call) (tail : List ℕ) (long : Bool) → ArrivesIntact (sent (on_air (spell call ++ tail)) long) (spell call ++ tail)
arrives laws call tail long = record {
  lead = dot_count long + 150;
  origin = origin laws call tail long;
  slots = λ slot below. laws.slots (on_air (spell call ++ tail)) long slot below;
}

pub arrives_alone : Laws → (call : Call) (long : Bool) → ArrivesIntact (sent (on_air (spell call)) long) (spell call)
arrives_alone laws call long =
    subst (λ l. ArrivesIntact (sent (on_air l) long) l) (append-nil (spell call)) (arrives laws call [] long)

pub ends_alone : Laws → (call : Call) (long : Bool) → EndsWithin (sent (on_air (spell call)) long) (spell call)
ends_alone laws call long = λ lead found.
    let alone : lead_of (sent (on_air (spell call)) long) ≡ Some (dot_count long + 150) = subst (λ l. lead_of (sent (on_air l) long) ≡ Some (dot_count long + 150)) (append-nil (spell call)) (origin laws call [] long) in
    let same : lead ≡ dot_count long + 150 = same_Some lead (dot_count long + 150) (sym found ∙ alone) in
    omega (arith, same, laws.length (on_air (spell call)) long)
