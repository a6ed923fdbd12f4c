-- the start of a call's transmission
use Rattle.std.proofs.Common.{◌≡◌, ℕ, ◌+◌, ◌*◌, ◌==◌, true, List, ◌∷◌, ◌++◌, length, take, refl, arith}
use Rattle.std.specs.List.{list_any}
use Rattle.std.proofs.lemmas.List.FromFn.{take-map-range_with_len}
use Rattle.call_values.specs.declared.calls.Call.{Call}
use Rattle.call_values.specs.declared.calls.Call.TheVariants.{Alert, Ack, Relay, RelayAck, AllShips, AreaCall, GroupCall, Individual, Service}
use Rattle.call_values.specs.declared.parts.To.{To}
use Rattle.call_values.specs.declared.parts.To.TheVariants as to
use Rattle.call_grammar.specs.Spelling.{format_to, format_of, spell}
use Rattle.time_diversity.specs.OnAir.{sent_symbol, on_air}
use Rattle.phasing.specs.Start.{start_symbols, formats}

to_listed : (t : To) → list_any (λ f. f == format_to t) formats ≡ true
to_listed to.All = refl
to_listed _ = refl

-- a call's format specifier is one of those that phasing looks for
pub format_listed : (c : Call) → list_any (λ f. f == format_of c) formats ≡ true
format_listed (Alert casualty) = refl
format_listed (Ack from casualty) = refl
format_listed (Relay t from casualty ask) = to_listed t
format_listed (RelayAck t from casualty) = to_listed t
format_listed (AllShips category from first second f1 f2) = refl
format_listed _ = refl

list_start : (format : ℕ) (rest : List ℕ) → take 16 (on_air (format ∷ format ∷ rest)) ≡ start_symbols format
unfolding on_air sent_symbol
list_start format rest = take-map-range_with_len (sent_symbol (format ∷ format ∷ rest)) 0 (2 * length (format ∷ format ∷ rest) + 12) 16 (omega arith)

-- a call's transmission begins with its phasing sequence and format specifier
pub call_start : (c : Call) (tail : List ℕ) → take 16 (on_air (spell c ++ tail)) ≡ start_symbols (format_of c)
call_start c tail = list_start (format_of c) _
