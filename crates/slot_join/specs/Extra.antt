-- What follows a call on air: this project's profile, over the places of ITU-R M.493.
use Rattle.std.specs.Prelude.{◌≡◌, ℕ, ◌+◌, ◌<◌, ◌≤◌, List, length, slice_index}
use Rattle.call_values.specs.declared.choices.End.{End}
use Rattle.call_values.specs.declared.calls.Call.{Call}
use Rattle.call_grammar.specs.Spelling.{end_symbol, end_of, spell}
use Rattle.expansion.specs.declared.values.Sets.{Sets}
use Rattle.expansion.specs.Expansions.{IsExpansion}
use Rattle.expansion.specs.Spelling.{through_check}
use Rattle.expansion.specs.Reading.{IsViable}
use Rattle.slot_evidence.specs.Facts.{Facts}
use Rattle.slot_evidence.specs.Seen.{ShowsNone, ShowsOne}
use Rattle.slot_join.specs.declared.joined.Extra.{Extra}
use Rattle.slot_join.specs.declared.joined.Extra.TheVariants.{Absent, Whole, Broken}

-- no place from this one on showed a symbol; a sheet has 64 places
abbrev pub IsBlankFrom : Facts → ℕ → Type 0
IsBlankFrom F from = (p : ℕ) → from ≤ p → p < 64 → ShowsNone (F p)

-- from this place on, each place of the list showed the list's symbol and no other
abbrev pub IsShownFrom : Facts → ℕ → List ℕ → Type 0
IsShownFrom F from list = (k : ℕ) → k < length list → ShowsOne (F (from + k)) (slice_index list k)

-- the longest list shown from this place on that begins an expansion's with this end of sequence
pub record IsLongestFrom (F : Facts) (from : ℕ) (last : End) (list : List ℕ) : Type 0 where
  pub shown : IsShownFrom F from list
  pub viable : IsViable last list
  pub longest : (other : List ℕ) → IsShownFrom F from other → IsViable last other → length other ≤ length list

-- places showed symbols but no expansion up to its check, and n is the first place that the longest list doesn't reach
pub record IsBroken (F : Facts) (from : ℕ) (last : End) (n : ℕ) : Type 0 where
  pub some : IsBlankFrom F from → ⊥
  pub unfinished : (x : Sets) → IsExpansion x → IsShownFrom F from (through_check x last) → ⊥
  pub list : List ℕ
  pub longest : IsLongestFrom F from last list
  pub place : n ≡ from + length list

-- what follows from this place on, read with this end of sequence: nothing, an expansion up to its check, or a broken
-- one
abbrev pub IsExtra : Facts → ℕ → End → Extra → Type 0
IsExtra F from last Absent = IsBlankFrom F from
IsExtra F from last (Whole x) = IsExpansion x × IsShownFrom F from (through_check x last)
IsExtra F from last (Broken n) = IsBroken F from last n

-- what follows the call: it is read after the call's whole list, with the call's own end of sequence
pub record Follows (F : Facts) (call : Call) (extra : Extra) : Type 0 where
  pub last : End
  pub own : end_symbol last ≡ end_of call
  pub is : IsExtra F (length (spell call)) last extra
