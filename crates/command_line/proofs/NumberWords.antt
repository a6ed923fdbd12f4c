-- The words of a command with one number: that number.
use Rattle.std.proofs.Common.{◌≡◌, ◌∙◌, Bool, false, ℕ, List, [], ◌∷◌, refl, ap, ap₂, subst, fold, length, arith}
use Rattle.std.specs.Prelude.{Option, Some, None, codes, option_and_then, slice_get}
use Rattle.std.specs.Str.{bytes_eq, chars}
use Rattle.clap.specs.Lexer.{long_of, long_of_rest, short_of, short_of_rest, strip_byte}
use Rattle.clap.specs.Walk.{Text, Walk, bundle_met, finished, first_of, idle, nothing_held, rows_after, walk_from, walked}
use Rattle.clap.specs.Simple.{Shape}
use Rattle.clap.specs.Faults.{defaults_fault, flags_fault, level_fault, walk_fault}
use Rattle.command_line.specs.inside.CommandLine.{with_number}
use Rattle.command_line.proofs.LongWords.{IsBare, bare_has_no_dashes}
use Rattle.command_line.proofs.Refusals.{some_kind}
use Rattle.command_line.proofs.Turns.{HasNoDashes, char_by, char_next, faults, join_turn, next_by, rest_passes, short_by, short_next, turn_by, turn_passes}
use Rattle.command_line.proofs.OptionTurns.{leaf}

-- before the number
abbrev before : Walk
before = walk_from nothing_held

-- after the number, which is taken at the end
abbrev behind : Text → Walk
behind text = record {
  held = record { rows = []; pending = Some (codes "number", text ∷ []); skip = 0 };
  waiting = idle;
  position = 2;
  is_trailing = false;
  stopped = None;
}

module _ (name : Text) where
  -- the command with the number
  abbrev pub command : Shape
  command = leaf (with_number name)

  before_next_is : (word : Text) → walked command.rules [] before word ≡ next_by command before word (bytes_eq word (codes "--")) (long_of word)
  unfolding walked
  before_next_is word = refl

  -- ---- the first word: the number, if it passes

  number_char : (word flags : Text) (k : ℕ) (first : Option ℕ) → char_by command before word flags first k ≡ [] → char_next command before word flags first k ≡ behind word
  number_char word flags k first e = grind arith

  number_short : (word : Text) (short : Option Text) → short_by command before word short ≡ [] → short_next command before word short ≡ behind word
  unfolding bundle_met flags_fault
  number_short word None e = refl
  number_short word (Some []) e = refl
  number_short word (Some (x ∷ xs)) e = number_char word (x ∷ xs) (length xs) (slice_get (chars (x ∷ xs)) 0) e

  number_turn : (word : Text) (found : Option (Text × Option Text)) → turn_by command before word false found ≡ [] → next_by command before word false found ≡ behind word
  number_turn word None e = number_short word (short_of word) e
  number_turn word (Some p) e = absurd (some_kind e)

  -- ---- a second word: it is refused

  stray_char : (text word flags : Text) (k : ℕ) (first : Option ℕ) → char_by command (behind text) word flags first k ≡ [] → ⊥
  stray_char text word flags k None e = some_kind e
  stray_char text word flags k (Some x) e = some_kind e

  stray_short : (text word : Text) (short : Option Text) → short_by command (behind text) word short ≡ [] → ⊥
  unfolding bundle_met flags_fault
  stray_short text word None e = some_kind e
  stray_short text word (Some []) e = some_kind e
  stray_short text word (Some (x ∷ xs)) e = stray_char text word (x ∷ xs) (length xs) (slice_get (chars (x ∷ xs)) 0) e

  stray_turn : (text word : Text) (found : Option (Text × Option Text)) → turn_by command (behind text) word false found ≡ [] → ⊥
  stray_turn text word None e = stray_short text word (short_of word) e
  stray_turn text word (Some p) e = some_kind e

  -- ---- words that pass

  abbrev value_at_end : Walk → List Text → Option Text
  value_at_end w xs = first_of (codes "number") (finished command.rules (fold (walked command.rules []) w xs).held)

  after_number : (text : Text) (xs : List Text) → HasNoDashes xs → faults command (behind text) xs ≡ [] → (xs ≡ []) × (value_at_end (behind text) xs ≡ Some text)
  after_number text [] undashed e = (refl, refl)
  after_number text (x ∷ xs) undashed e =
      let turn = turn_passes command (behind text) x xs e in
      absurd (stray_turn text x (long_of x) (subst (λ (d : Bool). turn_by command (behind text) x d (long_of x) ≡ []) undashed.0 turn))

  -- the words pass only where they are one number, and it is found there
  pub number_passes : (ws : List Text) → HasNoDashes ws → level_fault command [] nothing_held ws false [] ≡ []
      → (text : Text) × (ws ≡ text ∷ []) × (first_of (codes "number") (rows_after command.rules [] ws) ≡ Some text)
  unfolding walk_fault defaults_fault
  number_passes [] undashed e = absurd (some_kind e)
  number_passes (x ∷ xs) undashed e =
      let turn = subst (λ (d : Bool). turn_by command before x d (long_of x) ≡ []) undashed.0 (turn_passes command before x xs e) in
      let is = before_next_is x ∙ ap (λ d. next_by command before x d (long_of x)) undashed.0 ∙ number_turn x (long_of x) turn in
      let rest = subst (λ (v : Walk). faults command v xs ≡ []) is (rest_passes command before x xs e) in
      let end = after_number x xs undashed.1 rest in
      (x, ap (λ ys. x ∷ ys) end.0, ap (λ (v : Walk). value_at_end v xs) is ∙ end.1)

  -- ---- the way back

  -- a number that no hyphen begins passes, and it is found there
  pub number_taken : (text : Text) → IsBare text → HasNoDashes (text ∷ []) × (level_fault command [] nothing_held (text ∷ []) false [] ≡ [])
      × (first_of (codes "number") (rows_after command.rules [] (text ∷ [])) ≡ Some text)
  unfolding walk_fault defaults_fault
  number_taken text bare =
      let undashed = bare_has_no_dashes text bare in
      let no_long : long_of text ≡ None = ap (λ o. option_and_then long_of_rest (option_and_then (strip_byte 45) o)) bare in
      let no_short : short_of text ≡ None = ap (λ o. option_and_then short_of_rest o) bare in
      let turn = ap₂ (λ d l. turn_by command before text d l) undashed no_long ∙ ap (λ o. short_by command before text o) no_short in
      let next = before_next_is text ∙ ap₂ (λ d l. next_by command before text d l) undashed no_long ∙ ap (λ o. short_next command before text o) no_short in (
        (undashed, tt),
        join_turn command before (behind text) text [] turn next refl,
        ap (λ (v : Walk). value_at_end v []) next,
      )
