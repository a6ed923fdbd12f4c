-- One word of a command with one option.
use Rattle.std.proofs.Common.{◌≡◌, ◌∙◌, ◌||◌, ◌⊎◌, inl, inr, Bool, true, false, ℕ, List, [], ◌∷◌, refl, ap, ap₂, sym, length, arith}
use Rattle.std.specs.Prelude.{Option, Some, None, codes, if◌then◌else◌, option_and_then, slice_get}
use Rattle.std.specs.Str.{bytes_eq, chars}
use Rattle.clap.specs.Kinds.{Kinds, or_else}
use Rattle.clap.specs.Lexer.{long_of, long_of_rest, short_of, short_of_rest, strip_byte}
use Rattle.clap.specs.Walk.{Row, Rule, Text, Walk, after_flag, after_step, bundle_met, idle, long_met, option, reacted, settled, walked}
use Rattle.clap.specs.Simple.{Shape, built_leaf, filled, inherited, marked_built, with_index, with_leaf_noted}
use Rattle.clap.specs.Faults.{flags_fault, long_fault, react_fault, settle_fault, step_fault, turn_fault}
use Rattle.clap.specs.declared.parser.matches.ValueSource.TheVariants.{CommandLine}
use Rattle.clap.specs.declared.builder.value_parser.Reading.TheVariants.{AsWritten}
use Rattle.command_line.specs.inside.CommandLine.{dsc, option_rule, with_option}
use Rattle.command_line.proofs.LongWords.{IsBare, bare_has_no_dashes, long_has_no_dashes, same_text, same_true}
use Rattle.command_line.proofs.Refusals.{first_passes, some_kind}
use Rattle.command_line.proofs.Turns.{char_by, char_next, next_by, short_by, short_next, turn_by}

-- a command as `clap` builds it
abbrev pub leaf : Shape → Shape
leaf s = built_leaf (inherited (with_leaf_noted (marked_built dsc.top)) s)

-- its option
abbrev pub rule : Text → Rule
rule long = with_index 1 (filled (option_rule long))

-- ---- where the walk is

-- nothing waits for a value
abbrev pub at_rest : List Row → Option (Text × List Text) → Walk
at_rest rows pending = record {
  held = record { rows = rows; pending = pending; skip = 0 };
  waiting = idle;
  position = 1;
  is_trailing = false;
  stopped = None;
}

-- the option waits for its value
abbrev pub at_option : List Row → Walk
at_option rows = record {
  held = record { rows = rows; pending = Some (codes "number", []); skip = 0 };
  waiting = option (codes "number");
  position = 1;
  is_trailing = false;
  stopped = None;
}

-- the option and its value, which are taken at the next word
abbrev pub with_value : List Row → Text → Walk
with_value rows value = at_rest rows (Some (codes "number", value ∷ []))

-- what is found of the option
abbrev pub row : Text → Row
row value = record { id = codes "number"; values = value ∷ []; count = None; source = Some CommandLine; reading = AsWritten }

module _ (name long : Text) where
  -- the command with the option
  abbrev pub command : Shape
  command = leaf (with_option name long)

  pub rest_next_is : (rows : List Row) (pending : Option (Text × List Text)) (word : Text)
      → walked command.rules [] (at_rest rows pending) word ≡ next_by command (at_rest rows pending) word (bytes_eq word (codes "--")) (long_of word)
  unfolding walked
  rest_next_is rows pending word = refl

  pub option_next_is : (rows : List Row) (word : Text)
      → walked command.rules [] (at_option rows) word ≡ next_by command (at_option rows) word (bytes_eq word (codes "--")) (long_of word)
  unfolding walked
  option_next_is rows word = refl

  -- ---- a long option, by whether it is the command's

  abbrev long_by : Bool → Option Rule
  long_by same = if same || false then Some (rule long) else None

  abbrev pub long_fault_by : Walk → Text → Bool → Option Text → Kinds
  long_fault_by w word same value =
      let met = long_met (rule long ∷ []) (long_by same) value w.held in
      let after = after_flag (rule long ∷ []) w.waiting word met.0 met.1 in
      or_else (long_fault (rule long ∷ []) false (long_by same) value w.held) (step_fault command w.position after.0 after.1)

  abbrev pub long_next_by : Walk → Text → Bool → Option Text → Walk
  long_next_by w word same value =
      let met = long_met (rule long ∷ []) (long_by same) value w.held in
      let after = after_flag (rule long ∷ []) w.waiting word met.0 met.1 in
      after_step (rule long ∷ []) word w after.0 after.1

  -- ---- a word where nothing waits

  -- the word was the option, alone or with its value
  abbrev pub RestTurn : List Row → Option (Text × List Text) → Option (Text × Option Text) → Walk → Type 0
  RestTurn rows pending found next =
      let held = (at_rest rows pending).held in
      ((found ≡ Some (long, None)) × (settle_fault (rule long ∷ []) false held ≡ []) × (next ≡ at_option (settled (rule long ∷ []) held).rows))
      ⊎ ((value : Text) × (found ≡ Some (long, Some value)) × (react_fault (rule long ∷ []) false (rule long) (value ∷ []) held ≡ [])
      × (next ≡ at_rest (reacted (rule long ∷ []) (rule long) (value ∷ []) held).rows None))

  rest_char : (rows : List Row) (pending : Option (Text × List Text)) (word flags : Text) (k : ℕ) (first : Option ℕ)
      → char_by command (at_rest rows pending) word flags first k ≡ [] → ⊥
  rest_char rows pending word flags k first e = grind arith

  rest_short : (rows : List Row) (pending : Option (Text × List Text)) (word : Text) (short : Option Text)
      → short_by command (at_rest rows pending) word short ≡ [] → ⊥
  unfolding bundle_met flags_fault
  rest_short rows pending word None e = some_kind e
  rest_short rows pending word (Some []) e = some_kind e
  rest_short rows pending word (Some (x ∷ xs)) e = rest_char rows pending word (x ∷ xs) (length xs) (slice_get (chars (x ∷ xs)) 0) e

  rest_long : (rows : List Row) (pending : Option (Text × List Text)) (word found : Text) (value : Option Text) (same : Bool) → bytes_eq long found ≡ same
      → long_fault_by (at_rest rows pending) word same value ≡ [] → RestTurn rows pending (Some (found, value)) (long_next_by (at_rest rows pending) word same value)
  rest_long rows pending word found value false is e = absurd (some_kind e)
  rest_long rows pending word found None true is e = inl (ap (λ n. Some (n, None)) (sym (same_text long found is)), first_passes _ _ e, refl)
  rest_long rows pending word found (Some value) true is e = inr (value, ap (λ n. Some (n, Some value)) (sym (same_text long found is)), first_passes _ _ e, refl)

  pub rest_turn : (rows : List Row) (pending : Option (Text × List Text)) (word : Text) (found : Option (Text × Option Text))
      → turn_by command (at_rest rows pending) word false found ≡ [] → RestTurn rows pending found (next_by command (at_rest rows pending) word false found)
  rest_turn rows pending word None e = absurd (rest_short rows pending word (short_of word) e)
  rest_turn rows pending word (Some p) e = rest_long rows pending word p.0 p.1 (bytes_eq long p.0) refl e

  -- ---- a word where the option waits for its value

  option_char : (rows : List Row) (word flags : Text) (k : ℕ) (first : Option ℕ)
      → char_by command (at_option rows) word flags first k ≡ [] → char_next command (at_option rows) word flags first k ≡ with_value rows word
  option_char rows word flags k first e = grind arith

  option_short : (rows : List Row) (word : Text) (short : Option Text)
      → short_by command (at_option rows) word short ≡ [] → short_next command (at_option rows) word short ≡ with_value rows word
  unfolding bundle_met flags_fault
  option_short rows word None e = refl
  option_short rows word (Some []) e = refl
  option_short rows word (Some (x ∷ xs)) e = option_char rows word (x ∷ xs) (length xs) (slice_get (chars (x ∷ xs)) 0) e

  option_long : (rows : List Row) (word : Text) (value : Option Text) (same : Bool) → long_fault_by (at_option rows) word same value ≡ [] → ⊥
  option_long rows word value same e = grind arith

  pub option_turn : (rows : List Row) (word : Text) (found : Option (Text × Option Text))
      → turn_by command (at_option rows) word false found ≡ [] → next_by command (at_option rows) word false found ≡ with_value rows word
  option_turn rows word None e = option_short rows word (short_of word) e
  option_turn rows word (Some p) e = absurd (option_long rows word p.1 (bytes_eq long p.0) e)

  -- ---- the way back: words that pass

  -- a first word that is the option
  pub first_long : (word : Text) (value : Option Text) → long_of word ≡ Some (long, value)
      → (turn_fault command [] (at_rest [] None) word ≡ long_fault_by (at_rest [] None) word true value)
      × (walked command.rules [] (at_rest [] None) word ≡ long_next_by (at_rest [] None) word true value)
  first_long word value is =
      let w = at_rest [] None in
      let undashed = long_has_no_dashes word (long, value) is in
      let same = same_true long in (
        ap₂ (λ d l. turn_by command w word d l) undashed is ∙ ap (λ t. long_fault_by w word t value) same,
        rest_next_is [] None word ∙ ap₂ (λ d l. next_by command w word d l) undashed is ∙ ap (λ t. long_next_by w word t value) same,
      )

  -- a value that no hyphen begins
  pub option_bare : (word : Text) → IsBare word
      → (turn_fault command [] (at_option []) word ≡ []) × (walked command.rules [] (at_option []) word ≡ with_value [] word)
  option_bare word is =
      let w = at_option [] in
      let undashed = bare_has_no_dashes word is in
      let no_long : long_of word ≡ None = ap (λ o. option_and_then long_of_rest (option_and_then (strip_byte 45) o)) is in
      let no_short : short_of word ≡ None = ap (λ o. option_and_then short_of_rest o) is in (
        ap₂ (λ d l. turn_by command w word d l) undashed no_long ∙ ap (λ o. short_by command w word o) no_short,
        option_next_is [] word ∙ ap₂ (λ d l. next_by command w word d l) undashed no_long ∙ ap (λ o. short_next command w word o) no_short,
      )
