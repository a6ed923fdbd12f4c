-- One word of a command, and the words after it.
use Rattle.std.proofs.Common.{◌≡◌, Bool, true, false, List, [], ◌∷◌, ℕ, length, fold, arith}
use Rattle.std.specs.Prelude.{Option, Some, None, codes, if◌then◌else◌, slice_get}
use Rattle.std.specs.Option.{option_map_or}
use Rattle.std.specs.Str.{bytes_eq, chars}
use Rattle.clap.specs.Kinds.{Kinds, or_else}
use Rattle.clap.specs.Lexer.{short_of}
use Rattle.clap.specs.Walk.{Held, Text, Walk, after_flag, after_step, bundle_met, bundle_step, finished, long_or_other, nothing_held, plain, settled, short_or_plain, trailing, walk_from, walked}
use Rattle.clap.specs.Simple.{Shape}
use Rattle.clap.specs.Faults.{bundle_fault, bundle_step_fault, check_fault, defaults_fault, flag_word_fault, flags_fault, settle_fault, step_fault, stray_fault, turn_fault, walk_fault}
use Rattle.clap.specs.declared.error.kind.ErrorKind.TheVariants as kind
use Rattle.command_line.proofs.Refusals.{both_pass, first_passes, second_passes, some_kind}

-- no word is `--`
abbrev pub HasNoDashes : List Text → Type 0
HasNoDashes [] = Unit {0}
HasNoDashes (w ∷ ws) = (bytes_eq w (codes "--") ≡ false) × HasNoDashes ws

-- ---- the words from a state of the walk on

-- what is refused at the end of the words
abbrev pub end_fault : Shape → Held → Kinds
end_fault s h =
    or_else (settle_fault s.rules s.args_override_self h)
    (or_else (defaults_fault (settled s.rules h).rows s.rules) (check_fault s (finished s.rules h) false))

-- what is refused of the words, or at their end
abbrev pub faults : Shape → Walk → List Text → Kinds
faults s w ws = or_else (walk_fault s [] w ws) (end_fault s (fold (walked s.rules []) w ws).held)

-- words without fault have none at their first word
pub turn_passes : (s : Shape) (w : Walk) (x : Text) (xs : List Text) → faults s w (x ∷ xs) ≡ [] → turn_fault s [] w x ≡ []
unfolding walk_fault
turn_passes s w x xs e = grind arith

-- words without fault have none after their first word
pub rest_passes : (s : Shape) (w : Walk) (x : Text) (xs : List Text) → faults s w (x ∷ xs) ≡ [] → faults s (walked s.rules [] w x) xs ≡ []
unfolding walk_fault
rest_passes s w x xs e =
    let end = end_fault s (fold (walked s.rules []) w (x ∷ xs)).held in
    let rest = walk_fault s [] (walked s.rules [] w x) xs in
    both_pass rest end (second_passes (turn_fault s [] w x) rest (first_passes (walk_fault s [] w (x ∷ xs)) end e)) (second_passes (walk_fault s [] w (x ∷ xs)) end e)

-- a first word without fault, and a rest without one, have none together
pub join_turn : (s : Shape) (w next : Walk) (x : Text) (xs : List Text) → turn_fault s [] w x ≡ [] → walked s.rules [] w x ≡ next → faults s next xs ≡ [] → faults s w (x ∷ xs) ≡ []
unfolding walk_fault
join_turn s w next x xs turn is e = grind arith

-- ---- one word: what is refused of it, and where the walk goes, by what the word looks like

-- by whether it is `--`, and what it is as a long option
abbrev pub turn_by : Shape → Walk → Text → Bool → Option (Text × Option Text) → Kinds
turn_by s w word dashes long =
    let met = if dashes then (w.held, trailing w.position) else long_or_other s.rules w.waiting word long w.held in
    or_else (if dashes then [] else flag_word_fault s.rules s.args_override_self long word w.held) (step_fault s w.position met.0 met.1)

-- the walk after a word, by what it is
abbrev pub next_by : Shape → Walk → Text → Bool → Option (Text × Option Text) → Walk
next_by s w word dashes long =
    let met = if dashes then (w.held, trailing w.position) else long_or_other s.rules w.waiting word long w.held in
    after_step s.rules word w met.0 met.1

-- no long option: by what it is as short ones
abbrev pub short_by : Shape → Walk → Text → Option Text → Kinds
short_by s w word short =
    let met = short_or_plain s.rules w.waiting word short w.held in
    or_else (option_map_or (λ flags. bundle_fault s.rules s.args_override_self flags w.held) short []) (step_fault s w.position met.0 met.1)

-- the walk after a word that may be a short option
abbrev pub short_next : Shape → Walk → Text → Option Text → Walk
short_next s w word short =
    let met = short_or_plain s.rules w.waiting word short w.held in
    after_step s.rules word w met.0 met.1

-- short options: by the first of them
abbrev pub char_by : Shape → Walk → Text → Text → Option ℕ → ℕ → Kinds
char_by s w word flags first k =
    let met = bundle_step s.rules first flags 0 plain w.held (bundle_met s.rules k) in
    let after = after_flag s.rules w.waiting word met.0 met.1 in
    or_else (bundle_step_fault s.rules s.args_override_self first flags 0 w.held (flags_fault s.rules s.args_override_self k))
    (step_fault s w.position after.0 after.1)

-- the walk after a word that begins with one dash, by the character there
abbrev pub char_next : Shape → Walk → Text → Text → Option ℕ → ℕ → Walk
char_next s w word flags first k =
    let met = bundle_step s.rules first flags 0 plain w.held (bundle_met s.rules k) in
    let after = after_flag s.rules w.waiting word met.0 met.1 in
    after_step s.rules word w after.0 after.1

-- ---- a word where there are no options: each is refused

-- the command without its options
abbrev pub bare : Shape → Shape
bare s = record s { rules = [] }

abbrev start : Walk
start = walk_from nothing_held

stray : (s : Shape) → stray_fault s ≡ [] → ⊥
stray s e = go s.is_leaf e
  where
    go : (leaf : Bool) → (if leaf then kind.UnknownArgument ∷ [] else kind.UnknownArgument ∷ kind.InvalidSubcommand ∷ []) ≡ [] → ⊥
    go true h = some_kind h
    go false h = some_kind h

stray_char : (s : Shape) (word flags : Text) (k : ℕ) (first : Option ℕ) → char_by (bare s) start word flags first k ≡ [] → ⊥
stray_char s word flags k first e = grind arith

stray_short : (s : Shape) (word : Text) (short : Option Text) → short_by (bare s) start word short ≡ [] → ⊥
unfolding bundle_met flags_fault
stray_short s word None e = stray s e
stray_short s word (Some []) e = stray s e
stray_short s word (Some (x ∷ xs)) e = stray_char s word (x ∷ xs) (length xs) (slice_get (chars (x ∷ xs)) 0) e

-- a word that a command doesn't take is a fault
pub stray_word : (s : Shape) (word : Text) (long : Option (Text × Option Text)) → turn_by (bare s) start word false long ≡ [] → ⊥
stray_word s word None e = stray_short s word (short_of word) e
stray_word s word (Some p) e = some_kind e
