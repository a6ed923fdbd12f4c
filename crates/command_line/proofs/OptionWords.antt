-- All words of a command with one option.
use Rattle.std.proofs.Common.{◌≡◌, ◌∙◌, inl, inr, Bool, false, List, [], ◌∷◌, refl, ap, ap₂, sym, subst, fold}
use Rattle.std.specs.Prelude.{IfSome, Option, Some, None, codes}
use Rattle.std.specs.Str.{bytes_eq}
use Rattle.clap.specs.Lexer.{long_of}
use Rattle.clap.specs.Walk.{Row, Text, Walk, finished, first_of, nothing_held, rows_after, walked}
use Rattle.clap.specs.Faults.{defaults_fault, level_fault, walk_fault}
use Rattle.command_line.specs.Words.{IsOption}
use Rattle.command_line.proofs.LongWords.{IsBare, IsName, bare_has_no_dashes, long_has_no_dashes, long_is, spelled}
use Rattle.command_line.proofs.Refusals.{some_kind}
use Rattle.command_line.proofs.Turns.{HasNoDashes, faults, join_turn, next_by, rest_passes, turn_by, turn_passes}
use Rattle.command_line.proofs.OptionTurns.{RestTurn, at_option, at_rest, command, first_long, option_bare, option_next_is, option_turn, rest_next_is, rest_turn, row, rule, with_value}

module _ (name long : Text) where
  -- what one word makes of the walk, and what is left to pass
  abbrev Goes : Walk → Text → List Text → Walk → Type 0
  Goes w x xs next = (walked (rule long ∷ []) [] w x ≡ next) × (faults (command name long) next xs ≡ [])

  goes : (w : Walk) (x : Text) (xs : List Text) (next : Walk) → walked (rule long ∷ []) [] w x ≡ next → faults (command name long) w (x ∷ xs) ≡ [] → Goes w x xs next
  goes w x xs next is e = (is, subst (λ (v : Walk). faults (command name long) v xs ≡ []) is (rest_passes (command name long) w x xs e))

  rest_word : (rows : List Row) (pending : Option (Text × List Text)) (x : Text) (xs : List Text) → bytes_eq x (codes "--") ≡ false
      → faults (command name long) (at_rest rows pending) (x ∷ xs) ≡ [] → (next : Walk) × RestTurn name long rows pending (long_of x) next × Goes (at_rest rows pending) x xs next
  rest_word rows pending x xs undashed e =
      let s = command name long in
      let w = at_rest rows pending in
      let turn = subst (λ (d : Bool). turn_by s w x d (long_of x) ≡ []) undashed (turn_passes s w x xs e) in
      let is = rest_next_is name long rows pending x ∙ ap (λ d. next_by s w x d (long_of x)) undashed in
      (next_by s w x false (long_of x), rest_turn name long rows pending x (long_of x) turn, goes w x xs _ is e)

  option_word : (rows : List Row) (x : Text) (xs : List Text) → bytes_eq x (codes "--") ≡ false
      → faults (command name long) (at_option rows) (x ∷ xs) ≡ [] → Goes (at_option rows) x xs (with_value rows x)
  option_word rows x xs undashed e =
      let s = command name long in
      let w = at_option rows in
      let turn = subst (λ (d : Bool). turn_by s w x d (long_of x) ≡ []) undashed (turn_passes s w x xs e) in
      let is = option_next_is name long rows x ∙ ap (λ d. next_by s w x d (long_of x)) undashed in
      goes w x xs (with_value rows x) (is ∙ option_turn name long rows x (long_of x) turn) e

  -- ---- the option comes twice: the words fail in the end

  twice_with_value : (value again : Text) (xs : List Text) → HasNoDashes xs → faults (command name long) (with_value (row value ∷ []) again) xs ≡ [] → ⊥
  unfolding walk_fault defaults_fault
  twice_with_value value again [] undashed e = some_kind e
  twice_with_value value again (x ∷ xs) undashed e =
      elim (rest_word (row value ∷ []) (Some (codes "number", again ∷ [])) x xs undashed.0 e).1 [
        | inl alone ↦ some_kind alone.1
        | inr valued ↦ some_kind valued.2
      ]

  twice_at_option : (value : Text) (xs : List Text) → HasNoDashes xs → faults (command name long) (at_option (row value ∷ [])) xs ≡ [] → ⊥
  unfolding walk_fault defaults_fault
  twice_at_option value [] undashed e = some_kind e
  twice_at_option value (x ∷ xs) undashed e = twice_with_value value x xs undashed.1 (option_word (row value ∷ []) x xs undashed.0 e).1

  -- ---- words that pass

  -- the option's value at the end of the words
  abbrev value_at_end : Walk → List Text → Option Text
  value_at_end w xs = first_of (codes "number") (finished (rule long ∷ []) (fold (walked (rule long ∷ []) []) w xs).held)

  -- the option was given: no word follows
  after_value : (value : Text) (xs : List Text) → HasNoDashes xs → faults (command name long) (at_rest (row value ∷ []) None) xs ≡ []
      → (xs ≡ []) × (value_at_end (at_rest (row value ∷ []) None) xs ≡ Some value)
  after_value value [] undashed e = (refl, refl)
  after_value value (x ∷ xs) undashed e =
      let turn = rest_word (row value ∷ []) None x xs undashed.0 e in
      absurd (elim turn.1 [
        | inl alone ↦ twice_at_option value xs undashed.1 (subst (λ (v : Walk). faults (command name long) v xs ≡ []) alone.2 turn.2.1)
        | inr valued ↦ some_kind valued.2
      ])

  after_value_word : (value : Text) (xs : List Text) → HasNoDashes xs → faults (command name long) (with_value [] value) xs ≡ []
      → (xs ≡ []) × (value_at_end (with_value [] value) xs ≡ Some value)
  after_value_word value [] undashed e = (refl, refl)
  after_value_word value (x ∷ xs) undashed e =
      let turn = rest_word [] (Some (codes "number", value ∷ [])) x xs undashed.0 e in
      absurd (elim turn.1 [
        | inl alone ↦ twice_at_option value xs undashed.1 (subst (λ (v : Walk). faults (command name long) v xs ≡ []) alone.2 turn.2.1)
        | inr valued ↦ some_kind valued.2
      ])

  -- the option was met: its value follows, and nothing else
  after_option : (xs : List Text) → HasNoDashes xs → faults (command name long) (at_option []) xs ≡ []
      → (value : Text) × (xs ≡ value ∷ []) × (value_at_end (at_option []) xs ≡ Some value)
  unfolding walk_fault defaults_fault
  after_option [] undashed e = absurd (some_kind e)
  after_option (x ∷ xs) undashed e =
      let turn = option_word [] x xs undashed.0 e in
      let end = after_value_word x xs undashed.1 turn.1 in
      (x, ap (λ rest. x ∷ rest) end.0, ap (λ (v : Walk). value_at_end v xs) turn.0 ∙ end.1)

  -- the words pass only where they are the option, and its value is found there
  pub option_passes : (ws : List Text) → HasNoDashes ws → level_fault (command name long) [] nothing_held ws false [] ≡ []
      → (given : Option Text) × IsOption long ws given × (first_of (codes "number") (rows_after (command name long).rules [] ws) ≡ given)
  option_passes [] undashed e = (None, refl, refl)
  option_passes (x ∷ xs) undashed e =
      let turn = rest_word [] None x xs undashed.0 e in
      elim turn.1 [
        | inl alone ↦
            let went = subst (λ (v : Walk). Goes (at_rest [] None) x xs v) alone.2 turn.2 in
            let end = after_option xs undashed.1 went.1 in
            (Some end.0, inl (ap₂ (λ y ys. y ∷ ys) (long_is x (long, None) alone.0) end.1), ap (λ (v : Walk). value_at_end v xs) went.0 ∙ end.2)
        | inr valued ↦
            let value = valued.0 in
            let went = subst (λ (v : Walk). Goes (at_rest [] None) x xs v) valued.3 turn.2 in
            let end = after_value value xs undashed.1 went.1 in
            (Some value, inr (ap₂ (λ y ys. y ∷ ys) (long_is x (long, Some value) valued.1) end.0), ap (λ (v : Walk). value_at_end v xs) went.0 ∙ end.1)
      ]

  -- ---- the way back

  abbrev Passes : List Text → Option Text → Type 0
  Passes ws given =
      HasNoDashes ws × (level_fault (command name long) [] nothing_held ws false [] ≡ [])
      × (first_of (codes "number") (rows_after (command name long).rules [] ws) ≡ given)

  none_passes : Passes [] None
  unfolding walk_fault defaults_fault
  none_passes = (tt, refl, refl)

  valued_passes : (value : Text) → IsName long → Passes (spelled long (Some value) ∷ []) (Some value)
  unfolding walk_fault defaults_fault
  valued_passes value named =
      let word = spelled long (Some value) in
      let turn = first_long name long word (Some value) (named.valued value) in (
        (long_has_no_dashes word _ (named.valued value), tt),
        join_turn (command name long) (at_rest [] None) (at_rest (row value ∷ []) None) word [] turn.0 turn.1 refl,
        ap (λ (v : Walk). value_at_end v []) turn.1,
      )

  apart_passes : (value : Text) → IsName long → IsBare value → Passes (spelled long None ∷ value ∷ []) (Some value)
  unfolding walk_fault defaults_fault
  apart_passes value named bare =
      let word = spelled long None in
      let s = command name long in
      let turn = first_long name long word None named.alone in
      let again = option_bare name long value bare in (
        (long_has_no_dashes word _ named.alone, (bare_has_no_dashes value bare, tt)),
        join_turn s (at_rest [] None) (at_option []) word (value ∷ []) turn.0 turn.1 (join_turn s (at_option []) (with_value [] value) value [] again.0 again.1 refl),
        ap (λ (v : Walk). value_at_end v (value ∷ [])) turn.1 ∙ ap (λ (v : Walk). value_at_end v []) again.1,
      )

  -- the option's words pass, and its value is found there
  pub option_taken : IsName long → (ws : List Text) (given : Option Text) → IsOption long ws given → IfSome given IsBare → Passes ws given
  option_taken named ws None is bare = subst (λ (xs : List Text). Passes xs None) (sym is) none_passes
  option_taken named ws (Some value) (inl is) bare = subst (λ (xs : List Text). Passes xs (Some value)) (sym is) (apart_passes value named bare)
  option_taken named ws (Some value) (inr is) bare = subst (λ (xs : List Text). Passes xs (Some value)) (sym is) (valued_passes value named)
