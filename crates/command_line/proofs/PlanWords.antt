-- Plans, and the words that `clap` takes.
use Rattle.std.proofs.Common.{◌≡◌, ◌∙◌, ◌||◌, ◌<◌, ◌≤◌, ◌==◌, ◌^◌, Bool, true, false, true≢false, ℕ, List, [], ◌∷◌, map, refl, ap, ap₂, sym, subst, get_or, cond, arith, is_some, option_map}
use Rattle.std.specs.Prelude.{IfSome, Option, Some, None, codes, drop, find, if◌then◌else◌}
use Rattle.std.specs.List.{list_all, list_any}
use Rattle.std.specs.Str.{bytes_eq}
use Rattle.std.specs.Str.Parse.{digits_value}
use Rattle.std.proofs.lemmas.Bool.Decides.{nat_tests}
use Rattle.std.proofs.lemmas.Fmt.{decimal_is_IsNumeral, first_decimal}
use Rattle.std.proofs.lemmas.Option.{same_Some, none-some}
use Rattle.clap.specs.Walk.{Row, Text, answers_to, first_of, is_empty, nothing_held, rows_after}
use Rattle.clap.specs.Simple.{Shape, new_shape, entered, label_of, rows_at, subcommand_of}
use Rattle.clap.specs.Faults.{entered_fault, fault_of, level_fault}
use Rattle.clap.proofs.SimpleLemmas.{is_nil}
use Rattle.clap.proofs.WalkLemmas.{both}
use Rattle.command_line.specs.Words.{HasWorkers, IsDots, IsGroups, IsCommand, IsInRange, IsNumber, IsOption, IsPlan, IsWorkers}
use Rattle.command_line.specs.inside.CommandLine.{dsc, with_number, with_option, IsAsked}
use Rattle.command_line.specs.declared.plans.Plan.{Plan}
use Rattle.command_line.specs.declared.plans.Plan.TheVariants.{Join, Evidence, Encode, Sentences, Replay, Make, Capture, Watch, Exchange, Book}
use Rattle.command_line.proofs.LongWords.{IsBare, IsName, same_text}
use Rattle.command_line.proofs.Turns.{HasNoDashes}
use Rattle.command_line.proofs.OptionTurns.{leaf}
use Rattle.command_line.proofs.LoneWords.{alone_passes, alone_taken}
use Rattle.command_line.proofs.NumberWords.{number_passes, number_taken}
use Rattle.command_line.proofs.OptionWords.{option_passes, option_taken}
use Rattle.command_line.proofs.CommandWords.{Enters, IsMet, app, entered_passes, enters}

-- ---- the word `--`

-- whether it is among texts
abbrev has_dashes : {X : Type 0} → (X → Text) → List X → Bool
has_dashes text = list_any (λ x. bytes_eq (text x) (codes "--"))

each_undashed : {X : Type 0} (text : X → Text) (xs : List X) → has_dashes text xs ≡ false → HasNoDashes (map text xs)
each_undashed text [] e = tt
each_undashed text (x ∷ xs) e = go (bytes_eq (text x) (codes "--")) refl e (each_undashed text xs)
  where
    go : (t : Bool) → bytes_eq (text x) (codes "--") ≡ t → (t || has_dashes text xs) ≡ false → (has_dashes text xs ≡ false → HasNoDashes (map text xs)) → HasNoDashes (map text (x ∷ xs))
    go true is h rest = absurd (true≢false h)
    go false is h rest = (is, rest h)

none_dashed : {X : Type 0} (text : X → Text) (xs : List X) → HasNoDashes (map text xs) → has_dashes text xs ≡ false
none_dashed text [] undashed = refl
none_dashed text (x ∷ xs) undashed = ap (λ t. t || has_dashes text xs) undashed.0 ∙ none_dashed text xs undashed.1

pub behind_undashed : {X : Type 0} (text : X → Text) (xs : List X) → has_dashes text (drop 1 xs) ≡ false → HasNoDashes (drop 1 (map text xs))
behind_undashed text [] e = tt
behind_undashed text (x ∷ xs) e = each_undashed text xs e

pub behind_dashed : {X : Type 0} (text : X → Text) (xs : List X) → has_dashes text (drop 1 xs) ≡ true → HasNoDashes (drop 1 (map text xs)) → ⊥
behind_dashed text [] e undashed = true≢false (sym e)
behind_dashed text (x ∷ xs) e undashed = true≢false (sym e ∙ none_dashed text xs undashed)

-- ---- numbers

-- no hyphen begins a number
number_bare : (most n : ℕ) (text : Text) → most < 2 ^ 64 → IsNumber most text n → IsBare text
number_bare most n text small is = go text (subst (λ (t : Text). 48 < get_or t 0 0) (sym is.0) (first_decimal n (omega (arith, is.1)) (omega (arith, is.2))))
  where
    go : (t : Text) → 48 < get_or t 0 0 → IsBare t
    go [] lt = refl
    go (x ∷ xs) lt = let differs : (x == 45) ≡ false = grind (arith, nat_tests) in ap (λ b. cond b (Some xs) None) differs

workers_bare : (given : Option Text) (n : ℕ) → IsWorkers given n → IfSome given IsBare
workers_bare None n is = tt
workers_bare (Some text) n is = number_bare 64 n text (omega arith) is

workers_name : IsName (codes "workers")
workers_name = record { alone = refl; valued = λ value. refl }

-- how many workers the option's text gives, where it gives any
abbrev workers_at : Option Text → ℕ
workers_at None = 1
workers_at (Some text) = digits_value 10 text

workers_are : (given : Option Text) (n : ℕ) → IsWorkers given n → workers_at given ≡ n
workers_are None n is = sym is
workers_are (Some text) n is = ap (digits_value 10) is.0 ∙ (decimal_is_IsNumeral n (omega (arith, is.2))).1

workers_in_range : (words : List Text) (n : ℕ) → HasWorkers words n → (1 ≤ n) × (n ≤ 64)
workers_in_range words n h = grind arith

dots_bare : (given : Option Text) (long : Bool) → IsDots given long → IfSome given IsBare
dots_bare given long is = grind arith

dots_name : IsName (codes "dots")
dots_name = record { alone = refl; valued = λ value. refl }

-- whether the option's text gives the long dots
abbrev long_at : Option Text → Bool
long_at None = false
long_at (Some text) = bytes_eq text (codes "200")

long_is_at : (given : Option Text) (long : Bool) → IsDots given long → long_at given ≡ long
long_is_at given long is = grind arith

-- how many groups the number's text gives, where it gives any
abbrev groups_at : Option Text → ℕ
groups_at None = 0
groups_at (Some text) = digits_value 10 text

groups_are : (given : Option Text) (n : ℕ) → IsGroups given n → groups_at given ≡ n
groups_are None n is = absurd is
groups_are (Some text) n is = ap (digits_value 10) is.0 ∙ (decimal_is_IsNumeral n (omega (arith, is.2))).1

-- ---- the command that the words enter

-- `clap` has this command under its name
record Has (name : Text) (s : Shape) : Type 0 where
  undashed : bytes_eq name (codes "--") ≡ false
  met : IsMet name
  fault : (ws : List Text) → entered_fault app (Some (name, ws)) ≡ level_fault (leaf s) [] nothing_held ws false []
  rows : (ws : List Text) → entered app (Some (name, ws)) ≡ Some (name, rows_after (leaf s).rules [] ws)

pub same_pair : {a c : Text} {b d : List Row} → ◌≡◌ {A = Option (Text × List Row)} (Some (a, b)) (Some (c, d)) → (a ≡ c) × (b ≡ d)
same_pair {a} {c} {b} {d} e = let same = same_Some (a, b) (c, d) e in (ap (λ (p : Text × List Row). p.0) same, ap (λ (p : Text × List Row). p.1) same)

-- the name that is found is the word that was met
entered_name : (word : Text) (ws : List Text) (subs : List Shape) → list_all (λ s. is_empty s.aliases) subs ≡ true → (name : Text) (rows : List Row)
    → option_map (λ s. rows_at s ws) (find (λ s. answers_to word (label_of s)) subs) ≡ Some (name, rows) → word ≡ name
entered_name word ws [] plain name rows e = absurd (none-some _ e)
entered_name word ws (s ∷ subs) plain name rows e =
    let parts = both (is_empty s.aliases) _ plain in
    let no_alias : list_any (λ alias. bytes_eq alias word) s.aliases ≡ false = ap (list_any (λ alias. bytes_eq alias word)) (is_nil s.aliases parts.0) in
    go (bytes_eq s.name word) (list_any (λ alias. bytes_eq alias word) s.aliases) refl no_alias e (entered_name word ws subs parts.1 name rows)
  where
    go : (t u : Bool) → bytes_eq s.name word ≡ t → u ≡ false
        → option_map (λ s. rows_at s ws) (cond (t || u) (Some s) (find (λ s. answers_to word (label_of s)) subs)) ≡ Some (name, rows)
        → (option_map (λ s. rows_at s ws) (find (λ s. answers_to word (label_of s)) subs) ≡ Some (name, rows) → word ≡ name) → word ≡ name
    go true u is none h rest = sym (same_text s.name word is) ∙ (same_pair h).0
    go false true is none h rest = absurd (true≢false none)
    go false false is none h rest = rest h

-- words that pass and give a command passed for it
entered_as : (name : Text) (s : Shape) → Has name s → (words : List Text) (e : Enters words) (found : Text) (rows : List Row) → subcommand_of dsc words ≡ Some (found, rows) → found ≡ name
    → (e.command ≡ name) × (level_fault (leaf s) [] nothing_held e.rest false [] ≡ []) × (rows ≡ rows_after (leaf s).rules [] e.rest)
entered_as name s has words e found rows gives is =
    let entry = sym e.finds ∙ gives in
    let named = entered_name e.command e.rest app.subs refl found rows entry ∙ is in
    let same = same_pair (sym entry ∙ ap (λ (n : Text). entered app (Some (n, e.rest))) named ∙ has.rows e.rest) in
    (named, sym (has.fault e.rest) ∙ ap (λ (n : Text). entered_fault app (Some (n, e.rest))) (sym named) ∙ e.passes, same.1)

-- they are its option's, with what was found of it
option_entered : (name long : Text) → Has name (with_option name long) → (words : List Text) (e : Enters words) → HasNoDashes e.rest → (found : Text) (rows : List Row)
    → subcommand_of dsc words ≡ Some (found, rows) → found ≡ name
    → (e.command ≡ name) × ((given : Option Text) × IsOption long e.rest given × (first_of (codes "number") rows ≡ given))
option_entered name long has words e undashed found rows gives is =
    let entry = entered_as name (with_option name long) has words e found rows gives is in
    let passes = option_passes name long e.rest undashed entry.1 in
    (entry.0, (passes.0, passes.1, ap (first_of (codes "number")) entry.2 ∙ passes.2))

-- what `clap` makes of a plan's words
pub record Taken (words : List Text) (plan : Plan) : Type 0 where
  pub undashed : HasNoDashes (drop 1 words)
  pub passes : fault_of dsc words ≡ []
  pub found : Text
  pub rows : List Row
  pub gives : subcommand_of dsc words ≡ Some (found, rows)
  pub asked : IsAsked found (first_of (codes "number") rows) plan

-- words that pass for a command pass after its name
command_taken : (name : Text) (s : Shape) → Has name s → (plan : Plan) (program word : Text) (ws : List Text) → word ≡ name → HasNoDashes ws
    → level_fault (leaf s) [] nothing_held ws false [] ≡ [] → IsAsked name (first_of (codes "number") (rows_after (leaf s).rules [] ws)) plan → Taken (program ∷ word ∷ ws) plan
command_taken name s has plan program word ws at undashed passes asked =
    let whole = entered_passes program name ws has.met (ap is_some (has.rows ws)) (has.fault ws ∙ passes) in
    subst (λ (w : Text). Taken (program ∷ w ∷ ws) plan) (sym at) (record {
      undashed = (has.undashed, undashed);
      passes = whole.0;
      found = name;
      rows = rows_after (leaf s).rules [] ws;
      gives = whole.1 ∙ has.rows ws;
      asked = asked;
    })

option_words_taken : (name long : Text) → Has name (with_option name long) → IsName long → (plan : Plan) (program word : Text) (ws : List Text) (given : Option Text)
    → word ≡ name → IsOption long ws given → IfSome given IsBare → IsAsked name given plan → Taken (program ∷ word ∷ ws) plan
option_words_taken name long has named plan program word ws given at is bare asked =
    let taken = option_taken name long named ws given is bare in
    command_taken name (with_option name long) has plan program word ws at taken.0 taken.1 (subst (λ (g : Option Text). IsAsked name g plan) (sym taken.2) asked)

-- ---- plans, one command a line

-- the command of this name takes the number of workers
abbrev HasCommandWithWorkers : Text → Type 0
HasCommandWithWorkers name = Has name (with_option name (codes "workers"))

has_join : HasCommandWithWorkers (codes "join")
has_join = record { undashed = refl; met = refl; fault = λ ws. refl; rows = λ ws. refl }

has_evidence : HasCommandWithWorkers (codes "evidence")
has_evidence = record { undashed = refl; met = refl; fault = λ ws. refl; rows = λ ws. refl }

has_replay : HasCommandWithWorkers (codes "replay")
has_replay = record { undashed = refl; met = refl; fault = λ ws. refl; rows = λ ws. refl }

has_watch : HasCommandWithWorkers (codes "watch")
has_watch = record { undashed = refl; met = refl; fault = λ ws. refl; rows = λ ws. refl }

has_encode : Has (codes "encode") (with_option (codes "encode") (codes "dots"))
has_encode = record { undashed = refl; met = refl; fault = λ ws. refl; rows = λ ws. refl }

-- the command of this name is alone
abbrev HasNoOption : Text → Type 0
HasNoOption name = Has name (new_shape name)

has_sentences : HasNoOption (codes "sentences")
has_sentences = record { undashed = refl; met = refl; fault = λ ws. refl; rows = λ ws. refl }

has_make : Has (codes "make") (with_number (codes "make"))
has_make = record { undashed = refl; met = refl; fault = λ ws. refl; rows = λ ws. refl }

has_capture : HasNoOption (codes "capture")
has_capture = record { undashed = refl; met = refl; fault = λ ws. refl; rows = λ ws. refl }

has_exchange : HasNoOption (codes "exchange")
has_exchange = record { undashed = refl; met = refl; fault = λ ws. refl; rows = λ ws. refl }

has_book : HasNoOption (codes "book")
has_book = record { undashed = refl; met = refl; fault = λ ws. refl; rows = λ ws. refl }

-- words that `clap` takes for what a plan asks are the plan
pub asked_is_plan : (words : List Text) → HasNoDashes (drop 1 words) → fault_of dsc words ≡ [] → (found : Text) (rows : List Row) (plan : Plan)
    → subcommand_of dsc words ≡ Some (found, rows) → IsAsked found (first_of (codes "number") rows) plan → IsPlan words plan
asked_is_plan words undashed passes found rows plan gives asked =
    let e = enters words undashed passes in
    let behind = subst (λ (ws : List Text). HasNoDashes (drop 1 ws)) e.words_are undashed in
    record { name = e.name; command = e.command; rest = e.rest; words_are = e.words_are; is_command = go e behind.1 plan asked }
  where
    with_workers : (name : Text) → HasCommandWithWorkers name → (e : Enters words) → HasNoDashes e.rest → (n : ℕ)
        → (found ≡ name) × IsWorkers (first_of (codes "number") rows) n → (e.command ≡ name) × HasWorkers e.rest n
    with_workers name has e behind n asked =
        let got = option_entered name (codes "workers") has words e behind found rows gives asked.0 in
        (got.0, (got.1.0, got.1.1, subst (λ (g : Option Text). IsWorkers g n) got.1.2 asked.1))

    alone : (name : Text) → HasNoOption name → (e : Enters words) → HasNoDashes e.rest → found ≡ name → (e.command ≡ name) × (e.rest ≡ [])
    alone name has e behind asked =
        let got = entered_as name (new_shape name) has words e found rows gives asked in
        (got.0, alone_passes name e.rest behind got.1)

    go : (e : Enters words) → HasNoDashes e.rest → (plan : Plan) → IsAsked found (first_of (codes "number") rows) plan → IsCommand e.command e.rest plan
    go e behind (Join n) asked = with_workers (codes "join") has_join e behind n asked
    go e behind (Evidence n) asked = with_workers (codes "evidence") has_evidence e behind n asked
    go e behind (Replay n) asked = with_workers (codes "replay") has_replay e behind n asked
    go e behind (Watch n) asked = with_workers (codes "watch") has_watch e behind n asked
    go e behind (Encode long) asked =
        let got = option_entered (codes "encode") (codes "dots") has_encode words e behind found rows gives asked.0 in
        (got.0, (got.1.0, got.1.1, subst (λ (g : Option Text). IsDots g long) got.1.2 asked.1))
    go e behind Sentences asked = alone (codes "sentences") has_sentences e behind asked
    go e behind Capture asked = alone (codes "capture") has_capture e behind asked
    go e behind Exchange asked = alone (codes "exchange") has_exchange e behind asked
    go e behind Book asked = alone (codes "book") has_book e behind asked
    go e behind (Make n) asked =
        let got = entered_as (codes "make") (with_number (codes "make")) has_make words e found rows gives asked.0 in
        let passes = number_passes (codes "make") e.rest behind got.1 in
        let given = ap (first_of (codes "number")) got.2 ∙ passes.2 in
        (got.0, (passes.0, passes.1, subst (λ (g : Option Text). IsGroups g n) given asked.1))

-- a plan's words are taken
pub plan_is_taken : (words : List Text) (plan : Plan) → IsPlan words plan → Taken words plan
plan_is_taken words plan is = subst (λ (ws : List Text). Taken ws plan) (sym is.words_are) (go is.command is.rest plan is.is_command)
  where
    with_workers : (name : Text) → HasCommandWithWorkers name → (plan : Plan) (word : Text) (ws : List Text) (n : ℕ) → ((given : Option Text) → IsWorkers given n → IsAsked name given plan)
        → (word ≡ name) × HasWorkers ws n → Taken (is.name ∷ word ∷ ws) plan
    with_workers name has plan word ws n asks (at, (given, words_are, workers)) =
        option_words_taken name (codes "workers") has workers_name plan is.name word ws given at words_are (workers_bare given n workers) (asks given workers)

    alone : (name : Text) → HasNoOption name → (plan : Plan) (word : Text) (ws : List Text) → word ≡ name → ws ≡ [] → IsAsked name None plan → Taken (is.name ∷ word ∷ ws) plan
    alone name has plan word ws at none asked =
        subst (λ (xs : List Text). Taken (is.name ∷ word ∷ xs) plan) (sym none)
        (command_taken name (new_shape name) has plan is.name word [] at tt (alone_taken name) asked)

    go : (word : Text) (ws : List Text) (plan : Plan) → IsCommand word ws plan → Taken (is.name ∷ word ∷ ws) plan
    go word ws (Join n) c = with_workers (codes "join") has_join (Join n) word ws n (λ given workers. (refl, workers)) c
    go word ws (Evidence n) c = with_workers (codes "evidence") has_evidence (Evidence n) word ws n (λ given workers. (refl, workers)) c
    go word ws (Replay n) c = with_workers (codes "replay") has_replay (Replay n) word ws n (λ given workers. (refl, workers)) c
    go word ws (Watch n) c = with_workers (codes "watch") has_watch (Watch n) word ws n (λ given workers. (refl, workers)) c
    go word ws (Encode long) (at, (given, words_are, dots)) =
        option_words_taken (codes "encode") (codes "dots") has_encode dots_name (Encode long) is.name word ws given at words_are (dots_bare given long dots) (refl, dots)
    go word ws Sentences (at, none) = alone (codes "sentences") has_sentences Sentences word ws at none refl
    go word ws Capture (at, none) = alone (codes "capture") has_capture Capture word ws at none refl
    go word ws Exchange (at, none) = alone (codes "exchange") has_exchange Exchange word ws at none refl
    go word ws Book (at, none) = alone (codes "book") has_book Book word ws at none refl
    go word ws (Make n) (at, (text, words_are, number)) =
        let taken = number_taken (codes "make") text (number_bare 1000 n text (omega arith) number) in
        subst (λ (xs : List Text). Taken (is.name ∷ word ∷ xs) (Make n)) (sym words_are)
        (command_taken (codes "make") (with_number (codes "make")) has_make (Make n) is.name word (text ∷ []) at taken.0 taken.1
        (subst (λ (g : Option Text). IsAsked (codes "make") g (Make n)) (sym taken.2) (refl, number)))

pub plan_in_range : (words : List Text) (plan : Plan) → IsPlan words plan → IsInRange plan
plan_in_range words plan is = go is.rest plan is.is_command
  where
    go : (ws : List Text) (plan : Plan) → IsCommand is.command ws plan → IsInRange plan
    go ws (Join n) c = workers_in_range ws n c.1
    go ws (Evidence n) c = workers_in_range ws n c.1
    go ws (Replay n) c = workers_in_range ws n c.1
    go ws (Watch n) c = workers_in_range ws n c.1
    go ws (Make n) c = (c.1.2.1, c.1.2.2)
    go ws _ c = tt

-- the plan that a command and its option's text ask for, where they ask for one
abbrev plan_at : Text → Option Text → Option Plan
plan_at name given =
    if bytes_eq name (codes "join") then Some (Join (workers_at given))
    else (if bytes_eq name (codes "evidence") then Some (Evidence (workers_at given))
    else (if bytes_eq name (codes "encode") then Some (Encode (long_at given))
    else (if bytes_eq name (codes "sentences") then Some Sentences
    else (if bytes_eq name (codes "replay") then Some (Replay (workers_at given))
    else (if bytes_eq name (codes "make") then Some (Make (groups_at given))
    else (if bytes_eq name (codes "capture") then Some Capture
    else (if bytes_eq name (codes "watch") then Some (Watch (workers_at given))
    else (if bytes_eq name (codes "exchange") then Some Exchange
    else (if bytes_eq name (codes "book") then Some Book else None)))))))))

asked_at : (name : Text) (given : Option Text) (plan : Plan) → IsAsked name given plan → plan_at name given ≡ Some plan
asked_at name given (Join n) (is, workers) = ap (λ c. plan_at c given) is ∙ ap (λ k. Some (Join k)) (workers_are given n workers)
asked_at name given (Evidence n) (is, workers) = ap (λ c. plan_at c given) is ∙ ap (λ k. Some (Evidence k)) (workers_are given n workers)
asked_at name given (Encode long) (is, dots) = ap (λ c. plan_at c given) is ∙ ap (λ b. Some (Encode b)) (long_is_at given long dots)
asked_at name given (Watch n) (is, workers) = ap (λ c. plan_at c given) is ∙ ap (λ k. Some (Watch k)) (workers_are given n workers)
asked_at name given (Replay n) (is, workers) = ap (λ c. plan_at c given) is ∙ ap (λ k. Some (Replay k)) (workers_are given n workers)
asked_at name given (Make n) (is, groups) = ap (λ c. plan_at c given) is ∙ ap (λ k. Some (Make k)) (groups_are given n groups)
asked_at name given _ is = ap (λ c. plan_at c given) is

pub plan_is_one : (words : List Text) (a b : Plan) → IsPlan words a → IsPlan words b → a ≡ b
plan_is_one words a b left right =
    let s = plan_is_taken words a left in
    let t = plan_is_taken words b right in
    let same = same_pair (sym s.gives ∙ t.gives) in
    same_Some a b (sym (asked_at s.found (first_of (codes "number") s.rows) a s.asked)
    ∙ ap₂ (λ c rows. plan_at c (first_of (codes "number") rows)) same.0 same.1 ∙ asked_at t.found (first_of (codes "number") t.rows) b t.asked)
