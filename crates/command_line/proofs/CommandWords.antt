-- The walk over the program's words, up to its command.
use Rattle.std.proofs.Common.{◌≡◌, ◌∙◌, ◌&&◌, ◌||◌, Bool, true, false, List, [], ◌∷◌, ◌++◌, map, refl, ap, sym, subst, fold, cond, is_some, option_map, arith}
use Rattle.std.specs.Prelude.{Option, Some, None, codes, find, if◌then◌else◌, drop}
use Rattle.std.specs.Str.{bytes_eq}
use Rattle.std.proofs.lemmas.List.{append_assoc, append-nil}
use Rattle.clap.specs.Lexer.{long_of}
use Rattle.clap.specs.Kinds.{Kinds, or_else}
use Rattle.clap.specs.Walk.{Names, Text, Walk, answers_to, idle, nothing_held, walk, walk_from, walked, settled, finished, subcommand_met, subcommand_or_other, after_step}
use Rattle.clap.specs.Simple.{App, built, entered, names_of, subcommand_of}
use Rattle.clap.specs.Faults.{fault_of, walk_fault, turn_fault, settle_fault, defaults_fault, check_fault, other_fault, step_fault, entered_fault}
use Rattle.command_line.specs.inside.CommandLine.{dsc}
use Rattle.command_line.proofs.Refusals.{some_kind, first_passes, second_passes, both_pass}
use Rattle.command_line.proofs.Turns.{HasNoDashes, bare, stray_word, turn_by}
use Rattle.command_line.proofs.LongWords.{same_text}
use Rattle.clap.specs.declared.error.kind.ErrorKind.TheVariants as kind
use Rattle.std.proofs.lemmas.Option.{none-some}

-- the program, as `clap` builds it
abbrev pub app : App
app = built dsc

abbrev names : Names
names = names_of app

abbrev command_names : List Text
command_names = map (λ s. s.name) app.subs

abbrev start : Walk
start = walk_from nothing_held

-- the walk has met the command, and takes all further words for it
abbrev stopped_at : Text → List Text → Walk
stopped_at command ws = record (walk_from nothing_held) { stopped = Some (command, ws) }

-- the word is that of a command
abbrev pub IsMet : Text → Type 0
IsMet word = subcommand_met names idle word ≡ Some word

-- ---- the first word

abbrev first_fault : Option Text → Text → Kinds
first_fault met word =
    let step = subcommand_or_other [] met idle 1 word nothing_held in
    or_else (other_fault app.top met word nothing_held) (step_fault app.top 1 step.0 step.1)

first_known : (word : Text) (met : Option Text) → bytes_eq word (codes "--") ≡ false → first_fault met word ≡ [] → (command : Text) × (met ≡ Some command)
first_known word None undashed e = absurd (stray_word app.top word (long_of word) (subst (λ (d : Bool). turn_by (bare app.top) start word d (long_of word) ≡ []) undashed e))
first_known word (Some command) undashed e = (command, refl)

-- a command's word passes, be it help or not
help_passes : (is_help : Bool) → (if is_help && false then kind.DisplayHelp ∷ kind.InvalidSubcommand ∷ [] else []) ≡ []
help_passes is_help = grind arith

first_passes_at : (word command : Text) → first_fault (Some command) word ≡ []
first_passes_at word command = both_pass _ _ (help_passes (bytes_eq command (codes "help"))) refl

-- a command is met by its own word
abbrev plain_names : List Text → Names
plain_names = map (λ name. (name, []))

met_word : (word : Text) (ns : List Text) (command : Text) → option_map (λ s. s.0) (find (answers_to word) (plain_names ns)) ≡ Some command → command ≡ word
met_word word [] command e = absurd (none-some _ e)
met_word word (n ∷ ns) command e = go (bytes_eq n word) refl e (met_word word ns command)
  where
    go : (t : Bool) → bytes_eq n word ≡ t → option_map (λ s. s.0) (cond (t || false) (Some (n, [])) (find (answers_to word) (plain_names ns))) ≡ Some command
        → (option_map (λ s. s.0) (find (answers_to word) (plain_names ns)) ≡ Some command → command ≡ word) → command ≡ word
    go true is h rest = let same : n ≡ command = cc in sym same ∙ same_text n word is
    go false is h rest = rest h

-- ---- the words after the command

stopped_next : (command : Text) (ws : List Text) (x : Text) → walked app.top.rules names (stopped_at command ws) x ≡ stopped_at command (ws ++ x ∷ [])
unfolding walked
stopped_next command ws x = refl

stopped_walk : (command : Text) (before ws : List Text) → fold (walked app.top.rules names) (stopped_at command before) ws ≡ stopped_at command (before ++ ws)
stopped_walk command before [] = ap (stopped_at command) (sym (append-nil before))
stopped_walk command before (x ∷ xs) =
    ap (λ (w : Walk). fold (walked app.top.rules names) w xs) (stopped_next command before x)
    ∙ stopped_walk command (before ++ x ∷ []) xs ∙ ap (stopped_at command) (append_assoc before (x ∷ []) xs)

stopped_passes : (command : Text) (before ws : List Text) → walk_fault app.top names (stopped_at command before) ws ≡ []
unfolding walk_fault
stopped_passes command before [] = refl
stopped_passes command before (x ∷ xs) = ap (λ (w : Walk). walk_fault app.top names w xs) (stopped_next command before x) ∙ stopped_passes command (before ++ x ∷ []) xs

first_next : (word : Text) → IsMet word → walked app.top.rules names start word ≡ stopped_at word []
unfolding walked
first_next word met = ap (λ (o : Option Text). after_step [] word start (subcommand_or_other [] o idle 1 word nothing_held).0 (subcommand_or_other [] o idle 1 word nothing_held).1) met

program_walk : (word : Text) (ws : List Text) → IsMet word → walk app.top.rules names nothing_held (word ∷ ws) ≡ stopped_at word ws
program_walk word ws met = ap (λ (w : Walk). fold (walked app.top.rules names) w ws) (first_next word met) ∙ stopped_walk word [] ws

-- ---- the whole parse

-- what is found of the program where the walk ends
abbrev after_walk : Walk → Kinds
after_walk w =
    or_else (entered_fault app w.stopped) (or_else (settle_fault [] false w.held)
    (or_else (defaults_fault (settled [] w.held).rows []) (check_fault app.top (finished [] w.held) (is_some (entered app w.stopped)))))

-- what words that pass begin with
pub record Enters (words : List Text) : Type 0 where
  pub name : Text
  pub command : Text
  pub rest : List Text
  pub words_are : words ≡ name ∷ command ∷ rest
  pub passes : entered_fault app (Some (command, rest)) ≡ []
  pub finds : subcommand_of dsc words ≡ entered app (Some (command, rest))

pub enters : (words : List Text) → HasNoDashes (drop 1 words) → fault_of dsc words ≡ [] → Enters words
unfolding walk_fault defaults_fault
enters [] undashed e = absurd (some_kind e)
enters (name ∷ []) undashed e = absurd (some_kind e)
enters (name ∷ word ∷ ws) undashed e =
    let begin = first_passes (walk_fault app.top names start (word ∷ ws)) (after_walk (walk app.top.rules names nothing_held (word ∷ ws))) e in
    let end = second_passes (walk_fault app.top names start (word ∷ ws)) (after_walk (walk app.top.rules names nothing_held (word ∷ ws))) e in
    let turn = first_passes (turn_fault app.top names start word) (walk_fault app.top names (walked app.top.rules names start word) ws) begin in
    let known = first_known word (subcommand_met names idle word) undashed.0 turn in
    let met = known.1 ∙ ap (λ (n : Text). Some n) (met_word word command_names known.0 known.1) in
    let stops = program_walk word ws met in
    record {
      name = name;
      command = word;
      rest = ws;
      words_are = refl;
      passes = first_passes (entered_fault app (Some (word, ws))) _ (subst (λ (w : Walk). after_walk w ≡ []) stops end);
      finds = ap (λ (w : Walk). entered app w.stopped) stops;
    }

-- a command's words pass for the program where they pass for the command
pub entered_passes : (name word : Text) (ws : List Text) → IsMet word → is_some (entered app (Some (word, ws))) ≡ true
    → entered_fault app (Some (word, ws)) ≡ [] → (fault_of dsc (name ∷ word ∷ ws) ≡ []) × (subcommand_of dsc (name ∷ word ∷ ws) ≡ entered app (Some (word, ws)))
unfolding walk_fault defaults_fault
entered_passes name word ws met known below =
    let stops = program_walk word ws met in
    let turn = ap (λ (o : Option Text). first_fault o word) met ∙ first_passes_at word word in
    let behind = ap (λ (w : Walk). walk_fault app.top names w ws) (first_next word met) ∙ stopped_passes word [] ws in
    let end = ap after_walk stops ∙ both_pass _ _ below (ap (λ b. check_fault app.top [] b) known) in
    (both_pass _ _ (both_pass _ _ turn behind) end, ap (λ (w : Walk). entered app w.stopped) stops)
