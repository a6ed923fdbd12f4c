-- The command line as `clap` sees it, and what a command and the text of its number ask for: this project's profile.
use Rattle.std.specs.Prelude.{◌≡◌, [], ◌∷◌, Option, Some, true, codes}
use Rattle.clap.specs.Words.{App, Rule, Shape, Text, new_app, new_rule, with_subcommand}
use Rattle.clap.specs.Simple.{new_shape, on_top}
use Rattle.command_line.specs.Words.{IsDots, IsGroups, IsWorkers}
use Rattle.command_line.specs.declared.plans.Plan.{Plan}
use Rattle.command_line.specs.declared.plans.Plan.TheVariants.{Join, Evidence, Encode, Sentences, Replay, Make, Capture, Watch, Exchange, Book}

-- an option that takes a number
abbrev pub option_rule : Text → Rule
option_rule long = record (new_rule (codes "number")) { long = Some long }

-- a command with one option, which takes a number
abbrev pub with_option : Text → Text → Shape
with_option name long = record (new_shape name) { rules = option_rule long ∷ [] }

-- a number that has to come after the command's name
abbrev pub number_rule : Rule
number_rule = record (new_rule (codes "number")) { required = true }

-- a command without options, after which one number has to come
abbrev pub with_number : Text → Shape
with_number name = record (new_shape name) { rules = number_rule ∷ [] }

-- the program without its commands
abbrev pub program : App
program = on_top (λ s. record s {
  disable_help_flag = true;
  disable_help_subcommand = true;
  subcommand_required = true;
}) (new_app (codes "dsc"))

-- a program with the first commands, one a line
abbrev pub with_first_commands : App → App
with_first_commands before =
    with_subcommand (with_subcommand (with_subcommand (with_subcommand before
    (with_option (codes "join") (codes "workers")))
    (with_option (codes "evidence") (codes "workers")))
    (with_option (codes "encode") (codes "dots")))
    (new_shape (codes "sentences"))

-- a program with the commands after these, one a line
abbrev pub with_last_commands : App → App
with_last_commands before =
    with_subcommand (with_subcommand (with_subcommand (with_subcommand (with_subcommand (with_subcommand before
    (with_option (codes "replay") (codes "workers")))
    (with_number (codes "make")))
    (new_shape (codes "capture")))
    (with_option (codes "watch") (codes "workers")))
    (new_shape (codes "exchange")))
    (new_shape (codes "book"))

-- the program with all its commands
abbrev pub dsc : App
dsc = with_last_commands (with_first_commands program)

-- the command's word and the text that its number was given ask for the plan
abbrev pub IsAsked : Text → Option Text → Plan → Type 0
IsAsked command given (Join n) = (command ≡ codes "join") × IsWorkers given n
IsAsked command given (Evidence n) = (command ≡ codes "evidence") × IsWorkers given n
IsAsked command given (Encode long) = (command ≡ codes "encode") × IsDots given long
IsAsked command given Sentences = command ≡ codes "sentences"
IsAsked command given (Replay n) = (command ≡ codes "replay") × IsWorkers given n
IsAsked command given (Make n) = (command ≡ codes "make") × IsGroups given n
IsAsked command given Capture = command ≡ codes "capture"
IsAsked command given (Watch n) = (command ≡ codes "watch") × IsWorkers given n
IsAsked command given Exchange = command ≡ codes "exchange"
IsAsked command given Book = command ≡ codes "book"
