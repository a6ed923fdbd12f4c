use Rattle.std.proofs.Common.{◌≡◌, ◌∙◌, ap, subst, IfOk}
use Rattle.std.specs.Prelude.{codes}
use Rattle.clap.specs.Words.{App, app_of, with_subcommand}
use Rattle.clap.specs.Simple.{new_shape}
use Rattle.command_line.specs.inside.CommandLine.{with_option, with_number}
use Rattle.command_line.proofs.command_line.with_last_commands.Goals as goal

-- one command a line
pub returns : goal.returns
returns c =
    let with_replay = c.in_ok-program.ensures in
    let with_make = c.in_ok-program-2.ensures ∙ ap (λ (a : App). with_subcommand a (with_number (codes "make"))) with_replay in
    let with_capture = c.in_ok-program-3.ensures ∙ ap (λ (a : App). with_subcommand a (new_shape (codes "capture"))) with_make in
    let with_watch = c.in_ok-program-4.ensures ∙ ap (λ (a : App). with_subcommand a (with_option (codes "watch") (codes "workers"))) with_capture in
    let with_exchange = c.in_ok-program-5.ensures ∙ ap (λ (a : App). with_subcommand a (new_shape (codes "exchange"))) with_watch in
    subst (λ (p : App). IfOk c.add_alone-3.result (λ r. app_of r ≡ with_subcommand p (new_shape (codes "book")))) with_exchange c.add_alone-3.ensures
