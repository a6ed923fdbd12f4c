use Rattle.std.proofs.Common.{◌≡◌, ◌∙◌, ap, subst, IfOk}
use Rattle.clap.specs.Words.{App, app_of}
use Rattle.command_line.specs.inside.CommandLine.{with_first_commands, with_last_commands}
use Rattle.command_line.proofs.command_line.command_line.Goals as goal

pub returns : goal.returns
returns c =
    let first = c.in_ok-program.ensures ∙ ap with_first_commands c.without_commands.ensures in
    subst (λ (p : App). IfOk c.with_last_commands.result (λ r. app_of r ≡ with_last_commands p)) first c.with_last_commands.ensures
