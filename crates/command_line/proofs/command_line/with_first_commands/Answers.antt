use Rattle.std.proofs.Common.{◌≡◌, ◌∙◌, ap, subst, IfOk}
use Rattle.std.specs.Prelude.{codes}
use Rattle.clap.specs.Words.{App, app_of, with_subcommand}
use Rattle.clap.specs.Simple.{new_shape}
use Rattle.command_line.specs.inside.CommandLine.{with_option}
use Rattle.command_line.proofs.command_line.with_first_commands.Goals as goal

-- one command a line
pub returns : goal.returns
returns c =
    let with_join = c.in_ok-program.ensures in
    let with_evidence = c.in_ok-program-2.ensures ∙ ap (λ (a : App). with_subcommand a (with_option (codes "evidence") (codes "workers"))) with_join in
    let with_encode = c.in_ok-program-3.ensures ∙ ap (λ (a : App). with_subcommand a (with_option (codes "encode") (codes "dots"))) with_evidence in
    subst (λ (p : App). IfOk c.add_alone.result (λ r. app_of r ≡ with_subcommand p (new_shape (codes "sentences")))) with_encode c.add_alone.ensures
