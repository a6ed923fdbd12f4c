use Rattle.std.proofs.Common.{rules, ◌≡◌, [], map, IfOk, subst}
use Rattle.std.specs.Prelude.{IsErrOf, string_bytes}
use Rattle.clap.specs.Words.{App, fault_of, subcommand_of, subcommand_rows_of}
use Rattle.command_line.specs.declared.plans.PlanError.TheVariants.{Refused}
use Rattle.command_line.proofs.reading.matches_of.Goals as goal

-- what `clap` says of any program holds of this one
pub returns-clause-passed : goal.returns-clause-passed
returns-clause-passed c = subst (λ (a : App). IfOk c.map_err.result (λ _. fault_of a (map string_bytes c.args.words.now) ≡ [])) c.in_ok-command.ensures (search rules)

pub returns-clause-rows : goal.returns-clause-rows
returns-clause-rows c = subst (λ (a : App). IfOk c.map_err.result (λ m. subcommand_rows_of m ≡ subcommand_of a (map string_bytes c.args.words.now))) c.in_ok-command.ensures (search rules)

pub returns-clause-refused : goal.returns-clause-refused
returns-clause-refused c = subst (λ (a : App). IsErrOf c.map_err.result Refused → fault_of a (map string_bytes c.args.words.now) ≡ [] → ⊥) c.in_ok-command.ensures (search rules)
