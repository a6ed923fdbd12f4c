-- What a watch stands for is what its lines give. This project's own form.
use Rattle.std.specs.Prelude.{ℕ, List}
use Rattle.line_engine.specs.Lines.{Lines}
use Rattle.join_groups.specs.declared.groups.NamedGroups.{NamedGroups}
use Rattle.watch_groups.specs.declared.telling.ToldCall.{ToldCall}
use Rattle.watch_groups.specs.Meaning.{GivesTold}
use Rattle.watch_groups.specs.inside.Kept.{StandsFor}

pub gives_told : {groups : NamedGroups} {named : List ℕ} {told : List ToldCall} {heard : ℕ} {lines : Lines} {text : List ℕ} → StandsFor groups named told heard lines text → GivesTold lines text
gives_told {told = told} stands = record {
  said = stands.said;
  are_lines = stands.are_lines;
  told = told;
  are_told = stands.watches.are_told;
  each_batch = stands.watches.each_batch;
  text_is = stands.text_is;
}
