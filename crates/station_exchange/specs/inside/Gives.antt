-- What the command stands for is what its lines give.
use Rattle.std.specs.Prelude.{ℕ, List}
use Rattle.line_engine.specs.Lines.{Lines}
use Rattle.station_exchange.specs.declared.command.Exchanging.{Exchanging}
use Rattle.station_exchange.specs.Meaning.{exchange_meaning}
use Rattle.station_exchange.specs.inside.Progress.{StandsFor}

abbrev pub gives_text : (command : Exchanging) (lines : Lines) (text : List ℕ) → StandsFor command lines text → exchange_meaning.Gives lines text
gives_text command lines text stands = record { said = stands.said; are_said = stands.are_said; text_is = stands.keeps.text_is }
