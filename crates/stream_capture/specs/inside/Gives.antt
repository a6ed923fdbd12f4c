-- What the command stands for is what its lines give: this project's profile.
use Rattle.std.specs.Prelude.{ℕ, List, [], length}
use Rattle.std.proofs.Common.{subst, append-nil}
use Rattle.ten_unit.specs.declared.character.Element.{Element}
use Rattle.line_engine.specs.Lines.{Lines}
use Rattle.long_capture.specs.Captures.{decided}
use Rattle.stream_capture.specs.declared.command.Capturing.{Capturing}
use Rattle.stream_capture.specs.Telling.{stream_of, AreAnsweredStarts, GivesStarts}
use Rattle.stream_capture.specs.inside.Progress.{StandsFor}

pub gives_text : (command : Capturing) (lines : Lines) (text : List ℕ) → StandsFor command lines text → GivesStarts lines text
gives_text command lines text stands = record {
  said = stands.said;
  are_lines = stands.are_lines;
  told = stands.told.told;
  are_told =
      let e = stream_of stands.said in
      subst (λ (s : List Element). AreAnsweredStarts s (decided (length e)) stands.told.told) (append-nil e) (stands.told.are_told []);
  text_is = stands.told.text_is;
}
