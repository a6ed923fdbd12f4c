-- What the command has told so far: this project's profile.
use Rattle.std.specs.Prelude.{◌≡◌, ℕ, Bool, not, List}
use Rattle.std.specs.List.{list_all, flat_map}
use Rattle.line_engine.specs.Lines.{Lines}
use Rattle.input_lines.specs.declared.sentences.SentenceLine.{SentenceLine}
use Rattle.sentence_files.specs.Telling.{AreSentenceLines, line_text, is_well}

-- these lines gave this text, and whether one of them is a sentence that is refused
pub record HasTold (refused : Bool) (lines : Lines) (text : List ℕ) : Type 0 where
  pub said : List SentenceLine
  pub are_lines : AreSentenceLines said lines
  pub text_is : text ≡ flat_map line_text said
  pub well_is : list_all is_well said ≡ not refused
