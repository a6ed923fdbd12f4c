-- What the command has told so far: this project's profile.
use Rattle.std.specs.Prelude.{◌≡◌, ℕ, ◌+◌, ◌*◌, ◌<◌, ◌≤◌, ◌^◌, ◌&&◌, List, ◌++◌, length}
use Rattle.ten_unit.specs.declared.character.Element.{Element}
use Rattle.phasing.specs.declared.reception.TheConstants.{LEAD_OF_FIRST}
use Rattle.slot_evidence.specs.Facts.{Facts}
use Rattle.slot_evidence.specs.Sheet.{IsEnds}
use Rattle.slot_join.specs.declared.joined.Joined.{Joined}
use Rattle.slot_join.specs.Answer.{IsAnswer, is_reported}
use Rattle.line_engine.specs.declared.bounds.TheConstants.{LONGEST_LINE}
use Rattle.line_engine.specs.Lines.{Lines}
use Rattle.long_capture.specs.declared.starts.Start.{Start}
use Rattle.long_capture.specs.Captures.{StandsFor as CaptureStandsFor, Ending, decided, reached}
use Rattle.stream_capture.specs.declared.command.Capturing.{Capturing}
use Rattle.stream_capture.specs.Telling.{AreStreamLines, stream_of, AnsweredStart, AreAnsweredStarts, start_line, told_text, are_reported}

-- the command keeps how many starts were told, and whether each was reported
pub record Counts (command : Capturing) (told : List AnsweredStart) : Type 0 where
  pub count_is : command.count ≡ length told
  pub well_is : command.is_well ≡ are_reported told

-- it was given this stream so far, and told this text
pub record HasTold (command : Capturing) (e : List Element) (text : List ℕ) : Type 0 where
  pub stands : CaptureStandsFor command.capture e
  pub told : List AnsweredStart
  pub are_told : (more : List Element) → AreAnsweredStarts (e ++ more) (decided (length e)) told
  pub text_is : text ≡ told_text 0 told
  pub counts : Counts command told

-- it was given this stream to its end, and told this text of the starts that it has reached
pub record EndsTold (command : Capturing) (e : List Element) (text : List ℕ) : Type 0 where
  pub ending : Ending command.capture e
  pub told : List AnsweredStart
  pub are_told : AreAnsweredStarts e (reached command.capture) told
  pub text_is : text ≡ told_text 0 told
  pub counts : Counts command told

-- it was given this stream to its end, and told this text of all its starts
pub record HasToldAll (command : Capturing) (e : List Element) (text : List ℕ) : Type 0 where
  pub told : List AnsweredStart
  pub are_told : AreAnsweredStarts e (length e + LEAD_OF_FIRST) told
  pub text_is : text ≡ told_text 0 told
  pub well_is : command.is_well ≡ are_reported told

-- a start was told, one more than before
pub record TellsOne (old new : Capturing) (start : Start) (before after : List ℕ) : Type 0 where
  pub answer : Joined
  pub is_answer : (F : Facts) → IsEnds F start.sheet → IsAnswer F answer
  pub text_is : after ≡ before ++ start_line old.count start.at answer
  pub count_is : new.count ≡ old.count + 1
  pub well_is : new.is_well ≡ (old.is_well && is_reported answer)
  pub capture_is : new.capture ≡ old.capture

-- there is room in its count for the starts of so many elements more
pub record HasRoom (command : Capturing) (pending : List ℕ) (more : ℕ) : Type 0 where
  pub e : List Element
  pub written : List ℕ
  pub told : HasTold command e (written ++ pending)
  pub few : length e + more < 2 ^ 31

-- it was given these lines, which gave this text
pub record StandsFor (command : Capturing) (lines : Lines) (text : List ℕ) : Type 0 where
  pub said : List (List Element)
  pub are_lines : AreStreamLines said lines
  pub told : HasTold command (stream_of said) text
  pub short : length (stream_of said) ≤ LONGEST_LINE * length lines
