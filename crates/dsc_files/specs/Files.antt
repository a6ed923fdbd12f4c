-- What is read of a line of any file: this project's profile.
use Rattle.std.specs.Prelude.{◌≡◌, ℕ, Option, Some, None, List, ◌∷◌, [], Result, Ok, Err}
use Rattle.ten_unit.specs.declared.character.Element.{Element}
use Rattle.line_grammar.specs.Columns.{Spelling, IsColumn}
use Rattle.traffic_lines.specs.declared.lines.Point.{Point}
use Rattle.traffic_lines.specs.declared.lines.TrafficLine.{TrafficLine}
use Rattle.traffic_lines.specs.declared.lines.StationOwn.TheVariants as own
use Rattle.traffic_lines.specs.declared.lines.TrafficLine.TheVariants.{Ship, Coast, Base, Group, Event}
use Rattle.dsc_files.specs.Events.{event_line, exchange_line}
use Rattle.traffic_lines.specs.declared.worlds.EndEvent as entries
use Rattle.traffic_lines.specs.declared.worlds.EndEvent.TheVariants.{AtShip, AtCoast}
use Rattle.traffic_lines.specs.declared.worlds.WorldLine.{WorldLine}
use Rattle.traffic_lines.specs.declared.worlds.WorldLine.TheVariants as world
use Rattle.call_texts.specs.Texts.{extra_of}
use Rattle.input_lines.specs.declared.fault.LineFault.{LineFault}
use Rattle.input_lines.specs.declared.fault.LineFault.TheVariants as fault
use Rattle.input_lines.specs.declared.join.JoinLine.{JoinLine as Got}
use Rattle.input_lines.specs.declared.join.JoinLine.TheVariants as got
use Rattle.input_lines.specs.ReceiverLine.{IsLine}
use Rattle.input_lines.specs.declared.calls.CallLine.{CallLine}
use Rattle.input_lines.specs.declared.calls.CallLine.TheVariants as call
use Rattle.input_lines.specs.declared.sentences.SentenceLine.{SentenceLine}
use Rattle.input_lines.specs.declared.sentences.SentenceLine.TheVariants as sentence
use Rattle.input_lines.specs.declared.books.BookLine.{BookLine}
use Rattle.input_lines.specs.declared.books.BookLine.TheVariants as book
use Rattle.input_lines.specs.CallLine.{IsCallLine}
use Rattle.input_lines.specs.SentenceLine.{IsSentenceLine}
use Rattle.input_lines.specs.StreamLine.{IsStreamLine}
use Rattle.input_lines.specs.BookLine.{IsBookLine}
use Rattle.input_lines.specs.WorldLine.{IsWorldFileLine}
use Rattle.input_lines.specs.PointLine.{PointLine, joined, traffic, IsPointLine}
use Rattle.input_lines.specs.Lines.{Says, ReadsWithRoom}
use Rattle.dsc_files.specs.declared.lines.FileKind.{FileKind}
use Rattle.dsc_files.specs.declared.lines.FileKind.TheVariants as kind
use Rattle.dsc_files.specs.declared.lines.Line.{Line}
use Rattle.dsc_files.specs.declared.lines.Line.TheVariants as line
use Rattle.dsc_files.specs.declared.points.PointLine.{PointLine as GotAtPoint}
use Rattle.dsc_files.specs.declared.points.PointLine.TheVariants as at

-- what was read of a line of join's input
abbrev pub line_of_join : Got → Line
line_of_join got.Nothing = line.Nothing
line_of_join (got.Reception group e) = line.Reception group e
line_of_join (got.Evidence group sheet) = line.Evidence group sheet

-- the answer for a line of these, which takes no memory: what it says, or the column of bytes that are no such line
abbrev pub ReadsAlways : {W : Type 0} (L : Spelling W) (as_line : W → Line) → List ℕ → Result Line LineFault → Type 0
ReadsAlways {W = W} L as_line text (Ok read) = (says : W) × (L says text × (read ≡ as_line says))
ReadsAlways L as_line text (Err (fault.Column n)) = IsColumn L text n
ReadsAlways L as_line text (Err fault.NoMemory) = ⊥

-- what a line of calls says
abbrev pub line_of_call : CallLine → Line
line_of_call call.Nothing = line.Nothing
line_of_call (call.Call c expansion) = line.Call c (extra_of expansion)

-- what a line of calls and sentences says
abbrev pub line_of_sentence : SentenceLine → Line
line_of_sentence (sentence.Said says) = line_of_call says
line_of_sentence (sentence.Sentence bytes) = line.Sentence

-- what a line of a log of sentences says
abbrev pub line_of_book : BookLine → Line
line_of_book book.Nothing = line.Nothing
line_of_book book.Sentence = line.Sentence

-- what was read is what the line says, as a line of any file
abbrev pub IsSaidAs : {V W : Type 0} (says : V → W → Type 0) (as_line : W → Line) → V → Line → Type 0
IsSaidAs {W = W} says as_line line read = (one : W) × (says line one × (read ≡ as_line one))

-- what was read of a line of a traffic file is what it says
abbrev pub SaysAtPoint : PointLine → GotAtPoint → Type 0
SaysAtPoint (joined says) read = (one : Got) × (Says says one × (read ≡ at.Joined one))
SaysAtPoint (traffic says) read = read ≡ at.Traffic says

-- the answer for a line at this point of a traffic file
abbrev pub ReadsAtPoint : Point → List ℕ → Result GotAtPoint LineFault → Type 0
ReadsAtPoint point text answer = ReadsWithRoom (IsPointLine point) SaysAtPoint text answer

-- what a line of a station says, as a line of any file
abbrev pub line_of_traffic : TrafficLine → Line
line_of_traffic (Ship mmsi) = line.Ship mmsi
line_of_traffic (Coast mmsi band) = line.Coast mmsi band
line_of_traffic (Base second) = line.Base second
line_of_traffic (Group mmsi) = line.Group mmsi
line_of_traffic (Event moment what) = line.Event moment (event_line what)

-- what a line of a traffic file says, as a line of any file
abbrev pub line_of_point : GotAtPoint → Line
line_of_point (at.Joined says) = line_of_join says
line_of_point (at.Traffic says) = line_of_traffic says

-- what a line of a stream says: nothing, or the elements that it adds
abbrev pub line_of_stream : List Element → Line
line_of_stream [] = line.Nothing
line_of_stream (x ∷ e) = line.Stream (x ∷ e)

-- the answer for a line of a stream
abbrev pub ReadsStream : List ℕ → Result Line LineFault → Type 0
ReadsStream text answer = ReadsWithRoom IsStreamLine (λ e read. read ≡ line_of_stream e) text answer

-- what an event line of an exchange says, as a line of any file
abbrev pub line_of_entry : entries.EndEvent → Line
line_of_entry (AtShip moment what) = line.AtShip moment (exchange_line own.Ship what)
line_of_entry (AtCoast moment what) = line.AtCoast moment (exchange_line own.Coast what)

-- what a line of a file of an exchange says, as a line of any file
abbrev pub line_of_world : Option WorldLine → Line
line_of_world None = line.Nothing
line_of_world (Some (world.Ship mmsi)) = line.Ship mmsi
line_of_world (Some (world.Coast mmsi band)) = line.Coast mmsi band
line_of_world (Some (world.Base second)) = line.Base second
line_of_world (Some (world.EndEvent entry)) = line_of_entry entry

-- the answer for a line of a file of this kind
abbrev pub ReadsLine : FileKind → List ℕ → Result Line LineFault → Type 0
ReadsLine kind.Join text answer = ReadsWithRoom IsLine (IsSaidAs Says line_of_join) text answer
ReadsLine kind.Call text answer = ReadsAlways IsCallLine line_of_call text answer
ReadsLine kind.Sentence text answer = ReadsAlways IsSentenceLine line_of_sentence text answer
ReadsLine (kind.Traffic point) text answer = ReadsWithRoom (IsPointLine point) (IsSaidAs SaysAtPoint line_of_point) text answer
ReadsLine kind.Stream text answer = ReadsStream text answer
ReadsLine kind.Book text answer = ReadsAlways IsBookLine line_of_book text answer
ReadsLine (kind.Exchange point) text answer = ReadsAlways (IsWorldFileLine point) line_of_world text answer
