-- What is written of lines that are sentences: this project's profile.
use Rattle.std.specs.Prelude.{ℕ, ◌-◌, ◌/◌, ◌%◌, ◌==◌, nat_eq, if◌then◌else◌, List, [], ◌∷◌, ◌++◌, length, take, slice_index, Result, Ok, Err, codes, decimal}
use Rattle.std.specs.List.{starts_with}
use Rattle.line_grammar.specs.Bytes.{line_feed, carriage_return, space}
use Rattle.sentence_frame.specs.declared.refusals.SentenceRefusal.{SentenceRefusal}
use Rattle.sentence_frame.specs.declared.refusals.SentenceRefusal.TheVariants.{TooLong, Start, End, Checksum, FieldCount, Field}
use Rattle.sentence_frame.specs.Frames.{hexadecimal}
use Rattle.sentence_frame.specs.Refusals.{Form, texts_of}
use Rattle.dsc_sentences.specs.declared.verdicts.Verdict.{Verdict}
use Rattle.dsc_sentences.specs.declared.verdicts.Verdict.TheVariants.{Accepted, Refused}
use Rattle.dsc_sentences.specs.Dsc.{dsc}
use Rattle.dsc_sentences.specs.Dse.{dse}

-- a line without one CR at its end
abbrev pub without_return : List ℕ → List ℕ
without_return line = if slice_index line (length line - 1) == 13 then take (length line - 1) line else line

-- the line as a sentence, with CR and LF
abbrev pub with_line_end : List ℕ → List ℕ
with_line_end line = without_return line ++ carriage_return ∷ line_feed ∷ []

-- a line that begins with `$CDDSE` is read as DSE, every other one as DSC
abbrev pub form_of : List ℕ → Form
form_of line = if starts_with nat_eq line (codes "$CDDSE") then dse else dsc

-- the verdict on what was read
abbrev pub told : Result (List (List ℕ)) SentenceRefusal → Verdict
told (Ok texts) = Accepted
told (Err refusal) = Refused refusal

-- the verdict on a line
unfoldable pub verdict_of : List ℕ → Verdict
verdict_of line = told (texts_of (form_of line) (with_line_end line))

-- two capital hexadecimal digits
abbrev pub two_hexadecimal : ℕ → List ℕ
two_hexadecimal n = hexadecimal (n / 16) ∷ hexadecimal (n % 16) ∷ []

-- why a sentence is refused
abbrev pub refusal_text : SentenceRefusal → List ℕ
refusal_text (TooLong n) = codes "too long " ++ decimal n
refusal_text Start = codes "start"
refusal_text End = codes "end"
refusal_text (Checksum want got) = codes "checksum " ++ (two_hexadecimal want ++ (space ∷ two_hexadecimal got))
refusal_text (FieldCount n) = codes "fields " ++ decimal n
refusal_text (Field k) = codes "field " ++ decimal k

-- the text of a verdict, without a line feed
abbrev pub verdict_text : Verdict → List ℕ
verdict_text Accepted = codes "accepted"
verdict_text (Refused refusal) = codes "refused " ++ refusal_text refusal
