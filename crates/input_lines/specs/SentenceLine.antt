-- The lines of files of calls and sentences: this project's profile.
use Rattle.std.specs.Prelude.{◌≡◌, ℕ, List, ◌++◌, codes}
use Rattle.input_lines.specs.declared.sentences.SentenceLine.{SentenceLine}
use Rattle.input_lines.specs.declared.sentences.SentenceLine.TheVariants.{Said, Sentence}
use Rattle.input_lines.specs.CallLine.{IsCallLine}

-- the well-formed lines: those of files of calls, and whatever begins with $
abbrev pub IsSentenceLine : SentenceLine → List ℕ → Type 0
IsSentenceLine (Said line) text = IsCallLine line text
IsSentenceLine (Sentence bytes) text = (text ≡ bytes.now) × ((rest : List ℕ) × (text ≡ codes "$" ++ rest))

-- two lines say the same: what a line of calls says, or a sentence of the same bytes
abbrev pub SayTheSame : SentenceLine → SentenceLine → Type 0
SayTheSame (Said a) (Said b) = a ≡ b
SayTheSame (Sentence a) (Sentence b) = a.now ≡ b.now
SayTheSame _ _ = ⊥
