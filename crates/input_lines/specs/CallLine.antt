-- The lines of files of calls: this project's profile.
use Rattle.std.specs.Prelude.{ℕ, List}
use Rattle.call_texts.specs.Texts.{IsCallText}
use Rattle.input_lines.specs.declared.calls.CallLine.{CallLine}
use Rattle.input_lines.specs.declared.calls.CallLine.TheVariants.{Nothing, Call}
use Rattle.input_lines.specs.ReceiverLine.{IsNothing}

-- the well-formed lines: those that say nothing; a call's text, with an expansion after it or none
abbrev pub IsCallLine : CallLine → List ℕ → Type 0
IsCallLine Nothing text = IsNothing text
IsCallLine (Call call expansion) text = IsCallText (call, expansion) text
