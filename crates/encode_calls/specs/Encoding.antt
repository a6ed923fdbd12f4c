-- What `encode` writes: this project's profile.
use Rattle.std.specs.Prelude.{◌≡◌, ℕ, suc, Bool, true, Option, List, [], ◌∷◌, ◌++◌}
use Rattle.line_grammar.specs.Bytes.{line_feed}
use Rattle.call_values.specs.declared.calls.Call.{Call}
use Rattle.expansion.specs.declared.values.Sets.{Sets}
use Rattle.line_grammar.specs.Columns.{IsColumn}
use Rattle.line_engine.specs.Lines.{Lines}
use Rattle.line_engine.specs.Meaning.{Meaning}
use Rattle.input_lines.specs.ReceiverLine.{text_of_reception}
use Rattle.input_lines.specs.declared.calls.CallLine.{CallLine}
use Rattle.input_lines.specs.declared.calls.CallLine.TheVariants as line
use Rattle.input_lines.specs.CallLine.{IsCallLine}
use Rattle.encode_calls.specs.Transmissions.{transmitted}

-- the lines say these, one by one
abbrev pub AreCallLines : List CallLine → Lines → Type 0
AreCallLines [] [] = Unit {0}
AreCallLines [] (text ∷ lines) = ⊥
AreCallLines (one ∷ said) [] = ⊥
AreCallLines (one ∷ said) (text ∷ lines) = IsCallLine one text × AreCallLines said lines

-- the calls among them, in turn
abbrev pub calls_of : List CallLine → List (Call × Option Sets)
calls_of [] = []
calls_of (line.Nothing ∷ said) = calls_of said
calls_of (line.Call c expansion ∷ said) = (c, expansion) ∷ calls_of said

-- the reception line of a call: its group has the call's number
unfoldable pub encoded_line : Bool → ℕ → Call × Option Sets → List ℕ
encoded_line long number (c, expansion) = text_of_reception true number (transmitted long c expansion) ++ line_feed ∷ []

-- the lines of calls, numbered from here on
unfoldable pub encoded : Bool → ℕ → List (Call × Option Sets) → List ℕ
encoded long number [] = []
encoded long number (c ∷ calls) = encoded_line long number c ++ encoded long (suc number) calls

-- what these lines give: a reception line for each call, numbered from 0
pub record IsEncoding (long : Bool) (lines : Lines) (text : List ℕ) : Type 0 where
  pub said : List CallLine
  pub are_lines : AreCallLines said lines
  pub text_is : text ≡ encoded long 0 (calls_of said)

-- each call is encoded as soon as its line is read; all is well at the end
abbrev pub encode_meaning : Bool → Meaning
encode_meaning long = record {
  IsIllFormed = λ earlier text n. IsColumn IsCallLine text n;
  IsOverfull = λ earlier text. ⊥;
  Gives = IsEncoding long;
  Ends = λ lines text status. IsEncoding long lines text × (status ≡ 0);
}
