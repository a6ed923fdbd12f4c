-- What the command has encoded so far: this project's profile.
use Rattle.std.specs.Prelude.{◌≡◌, ℕ, Bool, List, length}
use Rattle.line_engine.specs.Lines.{Lines}
use Rattle.input_lines.specs.declared.calls.CallLine.{CallLine}
use Rattle.encode_calls.specs.Encoding.{AreCallLines, calls_of, encoded}

-- these lines had so many calls, and this is what they give
pub record HasEncoded (long : Bool) (count : ℕ) (lines : Lines) (text : List ℕ) : Type 0 where
  pub said : List CallLine
  pub are_lines : AreCallLines said lines
  pub text_is : text ≡ encoded long 0 (calls_of said)
  pub count_is : count ≡ length (calls_of said)
