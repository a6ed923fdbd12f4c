-- what the command has encoded, one line further
use Rattle.std.proofs.Common.{◌≡◌, ℕ, suc, ◌+◌, ◌≤◌, Bool, Option, List, [], ◌∷◌, ◌++◌, length, refl, sym, ap, ◌∙◌, arith, append_assoc, length-append}
use Rattle.call_values.specs.declared.calls.Call.{Call}
use Rattle.expansion.specs.declared.values.Sets.{Sets}
use Rattle.line_engine.specs.Lines.{Lines}
use Rattle.input_lines.specs.declared.calls.CallLine.{CallLine}
use Rattle.input_lines.specs.declared.calls.CallLine.TheVariants as line
use Rattle.input_lines.specs.CallLine.{IsCallLine}
use Rattle.encode_calls.specs.Encoding.{AreCallLines, calls_of, encoded_line, encoded}
use Rattle.encode_calls.specs.inside.Progress.{HasEncoded}

pub none_encoded : (long : Bool) → HasEncoded long 0 [] []
unfolding encoded
none_encoded long = record { said = []; are_lines = tt; text_is = refl; count_is = refl }

pub calls_append : (a b : List CallLine) → calls_of (a ++ b) ≡ calls_of a ++ calls_of b
calls_append [] b = refl
calls_append (line.Nothing ∷ a) b = calls_append a b
calls_append (line.Call c expansion ∷ a) b = ap (λ (l : List (Call × Option Sets)). (c, expansion) ∷ l) (calls_append a b)

-- the lines of further calls come after those of the first, and are numbered on
pub encoded_append : (long : Bool) (number : ℕ) (a b : List (Call × Option Sets)) → encoded long number (a ++ b) ≡ encoded long number a ++ encoded long (number + length a) b
unfolding encoded
encoded_append long number [] b =
    let here : number ≡ number + 0 = omega arith in
    ap (λ (n : ℕ). encoded long n b) here
encoded_append long number (c ∷ a) b =
    let next : suc number + length a ≡ number + suc (length a) = omega arith in
    ap (λ (l : List ℕ). encoded_line long number c ++ l) (encoded_append long (suc number) a b)
    ∙ sym (append_assoc (encoded_line long number c) (encoded long (suc number) a) (encoded long (suc number + length a) b))
    ∙ ap (λ (n : ℕ). (encoded_line long number c ++ encoded long (suc number) a) ++ encoded long n b) next

are_more : (said : List CallLine) (lines : Lines) (w : CallLine) (text : List ℕ) → AreCallLines said lines → IsCallLine w text → AreCallLines (said ++ w ∷ []) (lines ++ text ∷ [])
are_more [] [] w text are is = (is, tt)
are_more [] (t ∷ lines) w text are is = absurd are
are_more (s ∷ said) [] w text are is = absurd are
are_more (s ∷ said) (t ∷ lines) w text are is = (are.0, are_more said lines w text are.1 is)

-- a line more
pub more_encoded : (long : Bool) (count : ℕ) (lines : Lines) (text one : List ℕ) (w : CallLine) → HasEncoded long count lines text → IsCallLine w one
    → HasEncoded long (count + length (calls_of (w ∷ []))) (lines ++ one ∷ []) (text ++ encoded long count (calls_of (w ∷ [])))
more_encoded long count lines text one w h is =
    let calls = calls_of h.said in
    let more = calls_of (w ∷ []) in
    let counted : count ≡ length calls = h.count_is in
    let numbered : count ≡ 0 + length calls = omega (arith, counted) in record {
      said = h.said ++ w ∷ [];
      are_lines = are_more h.said lines w one h.are_lines is;
      text_is = ap (λ (n : ℕ). text ++ encoded long n more) numbered
          ∙ ap (λ (t : List ℕ). t ++ encoded long (0 + length calls) more) h.text_is
          ∙ sym (encoded_append long 0 calls more)
          ∙ ap (encoded long 0) (sym (calls_append h.said (w ∷ [])));
      count_is = ap (λ (n : ℕ). n + length more) counted ∙ sym (length-append calls more) ∙ ap length (sym (calls_append h.said (w ∷ [])));
    }

calls_few : (said : List CallLine) (lines : Lines) → AreCallLines said lines → length (calls_of said) ≤ length lines
calls_few [] [] are = omega arith
calls_few [] (t ∷ lines) are = absurd are
calls_few (s ∷ said) [] are = absurd are
calls_few (line.Nothing ∷ said) (t ∷ lines) are =
    let few = calls_few said lines are.1 in
    omega (arith, few)
calls_few (line.Call c expansion ∷ said) (t ∷ lines) are =
    let few = calls_few said lines are.1 in
    omega (arith, few)

-- no more calls than lines
pub few_encoded : (long : Bool) (count : ℕ) (lines : Lines) (text : List ℕ) → HasEncoded long count lines text → count ≤ length lines
few_encoded long count lines text h =
    let counted : count ≡ length (calls_of h.said) = h.count_is in
    omega (arith, counted, calls_few h.said lines h.are_lines)
