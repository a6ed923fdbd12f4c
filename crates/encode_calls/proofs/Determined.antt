-- lines of calls determine what is written of them
use Rattle.std.proofs.Common.{◌≡◌, ℕ, ◌+◌, Bool, List, [], ◌∷◌, ◌++◌, length, refl, sym, ap, ◌∙◌}
use Rattle.line_engine.specs.Lines.{Lines}
use Rattle.line_engine.specs.Determined.{IsDetermined, BeginsWith}
use Rattle.input_lines.specs.declared.calls.CallLine.{CallLine}
use Rattle.input_lines.specs.CallLine.{IsCallLine}
use Rattle.input_lines.proofs.PublicLaws.{one_column}
use Rattle.encode_calls.specs.Encoding.{AreCallLines, calls_of, encoded, IsEncoding, encode_meaning}
use Rattle.encode_calls.proofs.Encoded.{calls_append, encoded_append}

-- a line says one thing
abbrev pub OneCallLine : Type 0
OneCallLine = (a b : CallLine) (text : List ℕ) → IsCallLine a text → IsCallLine b text → a ≡ b

same_said : OneCallLine → (a b : List CallLine) (lines : Lines) → AreCallLines a lines → AreCallLines b lines → a ≡ b
same_said one [] [] lines x y = refl
same_said one [] (t ∷ b) [] x y = absurd y
same_said one [] (t ∷ b) (l ∷ lines) x y = absurd x
same_said one (s ∷ a) [] [] x y = absurd x
same_said one (s ∷ a) [] (l ∷ lines) x y = absurd y
same_said one (s ∷ a) (t ∷ b) [] x y = absurd x
same_said one (s ∷ a) (t ∷ b) (l ∷ lines) x y =
    ap (λ (w : CallLine). w ∷ a) (one s t l x.0 y.0) ∙ ap (λ (w : List CallLine). t ∷ w) (same_said one a b lines x.1 y.1)

same_text : OneCallLine → (long : Bool) (lines : Lines) (a b : List ℕ) → IsEncoding long lines a → IsEncoding long lines b → a ≡ b
same_text one long lines a b g h =
    g.text_is ∙ ap (λ (s : List CallLine). encoded long 0 (calls_of s)) (same_said one g.said h.said lines g.are_lines h.are_lines) ∙ sym h.text_is

-- what the first lines say, and what the later ones say
record IsSplit (said : List CallLine) (first later : Lines) : Type 0 where
  pub front : List CallLine
  pub back : List CallLine
  pub list : said ≡ front ++ back
  pub are_first : AreCallLines front first

split : (said : List CallLine) (first later : Lines) → AreCallLines said (first ++ later) → IsSplit said first later
split said [] later are = record { front = []; back = said; list = refl; are_first = tt }
split [] (l ∷ first) later are = absurd are
split (s ∷ said) (l ∷ first) later are =
    let rest = split said first later are.1 in
    record { front = s ∷ rest.front; back = rest.back; list = ap (λ (w : List CallLine). s ∷ w) rest.list; are_first = (are.0, rest.are_first) }

begins : OneCallLine → (long : Bool) (first later : Lines) (text whole : List ℕ) → IsEncoding long first text → IsEncoding long (first ++ later) whole → BeginsWith whole text
begins one long first later text whole g h =
    let parts = split h.said first later h.are_lines in
    let front_calls = calls_of parts.front in
    let back = encoded long (0 + length front_calls) (calls_of parts.back) in
    let front : text ≡ encoded long 0 (calls_of parts.front) = same_text one long first text (encoded long 0 (calls_of parts.front)) g (record { said = parts.front; are_lines = parts.are_first; text_is = refl }) in (
      back,
      h.text_is
          ∙ ap (λ (s : List CallLine). encoded long 0 (calls_of s)) parts.list
          ∙ ap (encoded long 0) (calls_append parts.front parts.back)
          ∙ encoded_append long 0 front_calls (calls_of parts.back)
          ∙ ap (λ (t : List ℕ). t ++ back) (sym front),
    )

pub encoding_determined : OneCallLine → (long : Bool) → IsDetermined (encode_meaning long)
encoding_determined one long = record {
  one_column = λ earlier line m n h k. one_column IsCallLine line m n h k;
  one_text = λ lines a b none g h. same_text one long lines a b g h;
  grows = λ first later text whole none g h. begins one long first later text whole g h;
  one_end = λ lines a b s t none g h. (same_text one long lines a b g.0 h.0, g.1 ∙ sym h.1);
  ends = λ first later text whole status none g h. begins one long first later text whole g h.0;
}
