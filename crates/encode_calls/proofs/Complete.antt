-- each input of calls has an output
use Rattle.std.proofs.Common.{ℕ, Bool, List, [], ◌∷◌, ◌++◌, refl, sym, subst, append_assoc, inl, inr}
use Rattle.line_engine.specs.Lines.{Lines}
use Rattle.line_engine.specs.Faults.{IsFaultless}
use Rattle.line_engine.specs.Determined.{IsComplete}
use Rattle.line_engine.proofs.PublicLaws.{sound_line_of}
use Rattle.input_lines.specs.declared.calls.CallLine.{CallLine}
use Rattle.input_lines.proofs.PublicLaws.{call_lines_judged}
use Rattle.encode_calls.specs.Encoding.{AreCallLines, calls_of, encoded, IsEncoding, encode_meaning}

module _ (long : Bool) where
  -- lines without a fault say something
  said_of : (earlier lines : Lines) → IsFaultless (encode_meaning long) (earlier ++ lines) → (said : List CallLine) × AreCallLines said lines
  said_of earlier [] none = ([], tt)
  said_of earlier (line ∷ lines) none =
      elim (call_lines_judged line) [
        | inl w ↦
            let all = subst (IsFaultless (encode_meaning long)) (sym (append_assoc earlier (line ∷ []) lines)) none in
            let rest = said_of (earlier ++ line ∷ []) lines all in
            (w.0 ∷ rest.0, (w.1, rest.1))
        | inr c ↦ absurd (sound_line_of (encode_meaning long) (earlier ++ line ∷ lines) earlier line lines none refl c.0 c.1)
      ]

  encoding_of : (lines : Lines) → IsFaultless (encode_meaning long) lines → (text : List ℕ) × IsEncoding long lines text
  encoding_of lines none =
      let s = said_of [] lines none in
      (encoded long 0 (calls_of s.0), record { said = s.0; are_lines = s.1; text_is = refl })

  pub encode_complete : IsComplete (encode_meaning long)
  encode_complete = record {
    column = λ earlier line none. elim (call_lines_judged line) [ inl w ↦ inr (λ n h. h.is_none w.0 w.1) | inr c ↦ inl c ];
    group = λ earlier line none. inr (λ full. full);
    gives = encoding_of;
    ends = λ lines none. let e = encoding_of lines none in (e.0, 0, (e.1, refl));
  }
