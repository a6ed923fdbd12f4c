-- each input of calls and sentences has an output
use Rattle.std.proofs.Common.{if◌then◌else◌, List, [], ◌∷◌, ◌++◌, refl, sym, subst, append_assoc, inl, inr}
use Rattle.std.specs.List.{list_all, flat_map}
use Rattle.line_engine.specs.Lines.{Lines}
use Rattle.line_engine.specs.Faults.{IsFaultless}
use Rattle.line_engine.specs.Determined.{IsComplete}
use Rattle.line_engine.proofs.PublicLaws.{sound_line_of}
use Rattle.input_lines.specs.declared.sentences.SentenceLine.{SentenceLine}
use Rattle.input_lines.proofs.PublicLaws.{sentence_lines_judged}
use Rattle.sentence_files.specs.Telling.{AreSentenceLines, line_text, is_well, sentences_meaning}

-- lines without a fault say something
said_of : (earlier lines : Lines) → IsFaultless sentences_meaning (earlier ++ lines) → (said : List SentenceLine) × AreSentenceLines said lines
said_of earlier [] none = ([], tt)
said_of earlier (line ∷ lines) none =
    elim (sentence_lines_judged line) [
      | inl w ↦
          let all = subst (IsFaultless sentences_meaning) (sym (append_assoc earlier (line ∷ []) lines)) none in
          let rest = said_of (earlier ++ line ∷ []) lines all in
          (w.0 ∷ rest.0, (w.1, rest.1))
      | inr c ↦ absurd (sound_line_of sentences_meaning (earlier ++ line ∷ lines) earlier line lines none refl c.0 c.1)
    ]

pub sentences_complete : IsComplete sentences_meaning
sentences_complete = record {
  column = λ earlier line none. elim (sentence_lines_judged line) [ inl w ↦ inr (λ n h. h.is_none w.0 w.1) | inr c ↦ inl c ];
  group = λ earlier line none. inr (λ full. full);
  gives = λ lines none. let s = said_of [] lines none in (flat_map line_text s.0, record { said = s.0; are_lines = s.1; text_is = refl });
  ends = λ lines none.
      let s = said_of [] lines none in
      (flat_map line_text s.0, (if list_all is_well s.0 then 0 else 1), record { said = s.0; are_lines = s.1; text_is = refl; status_is = refl });
}
