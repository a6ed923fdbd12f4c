-- what the command has told, one line further
use Rattle.std.proofs.Common.{◌≡◌, ℕ, Bool, true, false, not, ◌&&◌, ◌||◌, List, [], ◌∷◌, ◌++◌, flat_map, refl, sym, ap, ◌∙◌, append-nil}
use Rattle.std.specs.List.{list_all}
use Rattle.std.proofs.lemmas.Grind.{flat_map-append}
use Rattle.std.proofs.Math.Bool.{and-true, and_assoc}
use Rattle.line_engine.specs.Lines.{Lines}
use Rattle.input_lines.specs.declared.sentences.SentenceLine.{SentenceLine}
use Rattle.input_lines.specs.SentenceLine.{IsSentenceLine}
use Rattle.sentence_files.specs.Telling.{AreSentenceLines, line_text, is_well}
use Rattle.sentence_files.specs.inside.Progress.{HasTold}

pub none_told : HasTold false [] []
none_told = record { said = []; are_lines = tt; text_is = refl; well_is = refl }

are_more : (all : List SentenceLine) (lines : Lines) (w : SentenceLine) (text : List ℕ) → AreSentenceLines all lines → IsSentenceLine w text → AreSentenceLines (all ++ w ∷ []) (lines ++ text ∷ [])
are_more [] [] w text are is = (is, tt)
are_more [] (t ∷ lines) w text are is = absurd are
are_more (s ∷ all) [] w text are is = absurd are
are_more (s ∷ all) (t ∷ lines) w text are is = (are.0, are_more all lines w text are.1 is)

well_more : (all : List SentenceLine) (w : SentenceLine) → list_all is_well (all ++ w ∷ []) ≡ (list_all is_well all && is_well w)
well_more [] w = and-true (is_well w)
well_more (s ∷ all) w = ap (λ (b : Bool). is_well s && b) (well_more all w) ∙ sym (and_assoc (is_well s) (list_all is_well all) (is_well w))

-- a line more, which gives this
pub more_told : (refused : Bool) (lines : Lines) (text line : List ℕ) (w : SentenceLine) → HasTold refused lines text → IsSentenceLine w line
    → HasTold (refused || not (is_well w)) (lines ++ line ∷ []) (text ++ line_text w)
more_told refused lines text line w h is = record {
  said = h.said ++ w ∷ [];
  are_lines = are_more h.said lines w line h.are_lines is;
  text_is =
      ap (λ (t : List ℕ). t ++ line_text w) h.text_is
      ∙ ap (λ (t : List ℕ). flat_map line_text h.said ++ t) (sym (append-nil (line_text w)))
      ∙ sym (flat_map-append line_text h.said (w ∷ []));
  well_is = well_more h.said w ∙ ap (λ (b : Bool). b && is_well w) h.well_is ∙ both refused (is_well w);
}
  where
    both : (a b : Bool) → (not a && b) ≡ not (a || not b)
    both true b = refl
    both false true = refl
    both false false = refl
