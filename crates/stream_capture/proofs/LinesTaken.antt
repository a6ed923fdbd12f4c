-- a line more, and the end of the lines
use Rattle.std.proofs.Common.{◌≡◌, ℕ, ◌+◌, ◌<◌, ◌≤◌, ◌^◌, cond, List, [], ◌∷◌, ◌++◌, length, sym, ◌∙◌, ap, subst, arith, append-nil, length-append}
use Rattle.ten_unit.specs.declared.character.Element.{Element}
use Rattle.line_engine.specs.declared.bounds.TheConstants.{LONGEST_LINE, MOST_LINES}
use Rattle.line_engine.specs.Lines.{Lines}
use Rattle.input_lines.specs.StreamLine.{IsStreamLine}
use Rattle.input_lines.proofs.PublicLaws.{stream_few}
use Rattle.long_capture.specs.Captures.{Ending, decided}
use Rattle.stream_capture.specs.declared.command.Capturing.{Capturing}
use Rattle.stream_capture.specs.Telling.{AreStreamLines, stream_of, AreAnsweredStarts, EndsStarts}
use Rattle.stream_capture.specs.inside.Progress.{HasTold, EndsTold, HasToldAll, HasRoom, StandsFor}
use Rattle.stream_capture.proofs.Ready.{few_told}
use Rattle.stream_capture.proofs.Determined.{stream_append}

-- ---- one line further

are_more : (said : List (List Element)) (lines : Lines) (e : List Element) (line : List ℕ) → AreStreamLines said lines → IsStreamLine e line → AreStreamLines (said ++ e ∷ []) (lines ++ line ∷ [])
are_more [] [] e line are is = (is, tt)
are_more [] (text ∷ lines) e line are is = absurd are
are_more (added ∷ said) [] e line are is = absurd are
are_more (added ∷ said) (text ∷ lines) e line are is = (are.0, are_more said lines e line are.1 is)

stream_more : (said : List (List Element)) (e : List Element) → stream_of (said ++ e ∷ []) ≡ stream_of said ++ e
stream_more said e = stream_append said (e ∷ []) ∙ ap (λ (l : List Element). stream_of said ++ l) (append-nil e)

pub line_taken : (old new : Capturing) (lines : Lines) (line before after : List ℕ) (e : List Element) (h : StandsFor old lines before) → IsStreamLine e line → length line ≤ LONGEST_LINE
    → HasTold new (stream_of h.said ++ e) after → StandsFor new (lines ++ line ∷ []) after
line_taken old new lines line before after e h is short told = record {
  said = h.said ++ e ∷ [];
  are_lines = are_more h.said lines e line h.are_lines is;
  told = subst (λ (s : List Element). HasTold new s after) (sym (stream_more h.said e)) told;
  short = omega (
    arith,
    ap length (stream_more h.said e),
    length-append (stream_of h.said) e,
    length-append lines (line ∷ []),
    stream_few e line is,
    short,
    h.short,
  );
}

pub room_of : (command : Capturing) (lines : Lines) (written pending : List ℕ) (h : StandsFor command lines (written ++ pending)) → length lines < MOST_LINES → (more : ℕ) → more ≤ LONGEST_LINE
    → HasRoom command pending more
room_of command lines written pending h few more short = record {
  e = stream_of h.said;
  written = written;
  told = h.told;
  few = omega (arith, h.short, few, short);
}

-- ---- the end of the lines

pub few_at_end : (command : Capturing) (lines : Lines) (text : List ℕ) → StandsFor command lines text → length lines < MOST_LINES + 1 → command.count < 2 ^ 31
few_at_end command lines text h few =
    let e = stream_of h.said in
    let count = few_told (e ++ []) (decided (length e)) h.told.told (h.told.are_told []) in
    omega (arith, h.told.counts.count_is, count, h.short, few)

-- a stream that goes on may end
pub ends_told : (command : Capturing) (e : List Element) (text : List ℕ) → Ending command.capture e → HasTold command e text → EndsTold command e text
ends_told command e text ending h = record {
  ending = ending;
  told = h.told;
  are_told =
      subst (λ (n : ℕ). AreAnsweredStarts e n h.told) (sym h.stands.far)
      (subst (λ (s : List Element). AreAnsweredStarts s (decided (length e)) h.told) (append-nil e) (h.are_told []));
  text_is = h.text_is;
  counts = h.counts;
}

pub ends_so : (command : Capturing) (lines : Lines) (said : List (List Element)) (text : List ℕ) (status : ℕ) → AreStreamLines said lines → HasToldAll command (stream_of said) text
    → status ≡ cond command.is_well 0 1 → EndsStarts lines text status
ends_so command lines said text status are h is = record {
  said = said;
  are_lines = are;
  told = h.told;
  are_told = h.are_told;
  text_is = h.text_is;
  status_is = is ∙ ap (λ b. cond {A = ℕ} b 0 1) h.well_is;
}
