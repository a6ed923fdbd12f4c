-- what is heard of lines
use Rattle.std.proofs.Common.{◌≡◌, ◌<◌, ℕ, ◌+◌, true, false, List, [], ◌∷◌, length, refl, sym, ◌∙◌, ap, arith, length-append, Option, Some, None, MatchOption, Result, Ok, Err, IfOk}
use Rattle.std.proofs.lemmas.Bool.{false≢true}
use Rattle.sentence_frame.specs.declared.refusals.SentenceRefusal.{SentenceRefusal}
use Rattle.sentence_frame.specs.Refusals.{texts_of}
use Rattle.sentence_frame.proofs.Sentences.{texts_back, texts_too_long}
use Rattle.dsc_sentences.specs.declared.dsc.DscFields.{DscFields}
use Rattle.dsc_sentences.specs.Dsc.{dsc, texts, IsDsc, SentenceText}
use Rattle.dsc_sentences.specs.Dse.{dse}
use Rattle.dsc_sentences.specs.Heard.{is_dse, IsAccepted, IsHeard, verdict_in}
use Rattle.dsc_sentences.specs.Verdicts.{told, with_line_end, without_return, verdict_of}
use Rattle.dsc_sentences.specs.inside.DscReading.{FieldsAnswer}
use Rattle.dsc_sentences.specs.inside.Hearing.{IsHeardAsDsc, IsHeardAsDse}
use Rattle.dsc_sentences.proofs.DscAnswers.{answers_found, answers_only, answers_read}
use Rattle.dsc_sentences.proofs.DscFieldLaws.{call_texts}
use Rattle.dsc_sentences.proofs.Told.{told_dsc, told_refused}

-- what is heard of what is read
abbrev pub heard : Result DscFields SentenceRefusal → Result (Option DscFields) SentenceRefusal
heard (Ok s) = Ok (Some s)
heard (Err e) = Err e

pub heard_read : (bytes : List ℕ) (r : Result DscFields SentenceRefusal) → FieldsAnswer r bytes → IsHeardAsDsc bytes (heard r)
heard_read bytes (Ok s) h = record {
  verdict = told_dsc bytes s (answers_read bytes (Ok s) h);
  found = (h.1, answers_found bytes s h);
  only = λ t lawful text. ap heard (answers_only bytes (Ok s) t h lawful text);
}
heard_read bytes (Err e) h = record {
  verdict = told_refused (texts_of dsc bytes) e h;
  found = tt;
  only = λ t lawful text. ap heard (answers_only bytes (Err e) t h lawful text);
}

-- a line is told by its form
verdict_dse : (line : List ℕ) → is_dse line ≡ true → verdict_of line ≡ told (texts_of dse (with_line_end line))
unfolding verdict_of
verdict_dse line form = rw form refl

verdict_dsc : (line : List ℕ) → is_dse line ≡ false → verdict_of line ≡ told (texts_of dsc (with_line_end line))
unfolding verdict_of
verdict_dsc line form = rw form refl

found_dse : (line : List ℕ) (r : Result (Option DscFields) SentenceRefusal) → is_dse line ≡ true → IfOk r (λ found. found ≡ None)
    → IfOk r (λ found. MatchOption found (is_dse line ≡ true) (IsAccepted line))
found_dse line r form h = grind arith

found_dsc : (line : List ℕ) (r : Result (Option DscFields) SentenceRefusal) → is_dse line ≡ false
    → IfOk r (λ found. MatchOption found ⊥ (λ s. IsDsc s × SentenceText s (with_line_end line)))
    → IfOk r (λ found. MatchOption found (is_dse line ≡ true) (IsAccepted line))
found_dsc line r form h = grind arith

pub heard_dse : (line : List ℕ) (r : Result (Option DscFields) SentenceRefusal) → is_dse line ≡ true → IsHeardAsDse (with_line_end line) r → IsHeard line r
heard_dse line r form h = record {
  verdict = h.verdict ∙ sym (verdict_dse line form);
  found = found_dse line r form h.found;
  only = λ s accepted. absurd (false≢true (sym accepted.form ∙ form));
}

pub heard_dsc : (line : List ℕ) (r : Result (Option DscFields) SentenceRefusal) → is_dse line ≡ false → IsHeardAsDsc (with_line_end line) r → IsHeard line r
heard_dsc line r form h = record {
  verdict = h.verdict ∙ sym (verdict_dsc line form);
  found = found_dsc line r form h.found;
  only = λ s accepted. h.only s accepted.lawful accepted.text;
}

-- no sentence is too long
short_enough : (line text : List ℕ) (s : DscFields) → text ≡ without_return line → 80 < length text → IsDsc s → SentenceText s (with_line_end line) → ⊥
short_enough line text s e h lawful same =
    let size : length (with_line_end line) ≡ length text + 2 = omega (arith, length-append (without_return line) (13 ∷ 10 ∷ []), ap length e) in
    let long = texts_too_long dsc (with_line_end line) (omega (arith, size, h)) in
    let read : texts_of dsc (with_line_end line) ≡ Ok (texts s) = ap (λ (l : List ℕ). texts_of dsc l) same ∙ texts_back dsc (texts s) (call_texts s lawful) in
    absurd (cc)

pub heard_too_long : (line text : List ℕ) (refusal : SentenceRefusal) → text ≡ without_return line → 80 < length text → verdict_in (Err refusal) ≡ verdict_of line → IsHeard line (Err refusal)
heard_too_long line text refusal e h verdict = record {
  verdict = verdict;
  found = tt;
  only = λ s accepted. absurd (short_enough line text s e h accepted.lawful accepted.text);
}
