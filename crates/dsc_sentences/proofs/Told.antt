-- what is told of what is read
use Rattle.std.proofs.Common.{◌≡◌, ℕ, ◌+◌, ◌<◌, List, [], ◌∷◌, length, sym, ◌∙◌, ap, arith, Result, Ok, Err, length-append}
use Rattle.sentence_frame.specs.declared.refusals.SentenceRefusal.{SentenceRefusal}
use Rattle.sentence_frame.specs.declared.refusals.SentenceRefusal.TheVariants.{TooLong}
use Rattle.sentence_frame.specs.Refusals.{texts_of}
use Rattle.sentence_frame.proofs.Sentences.{texts_too_long}
use Rattle.dsc_sentences.specs.declared.verdicts.Verdict.TheVariants.{Accepted, Refused}
use Rattle.dsc_sentences.specs.declared.dsc.DscFields.{DscFields}
use Rattle.dsc_sentences.specs.declared.dse.DseFields.{DseFields}
use Rattle.dsc_sentences.specs.Dsc as dsc
use Rattle.dsc_sentences.specs.Dse as dse
use Rattle.dsc_sentences.specs.Verdicts.{told, form_of, with_line_end, without_return, verdict_of}

told_accepted : (r : Result (List (List ℕ)) SentenceRefusal) → ((e : SentenceRefusal) → r ≡ Err e → ⊥) → Accepted ≡ told r
told_accepted r h = grind arith

pub told_dsc : (bytes : List ℕ) (s : DscFields) → dsc.IsReading bytes (Ok s) → Accepted ≡ told (texts_of dsc.dsc bytes)
told_dsc bytes s h = told_accepted (texts_of dsc.dsc bytes) (λ e read. let k = (h.refused e).1 read in cc)

pub told_dse : (bytes : List ℕ) (s : DseFields) → dse.IsReading bytes (Ok s) → Accepted ≡ told (texts_of dse.dse bytes)
told_dse bytes s h = told_accepted (texts_of dse.dse bytes) (λ e read. let k = (h.refused e).1 read in cc)

-- what isn't read is told as refused
pub told_refused : (r : Result (List (List ℕ)) SentenceRefusal) (e : SentenceRefusal) → r ≡ Err e → Refused e ≡ told r
told_refused r e h = ap told (sym h)

pub told_too_long : (line text : List ℕ) → text ≡ without_return line → 80 < length text → Refused (TooLong (length text + 2)) ≡ verdict_of line
unfolding verdict_of
told_too_long line text e h =
    let size : length (with_line_end line) ≡ length text + 2 = omega (arith, length-append (without_return line) (13 ∷ 10 ∷ []), ap length e) in
    let long = texts_too_long (form_of line) (with_line_end line) (omega (arith, size, h)) in
    ap (λ (n : ℕ). Refused (TooLong n)) (sym size) ∙ told_refused (texts_of (form_of line) (with_line_end line)) (TooLong (length (with_line_end line))) long
