-- the text of starts, one start further
use Rattle.std.proofs.Common.{◌≡◌, ℕ, suc, ◌+◌, ◌&&◌, Bool, List, [], ◌∷◌, ◌++◌, length, pos, ◌-ℤ◌, ℤ, codes, sym, ◌∙◌, ap, append_assoc, append-nil, arith}
use Rattle.slot_join.specs.declared.joined.Joined.{Joined}
use Rattle.std.specs.Fmt.{signed_decimal}
use Rattle.std.proofs.Math.Bool.{and-true, and_assoc}
use Rattle.slot_join.specs.Answer.{is_reported}
use Rattle.call_texts.specs.Texts.{answer_line}
use Rattle.stream_capture.specs.Telling.{AnsweredStart, start_line, told_text, are_reported}

-- a start's line after a text, piece by piece
pub line_appended : (out : List ℕ) (number : ℕ) (origin : ℤ) (answer : Joined) → (((out ++ codes "at ") ++ signed_decimal origin) ++ codes " ") ++ answer_line number answer ≡ out ++ start_line number origin answer
unfolding start_line
line_appended out number origin answer = simp append_assoc

-- the line of a start that was told
abbrev pub line_of : ℕ → AnsweredStart → List ℕ
line_of number one = start_line number (pos one.lead -ℤ pos 150) one.answer

pub told_append : (n : ℕ) (first later : List AnsweredStart) → told_text n (first ++ later) ≡ told_text n first ++ told_text (n + length first) later
unfolding told_text
told_append n [] later = ap (λ (k : ℕ). told_text k later) (omega arith)
told_append n (one ∷ first) later =
    ap (λ (t : List ℕ). line_of n one ++ t) (told_append (suc n) first later ∙ ap (λ (k : ℕ). told_text (suc n) first ++ told_text k later) (omega arith))
    ∙ sym (append_assoc (line_of n one) (told_text (suc n) first) (told_text (n + suc (length first)) later))

pub told_push : (told : List AnsweredStart) (one : AnsweredStart) → told_text 0 (told ++ one ∷ []) ≡ told_text 0 told ++ line_of (length told) one
unfolding told_text
told_push told one = told_append 0 told (one ∷ []) ∙ ap (λ (t : List ℕ). told_text 0 told ++ t) (append-nil (line_of (0 + length told) one))
    ∙ ap (λ (k : ℕ). told_text 0 told ++ line_of k one) (let same : 0 + length told ≡ length told = omega arith in same)

pub reported_push : (told : List AnsweredStart) (one : AnsweredStart) → are_reported (told ++ one ∷ []) ≡ (are_reported told && is_reported one.answer)
reported_push [] one = and-true (is_reported one.answer)
reported_push (t ∷ told) one = ap (λ (b : Bool). is_reported t.answer && b) (reported_push told one) ∙ sym (and_assoc (is_reported t.answer) (are_reported told) (is_reported one.answer))
