-- the lines of an input, one after the other
use Rattle.std.proofs.Common.{◌≡◌, ℕ, suc, zero, ◌+◌, ◌-◌, ◌<◌, ◌≤◌, Bool, true, false, not, ◌==◌, List, [], ◌∷◌, ◌++◌, length, take, drop, slice_index, refl, sym, ◌∙◌, ap, subst, arith, append_assoc, append-nil}
use Rattle.std.specs.List.{list_all}
use Rattle.std.proofs.lemmas.Bool.{cond-true, and_parts, and_from, eqb-true}
use Rattle.std.proofs.lemmas.List.{take-append-drop, drop_more, take_all, take_rest, drop-drop, length-drop}
use Rattle.memchr.specs.Find.{is_byte, Passes, Nowhere, NoneBefore}
use Rattle.line_engine.specs.Lines.{Lines, lines_of, lengthened, is_inside}

-- no byte of a text ends a line
abbrev pub is_text : List ℕ → Bool
is_text text = list_all is_inside text

line_more : (b : ℕ) (bytes : List ℕ) → is_inside b ≡ true → lines_of (b ∷ bytes) ≡ lengthened b (lines_of bytes)
unfolding lines_of
line_more b bytes e = cond-true (is_inside b) (lengthened b (lines_of bytes)) ([] ∷ lines_of bytes) e

-- a text and a line feed are a line
pub cut_at : (text rest : List ℕ) → is_text text ≡ true → lines_of (text ++ (10 ∷ rest)) ≡ text ∷ lines_of rest
unfolding lines_of
cut_at [] rest h = refl
cut_at (b ∷ text) rest h =
    let k = and_parts (is_inside b) (is_text text) h in
    line_more b (text ++ (10 ∷ rest)) k.0 ∙ ap (lengthened b) (cut_at text rest k.1)

-- a text alone is the last line
pub cut_all : (text : List ℕ) → is_text text ≡ true → 0 < length text → lines_of text ≡ text ∷ []
unfolding lines_of
cut_all [] h some = absurd (omega arith)
cut_all (b ∷ []) h some = line_more b [] (and_parts (is_inside b) true h).0
cut_all (b ∷ c ∷ text) h some =
    let k = and_parts (is_inside b) (is_text (c ∷ text)) h in
    line_more b (c ∷ text) k.0 ∙ ap (lengthened b) (cut_all (c ∷ text) k.1 (omega arith))

pub no_lines : lines_of [] ≡ []
unfolding lines_of
no_lines = refl

-- an open line, whatever comes after it
pub record IsOpenLine (text more : List ℕ) : Type 0 where
  pub line : List ℕ
  pub later : Lines
  pub list : lines_of (text ++ more) ≡ line ∷ later
  pub long : length text ≤ length line

longer : (b : ℕ) (more : List ℕ) (lines : Lines) → is_inside b ≡ true → lines_of more ≡ lines → IsOpenLine (b ∷ []) more
longer b more [] h e = record { line = b ∷ []; later = []; list = line_more b more h ∙ ap (lengthened b) e; long = omega arith }
longer b more (line ∷ lines) h e = record { line = b ∷ line; later = lines; list = line_more b more h ∙ ap (lengthened b) e; long = omega arith }

pub open_line : (text more : List ℕ) → is_text text ≡ true → 0 < length text → IsOpenLine text more
open_line [] more h some = absurd (omega arith)
open_line (b ∷ []) more h some = longer b more (lines_of more) (and_parts (is_inside b) true h).0 refl
open_line (b ∷ c ∷ text) more h some =
    let k = and_parts (is_inside b) (is_text (c ∷ text)) h in
    let o = open_line (c ∷ text) more k.1 (omega arith) in
    let long = o.long in
    record { line = b ∷ o.line; later = o.later; list = line_more b ((c ∷ text) ++ more) k.0 ∙ ap (lengthened b) o.list; long = omega arith }

-- the first line feed
is_no_feed : (t : Bool) → (t ≡ true → ⊥) → not t ≡ true
is_no_feed t h = grind arith

text_before : (bytes : List ℕ) (k : ℕ) → ((j : ℕ) → j < k → Passes (is_byte 10) bytes j → ⊥) → is_text (take k bytes) ≡ true
text_before bytes zero h = refl
text_before [] (suc k) h = refl
text_before (b ∷ bytes) (suc k) h =
    and_from (is_inside b) (is_text (take k bytes)) (is_no_feed (b == 10) (h 0 (omega arith))) (text_before bytes k (λ j below. h (suc j) (omega arith)))

pub text_first : (bytes : List ℕ) (k : ℕ) → NoneBefore (Passes (is_byte 10) bytes) 0 (length bytes) k → is_text (take k bytes) ≡ true
text_first bytes k h = text_before bytes k (λ j below. h.before j (omega arith) below)

pub text_all : (bytes : List ℕ) → Nowhere (Passes (is_byte 10) bytes) 0 (length bytes) → is_text bytes ≡ true
text_all bytes h = subst (λ (l : List ℕ). is_text l ≡ true) (take_all (length bytes) bytes (omega arith)) (text_before bytes (length bytes) (λ j below. h j (omega arith) below))

pub feed_first : (bytes : List ℕ) (k : ℕ) → k < length bytes → Passes (is_byte 10) bytes k → bytes ≡ take k bytes ++ (10 ∷ drop (k + 1) bytes)
feed_first bytes k short h =
    let feed : slice_index bytes k ≡ 10 = eqb-true (slice_index bytes k) 10 h in
    sym (take-append-drop k bytes) ∙ ap (λ (l : List ℕ). take k bytes ++ l) (drop_more bytes k 0 short ∙ ap (λ (x : ℕ). x ∷ drop (k + 1) bytes) feed)

-- whatever comes after these bytes, they are these lines, and then those that begin with what is left
abbrev pub GoesOn : List ℕ → Lines → List ℕ → Type 0
GoesOn taken lines left = (more : List ℕ) → lines_of (taken ++ more) ≡ lines ++ lines_of (left ++ more)

pub none_taken : GoesOn [] [] []
none_taken more = refl

pub read_more : (taken : List ℕ) (lines : Lines) (left given : List ℕ) → GoesOn taken lines left → GoesOn (taken ++ given) lines (left ++ given)
read_more taken lines left given h more =
    ap lines_of (append_assoc taken given more) ∙ h (given ++ more) ∙ ap (λ (l : List ℕ). lines ++ lines_of l) (sym (append_assoc left given more))

pub next_line : (taken : List ℕ) (lines : Lines) (line rest : List ℕ) → is_text line ≡ true → GoesOn taken lines (line ++ (10 ∷ rest))
    → (more : List ℕ) → lines_of (taken ++ more) ≡ lines ++ line ∷ lines_of (rest ++ more)
next_line taken lines line rest t h more =
    h more ∙ ap (λ (l : List ℕ). lines ++ lines_of l) (append_assoc line (10 ∷ rest) more) ∙ ap (λ (l : Lines). lines ++ l) (cut_at line (rest ++ more) t)

pub line_taken : (taken : List ℕ) (lines : Lines) (line rest : List ℕ) → is_text line ≡ true → GoesOn taken lines (line ++ (10 ∷ rest)) → GoesOn taken (lines ++ line ∷ []) rest
line_taken taken lines line rest t h more =
    next_line taken lines line rest t h more ∙ sym (append_assoc lines (line ∷ []) (lines_of (rest ++ more)))

-- at the input's end
pub at_end : (taken : List ℕ) (lines : Lines) (left : List ℕ) → GoesOn taken lines left → lines_of taken ≡ lines ++ lines_of left
at_end taken lines left h =
    ap lines_of (sym (append-nil taken)) ∙ h [] ∙ ap (λ (l : List ℕ). lines ++ lines_of l) (append-nil left)

-- the bytes after the first line feed
pub behind_feed : (rest back : List ℕ) (at : ℕ) → back ≡ drop at rest → take (length back - 1) (drop 1 back) ≡ drop (at + 1) rest
behind_feed rest back at e = take_rest back 1 ∙ ap (λ (l : List ℕ). drop 1 l) e ∙ drop-drop 1 at rest

pub still_left : (bytes rest new : List ℕ) (at : ℕ) → rest ≡ drop (length bytes - length rest) bytes → length rest ≤ length bytes → at < length rest → new ≡ drop (at + 1) rest → new ≡ drop (length bytes - length new) bytes
still_left bytes rest new at e less inside f =
    let len : length new ≡ length rest - (at + 1) = ap length f ∙ length-drop (at + 1) rest in
    let start : (length bytes - length rest) + (at + 1) ≡ length bytes - length new = omega arith in
    f ∙ ap (λ (l : List ℕ). drop (at + 1) l) e ∙ drop-drop (at + 1) (length bytes - length rest) bytes ∙ ap (λ (k : ℕ). drop k bytes) start

pub length_behind : (rest new : List ℕ) (at : ℕ) → at < length rest → new ≡ drop (at + 1) rest → length new + (at + 1) ≡ length rest
length_behind rest new at inside f = let len : length new ≡ length rest - (at + 1) = ap length f ∙ length-drop (at + 1) rest in omega arith

pub is_line : (rest line new : List ℕ) (at : ℕ) → NoneBefore (Passes (is_byte 10) rest) 0 (length rest) at → Passes (is_byte 10) rest at → line ≡ take at rest → new ≡ drop (at + 1) rest → rest ≡ line ++ (10 ∷ new)
is_line rest line new at h feed e f =
    let high = h.high in
    feed_first rest at high feed ∙ ap (λ (l : List ℕ). l ++ (10 ∷ drop (at + 1) rest)) (sym e) ∙ ap (λ (l : List ℕ). line ++ (10 ∷ l)) (sym f)

pub not_empty : (n : ℕ) → false ≡ (n == 0) → 0 < n
not_empty n e = grind arith
