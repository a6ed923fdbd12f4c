-- what is read of bytes
use Rattle.std.proofs.Common.{◌≡◌, ℕ, true, subst, List, [], ◌∷◌, length, drop, refl, sym, ◌∙◌, ap, codes, Result, Ok, Err, IfOk, arith}
use Rattle.sentence_frame.specs.declared.refusals.SentenceRefusal.{SentenceRefusal}
use Rattle.sentence_frame.specs.Shapes as shape
use Rattle.sentence_frame.specs.Shapes.{Shape, accepts, is_among, number_of, digits_of}
use Rattle.sentence_frame.specs.Frames.{sentence}
use Rattle.sentence_frame.specs.inside.Fields.{first_of, rest_of, perhaps}
use Rattle.sentence_frame.specs.Refusals.{is_head, opened, judged, texts_of}
use Rattle.sentence_frame.specs.Refusals as refusal
use Rattle.sentence_frame.proofs.FieldLaws.{digits_kind, up_to_kind}
use Rattle.sentence_frame.proofs.Reading.{Agrees, agree_step, firsts, firsts_behind}
use Rattle.sentence_frame.proofs.Sentences.{opened_sound, framed_cut, texts_sound, texts_back}
use Rattle.dsc_symbols.specs.declared.last_digits.TheConstants.{CATEGORIES, FORMATS}
use Rattle.dsc_sentences.specs.declared.dsc.DscFields.{DscFields}
use Rattle.dsc_sentences.specs.Dsc.{texts, shapes, IsDsc, IsReading, dsc}
use Rattle.dsc_sentences.specs.inside.DscReading.{read_fields, FieldsAnswer, end_in}
use Rattle.dsc_sentences.proofs.Letters.{end_kind, mark_kind, is_there}
use Rattle.dsc_sentences.proofs.DscFieldLaws.{format_kind, category_kind, two_kind, four_kind, ten_kind, head_is, call_texts, one_record}

-- the fields that are read are lawful, and have these texts
abbrev Has : List (List ℕ) → DscFields → Type 0
Has ts s = (texts s ≡ ts) × IsDsc s

-- reading the fields one after another agrees with judging their texts
agrees : (b : List ℕ) → Agrees (read_fields b) (judged 1 shapes (firsts 11 b) (firsts 11 b)) (firsts 11 b) (Has (firsts 11 b))
unfolding read_fields judged shapes texts
agrees b =
    let ts = firsts 11 b in
    let b1 = b in
    let b2 = rest_of b1 in
    let b3 = rest_of b2 in
    let b4 = rest_of b3 in
    let b5 = rest_of b4 in
    let b6 = rest_of b5 in
    let b7 = rest_of b6 in
    let b8 = rest_of b7 in
    let b9 = rest_of b8 in
    let b10 = rest_of b9 in
    let b11 = rest_of b10 in
    agree_step 1 (shape.code FORMATS) number_of (first_of b1) _ (judged 2 (drop 1 shapes) (firsts 10 (rest_of b1)) ts) ts (Has ts) (λ y1.
    agree_step 2 (shape.digits 10) digits_of (first_of b2) _ (judged 3 (drop 2 shapes) (firsts 9 (rest_of b2)) ts) ts (Has ts) (λ y2.
    agree_step 3 (shape.maybe (shape.code CATEGORIES)) (perhaps number_of) (first_of b3) _ (judged 4 (drop 3 shapes) (firsts 8 (rest_of b3)) ts) ts (Has ts) (λ y3.
    agree_step 4 (shape.maybe (shape.number 2 99)) (perhaps number_of) (first_of b4) _ (judged 5 (drop 4 shapes) (firsts 7 (rest_of b4)) ts) ts (Has ts) (λ y4.
    agree_step 5 (shape.maybe (shape.number 2 99)) (perhaps number_of) (first_of b5) _ (judged 6 (drop 5 shapes) (firsts 6 (rest_of b5)) ts) ts (Has ts) (λ y5.
    agree_step 6 (shape.at_most 16) (λ t. record { items = digits_of t }) (first_of b6) _ (judged 7 (drop 6 shapes) (firsts 5 (rest_of b6)) ts) ts (Has ts) (λ y6.
    agree_step 7 (shape.maybe (shape.number 4 9999)) (perhaps number_of) (first_of b7) _ (judged 8 (drop 7 shapes) (firsts 4 (rest_of b7)) ts) ts (Has ts) (λ y7.
    agree_step 8 (shape.maybe (shape.digits 10)) (perhaps digits_of) (first_of b8) _ (judged 9 (drop 8 shapes) (firsts 3 (rest_of b8)) ts) ts (Has ts) (λ y8.
    agree_step 9 (shape.maybe (shape.number 2 99)) (perhaps number_of) (first_of b9) _ (judged 10 (drop 9 shapes) (firsts 2 (rest_of b9)) ts) ts (Has ts) (λ y9.
    agree_step 10 (shape.letter (codes "RBS")) end_in (first_of b10) _ (judged 11 (drop 10 shapes) (firsts 1 (rest_of b10)) ts) ts (Has ts) (λ y10.
    agree_step 11 (shape.maybe (shape.letter (codes "E"))) is_there (first_of b11) _ (judged 12 (drop 11 shapes) (firsts 0 (rest_of b11)) ts) ts (Has ts) (λ y11.
    let a1 = format_kind.again (first_of b1) y1 in
    let a2 = (digits_kind 10).again (first_of b2) y2 in
    let a3 = category_kind.again (first_of b3) y3 in
    let a4 = two_kind.again (first_of b4) y4 in
    let a5 = two_kind.again (first_of b5) y5 in
    let a6 = (up_to_kind 16).again (first_of b6) y6 in
    let a7 = four_kind.again (first_of b7) y7 in
    let a8 = ten_kind.again (first_of b8) y8 in
    let a9 = two_kind.again (first_of b9) y9 in
    let a10 = end_kind.again (first_of b10) y10 in
    let a11 = mark_kind.again (first_of b11) y11 in (
      refl,
      (
        cc,
        record {
          format = format_kind.fits (first_of b1) y1;
          address = (digits_kind 10).fits (first_of b2) y2;
          category = category_kind.fits (first_of b3) y3;
          first = two_kind.fits (first_of b4) y4;
          second = two_kind.fits (first_of b5) y5;
          place = (up_to_kind 16).fits (first_of b6) y6;
          time = four_kind.fits (first_of b7) y7;
          distress = ten_kind.fits (first_of b8) y8;
          nature = two_kind.fits (first_of b9) y9;
        },
      ),
    ))))))))))))

-- bytes that aren't opened are refused so
pub refused_first : (bytes : List ℕ) (e : SentenceRefusal) → opened (codes "$CDDSC") (11 ∷ []) bytes ≡ Err e → texts_of dsc bytes ≡ Err e
unfolding texts_of
refused_first bytes e h = rw h refl

-- opened bytes are judged
judged_then : (bytes fields : List ℕ) → opened (codes "$CDDSC") (11 ∷ []) bytes ≡ Ok fields → texts_of dsc bytes ≡ judged 1 shapes (refusal.texts fields) (refusal.texts fields)
unfolding texts_of
judged_then bytes fields h = rw h refl

eleven : (n : ℕ) → is_among (11 ∷ []) n ≡ true → n ≡ 11
eleven n h = grind arith

answered : (bytes : List ℕ) (ts : List (List ℕ)) (r : Result DscFields SentenceRefusal) → texts_of dsc bytes ≡ judged 1 shapes ts ts → Agrees r (judged 1 shapes ts ts) ts (Has ts) → FieldsAnswer r bytes
answered bytes ts r j h = grind arith

-- so reading opened fields answers the bytes
pub read_opened : (bytes fields : List ℕ) (answer : Result DscFields SentenceRefusal) → opened (codes "$CDDSC") (11 ∷ []) bytes ≡ Ok fields → answer ≡ read_fields fields → FieldsAnswer answer bytes
read_opened bytes fields answer h e =
    let o = opened_sound (codes "$CDDSC") (11 ∷ []) bytes fields h in
    let cut = framed_cut (codes "$CDDSC") bytes fields head_is o.framed in
    let ts = refusal.texts fields in
    let number : length ts ≡ 11 = eleven (length ts) o.count in
    let same : firsts 11 fields ≡ ts =
    ap (λ (n : ℕ). firsts n fields) (sym number) ∙ ap (λ (l : List ℕ). firsts (length ts) l) cut.cut ∙ firsts_behind ts cut.free in
    let judgement = judged_then bytes fields h in
    let agree : Agrees (read_fields fields) (judged 1 shapes ts ts) ts (Has ts) =
    subst (λ (l : List (List ℕ)). Agrees (read_fields fields) (judged 1 shapes l l) l (Has l)) same (agrees fields) in
    rw e (answered bytes ts (read_fields fields) judgement agree)

-- the clauses of what is read
pub answers_found : (bytes : List ℕ) (s : DscFields) → FieldsAnswer (Ok s) bytes → bytes ≡ sentence (codes "$CDDSC") (texts s)
answers_found bytes s h = texts_sound dsc bytes (texts s) head_is h.0

pub answers_only : (bytes : List ℕ) (answer : Result DscFields SentenceRefusal) (s : DscFields) → FieldsAnswer answer bytes → IsDsc s → bytes ≡ sentence (codes "$CDDSC") (texts s) → answer ≡ Ok s
answers_only bytes (Ok v) s h lawful e =
    let read : texts_of dsc bytes ≡ Ok (texts s) = ap (λ (l : List ℕ). texts_of dsc l) e ∙ texts_back dsc (texts s) (call_texts s lawful) in
    let found = h.0 in
    let same : texts v ≡ texts s = cc in
    ap Ok (one_record v s h.1 lawful same)
answers_only bytes (Err x) s h lawful e =
    let read : texts_of dsc bytes ≡ Ok (texts s) = ap (λ (l : List ℕ). texts_of dsc l) e ∙ texts_back dsc (texts s) (call_texts s lawful) in
    absurd (cc)

pub answers_refused : (bytes : List ℕ) (answer : Result DscFields SentenceRefusal) (e : SentenceRefusal) → FieldsAnswer answer bytes → answer ≡ Err e → texts_of dsc bytes ≡ Err e
answers_refused bytes answer e h same = grind arith

pub answers_each : (bytes : List ℕ) (answer : Result DscFields SentenceRefusal) (e : SentenceRefusal) → FieldsAnswer answer bytes → texts_of dsc bytes ≡ Err e → answer ≡ Err e
answers_each bytes answer e h same = grind arith

pub answers_read : (bytes : List ℕ) (answer : Result DscFields SentenceRefusal) → FieldsAnswer answer bytes → IsReading bytes answer
answers_read bytes (Ok s) h = record {
  found = answers_found bytes s h;
  only = λ t. answers_only bytes (Ok s) t h;
  refused = λ e. (answers_refused bytes (Ok s) e h, answers_each bytes (Ok s) e h);
}
answers_read bytes (Err x) h = record {
  found = tt;
  only = λ t. answers_only bytes (Err x) t h;
  refused = λ e. (answers_refused bytes (Err x) e h, answers_each bytes (Err x) e h);
}

-- one text, one record
pub one_sentence : (s t : DscFields) → IsDsc s → IsDsc t → sentence (codes "$CDDSC") (texts s) ≡ sentence (codes "$CDDSC") (texts t) → s ≡ t
one_sentence s t hs ht e =
    let first = texts_back dsc (texts s) (call_texts s hs) in
    let second = texts_back dsc (texts t) (call_texts t ht) in
    let same = ap (λ (l : List ℕ). texts_of dsc l) e in
    one_record s t hs ht (cc)

-- one reading
pub one_reading : (bytes : List ℕ) (x y : Result DscFields SentenceRefusal) → IsReading bytes x → IsReading bytes y → (IfOk x IsDsc) → x ≡ y
one_reading bytes (Ok s) y hx hy lawful = sym (hy.only s lawful hx.found)
one_reading bytes (Err e) y hx hy lawful = sym ((hy.refused e).1 ((hx.refused e).0 refl))
