-- sentences of a form: what is read as one, and what is written as one
use Rattle.std.proofs.Common.{◌<◌, ◌≡◌, ◌≢◌, ℕ, ◌+◌, ◌≤◌, Bool, true, ◌&&◌, List, [], ◌∷◌, ◌++◌, length, drop, refl, sym, ◌∙◌, ap, inl, inr, Result, Ok, Err, if◌then◌else◌, arith}
use Rattle.std.specs.List.{list_all}
use Rattle.std.proofs.lemmas.Bool.{and_parts, and_from, cases_Bool}
use Rattle.sentence_frame.specs.declared.refusals.SentenceRefusal.{SentenceRefusal}
use Rattle.sentence_frame.specs.declared.refusals.SentenceRefusal.TheVariants.{FieldCount, TooLong}
use Rattle.sentence_frame.specs.Frames.{behind_commas, closed, sentence}
use Rattle.sentence_frame.specs.Refusals.{Form, framed, texts, opened, judged, texts_of, is_head, ◌>>=◌}
use Rattle.sentence_frame.specs.Laws.{AreTexts}
use Rattle.sentence_frame.specs.Shapes.{Shape, accepts, is_among}
use Rattle.sentence_frame.specs.inside.Fields.{are_plain}
use Rattle.sentence_frame.proofs.Cuts.{has_no_comma, cut_behind, cut_free, texts_behind}
use Rattle.sentence_frame.proofs.Framing.{too_long, framed_sound, framed_back}
use Rattle.sentence_frame.proofs.Plain.{all_clean, all_free}

-- each text is accepted by its shape
abbrev pub accepted : List Shape → List (List ℕ) → Bool
accepted (s ∷ shapes) (t ∷ ts) = accepts s t && accepted shapes ts
accepted _ _ = true

pub judged_ok : (k : ℕ) (shapes : List Shape) (ts all : List (List ℕ)) → accepted shapes ts ≡ true → judged k shapes ts all ≡ Ok all
unfolding judged
judged_ok k [] ts all h = refl
judged_ok k (s ∷ shapes) [] all h = refl
judged_ok k (s ∷ shapes) (t ∷ ts) all h =
    let both = and_parts (accepts s t) (accepted shapes ts) h in
    let here : accepts s t ≡ true = both.0 in
    rw here (judged_ok (k + 1) shapes ts all both.1)

-- what is judged is accepted and unchanged
pub judged_all : (k : ℕ) (shapes : List Shape) (ts all out : List (List ℕ)) → judged k shapes ts all ≡ Ok out → (accepted shapes ts ≡ true) × (out ≡ all)
unfolding judged
judged_all k [] ts all out h = (refl, let e = h in cc)
judged_all k (s ∷ shapes) [] all out h = (refl, let e = h in cc)
judged_all k (s ∷ shapes) (t ∷ ts) all out h =
    elim (cases_Bool (accepts s t)) [
      | inl is ↦
          (let more : judged (k + 1) shapes ts all ≡ Ok out = rw is at h in
          let rest = judged_all (k + 1) shapes ts all out more in
          (and_from (accepts s t) (accepted shapes ts) is rest.0, rest.1))
      | inr isnt ↦ absurd (let e = rw isnt at h in cc)
    ]

-- what is opened is a frame with a number of fields that may be
pub record IsOpened (head counts bytes fields : List ℕ) : Type 0 where
  pub framed : framed head bytes ≡ Ok fields
  pub count : is_among counts (length (texts fields)) ≡ true

open_ok : (head counts bytes fields : List ℕ) (r : Result (List ℕ) SentenceRefusal)
    → (r >>= (λ (all : List ℕ). if is_among counts (length (texts all)) then Ok all else Err (FieldCount (length (texts all))))) ≡ Ok fields
    → (r ≡ Ok fields) × (is_among counts (length (texts fields)) ≡ true)
open_ok head counts bytes fields r h = grind arith

-- a sentence that is opened has its head, its checksum and so many fields
pub opened_sound : (head counts bytes fields : List ℕ) → opened head counts bytes ≡ Ok fields → IsOpened head counts bytes fields
unfolding opened
opened_sound head counts bytes fields h =
    let k = open_ok head counts bytes fields (framed head bytes) h in
    record { framed = k.0; count = k.1 }

-- fields in a frame are their texts after commas
pub record AreCut (head bytes fields : List ℕ) : Type 0 where
  pub whole : bytes ≡ sentence head (texts fields)
  pub cut : fields ≡ behind_commas (texts fields)
  pub free : list_all has_no_comma (texts fields) ≡ true

-- a sentence's frame is cut at its commas
pub framed_cut : (head bytes fields : List ℕ) → is_head head ≡ true → framed head bytes ≡ Ok fields → AreCut head bytes fields
unfolding sentence
framed_cut head bytes fields h e =
    let f = framed_sound head bytes fields h e in
    let cut : fields ≡ behind_commas (texts fields) = f.comma ∙ sym (cut_behind (drop 1 fields)) in
    record {
      whole = f.whole ∙ ap (λ (l : List ℕ). closed (head ++ l)) cut;
      cut = cut;
      free = cut_free (drop 1 fields);
    }

-- what is read of bytes are texts of a sentence that these bytes are
texts_step : (form : Form) (bytes : List ℕ) (ts : List (List ℕ)) (r : Result (List ℕ) SentenceRefusal) → opened form.head form.counts bytes ≡ r
    → (r >>= (λ (fields : List ℕ). judged 1 (form.shapes (texts fields)) (texts fields) (texts fields))) ≡ Ok ts
    → (fields : List ℕ) × (opened form.head form.counts bytes ≡ Ok fields) × (texts fields ≡ ts)
texts_step form bytes ts (Err e) o h = absurd (cc)
texts_step form bytes ts (Ok fields) o h =
    let k = judged_all 1 (form.shapes (texts fields)) (texts fields) (texts fields) ts h in
    (fields, o, sym k.1)

-- what is read as texts is their sentence
pub texts_sound : (form : Form) (bytes : List ℕ) (ts : List (List ℕ)) → is_head form.head ≡ true → texts_of form bytes ≡ Ok ts → bytes ≡ sentence form.head ts
unfolding texts_of
texts_sound form bytes ts h e =
    let k = texts_step form bytes ts (opened form.head form.counts bytes) refl e in
    let c = framed_cut form.head bytes k.0 h (opened_sound form.head form.counts bytes k.0 k.1).framed in
    c.whole ∙ ap (λ (l : List (List ℕ)). sentence form.head l) k.2

-- a sentence is opened
pub opened_back : (head counts : List ℕ) (ts : List (List ℕ)) → is_head head ≡ true → ts ≢ [] → is_among counts (length ts) ≡ true → list_all are_plain ts ≡ true → length (sentence head ts) ≤ 82 → opened head counts (sentence head ts) ≡ Ok (behind_commas ts)
unfolding sentence opened
opened_back head counts [] h some count plain short = absurd (some refl)
opened_back head counts (t ∷ ts) h some count plain short =
    let frame : framed head (closed (head ++ behind_commas (t ∷ ts))) ≡ Ok (behind_commas (t ∷ ts)) =
    framed_back head (t ++ behind_commas ts) h (all_clean (t ∷ ts) plain) short in
    let cut : texts (behind_commas (t ∷ ts)) ≡ t ∷ ts = texts_behind t ts (all_free (t ∷ ts) plain) in
    let number : is_among counts (length (texts (behind_commas (t ∷ ts)))) ≡ true = ap (λ (l : List (List ℕ)). is_among counts (length l)) cut ∙ count in
    rw (frame, number) refl

pub texts_cut : (ts : List (List ℕ)) → ts ≢ [] → list_all are_plain ts ≡ true → texts (behind_commas ts) ≡ ts
texts_cut [] some plain = absurd (some refl)
texts_cut (t ∷ ts) some plain = texts_behind t ts (all_free (t ∷ ts) plain)

-- a sentence's texts are read back
pub texts_back : (form : Form) (ts : List (List ℕ)) → AreTexts form ts → texts_of form (sentence form.head ts) ≡ Ok ts
unfolding texts_of
texts_back form ts a =
    let o : opened form.head form.counts (sentence form.head ts) ≡ Ok (behind_commas ts) = opened_back form.head form.counts ts a.head a.some a.count a.plain a.short in
    let cut : texts (behind_commas ts) ≡ ts = texts_cut ts a.some a.plain in
    rw o (ap (λ (l : List (List ℕ)). judged 1 (form.shapes l) l l) cut ∙ a.accepted)

-- a sentence of more than 82 bytes is too long
pub texts_too_long : (form : Form) (bytes : List ℕ) → 82 < length bytes → texts_of form bytes ≡ Err (TooLong (length bytes))
unfolding texts_of opened
texts_too_long form bytes h =
    let long : framed form.head bytes ≡ Err (TooLong (length bytes)) = too_long form.head bytes h in
    rw long refl
