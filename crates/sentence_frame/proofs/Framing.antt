-- frames: what is read in one, and what is written in one
use Rattle.std.proofs.Common.{Err, ◌≡◌, ℕ, ◌+◌, ◌-◌, ◌<◌, ◌≤◌, true, false, nat_eq, nat_lt, List, ◌∷◌, ◌++◌, length, get_or, take, drop, refl, sym, ◌∙◌, ap, arith, inl, inr, Ok, append_assoc, length-append, length-take, get_or-drop, get_or-take}
use Rattle.std.specs.List.{list_all, starts_with}
use Rattle.sentence_frame.specs.declared.refusals.SentenceRefusal.TheVariants.{TooLong}
use Rattle.std.proofs.lemmas.Bool.{lt-ltb, and_parts, and_from, cases_Bool, ltb-false, eqb-true, le-ltb, eq-eqb}
use Rattle.std.proofs.lemmas.List.{take-append-drop, take-take}
use Rattle.std.proofs.lemmas.List.Folds.{list_all-append}
use Rattle.std.proofs.lemmas.Slice.Eq.{starts_is}
use Rattle.std.proofs.lemmas.Bool.Decides.{Decides-eqb}
use Rattle.std.proofs.Math.Seq.{take-append_seam, drop-append_seam, get_or-append_seam}
use Rattle.sentence_frame.specs.Frames.{checksum, ending, closed}
use Rattle.sentence_frame.specs.Refusals.{framed, begins, is_ended, body, last_five, inner, written, is_ending, is_clean, is_head}
use Rattle.sentence_frame.proofs.Heads.{head_facts, begins_facts, ending_facts, head_fits}
use Rattle.sentence_frame.proofs.Endings.{ending_text, written_ending, ending_is, checksum_small}

record Passes (head bytes fields : List ℕ) : Type 0 where
  short : nat_lt 82 (length bytes) ≡ false
  start : begins head bytes ≡ true
  end : is_ended bytes ≡ true
  sum : nat_eq (checksum (inner bytes)) (written (last_five bytes)) ≡ true
  value : drop (length head) (body bytes) ≡ fields

passes : (head bytes fields : List ℕ) → framed head bytes ≡ Ok fields → Passes head bytes fields
unfolding framed
passes head bytes fields h =
    elim (cases_Bool (nat_lt 82 (length bytes))) [
      | inl long ↦ absurd (let k = rw long at h in cc)
      | inr short ↦
          (let h1 = rw short at h in
          elim (cases_Bool (begins head bytes)) [
            | inr other ↦ absurd (let k = rw other at h1 in cc)
            | inl start ↦
                (let h2 = rw start at h1 in
                elim (cases_Bool (is_ended bytes)) [
                  | inr loose ↦ absurd (let k = rw loose at h2 in cc)
                  | inl end ↦
                      (let h3 = rw end at h2 in
                      elim (cases_Bool (nat_eq (checksum (inner bytes)) (written (last_five bytes)))) [
                        | inr wrong ↦ absurd (let k = rw wrong at h3 in cc)
                        | inl sum ↦ record { short = short; start = start; end = end; sum = sum; value = (let k = rw sum at h3 in cc) }
                      ])
                ])
          ])
    ]

pub record IsFramed (head bytes fields : List ℕ) : Type 0 where
  pub whole : bytes ≡ closed (head ++ fields)
  pub comma : fields ≡ 44 ∷ drop 1 fields
  pub clean : list_all is_clean fields ≡ true
  pub short : length bytes ≤ 82

-- a list with this first element
first_is : (l : List ℕ) (b : ℕ) → 0 < length l → get_or l 0 0 ≡ b → l ≡ b ∷ drop 1 l
first_is l b h e = grind arith

drop_behind : (xs ys : List ℕ) → 0 < length xs → drop 1 (xs ++ ys) ≡ drop 1 xs ++ ys
drop_behind xs ys h = grind arith

pub framed_sound : (head bytes fields : List ℕ) → is_head head ≡ true → framed head bytes ≡ Ok fields → IsFramed head bytes fields
framed_sound head bytes fields h e =
    let p = passes head bytes fields e in
    let hd = head_facts head h in
    let b = begins_facts head bytes p.start in
    let two = and_parts (is_ending (last_five bytes)) (list_all is_clean (inner bytes)) p.end in
    let ef = ending_facts (last_five bytes) two.0 in
    let n = length bytes - 5 in
    let room : length head < n = head_fits head bytes hd b ef in
    let front : head ≡ take (length head) (body bytes) = b.front ∙ sym (take-take (length head) n bytes (omega arith)) in
    let value : drop (length head) (body bytes) ≡ fields = p.value in
    let parts = take-append-drop (length head) (body bytes) in
    let split : body bytes ≡ head ++ fields =
    sym parts ∙ ap (λ (l : List ℕ). l ++ drop (length head) (body bytes)) (sym front) ∙ ap (λ (l : List ℕ). head ++ l) value in
    let sum : checksum (inner bytes) ≡ written (last_five bytes) = eqb-true (checksum (inner bytes)) (written (last_five bytes)) p.sum in
    let last : ending (checksum (inner bytes)) ≡ last_five bytes = ap ending sum ∙ ending_text (last_five bytes) ef in
    let behind : inner bytes ≡ drop 1 head ++ fields = ap (λ (l : List ℕ). drop 1 l) split ∙ drop_behind head fields (omega (arith, hd.long)) in
    let clean = and_parts (list_all is_clean (drop 1 head)) (list_all is_clean fields)
    (sym (list_all-append is_clean (drop 1 head) fields) ∙ ap (λ (l : List ℕ). list_all is_clean l) (sym behind) ∙ two.1) in
    let size : length (head ++ fields) ≡ length (body bytes) = ap length (sym split) in
    let some : 0 < length fields = omega (arith, length-append head fields, size, length-take n bytes, room) in
    let at : get_or (drop (length head) (body bytes)) 0 0 ≡ 44 =
    get_or-drop (length head) (body bytes) 0 0 ∙ get_or-take n bytes (length head + 0) 0 (omega (arith, room))
    ∙ ap (λ (k : ℕ). get_or bytes k 0) (omega arith) ∙ b.comma in
    let first : get_or fields 0 0 ≡ 44 = ap (λ (l : List ℕ). get_or l 0 0) (sym value) ∙ at in
    record {
      whole =
          sym (take-append-drop n bytes) ∙ ap (λ (l : List ℕ). body bytes ++ l) (sym last)
          ∙ ap closed split;
      comma = first_is fields 44 some first;
      clean = clean.1;
      short = ltb-false 82 (length bytes) p.short;
    }

framed_is : (head bytes fields : List ℕ) → Passes head bytes fields → framed head bytes ≡ Ok fields
unfolding framed
framed_is head bytes fields p =
    let short : nat_lt 82 (length bytes) ≡ false = p.short in
    let start : begins head bytes ≡ true = p.start in
    let end : is_ended bytes ≡ true = p.end in
    let sum : nat_eq (checksum (inner bytes)) (written (last_five bytes)) ≡ true = p.sum in
    let value : drop (length head) (body bytes) ≡ fields = p.value in
    rw (short, start, end, sum, value) refl

pub framed_back : (head rest : List ℕ) → is_head head ≡ true → list_all is_clean (44 ∷ rest) ≡ true → length (closed (head ++ (44 ∷ rest))) ≤ 82 → framed head (closed (head ++ (44 ∷ rest))) ≡ Ok (44 ∷ rest)
framed_back head rest h clean short =
    let hd = head_facts head h in
    let fields = 44 ∷ rest in
    let whole = head ++ fields in
    let sum = checksum (drop 1 whole) in
    let bytes = closed whole in
    let behind : drop 1 whole ≡ drop 1 head ++ fields = drop_behind head fields (omega (arith, hd.long)) in
    let all : list_all is_clean (drop 1 whole) ≡ true =
    ap (λ (l : List ℕ). list_all is_clean l) behind ∙ list_all-append is_clean (drop 1 head) fields
    ∙ and_from (list_all is_clean (drop 1 head)) (list_all is_clean fields) hd.clean clean in
    let small : sum < 256 = checksum_small (drop 1 whole) all in
    let size : length bytes - 5 ≡ length whole = omega (arith, length-append whole (ending sum)) in
    let front : body bytes ≡ whole = ap (λ (k : ℕ). take k bytes) size ∙ take-append_seam whole (ending sum) in
    let last : last_five bytes ≡ ending sum = ap (λ (k : ℕ). drop k bytes) size ∙ drop-append_seam whole (ending sum) in
    let between : inner bytes ≡ drop 1 whole = ap (λ (l : List ℕ). drop 1 l) front in
    let chain : bytes ≡ head ++ (fields ++ ending sum) = append_assoc head fields (ending sum) in
    let starts : starts_with nat_eq bytes head ≡ true =
    (starts_is Decides-eqb bytes head (starts_with nat_eq bytes head) refl).1 (fields ++ ending sum) chain in
    let comma : get_or bytes (length head) 0 ≡ 44 = ap (λ (l : List ℕ). get_or l (length head) 0) chain ∙ get_or-append_seam head 44 (rest ++ ending sum) 0 in
    let test : is_ended bytes ≡ true =
    and_from (is_ending (last_five bytes)) (list_all is_clean (inner bytes))
    (ap is_ending last ∙ ending_is sum small) (ap (λ (l : List ℕ). list_all is_clean l) between ∙ all) in
    let same : checksum (inner bytes) ≡ written (last_five bytes) = ap checksum between ∙ sym (ap written last ∙ written_ending sum small) in
    framed_is head bytes fields (record {
      short = le-ltb 82 (length bytes) short;
      start = and_from (starts_with nat_eq bytes head) (nat_eq (get_or bytes (length head) 0) 44) starts (eq-eqb (get_or bytes (length head) 0) 44 comma);
      end = test;
      sum = eq-eqb (checksum (inner bytes)) (written (last_five bytes)) same;
      value = ap (λ (l : List ℕ). drop (length head) l) front ∙ drop-append_seam head fields;
    })

-- too many bytes are refused first
pub too_long : (head bytes : List ℕ) → 82 < length bytes → framed head bytes ≡ Err (TooLong (length bytes))
unfolding framed
too_long head bytes h =
    let long : nat_lt 82 (length bytes) ≡ true = lt-ltb 82 (length bytes) h in
    rw long refl
