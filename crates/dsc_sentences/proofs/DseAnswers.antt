-- what is read of the bytes of a DSE sentence
use Rattle.std.proofs.Common.{◌≡◌, ◌≢◌, ℕ, ◌+◌, ◌-◌, ◌<◌, true, false, ◌&&◌, ◌||◌, nat_eq, nat_lt, cond, List, [], ◌∷◌, ◌++◌, length, inl, inr, refl, sym, ◌∙◌, ap, subst, arith, codes, Result, Ok, Err}
use Rattle.std.specs.List.{list_all}
use Rattle.std.proofs.lemmas.Bool.{and_parts, and_right, or_cases, eqb-true, le-ltb, false≢true}
use Rattle.std.proofs.lemmas.List.{append-nil}
use Rattle.sentence_frame.specs.declared.refusals.SentenceRefusal.{SentenceRefusal}
use Rattle.sentence_frame.specs.declared.refusals.SentenceRefusal.TheVariants.{Field}
use Rattle.sentence_frame.specs.Shapes as shape
use Rattle.sentence_frame.specs.Shapes.{Shape, accepts, are_digits, is_among, is_nothing, number_of, digits_of}
use Rattle.sentence_frame.specs.Frames.{behind_commas}
use Rattle.sentence_frame.specs.inside.Fields.{first_of, rest_of, and_then}
use Rattle.sentence_frame.specs.Refusals.{is_head, opened, judged, texts_of}
use Rattle.sentence_frame.specs.Refusals as refusal
use Rattle.sentence_frame.proofs.Cuts.{has_no_comma}
use Rattle.sentence_frame.proofs.FieldLaws.{digits_kind}
use Rattle.sentence_frame.proofs.Reading.{Agrees, agree_step, first_behind, rest_behind}
use Rattle.sentence_frame.proofs.Sentences.{opened_sound, framed_cut}
use Rattle.expansion.specs.declared.parts.PartKind.{PartKind}
use Rattle.expansion.specs.Parts.{IsUpTo}
use Rattle.dsc_sentences.specs.declared.dse.Flag.{Flag}
use Rattle.dsc_sentences.specs.declared.dse_reading.DseParts.{DseParts}
use Rattle.dsc_sentences.specs.Dse.{texts, shapes, pair_shapes, set_texts, dse, IsDse}
use Rattle.dsc_sentences.specs.inside.DseReading.{read_set, read_fields, flag_in, first_byte, fields_of, PartsAnswer}
use Rattle.dsc_sentences.proofs.DseSets.{Rises, ArePairs, set_step}
use Rattle.dsc_sentences.proofs.DseLaws.{flag_kind, one_again, some_there}

nothing_eight : accepts (shape.number 8 99999999) [] ≡ false
unfolding accepts
nothing_eight = refl

nothing_four : (most : ℕ) → accepts (shape.number 4 most) [] ≡ false
unfolding accepts
nothing_four most = refl

above_none : (n m : ℕ) → is_among [] m ≡ true → nat_lt m n ≡ false
above_none n m h = absurd (false≢true h)

pub rises_0 : Rises 0 8 99999999 (2 ∷ 3 ∷ [])
rises_0 = record {
  small = omega arith;
  room = omega arith;
  none = nothing_eight;
  shape = refl;
  others = refl;
  above = λ m h. le-ltb m 0 (omega arith);
}

above_2 : (m : ℕ) → is_among (3 ∷ []) m ≡ true → nat_lt m 2 ≡ false
above_2 m h = grind arith

pub rises_2 : Rises 2 4 9999 (3 ∷ [])
rises_2 = record { small = omega arith; room = omega arith; none = nothing_four 9999; shape = refl; others = refl; above = above_2 }

pub rises_3 : Rises 3 4 3599 []
rises_3 = record { small = omega arith; room = omega arith; none = nothing_four 3599; shape = refl; others = refl; above = above_none 3 }

-- what is left after the last set is no field, or a code that isn't accepted
last_step : (k : ℕ) (parts : DseParts) (ts all : List (List ℕ)) (P : DseParts → Type 0) → ArePairs ts → (ts ≡ [] → P parts)
    → Agrees (cond (is_nothing (behind_commas ts)) (Ok parts) (Err (Field k))) (judged k (pair_shapes [] ts) ts all) all P
unfolding judged pair_shapes accepts
last_step k parts [] all P pairs h = (refl, h refl)
last_step k parts (c ∷ []) all P pairs h = absurd pairs
last_step k parts (c ∷ d ∷ ts) all P pairs h =
    let no : (are_digits 2 c && false) ≡ false = and_right (are_digits 2 c) false refl in
    rw no refl

abbrev Has : List (List ℕ) → DseParts → Type 0
Has all x = (texts (fields_of x) ≡ all) × IsDse (fields_of x)

abbrev parts_of : Flag → List ℕ → PartKind → PartKind → PartKind → DseParts
parts_of flag address e s c = record { flag = flag; address = address; sets = record { enhanced = e; speed = s; course = c } }

-- reading the sets
abbrev sets_chain : Flag → List ℕ → List ℕ → Result DseParts SentenceRefusal
sets_chain flag address b =
    and_then (read_set 5 0 8 99999999 b) (λ enhanced.
    and_then (read_set enhanced.next 2 4 9999 enhanced.rest) (λ speed.
    and_then (read_set speed.next 3 4 3599 speed.rest) (λ course.
    cond (is_nothing course.rest)
    (Ok (parts_of flag address enhanced.part speed.part course.part))
    (Err (Field course.next)))))

sets_agree : (flag : Flag) (address : List ℕ) (ts all : List (List ℕ)) (P : DseParts → Type 0) → ArePairs ts → list_all has_no_comma ts ≡ true
    → ((e s c : PartKind) → ts ≡ set_texts 0 8 e ++ (set_texts 2 4 s ++ set_texts 3 4 c) → IsUpTo 99999999 e → IsUpTo 9999 s → IsUpTo 3599 c → P (parts_of flag address e s c))
    → Agrees (sets_chain flag address (behind_commas ts)) (judged 5 (pair_shapes (0 ∷ 2 ∷ 3 ∷ []) ts) ts all) all P
sets_agree flag address ts all P pairs free h =
    set_step 5 0 8 99999999 (2 ∷ 3 ∷ []) ts all _ P rises_0 pairs free (λ e k1 ts1 eq1 r1 p1 f1.
    set_step k1 2 4 9999 (3 ∷ []) ts1 all _ P rises_2 p1 f1 (λ s k2 ts2 eq2 r2 p2 f2.
    set_step k2 3 4 3599 [] ts2 all _ P rises_3 p2 f2 (λ c k3 ts3 eq3 r3 p3 f3.
    last_step k3 (parts_of flag address e s c) ts3 all P p3 (λ none.
    let three : ts2 ≡ set_texts 3 4 c = eq3 ∙ ap (λ (l : List (List ℕ)). set_texts 3 4 c ++ l) none ∙ append-nil (set_texts 3 4 c) in
    let two : ts1 ≡ set_texts 2 4 s ++ set_texts 3 4 c = eq2 ∙ ap (λ (l : List (List ℕ)). set_texts 2 4 s ++ l) three in
    h e s c (eq1 ∙ ap (λ (l : List (List ℕ)). set_texts 0 8 e ++ l) two) r1 r2 r3))))

-- reading the fields one after another agrees with judging their texts
pub agrees : (b : List ℕ) (ts : List (List ℕ)) → rest_of (rest_of (rest_of (rest_of b))) ≡ behind_commas ts → ts ≢ [] → ArePairs ts → list_all has_no_comma ts ≡ true
    → let all = first_of b ∷ first_of (rest_of b) ∷ first_of (rest_of (rest_of b)) ∷ first_of (rest_of (rest_of (rest_of b))) ∷ ts in
    Agrees (read_fields b) (judged 1 (shapes all) all all) all (Has all)
unfolding read_fields judged texts
agrees b ts e4 some pairs free =
    let b1 = rest_of b in
    let b2 = rest_of b1 in
    let b3 = rest_of b2 in
    let all = first_of b ∷ first_of b1 ∷ first_of b2 ∷ first_of b3 ∷ ts in
    let sets = pair_shapes (0 ∷ 2 ∷ 3 ∷ []) ts in
    agree_step 1 (shape.letter (codes "1")) first_byte (first_of b) _ (judged 2 (shape.letter (codes "1") ∷ shape.letter (codes "AQR") ∷ shape.digits 10 ∷ sets) (first_of b1 ∷ first_of b2 ∷ first_of b3 ∷ ts) all) all (Has all) (λ y1.
    agree_step 2 (shape.letter (codes "1")) first_byte (first_of b1) _ (judged 3 (shape.letter (codes "AQR") ∷ shape.digits 10 ∷ sets) (first_of b2 ∷ first_of b3 ∷ ts) all) all (Has all) (λ y2.
    agree_step 3 (shape.letter (codes "AQR")) flag_in (first_of b2) _ (judged 4 (shape.digits 10 ∷ sets) (first_of b3 ∷ ts) all) all (Has all) (λ y3.
    agree_step 4 (shape.digits 10) digits_of (first_of b3) _ (judged 5 sets ts all) all (Has all) (λ y4.
    let a1 = one_again (first_of b) y1 in
    let a2 = one_again (first_of b1) y2 in
    let a3 = flag_kind.again (first_of b2) y3 in
    let a4 = (digits_kind 10).again (first_of b3) y4 in
    let flag = flag_in (first_of b2) in
    let address = digits_of (first_of b3) in
    subst (λ (l : List ℕ). Agrees (sets_chain flag address l) (judged 5 sets ts all) all (Has all)) (sym e4)
    (sets_agree flag address ts all (Has all) pairs free (λ e s c eq r1 r2 r3. (
      let back = sym eq in cc,
      record {
        address = (digits_kind 10).fits (first_of b3) y4;
        expansion = record {
          some = some_there e s c (λ none. some (eq ∙ none));
          enhanced = r1;
          speed = r2;
          course = r3;
        };
      },
    )))))))

-- texts as four and pairs after them
record Four (ts : List (List ℕ)) : Type 0 where
  total : List ℕ
  number : List ℕ
  flag : List ℕ
  address : List ℕ
  sets : List (List ℕ)
  is : ts ≡ total ∷ number ∷ flag ∷ address ∷ sets
  some : sets ≢ []
  pairs : ArePairs sets

even_pairs : (k : ℕ) (ts : List (List ℕ)) → length ts ≡ k + k → ArePairs ts
even_pairs k [] h = tt
even_pairs k (c ∷ []) h = absurd (omega (arith, h))
even_pairs k (c ∷ d ∷ ts) h = even_pairs (k - 1) ts (omega (arith, h))

four : (k : ℕ) (ts : List (List ℕ)) → length ts ≡ k + k → 2 < k → Four ts
four k [] h low = absurd (omega (arith, h, low))
four k (a ∷ []) h low = absurd (omega (arith, h, low))
four k (a ∷ b ∷ []) h low = absurd (omega (arith, h, low))
four k (a ∷ b ∷ c ∷ []) h low = absurd (omega (arith, h, low))
four k (a ∷ b ∷ c ∷ d ∷ []) h low = absurd (omega (arith, h, low))
four k (a ∷ b ∷ c ∷ d ∷ t ∷ ts) h low = record {
  total = a;
  number = b;
  flag = c;
  address = d;
  sets = t ∷ ts;
  is = refl;
  some = λ e. cc;
  pairs = even_pairs (k - 2) (t ∷ ts) (omega (arith, h, low));
}

four_of : (ts : List (List ℕ)) → is_among (6 ∷ 8 ∷ 10 ∷ []) (length ts) ≡ true → Four ts
four_of ts h =
    elim (or_cases (nat_eq 6 (length ts)) (nat_eq 8 (length ts) || (nat_eq 10 (length ts) || false)) h) [
      | inl six ↦ (let e = eqb-true 6 (length ts) six in four 3 ts (omega (arith, e)) (omega arith))
      | inr more ↦
          elim (or_cases (nat_eq 8 (length ts)) (nat_eq 10 (length ts) || false) more) [
            | inl eight ↦ (let e = eqb-true 8 (length ts) eight in four 4 ts (omega (arith, e)) (omega arith))
            | inr last ↦
                elim (or_cases (nat_eq 10 (length ts)) false last) [
                  | inl ten ↦ (let e = eqb-true 10 (length ts) ten in four 5 ts (omega (arith, e)) (omega arith))
                  | inr none ↦ absurd (false≢true none)
                ]
          ]
    ]

-- reading texts after commas agrees with judging them
agrees_all : (a b c d : List ℕ) (ts : List (List ℕ)) → ts ≢ [] → ArePairs ts → list_all has_no_comma (a ∷ b ∷ c ∷ d ∷ ts) ≡ true
    → let all = a ∷ b ∷ c ∷ d ∷ ts in Agrees (read_fields (behind_commas all)) (judged 1 (shapes all) all all) all (Has all)
agrees_all a b c d ts some pairs free =
    let p1 = and_parts (has_no_comma a) (list_all has_no_comma (b ∷ c ∷ d ∷ ts)) free in
    let p2 = and_parts (has_no_comma b) (list_all has_no_comma (c ∷ d ∷ ts)) p1.1 in
    let p3 = and_parts (has_no_comma c) (list_all has_no_comma (d ∷ ts)) p2.1 in
    let p4 = and_parts (has_no_comma d) (list_all has_no_comma ts) p3.1 in
    let x0 = behind_commas (a ∷ b ∷ c ∷ d ∷ ts) in
    let r1 : rest_of x0 ≡ behind_commas (b ∷ c ∷ d ∷ ts) = rest_behind a (b ∷ c ∷ d ∷ ts) p1.0 in
    let r2 : rest_of (rest_of x0) ≡ behind_commas (c ∷ d ∷ ts) = ap rest_of r1 ∙ rest_behind b (c ∷ d ∷ ts) p2.0 in
    let r3 : rest_of (rest_of (rest_of x0)) ≡ behind_commas (d ∷ ts) = ap rest_of r2 ∙ rest_behind c (d ∷ ts) p3.0 in
    let r4 : rest_of (rest_of (rest_of (rest_of x0))) ≡ behind_commas ts = ap rest_of r3 ∙ rest_behind d ts p4.0 in
    let f1 : first_of x0 ≡ a = first_behind a (b ∷ c ∷ d ∷ ts) p1.0 in
    let f2 : first_of (rest_of x0) ≡ b = ap first_of r1 ∙ first_behind b (c ∷ d ∷ ts) p2.0 in
    let f3 : first_of (rest_of (rest_of x0)) ≡ c = ap first_of r2 ∙ first_behind c (d ∷ ts) p3.0 in
    let f4 : first_of (rest_of (rest_of (rest_of x0))) ≡ d = ap first_of r3 ∙ first_behind d ts p4.0 in
    let same : first_of x0 ∷ first_of (rest_of x0) ∷ first_of (rest_of (rest_of x0)) ∷ first_of (rest_of (rest_of (rest_of x0))) ∷ ts ≡ a ∷ b ∷ c ∷ d ∷ ts = cc in
    subst (λ (l : List (List ℕ)). Agrees (read_fields x0) (judged 1 (shapes l) l l) l (Has l)) same (agrees x0 ts r4 some pairs p4.1)

pub head_is : is_head (codes "$CDDSE") ≡ true
unfolding is_head
head_is = refl

pub refused_first : (bytes : List ℕ) (e : SentenceRefusal) → opened (codes "$CDDSE") (6 ∷ 8 ∷ 10 ∷ []) bytes ≡ Err e → texts_of dse bytes ≡ Err e
unfolding texts_of
refused_first bytes e h = rw h refl

judged_then : (bytes fields : List ℕ) → opened (codes "$CDDSE") (6 ∷ 8 ∷ 10 ∷ []) bytes ≡ Ok fields → texts_of dse bytes ≡ judged 1 (shapes (refusal.texts fields)) (refusal.texts fields) (refusal.texts fields)
unfolding texts_of
judged_then bytes fields h = rw h refl

answered : (bytes : List ℕ) (ts : List (List ℕ)) (r : Result DseParts SentenceRefusal) → texts_of dse bytes ≡ judged 1 (shapes ts) ts ts → Agrees r (judged 1 (shapes ts) ts ts) ts (Has ts) → PartsAnswer r bytes
answered bytes ts r j h = grind arith

pub read_opened : (bytes fields : List ℕ) (answer : Result DseParts SentenceRefusal) → opened (codes "$CDDSE") (6 ∷ 8 ∷ 10 ∷ []) bytes ≡ Ok fields → answer ≡ read_fields fields → PartsAnswer answer bytes
read_opened bytes fields answer h e =
    let o = opened_sound (codes "$CDDSE") (6 ∷ 8 ∷ 10 ∷ []) bytes fields h in
    let cut = framed_cut (codes "$CDDSE") bytes fields head_is o.framed in
    let ts = refusal.texts fields in
    let f = four_of ts o.count in
    let all = f.total ∷ f.number ∷ f.flag ∷ f.address ∷ f.sets in
    let is : ts ≡ all = f.is in
    let free : list_all has_no_comma all ≡ true = ap (λ (l : List (List ℕ)). list_all has_no_comma l) (sym is) ∙ cut.free in
    let whole : behind_commas all ≡ fields = ap behind_commas (sym is) ∙ sym cut.cut in
    let agree = agrees_all f.total f.number f.flag f.address f.sets f.some f.pairs free in
    let there : Agrees (read_fields fields) (judged 1 (shapes ts) ts ts) ts (Has ts) =
    subst (λ (l : List (List ℕ)). Agrees (read_fields fields) (judged 1 (shapes l) l l) l (Has l)) (sym is)
    (subst (λ (l : List ℕ). Agrees (read_fields l) (judged 1 (shapes all) all all) all (Has all)) whole agree) in
    rw e (answered bytes ts (read_fields fields) (judged_then bytes fields h) there)
