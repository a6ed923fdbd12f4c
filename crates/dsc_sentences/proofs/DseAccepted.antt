-- the texts of a lawful DSE sentence are accepted
use Rattle.std.proofs.Common.{◌≡◌, ℕ, ◌+◌, ◌*◌, ◌≤◌, true, false, ◌&&◌, nat_eq, nat_lt, List, [], ◌∷◌, ◌++◌, length, filter, Option, Some, None, IfSome, ◌⊎◌, inl, inr, refl, sym, ◌∙◌, ap, subst, arith, codes, Result, Ok, Err}
use Rattle.std.specs.List.{list_all}
use Rattle.std.proofs.lemmas.Bool.{and_parts, and_from, cases_Bool, lt-ltb, or_left, eq-eqb}
use Rattle.std.proofs.lemmas.List.{append-nil}
use Rattle.line_grammar.proofs.Digits.{value_of_digits}
use Rattle.sentence_frame.specs.declared.refusals.SentenceRefusal.{SentenceRefusal}
use Rattle.sentence_frame.specs.Shapes as shape
use Rattle.sentence_frame.specs.Shapes.{Shape, accepts, is_among, number_of}
use Rattle.sentence_frame.specs.Texts.{digits, perhaps_text}
use Rattle.sentence_frame.specs.Frames.{sentence}
use Rattle.sentence_frame.specs.Laws.{AreTexts}
use Rattle.sentence_frame.specs.Refusals.{texts_of}
use Rattle.sentence_frame.proofs.FieldLaws.{code_kind, digits_kind}
use Rattle.sentence_frame.proofs.Plain.{has_plain_letters}
use Rattle.sentence_frame.proofs.Rooms.{are_texts, total, longest}
use Rattle.sentence_frame.proofs.Sentences.{accepted, texts_sound, texts_back}
use Rattle.expansion.specs.declared.parts.PartKind.{PartKind}
use Rattle.expansion.specs.declared.parts.PartKind.TheVariants.{LeftOut, NoInformation, Digits}
use Rattle.expansion.specs.declared.values.Sets.{Sets}
use Rattle.expansion.specs.Expansions.{IsExpansion}
use Rattle.expansion.specs.Parts.{IsUpTo}
use Rattle.dsc_sentences.specs.declared.dse.DseFields.{DseFields}
use Rattle.dsc_sentences.specs.Dse.{texts, pair_shapes, data_shape, set_texts, expansion_texts, dse, IsDse, IsReading}
use Rattle.dsc_sentences.specs.inside.DseReading.{FieldsAnswer}
use Rattle.dsc_sentences.proofs.DseSets.{Rises, ArePairs, data_kind, code_one, code_more, code_other, code_among}
use Rattle.dsc_sentences.proofs.DseLaws.{flag_kind, one_shown, one_record, BeginsOther, behind_code}
use Rattle.dsc_sentences.proofs.DseAnswers.{rises_0, rises_2, rises_3, head_is}

-- pairs before which a code may come, that isn't theirs
skip_accepted : (n width most : ℕ) (ns : List ℕ) (ts : List (List ℕ)) → Rises n width most ns → ArePairs ts → BeginsOther n ts → accepted (pair_shapes ns ts) ts ≡ true → accepted (pair_shapes (n ∷ ns) ts) ts ≡ true
unfolding pair_shapes
skip_accepted n width most ns [] r pairs other h = refl
skip_accepted n width most ns (c ∷ []) r pairs other h = absurd pairs
skip_accepted n width most ns (c ∷ d ∷ ts) r pairs other h =
    let v = number_of c in
    let behind = λ (codes : List ℕ). accepts (data_shape v) d && accepted (pair_shapes (filter (λ each. nat_lt v each) codes) ts) ts in
    let both = and_parts (accepts (shape.code ns) c) (behind ns) h in
    let below : nat_lt v n ≡ false = r.above v (code_among ns c both.0) in
    elim (cases_Bool (accepts (shape.code (n ∷ [])) c)) [
      | inl is ↦ absurd (other (sym (code_one n c r.small is).0))
      | inr isnt ↦
          (let more : accepts (shape.code (n ∷ ns)) c ≡ true = code_other n ns c isnt ∙ both.0 in
          and_from (accepts (shape.code (n ∷ ns)) c) (behind (n ∷ ns)) more (rw below both.1))
    ]

eq_first : (n : ℕ) → is_among (n ∷ []) n ≡ true
eq_first n = or_left (nat_eq n n) false (eq-eqb n n refl)

-- a set that is there
take_accepted : (n width most : ℕ) (ns : List ℕ) (o : Option ℕ) (ts : List (List ℕ)) → Rises n width most ns → IfSome o (λ m. m ≤ most) → accepted (pair_shapes ns ts) ts ≡ true
    → accepted (pair_shapes (n ∷ ns) (digits 2 n ∷ perhaps_text (digits width) o ∷ ts)) (digits 2 n ∷ perhaps_text (digits width) o ∷ ts) ≡ true
unfolding pair_shapes
take_accepted n width most ns o ts r h all =
    let c = digits 2 n in
    let d = perhaps_text (digits width) o in
    let value : number_of c ≡ n = value_of_digits 2 n r.small in
    let one : accepts (shape.code (n ∷ [])) c ≡ true = (code_kind (n ∷ []) (and_from (nat_lt n 100) true (lt-ltb n 100 r.small) refl)).shown n (eq_first n) in
    let here : accepts (shape.code (n ∷ ns)) c ≡ true = code_more n ns c one in
    let shown : accepts (shape.maybe (shape.number width most)) d ≡ true = (data_kind width most r.room r.none).shown o h in
    let data_here : accepts (data_shape (number_of c)) d ≡ true = ap (λ (m : ℕ). accepts (data_shape m) d) value ∙ ap (λ (s : Shape). accepts s d) r.shape ∙ shown in
    let others : filter (λ each. nat_lt (number_of c) each) (n ∷ ns) ≡ ns = ap (λ (m : ℕ). filter (λ each. nat_lt m each) (n ∷ ns)) value ∙ r.others in
    let rest : accepted (pair_shapes (filter (λ each. nat_lt (number_of c) each) (n ∷ ns)) ts) ts ≡ true =
    ap (λ (l : List ℕ). accepted (pair_shapes l ts) ts) others ∙ all in
    and_from (accepts (shape.code (n ∷ ns)) c) (accepts (data_shape (number_of c)) d && accepted (pair_shapes (filter (λ each. nat_lt (number_of c) each) (n ∷ ns)) ts) ts)
    here (and_from (accepts (data_shape (number_of c)) d) (accepted (pair_shapes (filter (λ each. nat_lt (number_of c) each) (n ∷ ns)) ts) ts) data_here rest)

set_accepted : (n width most : ℕ) (ns : List ℕ) (p : PartKind) (ts : List (List ℕ)) → Rises n width most ns → IsUpTo most p → ArePairs ts → BeginsOther n ts → accepted (pair_shapes ns ts) ts ≡ true
    → accepted (pair_shapes (n ∷ ns) (set_texts n width p ++ ts)) (set_texts n width p ++ ts) ≡ true
set_accepted n width most ns LeftOut ts r h pairs other all = skip_accepted n width most ns ts r pairs other all
set_accepted n width most ns NoInformation ts r h pairs other all = take_accepted n width most ns None ts r tt all
set_accepted n width most ns (Digits m) ts r h pairs other all = take_accepted n width most ns (Some m) ts r h all

set_pairs : (n width : ℕ) (p : PartKind) (ts : List (List ℕ)) → ArePairs ts → ArePairs (set_texts n width p ++ ts)
set_pairs n width p ts h = grind arith

no_pairs : (codes : List ℕ) → accepted (pair_shapes codes []) [] ≡ true
unfolding pair_shapes
no_pairs codes = refl

-- the texts of an expansion, as pairs and accepted
record AreSets (x : Sets) : Type 0 where
  pairs : ArePairs (expansion_texts x)
  accepted : accepted (pair_shapes (0 ∷ 2 ∷ 3 ∷ []) (expansion_texts x)) (expansion_texts x) ≡ true

are_sets : (x : Sets) → IsExpansion x → AreSets x
are_sets x h =
    let last = set_texts 3 4 x.course in
    let later = set_texts 2 4 x.speed ++ last in
    let none3 : set_texts 3 4 x.course ++ [] ≡ last = append-nil last in
    let pairs3 : ArePairs last = subst ArePairs none3 (set_pairs 3 4 x.course [] tt) in
    let pairs2 : ArePairs later = set_pairs 2 4 x.speed last pairs3 in
    let all3 : accepted (pair_shapes (3 ∷ []) last) last ≡ true =
    subst (λ (l : List (List ℕ)). accepted (pair_shapes (3 ∷ []) l) l ≡ true) none3
    (set_accepted 3 4 3599 [] x.course [] rises_3 h.course tt tt (no_pairs [])) in
    let other2 : BeginsOther 2 last = subst (BeginsOther 2) none3 (behind_code 2 3 4 x.course [] (omega arith) (omega arith) (λ (q : 3 ≡ 2). omega (arith, q)) tt) in
    let other3 : BeginsOther 0 last = subst (BeginsOther 0) none3 (behind_code 0 3 4 x.course [] (omega arith) (omega arith) (λ (q : 3 ≡ 0). omega (arith, q)) tt) in
    let all2 : accepted (pair_shapes (2 ∷ 3 ∷ []) later) later ≡ true = set_accepted 2 4 9999 (3 ∷ []) x.speed last rises_2 h.speed pairs3 other2 all3 in
    let other0 : BeginsOther 0 later = behind_code 0 2 4 x.speed last (omega arith) (omega arith) (λ (q : 2 ≡ 0). omega (arith, q)) other3 in
    record {
      pairs = set_pairs 0 8 x.enhanced later pairs2;
      accepted = set_accepted 0 8 99999999 (2 ∷ 3 ∷ []) x.enhanced later rises_0 h.enhanced pairs2 other0 all2;
    }

count_ok : (n : ℕ) → (n ≡ 6) ⊎ ((n ≡ 8) ⊎ (n ≡ 10)) → is_among (6 ∷ 8 ∷ 10 ∷ []) n ≡ true
count_ok n h = grind arith

expansion_count : (x : Sets) → IsExpansion x → (4 + length (expansion_texts x) ≡ 6) ⊎ ((4 + length (expansion_texts x) ≡ 8) ⊎ (4 + length (expansion_texts x) ≡ 10))
expansion_count x h = grind arith

-- pairs of texts have as many shapes, plain letters and little room
pair_length : (codes : List ℕ) (ts : List (List ℕ)) → ArePairs ts → length (pair_shapes codes ts) ≡ length ts
unfolding pair_shapes
pair_length codes [] pairs = refl
pair_length codes (c ∷ []) pairs = absurd pairs
pair_length codes (c ∷ d ∷ ts) pairs =
    let k = pair_length (filter (λ each. nat_lt (number_of c) each) codes) ts pairs in omega (arith, k)

data_plain : (v : ℕ) → has_plain_letters (data_shape v) ≡ true
data_plain v =
    elim (cases_Bool (nat_eq v 0)) [
      | inl first ↦ rw first refl
      | inr other ↦
          elim (cases_Bool (nat_eq v 2)) [
            | inl second ↦ rw (other, second) refl
            | inr third ↦ rw (other, third) refl
          ]
    ]

data_room : (v : ℕ) → longest (data_shape v) ≤ 8
data_room v =
    elim (cases_Bool (nat_eq v 0)) [
      | inl first ↦ rw first (omega arith)
      | inr other ↦
          elim (cases_Bool (nat_eq v 2)) [
            | inl second ↦ rw (other, second) (omega arith)
            | inr third ↦ rw (other, third) (omega arith)
          ]
    ]

pair_plain : (codes : List ℕ) (ts : List (List ℕ)) → ArePairs ts → list_all has_plain_letters (pair_shapes codes ts) ≡ true
unfolding pair_shapes
pair_plain codes [] pairs = refl
pair_plain codes (c ∷ []) pairs = absurd pairs
pair_plain codes (c ∷ d ∷ ts) pairs =
    let more = filter (λ each. nat_lt (number_of c) each) codes in
    and_from (has_plain_letters (data_shape (number_of c))) (list_all has_plain_letters (pair_shapes more ts)) (data_plain (number_of c)) (pair_plain more ts pairs)

pair_room : (codes : List ℕ) (ts : List (List ℕ)) → ArePairs ts → total (pair_shapes codes ts) ≤ 6 * length ts
unfolding pair_shapes
pair_room codes [] pairs = omega arith
pair_room codes (c ∷ []) pairs = absurd pairs
pair_room codes (c ∷ d ∷ ts) pairs =
    let more = filter (λ each. nat_lt (number_of c) each) codes in
    let here = data_room (number_of c) in
    let there = pair_room more ts pairs in
    omega (arith, here, there)

at_most_six : (n : ℕ) → (4 + n ≡ 6) ⊎ ((4 + n ≡ 8) ⊎ (4 + n ≡ 10)) → n ≤ 6
at_most_six n h = grind arith

pub dse_texts : (s : DseFields) → IsDse s → AreTexts dse (texts s)
unfolding texts
dse_texts s h =
    let ts = expansion_texts s.expansion in
    let codes : List ℕ = 0 ∷ 2 ∷ 3 ∷ [] in
    let sets = are_sets s.expansion h.expansion in
    let count = expansion_count s.expansion h.expansion in
    let few = at_most_six (length ts) count in
    let long = pair_length codes ts sets.pairs in
    let room = pair_room codes ts sets.pairs in
    let size : length (texts s) ≡ 4 + length ts = omega arith in
    let e1 = one_shown in
    let e3 = flag_kind.shown s.flag tt in
    let e4 = (digits_kind 10).shown s.address h.address in
    let e5 = sets.accepted in
    are_texts dse (texts s) head_is (λ e. cc) (count_ok (length (texts s)) (subst (λ (n : ℕ). (n ≡ 6) ⊎ ((n ≡ 8) ⊎ (n ≡ 10))) (sym size) count))
    (omega (arith, long)) (pair_plain codes ts sets.pairs) (omega (arith, few, room)) (rw (e1, e3, e4, e5) refl)

-- the clauses of what is read
answers_found : (bytes : List ℕ) (s : DseFields) → FieldsAnswer (Ok s) bytes → bytes ≡ sentence (codes "$CDDSE") (texts s)
answers_found bytes s h = texts_sound dse bytes (texts s) head_is h.0

answers_only : (bytes : List ℕ) (answer : Result DseFields SentenceRefusal) (s : DseFields) → FieldsAnswer answer bytes → IsDse s → bytes ≡ sentence (codes "$CDDSE") (texts s) → answer ≡ Ok s
answers_only bytes (Ok v) s h lawful e =
    let read : texts_of dse bytes ≡ Ok (texts s) = ap (λ (l : List ℕ). texts_of dse l) e ∙ texts_back dse (texts s) (dse_texts s lawful) in
    let found = h.0 in
    let same : texts v ≡ texts s = cc in
    ap Ok (one_record v s h.1 lawful same)
answers_only bytes (Err x) s h lawful e =
    let read : texts_of dse bytes ≡ Ok (texts s) = ap (λ (l : List ℕ). texts_of dse l) e ∙ texts_back dse (texts s) (dse_texts s lawful) in
    absurd (cc)

answers_refused : (bytes : List ℕ) (answer : Result DseFields SentenceRefusal) (e : SentenceRefusal) → FieldsAnswer answer bytes → answer ≡ Err e → texts_of dse bytes ≡ Err e
answers_refused bytes answer e h same = grind arith

answers_each : (bytes : List ℕ) (answer : Result DseFields SentenceRefusal) (e : SentenceRefusal) → FieldsAnswer answer bytes → texts_of dse bytes ≡ Err e → answer ≡ Err e
answers_each bytes answer e h same = grind arith

pub answers_read : (bytes : List ℕ) (answer : Result DseFields SentenceRefusal) → FieldsAnswer answer bytes → IsReading bytes answer
answers_read bytes (Ok s) h = record {
  found = answers_found bytes s h;
  only = λ t. answers_only bytes (Ok s) t h;
  refused = λ e. (answers_refused bytes (Ok s) e h, answers_each bytes (Ok s) e h);
}
answers_read bytes (Err x) h = record {
  found = tt;
  only = λ t. answers_only bytes (Err x) t h;
  refused = λ e. (answers_refused bytes (Err x) e h, answers_each bytes (Err x) e h);
}

-- one text, one record
pub one_sentence : (s t : DseFields) → IsDse s → IsDse t → sentence (codes "$CDDSE") (texts s) ≡ sentence (codes "$CDDSE") (texts t) → s ≡ t
one_sentence s t hs ht e =
    let first = texts_back dse (texts s) (dse_texts s hs) in
    let second = texts_back dse (texts t) (dse_texts t ht) in
    let same = ap (λ (l : List ℕ). texts_of dse l) e in
    one_record s t hs ht (cc)
