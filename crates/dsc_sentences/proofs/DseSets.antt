-- the sets of a DSE sentence, taken one after another
use Rattle.std.proofs.Common.{◌≡◌, ℕ, ◌+◌, ◌<◌, ◌≤◌, ◌^◌, true, false, ◌||◌, nat_eq, nat_lt, cond, List, [], ◌∷◌, ◌++◌, filter, Option, IfSome, refl, sym, ◌∙◌, ap, subst, arith, inl, inr, Result, Ok, Err}
use Rattle.std.specs.List.{list_all}
use Rattle.std.proofs.lemmas.Bool.{and_parts, and_from, and_left, cases_Bool, or_cases, eqb-true, lt-ltb, or_left, or_parts, false≢true}
use Rattle.sentence_frame.specs.declared.refusals.SentenceRefusal.{SentenceRefusal}
use Rattle.sentence_frame.specs.declared.refusals.SentenceRefusal.TheVariants.{Field}
use Rattle.sentence_frame.specs.Shapes as shape
use Rattle.sentence_frame.specs.Shapes.{Shape, accepts, are_digits, is_among, is_nothing, number_of}
use Rattle.sentence_frame.specs.Texts.{digits, perhaps_text}
use Rattle.sentence_frame.specs.Frames.{behind_commas}
use Rattle.sentence_frame.specs.inside.Fields.{first_of, rest_of, field, perhaps, and_then}
use Rattle.sentence_frame.specs.Refusals.{judged}
use Rattle.sentence_frame.proofs.Cuts.{has_no_comma}
use Rattle.sentence_frame.proofs.FieldLaws.{IsKind, number_kind, code_kind, maybe_kind}
use Rattle.sentence_frame.proofs.Reading.{Agrees, first_behind, rest_behind}
use Rattle.expansion.specs.declared.parts.PartKind.{PartKind}
use Rattle.expansion.specs.declared.parts.PartKind.TheVariants.{LeftOut}
use Rattle.expansion.specs.Parts.{IsUpTo}
use Rattle.dsc_sentences.specs.Dse.{set_texts, pair_shapes, data_shape}
use Rattle.dsc_sentences.specs.inside.DseReading.{part_of, Taken, read_set}

-- data in so many digits, or nothing
pub data_kind : (width most : ℕ) → most < 10 ^ width → accepts (shape.number width most) [] ≡ false → IsKind (shape.maybe (shape.number width most)) (perhaps_text (digits width)) (perhaps number_of) (λ o. IfSome o (λ n. n ≤ most))
data_kind width most room none = maybe_kind (shape.number width most) (digits width) number_of (λ n. n ≤ most) (number_kind width most room) none

-- the texts of a set that is there are its code and its data
pub set_is : (n width : ℕ) (o : Option ℕ) → set_texts n width (part_of o) ≡ digits 2 n ∷ perhaps_text (digits width) o ∷ []
set_is n width o = grind arith

set_range : (most : ℕ) (o : Option ℕ) → IfSome o (λ n. n ≤ most) → IsUpTo most (part_of o)
set_range most o h = grind arith

-- the text of a code is that code
pub code_one : (n : ℕ) (c : List ℕ) → n < 100 → accepts (shape.code (n ∷ [])) c ≡ true → (digits 2 n ≡ c) × (number_of c ≡ n)
code_one n c small h =
    let kind = code_kind (n ∷ []) (and_from (nat_lt n 100) true (lt-ltb n 100 small) refl) in
    let among : is_among (n ∷ []) (number_of c) ≡ true = kind.fits c h in
    let same : number_of c ≡ n =
    elim (or_cases (nat_eq n (number_of c)) false among) [
      | inl here ↦ sym (eqb-true n (number_of c) here)
      | inr none ↦ absurd (false≢true none)
    ] in
    (ap (λ (m : ℕ). digits 2 m) (sym same) ∙ kind.again c h, same)

-- it is accepted among more codes
pub code_more : (n : ℕ) (ns c : List ℕ) → accepts (shape.code (n ∷ [])) c ≡ true → accepts (shape.code (n ∷ ns)) c ≡ true
unfolding accepts
code_more n ns c h =
    let k = and_parts (are_digits 2 c) (is_among (n ∷ []) (number_of c)) h in
    and_from (are_digits 2 c) (is_among (n ∷ ns) (number_of c)) k.0
    (elim (or_cases (nat_eq n (number_of c)) false k.1) [
      | inl here ↦ or_left (nat_eq n (number_of c)) (is_among ns (number_of c)) here
      | inr none ↦ absurd (false≢true none)
    ])

-- a text that isn't this code is accepted among more codes exactly where it is among the others
pub code_other : (n : ℕ) (ns c : List ℕ) → accepts (shape.code (n ∷ [])) c ≡ false → accepts (shape.code (n ∷ ns)) c ≡ accepts (shape.code ns) c
unfolding accepts
code_other n ns c h =
    elim (cases_Bool (are_digits 2 c)) [
      | inl is ↦
          (let other : (nat_eq n (number_of c) || false) ≡ false = rw is at h in
          let ne : nat_eq n (number_of c) ≡ false = (or_parts (nat_eq n (number_of c)) false other).0 in
          rw (is, ne) refl)
      | inr isnt ↦ and_left (are_digits 2 c) (is_among (n ∷ ns) (number_of c)) isnt ∙ sym (and_left (are_digits 2 c) (is_among ns (number_of c)) isnt)
    ]

pub code_among : (ns c : List ℕ) → accepts (shape.code ns) c ≡ true → is_among ns (number_of c) ≡ true
unfolding accepts
code_among ns c h = (and_parts (are_digits 2 c) (is_among ns (number_of c)) h).1

-- what is asked of the codes from this one on
pub record Rises (n width most : ℕ) (ns : List ℕ) : Type 0 where
  pub small : n < 100
  pub room : most < 10 ^ width
  pub none : accepts (shape.number width most) [] ≡ false
  pub shape : data_shape n ≡ shape.maybe (shape.number width most)
  pub others : filter (λ each. nat_lt n each) (n ∷ ns) ≡ ns
  pub above : (m : ℕ) → is_among ns m ≡ true → nat_lt m n ≡ false

judged_taken : (k n width most : ℕ) (ns c d : List ℕ) (ts all : List (List ℕ)) → Rises n width most ns → accepts (shape.code (n ∷ [])) c ≡ true
    → judged k (pair_shapes (n ∷ ns) (c ∷ d ∷ ts)) (c ∷ d ∷ ts) all
    ≡ cond (accepts (shape.maybe (shape.number width most)) d) (judged (k + 2) (pair_shapes ns ts) ts all) (Err (Field (k + 1)))
unfolding judged pair_shapes
judged_taken k n width most ns c d ts all r h =
    let one = code_one n c r.small h in
    let more : accepts (shape.code (n ∷ ns)) c ≡ true = code_more n ns c h in
    let same : number_of c ≡ n = one.1 in
    let kind : data_shape (number_of c) ≡ shape.maybe (shape.number width most) = ap data_shape same ∙ r.shape in
    let others : filter (λ each. nat_lt (number_of c) each) (n ∷ ns) ≡ ns = ap (λ (m : ℕ). filter (λ each. nat_lt m each) (n ∷ ns)) same ∙ r.others in
    let two : k + 1 + 1 ≡ k + 2 = omega arith in
    rw more
    (ap (λ (s : Shape). cond (accepts s d) (judged (k + 1 + 1) (pair_shapes (filter (λ each. nat_lt (number_of c) each) (n ∷ ns)) ts) ts all) (Err (Field (k + 1)))) kind
    ∙ ap (λ (l : List ℕ). cond (accepts (shape.maybe (shape.number width most)) d) (judged (k + 1 + 1) (pair_shapes l ts) ts all) (Err (Field (k + 1)))) others
    ∙ ap (λ (m : ℕ). cond (accepts (shape.maybe (shape.number width most)) d) (judged m (pair_shapes ns ts) ts all) (Err (Field (k + 1)))) two)

judged_skipped : (k n width most : ℕ) (ns c d : List ℕ) (ts all : List (List ℕ)) → Rises n width most ns → accepts (shape.code (n ∷ [])) c ≡ false
    → judged k (pair_shapes (n ∷ ns) (c ∷ d ∷ ts)) (c ∷ d ∷ ts) all ≡ judged k (pair_shapes ns (c ∷ d ∷ ts)) (c ∷ d ∷ ts) all
unfolding judged pair_shapes
judged_skipped k n width most ns c d ts all r h =
    let other : accepts (shape.code (n ∷ ns)) c ≡ accepts (shape.code ns) c = code_other n ns c h in
    elim (cases_Bool (accepts (shape.code ns) c)) [
      | inl is ↦
          (let below : nat_lt (number_of c) n ≡ false = r.above (number_of c) (code_among ns c is) in
          rw (other, is, below) refl)
      | inr isnt ↦ rw (other, isnt) refl
    ]

read_taken : (k n width most : ℕ) (b c d b2 : List ℕ) → first_of b ≡ c → first_of (rest_of b) ≡ d → rest_of (rest_of b) ≡ b2 → accepts (shape.code (n ∷ [])) c ≡ true
    → read_set k n width most b
    ≡ and_then (field (k + 1) (shape.maybe (shape.number width most)) (perhaps number_of) d) (λ said. Ok (record { part = part_of said; next = k + 2; rest = b2 }))
unfolding read_set
read_taken k n width most b c d b2 e0 e1 e2 h = rw (e0, e1, e2, h) refl

read_skipped : (k n width most : ℕ) (b c : List ℕ) → first_of b ≡ c → accepts (shape.code (n ∷ [])) c ≡ false → read_set k n width most b ≡ Ok (record { part = LeftOut; next = k; rest = b })
unfolding read_set
read_skipped k n width most b c e0 h = rw (e0, h) refl

-- pairs of texts
abbrev pub ArePairs : List (List ℕ) → Type 0
ArePairs [] = Unit {0}
ArePairs (c ∷ []) = ⊥
ArePairs (c ∷ d ∷ ts) = ArePairs ts

-- what has to hold after a set, be it there or not
abbrev pub Goes : {V : Type 0} → ℕ → ℕ → ℕ → List ℕ → List (List ℕ) → List (List ℕ) → (Taken → Result V SentenceRefusal) → (V → Type 0) → Type 0
Goes n width most ns ts all more P =
    (part : PartKind) (next : ℕ) (rest : List (List ℕ)) → ts ≡ set_texts n width part ++ rest → IsUpTo most part → ArePairs rest → list_all has_no_comma rest ≡ true
    → Agrees (more (record { part = part; next = next; rest = behind_commas rest })) (judged next (pair_shapes ns rest) rest all) all P

taken_agrees : {V : Type 0} (k width most : ℕ) (d b2 : List ℕ) (j : Result (List (List ℕ)) SentenceRefusal) (all : List (List ℕ)) (more : Taken → Result V SentenceRefusal) (P : V → Type 0)
    → (accepts (shape.maybe (shape.number width most)) d ≡ true → Agrees (more (record { part = part_of (perhaps number_of d); next = k + 2; rest = b2 })) j all P)
    → Agrees (and_then (and_then (field (k + 1) (shape.maybe (shape.number width most)) (perhaps number_of) d) (λ said. Ok (record { part = part_of said; next = k + 2; rest = b2 }))) more)
    (cond (accepts (shape.maybe (shape.number width most)) d) j (Err (Field (k + 1)))) all P
unfolding field and_then
taken_agrees k width most d b2 j all more P h =
    elim (cases_Bool (accepts (shape.maybe (shape.number width most)) d)) [
      | inl is ↦ rw is (h is)
      | inr isnt ↦ rw isnt refl
    ]

and_then_ok : {A B : Type 0} (value : A) (more : A → Result B SentenceRefusal) → and_then (Ok value) more ≡ more value
unfolding and_then
and_then_ok value more = refl

pair_step : {V : Type 0} (k n width most : ℕ) (ns c d : List ℕ) (ts all : List (List ℕ)) (more : Taken → Result V SentenceRefusal) (P : V → Type 0)
    → Rises n width most ns → ArePairs ts → list_all has_no_comma (c ∷ d ∷ ts) ≡ true → Goes n width most ns (c ∷ d ∷ ts) all more P
    → Agrees (and_then (read_set k n width most (behind_commas (c ∷ d ∷ ts))) more) (judged k (pair_shapes (n ∷ ns) (c ∷ d ∷ ts)) (c ∷ d ∷ ts) all) all P
pair_step {V} k n width most ns c d ts all more P r pairs free goes =
    let b = behind_commas (c ∷ d ∷ ts) in
    let both = and_parts (has_no_comma c) (list_all has_no_comma (d ∷ ts)) free in
    let second = and_parts (has_no_comma d) (list_all has_no_comma ts) both.1 in
    let e0 : first_of b ≡ c = first_behind c (d ∷ ts) both.0 in
    let r0 : rest_of b ≡ behind_commas (d ∷ ts) = rest_behind c (d ∷ ts) both.0 in
    let e1 : first_of (rest_of b) ≡ d = ap first_of r0 ∙ first_behind d ts second.0 in
    let e2 : rest_of (rest_of b) ≡ behind_commas ts = ap rest_of r0 ∙ rest_behind d ts second.0 in
    elim (cases_Bool (accepts (shape.code (n ∷ [])) c)) [
      | inl is ↦
          (let one = code_one n c r.small is in
          let kind = data_kind width most r.room r.none in
          let read = read_taken k n width most b c d (behind_commas ts) e0 e1 e2 is in
          let judge = judged_taken k n width most ns c d ts all r is in
          subst (λ (j : Result (List (List ℕ)) SentenceRefusal). Agrees (and_then (read_set k n width most b) more) j all P) (sym judge)
          (subst (λ (x : Result Taken SentenceRefusal). Agrees (and_then x more) (cond (accepts (shape.maybe (shape.number width most)) d) (judged (k + 2) (pair_shapes ns ts) ts all) (Err (Field (k + 1)))) all P) (sym read)
          (taken_agrees k width most d (behind_commas ts) (judged (k + 2) (pair_shapes ns ts) ts all) all more P (λ yes2.
          let said = perhaps number_of d in
          let texts : c ∷ d ∷ ts ≡ set_texts n width (part_of said) ++ ts =
          sym (ap (λ (l : List (List ℕ)). l ++ ts) (set_is n width said)
          ∙ ap (λ (l : List ℕ). l ∷ perhaps_text (digits width) said ∷ ts) one.0
          ∙ ap (λ (l : List ℕ). c ∷ l ∷ ts) (kind.again d yes2)) in
          goes (part_of said) (k + 2) ts texts (set_range most said (kind.fits d yes2)) pairs second.1))))
      | inr isnt ↦
          (let read = read_skipped k n width most b c e0 isnt in
          let judge = judged_skipped k n width most ns c d ts all r isnt in
          subst (λ (j : Result (List (List ℕ)) SentenceRefusal). Agrees (and_then (read_set k n width most b) more) j all P) (sym judge)
          (subst (λ (x : Result V SentenceRefusal). Agrees x (judged k (pair_shapes ns (c ∷ d ∷ ts)) (c ∷ d ∷ ts) all) all P)
          (sym (ap (λ (x : Result Taken SentenceRefusal). and_then x more) read ∙ and_then_ok (record { part = LeftOut; next = k; rest = b }) more))
          (goes LeftOut k (c ∷ d ∷ ts) refl tt pairs free)))
    ]

no_step : {V : Type 0} (k n width most : ℕ) (ns : List ℕ) (all : List (List ℕ)) (more : Taken → Result V SentenceRefusal) (P : V → Type 0)
    → Goes n width most ns [] all more P
    → Agrees (and_then (read_set k n width most []) more) (judged k (pair_shapes (n ∷ ns) []) [] all) all P
unfolding read_set and_then first_of accepts pair_shapes
no_step k n width most ns all more P goes = goes LeftOut k [] refl tt tt refl

-- a set is read as it is judged, and then what follows
pub set_step : {V : Type 0} (k n width most : ℕ) (ns : List ℕ) (ts all : List (List ℕ)) (more : Taken → Result V SentenceRefusal) (P : V → Type 0)
    → Rises n width most ns → ArePairs ts → list_all has_no_comma ts ≡ true → Goes n width most ns ts all more P
    → Agrees (and_then (read_set k n width most (behind_commas ts)) more) (judged k (pair_shapes (n ∷ ns) ts) ts all) all P
set_step k n width most ns [] all more P r pairs free goes = no_step k n width most ns all more P goes
set_step k n width most ns (c ∷ []) all more P r pairs free goes = absurd pairs
set_step k n width most ns (c ∷ d ∷ ts) all more P r pairs free goes = pair_step k n width most ns c d ts all more P r pairs free goes
