-- fields that are cut at their commas
use Rattle.std.proofs.Common.{◌≡◌, ℕ, ◌+◌, Bool, true, false, not, nat_eq, List, [], ◌∷◌, ◌++◌, length, refl, sym, ◌∙◌, ap, arith, inl, inr, Ok, Err}
use Rattle.std.specs.List.{slice_split, onto_first, count_by, list_all}
use Rattle.std.proofs.lemmas.Bool.{and_parts, cases_Bool, not-true, eqb-true}
use Rattle.std.proofs.lemmas.List.Splits.{length-slice_split, slice_split-cons_yes, slice_split-cons_no}
use Rattle.sentence_frame.specs.Frames.{behind_commas}
use Rattle.sentence_frame.specs.Refusals.{texts, framed, opened}
use Rattle.sentence_frame.specs.Shapes.{is_among}
use Rattle.sentence_frame.specs.declared.refusals.SentenceRefusal.TheVariants.{FieldCount}

-- this byte is a comma
abbrev pub is_comma : ℕ → Bool
is_comma b = nat_eq b 44

texts_count : (bytes : List ℕ) → length (slice_split is_comma bytes) ≡ count_by is_comma bytes + 1
texts_count bytes = length-slice_split is_comma bytes

pub texts_more : (fields : List ℕ) (b : ℕ) (behind : List ℕ) (n : ℕ) → fields ≡ b ∷ behind → n ≡ count_by is_comma behind → n + 1 ≡ length (texts fields)
texts_more fields b behind n e h =
    let k = texts_count behind in
    rw e (omega (arith, h, k))

-- another number of fields than those that may be
pub opened_count : (head counts bytes fields : List ℕ) (n : ℕ) → framed head bytes ≡ Ok fields → n ≡ length (texts fields) → is_among counts n ≡ false → opened head counts bytes ≡ Err (FieldCount n)
unfolding opened
opened_count head counts bytes fields n e h k = rw (e, ← h, k) refl

-- texts without a comma
abbrev pub has_no_comma : List ℕ → Bool
has_no_comma text = list_all (λ b. not (is_comma b)) text

onto_behind : (b : ℕ) (bytes : List ℕ) (parts : List (List ℕ)) → behind_commas parts ≡ 44 ∷ bytes → behind_commas (onto_first b parts) ≡ 44 ∷ (b ∷ bytes)
onto_behind b bytes parts e = grind arith

-- what is cut at its commas, each part after a comma again
pub cut_behind : (bytes : List ℕ) → behind_commas (slice_split is_comma bytes) ≡ 44 ∷ bytes
cut_behind [] = refl
cut_behind (b ∷ bytes) =
    let rest = cut_behind bytes in
    elim (cases_Bool (is_comma b)) [
      | inl is ↦
          rw (slice_split-cons_yes is_comma b bytes is)
          (ap (λ (l : List ℕ). 44 ∷ l) rest ∙ ap (λ (c : ℕ). 44 ∷ (c ∷ bytes)) (sym (eqb-true b 44 is)))
      | inr isnt ↦ rw (slice_split-cons_no is_comma b bytes isnt) (onto_behind b bytes (slice_split is_comma bytes) rest)
    ]

onto_free : (b : ℕ) (parts : List (List ℕ)) → is_comma b ≡ false → list_all has_no_comma parts ≡ true → list_all has_no_comma (onto_first b parts) ≡ true
onto_free b parts h all = grind arith

-- no part has a comma
pub cut_free : (bytes : List ℕ) → list_all has_no_comma (slice_split is_comma bytes) ≡ true
cut_free [] = refl
cut_free (b ∷ bytes) =
    elim (cases_Bool (is_comma b)) [
      | inl is ↦ rw (slice_split-cons_yes is_comma b bytes is) (cut_free bytes)
      | inr isnt ↦ rw (slice_split-cons_no is_comma b bytes isnt) (onto_free b (slice_split is_comma bytes) isnt (cut_free bytes))
    ]

-- texts without commas are found again
split_text : (text rest : List ℕ) (parts : List (List ℕ)) → has_no_comma text ≡ true → slice_split is_comma rest ≡ [] ∷ parts → slice_split is_comma (text ++ rest) ≡ text ∷ parts
split_text [] rest parts h e = e
split_text (b ∷ text) rest parts h e =
    let both = and_parts (not (is_comma b)) (has_no_comma text) h in
    rw (slice_split-cons_no is_comma b (text ++ rest) (not-true (is_comma b) both.0), split_text text rest parts both.1 e) refl

split_behind : (texts : List (List ℕ)) → list_all has_no_comma texts ≡ true → slice_split is_comma (behind_commas texts) ≡ [] ∷ texts
split_behind [] h = refl
split_behind (text ∷ texts) h =
    let both = and_parts (has_no_comma text) (list_all has_no_comma texts) h in
    ap (λ (l : List (List ℕ)). [] ∷ l) (split_text text (behind_commas texts) texts both.0 (split_behind texts both.1))

pub texts_behind : (text : List ℕ) (more : List (List ℕ)) → list_all has_no_comma (text ∷ more) ≡ true → texts (behind_commas (text ∷ more)) ≡ text ∷ more
texts_behind text more h =
    let both = and_parts (has_no_comma text) (list_all has_no_comma more) h in
    split_text text (behind_commas more) more both.0 (split_behind more both.1)
