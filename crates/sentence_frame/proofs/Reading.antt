-- how fields are read one after another
use Rattle.std.proofs.Common.{◌≡◌, ℕ, ◌≤◌, Bool, true, not, cond, List, [], ◌∷◌, ◌++◌, length, take, drop, refl, sym, ◌∙◌, ap, arith, inl, inr, Result, Ok, Err, MatchResult, zero, suc}
use Rattle.std.specs.List.{list_all, prefix_len}
use Rattle.std.proofs.lemmas.Bool.{and_parts, cases_Bool}
use Rattle.std.proofs.lemmas.List.{take-append-drop, drop_all, length-take-le}
use Rattle.std.proofs.Math.Seq.{take-append_seam, drop-append_seam, drop-cons}
use Rattle.line_grammar.specs.Tokens.{is_digit}
use Rattle.sentence_frame.specs.declared.refusals.SentenceRefusal.{SentenceRefusal}
use Rattle.sentence_frame.specs.declared.refusals.SentenceRefusal.TheVariants.{Field}
use Rattle.sentence_frame.specs.Frames.{behind_commas}
use Rattle.sentence_frame.specs.Shapes.{Shape, accepts}
use Rattle.sentence_frame.specs.inside.Fields.{first_of, rest_of, field, and_then, ends_at}
use Rattle.sentence_frame.proofs.Cuts.{is_comma, has_no_comma}
use Rattle.sentence_frame.proofs.Plain.{digits_plain, plain_free}

abbrev goes_on : ℕ → Bool
goes_on b = not (is_comma b)

length_behind : (ts : List (List ℕ)) → prefix_len goes_on (behind_commas ts) ≡ 0
length_behind [] = refl
length_behind (t ∷ ts) = refl

length_text : (t rest : List ℕ) → has_no_comma t ≡ true → prefix_len goes_on rest ≡ 0 → prefix_len goes_on (t ++ rest) ≡ length t
length_text [] rest h e = e
length_text (b ∷ t) rest h e =
    let both = and_parts (goes_on b) (has_no_comma t) h in
    let here : goes_on b ≡ true = both.0 in
    let k = length_text t rest both.1 e in
    rw here (omega (arith, k))

-- the first text after a comma reaches to the next comma
pub first_behind : (t : List ℕ) (ts : List (List ℕ)) → has_no_comma t ≡ true → first_of (behind_commas (t ∷ ts)) ≡ t
unfolding first_of
first_behind t ts h =
    ap (λ (k : ℕ). take k (t ++ behind_commas ts)) (length_text t (behind_commas ts) h (length_behind ts)) ∙ take-append_seam t (behind_commas ts)

-- after the first text the others follow
pub rest_behind : (t : List ℕ) (ts : List (List ℕ)) → has_no_comma t ≡ true → rest_of (behind_commas (t ∷ ts)) ≡ behind_commas ts
unfolding rest_of
rest_behind t ts h =
    ap (λ (k : ℕ). drop k (t ++ behind_commas ts)) (length_text t (behind_commas ts) h (length_behind ts)) ∙ drop-append_seam t (behind_commas ts)

-- what is read of texts, and how these are judged, agree: both accept, or both refuse the same field
abbrev pub Agrees : {V : Type 0} → Result V SentenceRefusal → Result (List (List ℕ)) SentenceRefusal → List (List ℕ) → (V → Type 0) → Type 0
Agrees read judgement all P = MatchResult read (λ v. (judgement ≡ Ok all) × P v) (λ e. judgement ≡ Err e)

-- a reader that takes one field more agrees with the judgement of all
pub agree_step : {V W : Type 0} (k : ℕ) (s : Shape) (value : List ℕ → W) (t : List ℕ) (more : W → Result V SentenceRefusal) (judgement : Result (List (List ℕ)) SentenceRefusal) (all : List (List ℕ)) (P : V → Type 0)
    → (accepts s t ≡ true → Agrees (more (value t)) judgement all P)
    → Agrees (and_then (field k s value t) more) (cond (accepts s t) judgement (Err (Field k))) all P
unfolding field and_then
agree_step k s value t more judgement all P h =
    elim (cases_Bool (accepts s t)) [
      | inl is ↦ rw is (h is)
      | inr isnt ↦ rw isnt refl
    ]

-- the texts that are taken one after another
abbrev pub firsts : ℕ → List ℕ → List (List ℕ)
firsts zero fields = []
firsts (suc n) fields = first_of fields ∷ firsts n (rest_of fields)

pub firsts_behind : (ts : List (List ℕ)) → list_all has_no_comma ts ≡ true → firsts (length ts) (behind_commas ts) ≡ ts
firsts_behind [] h = refl
firsts_behind (t ∷ ts) h =
    let both = and_parts (has_no_comma t) (list_all has_no_comma ts) h in
    let first = first_behind t ts both.0 in
    let rest = rest_behind t ts both.0 in
    ap (λ (l : List ℕ). l ∷ firsts (length ts) (rest_of (behind_commas (t ∷ ts)))) first
    ∙ ap (λ (l : List ℕ). t ∷ firsts (length ts) l) rest
    ∙ ap (λ (l : List (List ℕ)). t ∷ l) (firsts_behind ts both.1)

pub ends_within : (width : ℕ) (bytes : List ℕ) → ends_at width bytes → width ≤ length bytes
ends_within width bytes ends = elim ends [ inl all ↦ omega (arith, all) | inr comma ↦ omega (arith, comma.0) ]

-- digits that reach to a comma or to the end are the first text
digits_first : (width : ℕ) (behind : List ℕ) → ends_at width behind → list_all is_digit (take width behind) ≡ true → prefix_len goes_on behind ≡ width
digits_first width behind ends h =
    let free = plain_free (take width behind) (digits_plain (take width behind) h) in
    let stops : prefix_len goes_on (drop width behind) ≡ 0 =
    elim ends [
      | inl all ↦ ap (prefix_len goes_on) (drop_all width behind (omega (arith, all)))
      | inr comma ↦ ap (prefix_len goes_on) (drop-cons behind width 0 comma.0) ∙ ap (λ (b : ℕ). prefix_len goes_on (b ∷ drop (suc width) behind)) comma.1
    ] in
    ap (prefix_len goes_on) (sym (take-append-drop width behind))
    ∙ length_text (take width behind) (drop width behind) free stops
    ∙ length-take-le width behind (ends_within width behind ends)

pub digits_taken : (width b : ℕ) (fields behind : List ℕ) → fields ≡ b ∷ behind → ends_at width behind → list_all is_digit (take width behind) ≡ true
    → (first_of fields ≡ take width behind) × (rest_of fields ≡ drop width behind)
unfolding first_of rest_of
digits_taken width b fields behind e ends h =
    let k = digits_first width behind ends h in (
      ap (λ (l : List ℕ). take (prefix_len goes_on (drop 1 l)) (drop 1 l)) e ∙ ap (λ (n : ℕ). take n behind) k,
      ap (λ (l : List ℕ). drop (prefix_len goes_on (drop 1 l)) (drop 1 l)) e ∙ ap (λ (n : ℕ). drop n behind) k,
    )
