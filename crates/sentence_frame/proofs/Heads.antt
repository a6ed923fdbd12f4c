-- what is known of bytes that begin with a head and end as sentences do
use Rattle.std.proofs.Common.{◌≡◌, ◌≢◌, ℕ, ◌+◌, ◌-◌, ◌<◌, Bool, true, ◌&&◌, nat_eq, nat_lt, List, length, get_or, take, drop, sym, ◌∙◌, ap, arith, inl, inr, length-drop, get_or-drop, get_or-take}
use Rattle.std.specs.List.{list_all, starts_with}
use Rattle.std.specs.Cmp.Lexicographic.{same_text}
use Rattle.std.proofs.lemmas.Bool.{and_parts, cases_lt, cases_Bool, eqb-true, ltb-true, false≢true}
use Rattle.std.proofs.lemmas.List.{get_or_past}
use Rattle.std.proofs.lemmas.List.Folds.{list_all_at}
use Rattle.sentence_frame.specs.Refusals.{is_head, is_clean, is_hexadecimal, begins, is_ending, last_five}

-- an element of a list that passes a test does
pub passes_at : (p : ℕ → Bool) (xs : List ℕ) (i : ℕ) → i < length xs → list_all p xs ≡ true → p (get_or xs i 0) ≡ true
passes_at p xs i h all =
    elim (cases_Bool (p (get_or xs i 0))) [
      | inl is ↦ is
      | inr isnt ↦ absurd (false≢true (sym (list_all_at p xs i 0 h isnt) ∙ all))
    ]

pub record IsHead (head : List ℕ) : Type 0 where
  pub dollar : get_or head 0 0 ≡ 36
  pub long : 4 < length head
  pub clean : list_all is_clean (drop 1 head) ≡ true

-- what passes as a head is one
pub head_facts : (head : List ℕ) → is_head head ≡ true → IsHead head
unfolding is_head
head_facts head h =
    let last = and_parts (nat_eq (get_or head 0 0) 36 && nat_lt 4 (length head)) (list_all is_clean (drop 1 head)) h in
    let two = and_parts (nat_eq (get_or head 0 0) 36) (nat_lt 4 (length head)) last.0 in
    record { dollar = eqb-true (get_or head 0 0) 36 two.0; long = ltb-true 4 (length head) two.1; clean = last.1 }

pub record Begins (head bytes : List ℕ) : Type 0 where
  pub front : head ≡ take (length head) bytes
  pub comma : get_or bytes (length head) 0 ≡ 44
  pub long : length head < length bytes

-- bytes that pass as beginning with a head do
pub begins_facts : (head bytes : List ℕ) → begins head bytes ≡ true → Begins head bytes
begins_facts head bytes b =
    let both = and_parts (starts_with nat_eq bytes head) (nat_eq (get_or bytes (length head) 0) 44) b in
    let comma : get_or bytes (length head) 0 ≡ 44 = eqb-true (get_or bytes (length head) 0) 44 both.1 in
    let long : length head < length bytes =
    elim (cases_lt (length head) (length bytes)) [
      | inl less ↦ less
      | inr past ↦ (let none = get_or_past bytes (length head) 0 past in omega (arith, none, comma))
    ] in
    record { front = same_text head (take (length head) bytes) (sym both.0); comma = comma; long = long }

-- no byte of a head but the first is a `*`, nor is a clean one
pub clean_star : (b : ℕ) → is_clean b ≡ true → b ≢ 42
clean_star b h = grind arith

head_star : (head : List ℕ) (i : ℕ) → IsHead head → 0 < i → i < length head → get_or head i 0 ≢ 42
head_star head i h low high e =
    let within : i - 1 < length (drop 1 head) = omega (arith, length-drop 1 head) in
    let at : get_or (drop 1 head) (i - 1) 0 ≡ get_or head (1 + (i - 1)) 0 = get_or-drop 1 head (i - 1) 0 in
    let same : 1 + (i - 1) ≡ i = omega arith in
    clean_star (get_or (drop 1 head) (i - 1) 0) (passes_at is_clean (drop 1 head) (i - 1) within h.clean) (at ∙ ap (λ (k : ℕ). get_or head k 0) same ∙ e)

-- the parts of an ending
pub record IsEnding (bytes : List ℕ) : Type 0 where
  pub len : length bytes ≡ 5
  pub star : get_or bytes 0 0 ≡ 42
  pub high : is_hexadecimal (get_or bytes 1 0) ≡ true
  pub low : is_hexadecimal (get_or bytes 2 0) ≡ true
  pub cr : get_or bytes 3 0 ≡ 13
  pub lf : get_or bytes 4 0 ≡ 10

-- what passes as an ending is one
pub ending_facts : (bytes : List ℕ) → is_ending bytes ≡ true → IsEnding bytes
ending_facts bytes h =
    let a = nat_eq (length bytes) 5 in
    let b = nat_eq (get_or bytes 0 0) 42 in
    let c = is_hexadecimal (get_or bytes 1 0) in
    let d = is_hexadecimal (get_or bytes 2 0) in
    let e = nat_eq (get_or bytes 3 0) 13 in
    let f = nat_eq (get_or bytes 4 0) 10 in
    let p5 = and_parts ((((a && b) && c) && d) && e) f h in
    let p4 = and_parts (((a && b) && c) && d) e p5.0 in
    let p3 = and_parts ((a && b) && c) d p4.0 in
    let p2 = and_parts (a && b) c p3.0 in
    let p1 = and_parts a b p2.0 in
    record {
      len = eqb-true (length bytes) 5 p1.0;
      star = eqb-true (get_or bytes 0 0) 42 p1.1;
      high = p2.1;
      low = p3.1;
      cr = eqb-true (get_or bytes 3 0) 13 p4.1;
      lf = eqb-true (get_or bytes 4 0) 10 p5.1;
    }

-- the `*` of an ending comes after the head and its comma
pub head_fits : (head bytes : List ℕ) → IsHead head → Begins head bytes → IsEnding (last_five bytes) → length head < length bytes - 5
head_fits head bytes h b e =
    let n = length bytes - 5 in
    let star : get_or bytes (n + 0) 0 ≡ 42 = sym (get_or-drop n bytes 0 0) ∙ e.star in
    let there : get_or bytes n 0 ≡ 42 = ap (λ (k : ℕ). get_or bytes k 0) (omega arith) ∙ star in
    elim (cases_lt (length head) n) [
      | inl less ↦ less
      | inr more ↦
          elim (cases_lt n (length head)) [
            | inl inside ↦
                (let positive : 0 < n = omega (arith, h.long, b.long) in
                let same : get_or head n 0 ≡ get_or bytes n 0 =
                ap (λ (l : List ℕ). get_or l n 0) b.front ∙ get_or-take (length head) bytes n 0 inside in
                absurd (head_star head n h positive inside (same ∙ there)))
            | inr behind ↦
                (let same : n ≡ length head = omega arith in
                let here : get_or bytes n 0 ≡ 44 = ap (λ (k : ℕ). get_or bytes k 0) same ∙ b.comma in
                absurd (omega (arith, there, here)))
          ]
    ]
