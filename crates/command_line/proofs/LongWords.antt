-- The words `--name` and `--name=value`, as `clap` reads them.
use Rattle.std.proofs.Common.{◌≡◌, ◌≢◌, ◌∙◌, ◌==◌, ◌⊎◌, inl, inr, Bool, true, false, ℕ, [], ◌∷◌, ◌++◌, refl, ap, sym, cond, arith}
use Rattle.std.specs.Prelude.{Option, Some, None, codes, option_and_then}
use Rattle.std.specs.Str.{bytes_eq}
use Rattle.std.proofs.lemmas.Slice.Eq.{bytes_eq-Decides}
use Rattle.clap.specs.Lexer.{long_of, long_of_rest, name_and_value, strip_byte}
use Rattle.clap.specs.Walk.{Text}
use Rattle.clap.proofs.CutLemmas.{Lacks}
use Rattle.clap.proofs.LexerLemmas.{name_and_value-at, name_and_value-without}
use Rattle.std.proofs.lemmas.Bool.Decides.{nat_tests}
use Rattle.std.proofs.lemmas.List.{append_assoc}
use Rattle.std.proofs.lemmas.Option.{none-some}

-- what a long option is, by its name and its value
abbrev pub spelled : Text → Option Text → Text
spelled name None = codes "--" ++ name
spelled name (Some value) = codes "--" ++ name ++ codes "=" ++ value

-- what comes after a first byte c
stripped : (c : ℕ) (word rest : Text) → strip_byte c word ≡ Some rest → word ≡ c ∷ rest
stripped c [] rest e = absurd (none-some _ e)
stripped c (x ∷ xs) rest e = go (x == c) refl e
  where
    go : (t : Bool) → (x == c) ≡ t → cond t (Some xs) None ≡ Some rest → x ∷ xs ≡ c ∷ rest
    go true is h = let x_is : x ≡ c = grind (arith, nat_tests) in cc
    go false is h = absurd (none-some _ h)

-- a text has no `=`, or is cut at its first one
abbrev Cut : Text → Type 0
Cut text = Lacks 61 text ⊎ ((name : Text) × (value : Text) × (text ≡ name ++ 61 ∷ value) × Lacks 61 name)

Lacks-cons : (x : ℕ) (xs : Text) → x ≢ 61 → Lacks 61 xs → Lacks 61 (x ∷ xs)
Lacks-cons x xs ne h k lt = grind arith

cut : (text : Text) → Cut text
cut [] = inl (λ i lt. absurd (omega arith))
cut (x ∷ xs) = go (x == 61) refl (cut xs)
  where
    go : (t : Bool) → (x == 61) ≡ t → Cut xs → Cut (x ∷ xs)
    go true is rest = let x_is : x ≡ 61 = grind (arith, nat_tests) in inr ([], xs, ap (λ y. y ∷ xs) x_is, λ i lt. absurd (omega arith))
    go false is (inl none) = let ne : x ≢ 61 = grind (arith, nat_tests) in inl (Lacks-cons x xs ne none)
    go false is (inr c) = let ne : x ≢ 61 = grind (arith, nat_tests) in inr (x ∷ c.0, c.1, ap (λ ys. x ∷ ys) c.2, Lacks-cons x c.0 ne c.3)

cut_is : (text : Text) (p : Text × Option Text) → Cut text → name_and_value text ≡ p → codes "--" ++ text ≡ spelled p.0 p.1
cut_is text p (inl none) e = ap (λ (q : Text × Option Text). spelled q.0 q.1) (sym (name_and_value-without text none) ∙ e)
cut_is text p (inr c) e =
    let parts : name_and_value text ≡ (c.0, Some c.1) = ap name_and_value c.2 ∙ name_and_value-at c.0 c.1 c.3 in
    let same : (c.0, Some c.1) ≡ p = sym parts ∙ e in
    ap (λ t. codes "--" ++ t) (c.2 ∙ sym (append_assoc c.0 (61 ∷ []) c.1)) ∙ ap (λ (q : Text × Option Text). spelled q.0 q.1) same

-- a word that is a long option is spelled by its name and its value
pub long_is : (word : Text) (p : Text × Option Text) → long_of word ≡ Some p → word ≡ spelled p.0 p.1
long_is word p e = first (strip_byte 45 word) refl e
  where
    third : (rest : Text) → word ≡ 45 ∷ 45 ∷ rest → long_of_rest rest ≡ Some p → word ≡ spelled p.0 p.1
    third [] is h = absurd (none-some _ h)
    third (x ∷ xs) is h = let same : name_and_value (x ∷ xs) ≡ p = cc in is ∙ cut_is (x ∷ xs) p (cut (x ∷ xs)) same

    second : (behind : Text) (o : Option Text) → word ≡ 45 ∷ behind → strip_byte 45 behind ≡ o → option_and_then long_of_rest o ≡ Some p → word ≡ spelled p.0 p.1
    second behind None is got h = absurd (none-some _ h)
    second behind (Some rest) is got h = third rest (is ∙ ap (λ t. 45 ∷ t) (stripped 45 behind rest got)) h

    first : (o : Option Text) → strip_byte 45 word ≡ o → option_and_then long_of_rest (option_and_then (strip_byte 45) o) ≡ Some p → word ≡ spelled p.0 p.1
    first None got h = absurd (none-some _ h)
    first (Some behind) got h = second behind (strip_byte 45 behind) (stripped 45 word behind got) refl h

-- ---- names that `clap` reads back

pub record IsName (long : Text) : Type 0 where
  pub alone : long_of (spelled long None) ≡ Some (long, None)
  pub valued : (value : Text) → long_of (spelled long (Some value)) ≡ Some (long, Some value)

-- ---- words that are not `--`

-- no hyphen begins the text
abbrev pub IsBare : Text → Type 0
IsBare text = strip_byte 45 text ≡ None

-- texts that compare equal are the same
pub same_text : (a b : Text) → bytes_eq a b ≡ true → a ≡ b
same_text a b e = (bytes_eq-Decides a b).0 e

pub same_true : (text : Text) → bytes_eq text text ≡ true
same_true text = (bytes_eq-Decides text text).1 refl

no_dashes : (word : Text) → (word ≡ codes "--" → ⊥) → bytes_eq word (codes "--") ≡ false
no_dashes word differs = go (bytes_eq word (codes "--")) refl
  where
    go : (t : Bool) → bytes_eq word (codes "--") ≡ t → t ≡ false
    go true is = absurd (differs (same_text word (codes "--") is))
    go false is = refl

-- a long option isn't two dashes alone
pub long_has_no_dashes : (word : Text) (p : Text × Option Text) → long_of word ≡ Some p → bytes_eq word (codes "--") ≡ false
long_has_no_dashes word p e = no_dashes word (λ is. let none : long_of word ≡ None = ap long_of is in none-some _ (sym none ∙ e))

-- a word without dashes isn't two dashes
pub bare_has_no_dashes : (word : Text) → IsBare word → bytes_eq word (codes "--") ≡ false
bare_has_no_dashes word e = no_dashes word (λ is. let some : strip_byte 45 word ≡ Some (45 ∷ []) = ap (strip_byte 45) is in none-some _ (sym e ∙ some))
