-- tokens are read as far as they go
use Rattle.std.proofs.Common.{◌≡◌, ◌≢◌, ℕ, ◌+◌, ◌<◌, Bool, true, false, ◌==◌, cond, if◌then◌else◌, List, [], ◌∷◌, ◌++◌, length, take, drop, Result, Ok, Err, refl, sym, ◌∙◌, ap, subst, arith}
use Rattle.std.specs.List.{prefix_len, list_all}
use Rattle.std.proofs.lemmas.Bool.{eqb-true, eqb-false, eq-eqb, and_parts, and_from, or_left}
use Rattle.std.proofs.lemmas.List.{take-append-drop}
use Rattle.std.proofs.lemmas.List.Folds.{length-prefix_len}
use Rattle.line_grammar.specs.Tokens.{Token, run, is_one_of, IsToken}
use Rattle.line_grammar.specs.inside.Soundness.{is_some_token}

-- a token was read, and can't be longer
pub record Munches (token : Token) (bytes front back : List ℕ) : Type 0 where
  pub list : bytes ≡ front ++ back
  pub is_token : IsToken token front
  pub longer : (x : ℕ) (rest more : List ℕ) → back ≡ x ∷ rest → IsToken token (front ++ (x ∷ more)) → ⊥

-- no token is there, and this many bytes are left where none goes on
pub record Misses (token : Token) (bytes : List ℕ) (left : ℕ) : Type 0 where
  pub front : List ℕ
  pub back : List ℕ
  pub list : bytes ≡ front ++ back
  pub left_is : length back ≡ left
  pub begins : (rest : List ℕ) × IsToken token (front ++ rest)
  pub past : (p q rest : List ℕ) → bytes ≡ p ++ q → length q < left → IsToken token (p ++ rest) → ⊥
  pub none : (a s : List ℕ) → bytes ≡ a ++ s → IsToken token a → ⊥

-- what a token's reader has to answer
abbrev pub TokenReads : (token : Token) (bytes : List ℕ) → Result (List ℕ × List ℕ) ℕ → Type 0
TokenReads token bytes (Ok (front, back)) = Munches token bytes front back
TokenReads token bytes (Err left) = Misses token bytes left

-- each byte of a token is one that it may have
pub all_have : (p : ℕ → Bool) (a b : List ℕ) (y : ℕ) → list_all p (a ++ (y ∷ b)) ≡ true → p y ≡ true
all_have p [] b y h = (and_parts (p y) (list_all p b) h).0
all_have p (x ∷ a) b y h = all_have p a b y (and_parts (p x) (list_all p (a ++ (y ∷ b))) h).1

all_step : (p : ℕ → Bool) (x n : ℕ) (xs : List ℕ) (b : Bool) → p x ≡ b → list_all p (take n xs) ≡ true → list_all p (take (cond b (1 + n) 0) (x ∷ xs)) ≡ true
all_step p x n xs b e h = grind arith

pub all_run : (p : ℕ → Bool) (xs : List ℕ) → list_all p (take (prefix_len p xs) xs) ≡ true
all_run p [] = refl
all_run p (x ∷ xs) = all_step p x (prefix_len p xs) xs (p x) refl (all_run p xs)

stop_step : (p : ℕ → Bool) (x n : ℕ) (xs : List ℕ) (b : Bool) (y : ℕ) (rest : List ℕ) → p x ≡ b → (drop n xs ≡ y ∷ rest → p y ≡ false) → drop (cond b (1 + n) 0) (x ∷ xs) ≡ y ∷ rest → p y ≡ false
stop_step p x n xs b y rest e h k = grind arith

stop_run : (p : ℕ → Bool) (xs : List ℕ) (y : ℕ) (rest : List ℕ) → drop (prefix_len p xs) xs ≡ y ∷ rest → p y ≡ false
stop_run p [] y rest k = absurd (cc)
stop_run p (x ∷ xs) y rest k = stop_step p x (prefix_len p xs) xs (p x) y rest refl (stop_run p xs y rest) k

no_run : (p : ℕ → Bool) (x : ℕ) (xs : List ℕ) → prefix_len p (x ∷ xs) ≡ 0 → p x ≡ false
no_run p x xs h = stop_run p (x ∷ xs) x xs (ap (λ (n : ℕ). drop n (x ∷ xs)) h)

misses_past : (signs bytes : List ℕ) → prefix_len (is_one_of signs) bytes ≡ 0 → (p q rest : List ℕ) → bytes ≡ p ++ q → length q < length bytes → IsToken (run signs) (p ++ rest) → ⊥
misses_past signs bytes zero [] q rest e short h = omega (arith, ap length e)
misses_past signs bytes zero (x ∷ p) q rest e short h =
    let no = no_run (is_one_of signs) x (p ++ q) (subst (λ (l : List ℕ). prefix_len (is_one_of signs) l ≡ 0) e zero) in
    let yes = (and_parts (is_one_of signs x) (list_all (is_one_of signs) (p ++ rest)) h.1).0 in
    absurd (cc)

misses_none : (signs bytes : List ℕ) → prefix_len (is_one_of signs) bytes ≡ 0 → (a s : List ℕ) → bytes ≡ a ++ s → IsToken (run signs) a → ⊥
misses_none signs bytes zero [] s e h = h.0 refl
misses_none signs bytes zero (x ∷ a) s e h =
    let no = no_run (is_one_of signs) x (a ++ s) (subst (λ (l : List ℕ). prefix_len (is_one_of signs) l ≡ 0) e zero) in
    let yes = (and_parts (is_one_of signs x) (list_all (is_one_of signs) a) h.1).0 in
    absurd (cc)

pub some_run : (signs : List ℕ) → is_some_token (run signs) ≡ true → (bytes : List ℕ) × IsToken (run signs) bytes
some_run [] h = absurd (cc)
some_run (c ∷ signs) h =
    (c ∷ [], (λ (e : c ∷ [] ≡ []). absurd (cc), and_from (is_one_of (c ∷ signs) c) true (or_left (c == c) (is_one_of signs c) (eq-eqb c c refl)) refl))

some_taken : (p : ℕ → Bool) (bytes : List ℕ) → (prefix_len p bytes ≡ 0 → ⊥) → take (prefix_len p bytes) bytes ≢ []
some_taken p bytes h e = h (sym (length-prefix_len p bytes) ∙ ap length e)

-- the answer for a run, by whether it has a sign
pub run_reads : (signs bytes : List ℕ) (b : Bool) → is_some_token (run signs) ≡ true → (prefix_len (is_one_of signs) bytes == 0) ≡ b
    → TokenReads (run signs) bytes (if b then Err (length bytes) else Ok (take (prefix_len (is_one_of signs) bytes) bytes, drop (prefix_len (is_one_of signs) bytes) bytes))
run_reads signs bytes true some e =
    let zero = eqb-true (prefix_len (is_one_of signs) bytes) 0 e in
    record {
      front = [];
      back = bytes;
      list = refl;
      left_is = refl;
      begins = some_run signs some;
      past = misses_past signs bytes zero;
      none = misses_none signs bytes zero;
    }
run_reads signs bytes false some e =
    let p = is_one_of signs in
    let n = prefix_len p bytes in
    record {
      list = sym (take-append-drop n bytes);
      is_token = (some_taken p bytes (eqb-false n 0 e), all_run p bytes);
      longer = λ x rest more k h.
          let no = stop_run p bytes x rest k in
          let yes = all_have p (take n bytes) more x h.1 in
          absurd (cc);
    }
