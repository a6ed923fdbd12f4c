-- tokens are read as far as they go
use Rattle.std.proofs.Common.{◌≡◌, ℕ, true, ◌==◌, List, [], ◌∷◌, ◌++◌, refl, subst}
use Rattle.std.specs.List.{prefix_len, list_all}
use Rattle.std.proofs.lemmas.Bool.{leb-true}
use Rattle.line_grammar.specs.Tokens.{Token, run, free_number, shaped, is_one_of, is_digit, IsToken}
use Rattle.line_grammar.specs.inside.Soundness.{shape_may_have, may_have, is_some_token}
use Rattle.line_grammar.specs.inside.Reading.{read_token}
use Rattle.line_grammar.proofs.Tokens.{TokenReads, all_have, some_run, run_reads}
use Rattle.line_grammar.proofs.Numbers.{some_number, number_reads}
use Rattle.line_grammar.proofs.Shapes.{shape_has, no_shape, some_shape, shape_reads}

-- each byte of a token is one that it may have
pub has : (token : Token) (front a b : List ℕ) (y : ℕ) → IsToken token front → front ≡ a ++ (y ∷ b) → may_have token y ≡ true
has (run signs) front a b y h e = all_have (is_one_of signs) a b y (subst (λ (l : List ℕ). list_all (is_one_of signs) l ≡ true) e h.1)
has (free_number least most) front a b y h e = all_have is_digit a b y (subst (λ (l : List ℕ). list_all is_digit l ≡ true) e h.digits)
has (shaped shape) front a b y h e = all_have (shape_may_have shape) a b y (subst (λ (l : List ℕ). list_all (shape_may_have shape) l ≡ true) e (shape_has shape front h))

-- a token has a byte, and begins with one that it may have
not_nothing : (token : Token) → is_some_token token ≡ true → IsToken token [] → ⊥
not_nothing (run signs) some h = h.0 refl
not_nothing (free_number least most) some h = h.leading
not_nothing (shaped shape) some h = no_shape shape some h

pub no_token : (token : Token) (front back : List ℕ) → is_some_token token ≡ true → IsToken token front → [] ≡ front ++ back → ⊥
no_token token [] back some h e = not_nothing token some h
no_token token (y ∷ front) back some h e = absurd (cc)

pub some_byte : (token : Token) (front back : List ℕ) (c : ℕ) (s : List ℕ) → is_some_token token ≡ true → IsToken token front → c ∷ s ≡ front ++ back → may_have token c ≡ true
some_byte token [] back c s some h e = absurd (not_nothing token some h)
some_byte token (y ∷ front) back c s some h e =
    let same : y ≡ c = cc in
    subst (λ (b : ℕ). may_have token b ≡ true) same (has token (y ∷ front) [] front y h refl)

pub some_token : (token : Token) → is_some_token token ≡ true → (bytes : List ℕ) × IsToken token bytes
some_token (run signs) h = some_run signs h
some_token (free_number least most) h = some_number least most (leb-true least most h)
some_token (shaped shape) h = some_shape shape h

-- a token is read as far as it goes
pub token_reads : (token : Token) (bytes : List ℕ) → is_some_token token ≡ true → TokenReads token bytes (read_token token bytes)
unfolding read_token
token_reads (run signs) bytes some = run_reads signs bytes (prefix_len (is_one_of signs) bytes == 0) some refl
token_reads (free_number least most) bytes some = number_reads least most bytes (leb-true least most some)
token_reads (shaped shape) bytes some = shape_reads shape bytes some
