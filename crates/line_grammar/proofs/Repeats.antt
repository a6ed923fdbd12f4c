-- parts that a line has any number of times
use Rattle.std.proofs.Common.{◌≡◌, ℕ, suc, ◌+◌, ◌-◌, ◌≤◌, ◌<◌, max, true, List, ◌∷◌, ◌++◌, length, codes, Result, Err, ◌∙◌, ap, subst, arith}
use Rattle.line_grammar.specs.Columns.{Begins, IsColumn}
use Rattle.line_grammar.specs.Grammar.{Grammar, word, Parts, second, Spells}
use Rattle.line_grammar.specs.Repeats.{repeated, SpellsSome, Grow}
use Rattle.line_grammar.specs.inside.Soundness.{is_sound}
use Rattle.line_grammar.specs.inside.Reading.{ended, named, further, read}
use Rattle.line_grammar.proofs.Stops.{Stops, Reads, left_le, IsColumn-stops}
use Rattle.line_grammar.proofs.Grammars.{reads}

-- a language without end: what one grammar spells is a line of it, and a line of it is spelled by all that are large
-- enough
pub record IsLimit {W : Type 0} (G : ℕ → Grammar) (L : W → List ℕ → Type 0) : Type 0 where
  pub to : (n : ℕ) (parts : Parts) (bytes : List ℕ) → Spells (G n) parts bytes → (w : W) × L w bytes
  pub back : (w : W) (bytes : List ℕ) → L w bytes → (m : ℕ) × ((n : ℕ) → m ≤ n → (parts : Parts) × Spells (G n) parts bytes)

-- all grammars that are large enough stop there
pub StopFrom : (ℕ → Grammar) → ℕ → List ℕ → ℕ → Type 0
StopFrom G least bytes left = (n : ℕ) → least ≤ n → Stops (Spells (G n)) bytes left

limit_past : {W : Type 0} (G : ℕ → Grammar) (L : W → List ℕ → Type 0) (least : ℕ) (bytes : List ℕ) (left : ℕ) → IsLimit G L → StopFrom G least bytes left
    → (p q : List ℕ) → bytes ≡ p ++ q → length q < left → Begins L p → ⊥
unfolding StopFrom
limit_past G L least bytes left limit stops p q e short b =
    let m = limit.back b.value (p ++ b.rest) b.whole in
    let n = max least m.0 in
    let parts = m.1 n (omega arith) in
    (stops n (omega arith)).past p q e short (record { value = parts.0; rest = b.rest; whole = parts.1 })

limit_none : {W : Type 0} (G : ℕ → Grammar) (L : W → List ℕ → Type 0) (least : ℕ) (bytes : List ℕ) (left : ℕ) → IsLimit G L → StopFrom G least bytes left
    → (w : W) → L w bytes → ⊥
unfolding StopFrom
limit_none G L least bytes left limit stops w h =
    let m = limit.back w bytes h in
    let n = max least m.0 in
    let parts = m.1 n (omega arith) in
    (stops n (omega arith)).none parts.0 parts.1

-- and so does the language
pub Stops-limit : {W : Type 0} (G : ℕ → Grammar) (L : W → List ℕ → Type 0) (least : ℕ) (bytes : List ℕ) (left : ℕ) → IsLimit G L → StopFrom G least bytes left → Stops L bytes left
unfolding StopFrom
Stops-limit G L least bytes left limit stops =
    let s = stops least (omega arith) in
    let b = limit.to least s.begins.value (s.front ++ s.begins.rest) s.begins.whole in
    record {
      front = s.front;
      back = s.back;
      list = s.list;
      left_is = s.left_is;
      begins = record { value = b.0; rest = s.begins.rest; whole = b.1 };
      past = limit_past G L least bytes left limit stops;
      none = limit_none G L least bytes left limit stops;
    }

-- where a reader stops, the grammar stops
pub read_stops : (G : Grammar) (bytes : List ℕ) (left : ℕ) → is_sound G ≡ true → read G bytes ≡ Err left → Stops (Spells G) bytes left
read_stops G bytes left sound e = subst (λ (r : Result Parts ℕ). Reads (Spells G) bytes r) e (reads G bytes sound)

pub reads_stop : (G : ℕ → Grammar) (least : ℕ) (bytes : List ℕ) (left : ℕ) → ((n : ℕ) → is_sound (G n) ≡ true) → ((n : ℕ) → least ≤ n → read (G n) bytes ≡ Err left) → StopFrom G least bytes left
unfolding StopFrom
reads_stop G least bytes left sound e n large = read_stops (G n) bytes left (sound n) (e n large)

-- grammars that grow have such a language
some_back : (G : ℕ → Grammar) (parts : Parts) (bytes : List ℕ) → Grow G → SpellsSome G parts bytes → (m : ℕ) × ((n : ℕ) → m ≤ n → (others : Parts) × Spells (G n) others bytes)
some_back G parts bytes grow h = (h.0, λ n large. grow h.0 n parts bytes large h.1)

pub grown_limit : (G : ℕ → Grammar) → Grow G → IsLimit G (SpellsSome G)
grown_limit G grow = record {
  to = λ n parts bytes h. (parts, (n, h));
  back = λ parts bytes h. some_back G parts bytes grow h;
}

pub grown_column : (G : ℕ → Grammar) (least : ℕ) (bytes : List ℕ) (left : ℕ) → Grow G → ((n : ℕ) → is_sound (G n) ≡ true) → ((n : ℕ) → least ≤ n → read (G n) bytes ≡ Err left)
    → IsColumn (SpellsSome G) bytes (length bytes + 1 - left)
grown_column G least bytes left grow sound e =
    let s = Stops-limit G (SpellsSome G) least bytes left (grown_limit G grow) (reads_stop G least bytes left sound e) in
    IsColumn-stops (SpellsSome G) bytes left (length bytes + 1 - left) s (omega (arith, left_le (SpellsSome G) bytes left s))

further_missed : (all left : ℕ) → left ≤ all → further {A = Parts} (Err all) (Err left) ≡ Err left
further_missed all left h = ap (λ (k : ℕ). Err k) (omega arith)

pub read_one_less : (item : Grammar → Grammar) (n b left : ℕ) (bytes : List ℕ) → read (word (codes " ") (item (repeated item n))) (b ∷ bytes) ≡ Err left → left ≤ suc (length bytes)
    → read (repeated item (suc n)) (b ∷ bytes) ≡ Err left
unfolding read ended
read_one_less item n b left bytes e few =
    ap (λ (r : Result Parts ℕ). further (Err (suc (length bytes))) (named second r)) e ∙ further_missed (suc (length bytes)) left few
