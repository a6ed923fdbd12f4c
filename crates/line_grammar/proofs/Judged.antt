-- languages that are those of a sound grammar, and what is known of each list of bytes there
use Rattle.std.proofs.Common.{◌≡◌, ℕ, ◌+◌, ◌-◌, true, List, length, Result, Ok, Err, ◌⊎◌, inl, inr, arith}
use Rattle.std.proofs.lemmas.Bool.{and_from}
use Rattle.line_grammar.specs.Columns.{IsColumn}
use Rattle.line_grammar.specs.Grammar.{Grammar, either, Parts, first, second, Spells}
use Rattle.line_grammar.specs.inside.Reading.{read}
use Rattle.line_grammar.specs.inside.Soundness.{is_sound}
use Rattle.line_grammar.proofs.Forms.{Texts, IsText, texts_alike}
use Rattle.line_grammar.proofs.Grammars.{choice_back, reads}
use Rattle.line_grammar.proofs.Stops.{Reads, IsChoice, IsAlike, Stops-alike, left_le, IsColumn-stops}

-- the lines of a language are those of a sound grammar
pub record HasGrammar {W : Type 0} (L : W → List ℕ → Type 0) : Type 0 where
  pub grammar : Grammar
  pub sound : is_sound grammar ≡ true
  pub alike : IsAlike (Spells grammar) L

-- each list of bytes is a line, or has a column
abbrev pub IsJudged : {W : Type 0} → (W → List ℕ → Type 0) → Type 0
IsJudged {W} L = (text : List ℕ) → ((w : W) × L w text) ⊎ ((n : ℕ) × IsColumn L text n)

judged_so : {W : Type 0} (L : W → List ℕ → Type 0) (G : Grammar) (text : List ℕ) (r : Result Parts ℕ) → IsAlike (Spells G) L → Reads (Spells G) text r
    → ((w : W) × L w text) ⊎ ((n : ℕ) × IsColumn L text n)
judged_so L G text (Ok parts) same h = inl (same.to parts text h)
judged_so L G text (Err left) same h =
    let stops = Stops-alike (Spells G) L text left same h in
    inr (length text + 1 - left, IsColumn-stops L text left (length text + 1 - left) stops (omega (arith, left_le L text left stops)))

pub judged : {W : Type 0} (L : W → List ℕ → Type 0) → HasGrammar L → IsJudged L
judged L g text = judged_so L g.grammar text (read g.grammar text) g.alike (reads g.grammar text g.sound)

-- ---- how languages are made of others

pub of_grammar : (G : Grammar) → is_sound G ≡ true → HasGrammar (Spells G)
of_grammar G sound = record { grammar = G; sound = sound; alike = record { to = λ v bytes h. (v, h); back = λ w bytes h. (w, h) } }

pub of_alike : {V W : Type 0} (L : V → List ℕ → Type 0) (M : W → List ℕ → Type 0) → IsAlike L M → HasGrammar L → HasGrammar M
of_alike L M same g = grind arith

module _ {U V W : Type 0} (L : U → List ℕ → Type 0) (M : V → List ℕ → Type 0) (N : W → List ℕ → Type 0) (both : IsChoice L M N) (l : HasGrammar L) (m : HasGrammar M) where
  either_to : (parts : Parts) (bytes : List ℕ) → Spells (either l.grammar m.grammar) parts bytes → (w : W) × N w bytes
  either_to parts bytes h =
      elim (choice_back l.grammar m.grammar parts bytes h) [
        | inl k ↦ (let u = l.alike.to k.0 bytes k.1 in both.left u.0 bytes u.1)
        | inr k ↦ (let v = m.alike.to k.0 bytes k.1 in both.right v.0 bytes v.1)
      ]

  either_back : (w : W) (bytes : List ℕ) → N w bytes → (parts : Parts) × Spells (either l.grammar m.grammar) parts bytes
  either_back w bytes h =
      elim (both.back w bytes h) [
        | inl u ↦ (let k = l.alike.back u.0 bytes u.1 in (first k.0, k.1))
        | inr v ↦ (let k = m.alike.back v.0 bytes v.1 in (second k.0, k.1))
      ]

  pub of_choice : HasGrammar N
  of_choice = record {
    grammar = either l.grammar m.grammar;
    sound = and_from (is_sound l.grammar) (is_sound m.grammar) l.sound m.sound;
    alike = record { to = either_to; back = either_back };
  }

pub of_texts : {V : Type 0} {G : Grammar} {Lawful : V → Type 0} {parts : V → Parts} {text : V → List ℕ} → Texts G Lawful parts text → HasGrammar (IsText Lawful text)
of_texts {G = G} t = record { grammar = G; sound = t.sound; alike = texts_alike t }
