-- The laws of languages whose words can be distinguished while they are read.
use Rattle.std.proofs.Common.{◌≡◌, ℕ, Bool, true, false, List, [], ◌∷◌, ◌++◌, refl, sym, ◌∙◌, ap, subst, append_assoc, append-nil}
use Rattle.symbol_reader.specs.inside.Languages.{One, Only, Then, Choice}

-- the language has a word, and two words that begin one list are the same word of the same value
pub record Good {V : Type 0} (language : V → List ℕ → Type 0) : Type 0 where
  pub value : V
  pub text : List ℕ
  pub word : language value text
  pub one : (v u : V) (a b r s : List ℕ) → language v a → language u b → a ++ r ≡ b ++ s → (v ≡ u) × (a ≡ b) × (r ≡ s)

-- two languages with the same words of the same values
pub record Alike {V : Type 0} (first second : V → List ℕ → Type 0) : Type 0 where
  pub to : (v : V) (word : List ℕ) → first v word → second v word
  pub back : (v : V) (word : List ℕ) → second v word → first v word

-- one symbol of a set that has one
pub one_good : (allows : ℕ → Type 0) (example : ℕ) → allows example → Good (One allows)
one_good allows example h = record {
  value = example;
  text = example ∷ [];
  word = record { allowed = h; list = refl };
  one = λ v u a b r s p q e.
      let pe : a ≡ v ∷ [] = p.list in
      let qe : b ≡ u ∷ [] = q.list in
      let f : v ∷ r ≡ u ∷ s = ap (λ l. l ++ r) (sym pe) ∙ e ∙ ap (λ l. l ++ s) qe in
      let k : v ≡ u = cc in
      let m : r ≡ s = cc in
      (k, pe ∙ ap (λ x. x ∷ []) k ∙ sym qe, m);
}

-- a value that takes no symbol
pub only_good : {V : Type 0} (it : V) → Good (Only it)
only_good it = record {
  value = it;
  text = [];
  word = record { value = refl; list = refl };
  one = λ v u a b r s p q e.
      let pe : a ≡ [] = p.list in
      let qe : b ≡ [] = q.list in
      (p.value ∙ sym q.value, pe ∙ sym qe, ap (λ l. l ++ r) (sym pe) ∙ e ∙ ap (λ l. l ++ s) qe);
}

-- one of two good languages, by a test
pub choice_good : {V : Type 0} (test : Bool) (first second : V → List ℕ → Type 0)
    → (test ≡ true → Good first) → (test ≡ false → Good second) → Good (Choice test first second)
choice_good true first second g h = let good = g refl in record {
  value = good.value;
  text = good.text;
  word = record { yes = λ _. good.word; no = λ (e : true ≡ false). absurd (cc) };
  one = λ v u a b r s p q e. good.one v u a b r s (p.yes refl) (q.yes refl) e;
}
choice_good false first second g h = let good = h refl in record {
  value = good.value;
  text = good.text;
  word = record { yes = λ (e : false ≡ true). absurd (cc); no = λ _. good.word };
  one = λ v u a b r s p q e. good.one v u a b r s (p.no refl) (q.no refl) e;
}

-- a good language, and after each of its words another
pub then_good : {U V : Type 0} (first : U → List ℕ → Type 0) (second : U → V → List ℕ → Type 0)
    → Good first → ((u : U) (front : List ℕ) → first u front → Good (second u)) → Good (Then first second)
then_good first second g h =
    let next = h g.value g.text g.word in
    record {
      value = next.value;
      text = g.text ++ next.text;
      word = record { chosen = g.value; front = g.text; back = next.text; before = g.word; after = next.word; list = refl };
      one = λ v u a b r s p q e.
          let pe : a ≡ p.front ++ p.back = p.list in
          let qe : b ≡ q.front ++ q.back = q.list in
          let f : p.front ++ (p.back ++ r) ≡ q.front ++ (q.back ++ s) =
          sym (append_assoc p.front p.back r) ∙ ap (λ l. l ++ r) (sym pe) ∙ e ∙ ap (λ l. l ++ s) qe ∙ append_assoc q.front q.back s in
          let k = g.one p.chosen q.chosen p.front q.front (p.back ++ r) (q.back ++ s) p.before q.before f in
          let after = subst (λ x. second x u q.back) (sym k.0) q.after in
          let m = (h p.chosen p.front p.before).one v u p.back q.back r s p.after after k.2 in
          let k1 : p.front ≡ q.front = k.1 in
          let m1 : p.back ≡ q.back = m.1 in
          (m.0, pe ∙ ap (λ l. l ++ p.back) k1 ∙ ap (λ l. q.front ++ l) m1 ∙ sym qe, m.2);
    }

-- a language alike a good one is good
pub alike_good : {V : Type 0} (first second : V → List ℕ → Type 0) → Alike first second → Good first → Good second
alike_good first second same g = record {
  value = g.value;
  text = g.text;
  word = same.to g.value g.text g.word;
  one = λ v u a b r s p q e. g.one v u a b r s (same.back v a p) (same.back u b q) e;
}

-- no word goes on after its end
pub no_word_goes_on : {V : Type 0} (language : V → List ℕ → Type 0) → Good language → (v u : V) (word : List ℕ) (next : ℕ) (rest : List ℕ)
    → language v word → language u (word ++ (next ∷ rest)) → ⊥
no_word_goes_on language g v u word next rest p q =
    let k = g.one v u word (word ++ (next ∷ rest)) (next ∷ rest) [] p q (sym (append-nil (word ++ (next ∷ rest)))) in
    let m : next ∷ rest ≡ [] = k.2 in
    cc
