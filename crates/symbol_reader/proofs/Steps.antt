-- How the reading of a language follows from the reading of its parts.
use Rattle.std.proofs.Common.{◌≡◌, ℕ, IsErrAnd, inl, inr, Bool, true, false, List, [], ◌∷◌, ◌++◌, length, Result, Ok, Err, refl, sym, ◌∙◌, ap, subst, append_assoc, append-nil, length-append, arith, ◌-◌}
use Rattle.plain_laws.proofs.Lists.{split}
use Rattle.symbol_reader.specs.declared.letters.Letter.{Letter}
use Rattle.symbol_reader.specs.declared.reading.Stop.{Stop}
use Rattle.symbol_reader.specs.declared.reading.Stop.TheVariants.{Short, Outside}
use Rattle.symbol_reader.specs.Letters.{Allows}
use Rattle.symbol_reader.specs.inside.Languages.{One, Only, Then, Choice, Spelled}
use Rattle.symbol_reader.specs.inside.Reading.{Begins, Wants, Took, Outcome, Reads}
use Rattle.symbol_reader.proofs.Examples.{example_of, Allows-example}
use Rattle.symbol_reader.proofs.Laws.{Good, Alike, no_word_goes_on, one_good, only_good, then_good, alike_good}

-- each letter is a good language
pub letter_good : (letter : Letter) → Good (One (Allows letter))
letter_good letter = one_good (Allows letter) (example_of letter) (Allows-example letter)

-- at the end of the list a symbol is wanted
pub symbol_short : (letter : Letter) (l : List ℕ) → length l ≡ 0 → Reads (One (Allows letter)) l (Err Short) l
symbol_short letter [] h = record {
  outcome = record {
    wants = record { value = example_of letter; next = example_of letter; rest = []; word = record { allowed = Allows-example letter; list = refl } };
    none_left = refl;
  };
}
symbol_short letter (x ∷ l) h = absurd (omega arith)

-- a symbol outside the set, where one of the set is wanted
pub symbol_outside : (letter : Letter) (l : List ℕ) (x : ℕ) (rest : List ℕ) → l ≡ x ∷ rest → (Allows letter x → ⊥)
    → Reads (One (Allows letter)) l (Err Outside) l
symbol_outside letter l x rest e h = record {
  outcome = record {
    front = [];
    next = x;
    rest = rest;
    list = e;
    left = e;
    wants = record { value = example_of letter; next = example_of letter; rest = []; word = record { allowed = Allows-example letter; list = refl } };
    never = λ (b : Begins (One (Allows letter)) (x ∷ [])).
        let k : x ∷ b.rest ≡ b.value ∷ [] = b.word.list in
        let m : b.value ≡ x = cc in
        h (subst (Allows letter) m b.word.allowed);
  };
}

-- nothing is read of a value that takes no symbol
pub only_read : {V : Type 0} (it : V) (l : List ℕ) → Reads (Only it) l (Ok it) l
only_read it l = record { outcome = record { front = []; word = record { value = refl; list = refl }; list = refl } }

-- the same words are read alike
Wants-alike : {V : Type 0} (first second : V → List ℕ → Type 0) → Alike first second → (l : List ℕ) → Wants first l → Wants second l
Wants-alike first second same l w = record { value = w.value; next = w.next; rest = w.rest; word = same.to w.value (l ++ (w.next ∷ w.rest)) w.word }

Outcome-alike : {V : Type 0} (first second : V → List ℕ → Type 0) → Alike first second → (old new : List ℕ) (r : Result V Stop)
    → Outcome first old r new → Outcome second old r new
Outcome-alike first second same old new (Ok v) o = record { front = o.front; word = same.to v o.front o.word; list = o.list }
Outcome-alike first second same old new (Err Short) o = record { wants = Wants-alike first second same old o.wants; none_left = o.none_left }
Outcome-alike first second same old new (Err Outside) o = record {
  front = o.front;
  next = o.next;
  rest = o.rest;
  list = o.list;
  left = o.left;
  wants = Wants-alike first second same o.front o.wants;
  never = λ b. o.never (record { value = b.value; rest = b.rest; word = same.back b.value ((o.front ++ (o.next ∷ [])) ++ b.rest) b.word });
}

-- what is read of one language is read of one alike
pub alike : {V : Type 0} {first second : V → List ℕ → Type 0} {old new : List ℕ} {r : Result V Stop}
    → Alike first second → Reads first old r new → Reads second old r new
alike {first = first} {second = second} {old = old} {new = new} {r = r} same h = record { outcome = Outcome-alike first second same old new r h.outcome }

-- what the second part wants after a word of the first, the sequence wants
Wants-next : {U V : Type 0} (first : U → List ℕ → Type 0) (second : U → V → List ℕ → Type 0) (u : U) (front l : List ℕ)
    → first u front → Wants (second u) l → Wants (Then first second) (front ++ l)
Wants-next first second u front l p w = record {
  value = w.value;
  next = w.next;
  rest = w.rest;
  word = record {
    chosen = u;
    front = front;
    back = l ++ (w.next ∷ w.rest);
    before = p;
    after = w.word;
    list = append_assoc front l (w.next ∷ w.rest);
  };
}

-- what the first part wants, the sequence wants
Wants-first : {U V : Type 0} (first : U → List ℕ → Type 0) (second : U → V → List ℕ → Type 0) (l : List ℕ)
    → ((u : U) (front : List ℕ) → first u front → Good (second u)) → Wants first l → Wants (Then first second) l
Wants-first first second l h w =
    let good = h w.value (l ++ (w.next ∷ w.rest)) w.word in
    record {
      value = good.value;
      next = w.next;
      rest = w.rest ++ good.text;
      word = record {
        chosen = w.value;
        front = l ++ (w.next ∷ w.rest);
        back = good.text;
        before = w.word;
        after = good.word;
        list = sym (append_assoc l (w.next ∷ w.rest) good.text);
      };
    }

-- where the sequence begins with a word of the first part and more, the second part begins with this more
Begins-next : {U V : Type 0} (first : U → List ℕ → Type 0) (second : U → V → List ℕ → Type 0) (u : U) (front l : List ℕ)
    → Good first → first u front → Begins (Then first second) (front ++ l) → Begins (second u) l
Begins-next first second u front l g p b =
    let w = b.word in
    let e : w.front ++ w.back ≡ front ++ (l ++ b.rest) = sym w.list ∙ append_assoc front l b.rest in
    let k = g.one w.chosen u w.front front w.back (l ++ b.rest) w.before p e in
    let k2 : w.back ≡ l ++ b.rest = k.2 in
    let step = subst (λ x. second x b.value w.back) k.0 w.after in
    record { value = b.value; rest = b.rest; word = subst (λ x. second u b.value x) k2 step }

nothing_fits : (x y : ℕ) (s t : List ℕ) → x ∷ [] ≡ s ++ (y ∷ t) → s ≡ []
nothing_fits x y [] t e = refl
nothing_fits x y (z ∷ s) t e =
    let k : length (x ∷ []) ≡ length (z ∷ (s ++ (y ∷ t))) = ap length e in
    absurd (omega (arith, length-append s (y ∷ t)))

-- a word that ends within what the language wants a symbol after is none
pub shorter : {U : Type 0} (first : U → List ℕ → Type 0) (u : U) (word front : List ℕ) (x y : ℕ) (t : List ℕ)
    → Good first → first u word → Wants first front → front ++ (x ∷ []) ≡ word ++ (y ∷ t) → ⊥
shorter first u word front x y t g p wants e =
    elim (split word (y ∷ t) front (x ∷ []) (sym e)) [
      | inl h ↦ (
          let none : h.0 ≡ [] = nothing_fits x y h.0 t h.2 in
          let same : word ≡ front = h.1 ∙ ap (λ l. front ++ l) none ∙ append-nil front in
          no_word_goes_on first g u wants.value front wants.next wants.rest (subst (first u) same p) wants.word)
      | inr h ↦ (
          let whole : front ++ (wants.next ∷ wants.rest) ≡ word ++ (h.0 ∷ (h.1 ++ (wants.next ∷ wants.rest))) =
          ap (λ l. l ++ (wants.next ∷ wants.rest)) h.2 ∙ append_assoc word (h.0 ∷ h.1) (wants.next ∷ wants.rest) in
          no_word_goes_on first g u wants.value word h.0 (h.1 ++ (wants.next ∷ wants.rest)) p (subst (first wants.value) whole wants.word))
    ]

-- where the first part can't begin so after what it wants, the sequence can't
Begins-first : {U V : Type 0} (first : U → List ℕ → Type 0) (second : U → V → List ℕ → Type 0) (front : List ℕ) (x : ℕ)
    → Good first → Wants first front → (Begins first (front ++ (x ∷ [])) → ⊥) → Begins (Then first second) (front ++ (x ∷ [])) → ⊥
Begins-first first second front x g wants never b =
    let w = b.word in
    let e : w.front ++ w.back ≡ (front ++ (x ∷ [])) ++ b.rest = sym w.list in
    elim (split w.front w.back (front ++ (x ∷ [])) b.rest e) [
      | inl h ↦ never (record { value = w.chosen; rest = h.0; word = subst (first w.chosen) h.1 w.before })
      | inr h ↦ shorter first w.chosen w.front front x h.0 h.1 g w.before wants h.2
    ]

-- reading goes on with the second part after a word of the first
Outcome-next : {U V : Type 0} (first : U → List ℕ → Type 0) (second : U → V → List ℕ → Type 0) (u : U) (old mid new : List ℕ) (r : Result V Stop)
    → Good first → Took first u old mid → Outcome (second u) mid r new → Outcome (Then first second) old r new
Outcome-next first second u old mid new (Ok v) g took o = record {
  front = took.front ++ o.front;
  word = record { chosen = u; front = took.front; back = o.front; before = took.word; after = o.word; list = refl };
  list = (let k : old ≡ took.front ++ mid = took.list in let m : mid ≡ o.front ++ new = o.list in
      k ∙ ap (λ l. took.front ++ l) m ∙ sym (append_assoc took.front o.front new));
}
Outcome-next first second u old mid new (Err Short) g took o = record {
  wants = (let k : old ≡ took.front ++ mid = took.list in
      subst (Wants (Then first second)) (sym k) (Wants-next first second u took.front mid took.word o.wants));
  none_left = o.none_left;
}
Outcome-next first second u old mid new (Err Outside) g took o = record {
  front = took.front ++ o.front;
  next = o.next;
  rest = o.rest;
  list = (let k : old ≡ took.front ++ mid = took.list in let m : mid ≡ o.front ++ (o.next ∷ o.rest) = o.list in
      k ∙ ap (λ l. took.front ++ l) m ∙ sym (append_assoc took.front o.front (o.next ∷ o.rest)));
  left = o.left;
  wants = Wants-next first second u took.front o.front took.word o.wants;
  never = λ b. o.never (Begins-next first second u took.front (o.front ++ (o.next ∷ [])) g took.word
      (subst (Begins (Then first second)) (append_assoc took.front o.front (o.next ∷ [])) b));
}

-- the first part was read: the sequence is read as its second part is
pub next : {U V : Type 0} {first : U → List ℕ → Type 0} {second : U → V → List ℕ → Type 0} {u : U} {old mid new : List ℕ} {r : Result V Stop}
    → Good first → Reads first old (Ok u) mid → Reads (second u) mid r new → Reads (Then first second) old r new
next {first = first} {second = second} {u = u} {old = old} {mid = mid} {new = new} {r = r} g p q =
    record { outcome = Outcome-next first second u old mid new r g p.outcome q.outcome }

-- the first part's refusal is the sequence's
Outcome-stop : {U V : Type 0} (first : U → List ℕ → Type 0) (second : U → V → List ℕ → Type 0) (old new : List ℕ) (stop : Stop)
    → Good first → ((u : U) (front : List ℕ) → first u front → Good (second u))
    → Outcome first old (Err stop) new → Outcome (Then first second) old (Err stop) new
Outcome-stop first second old new Short g h o = record { wants = Wants-first first second old h o.wants; none_left = o.none_left }
Outcome-stop first second old new Outside g h o = record {
  front = o.front;
  next = o.next;
  rest = o.rest;
  list = o.list;
  left = o.left;
  wants = Wants-first first second o.front h o.wants;
  never = Begins-first first second o.front o.next g o.wants o.never;
}

-- the first part was refused: so is the sequence
pub stop : {U V : Type 0} {first : U → List ℕ → Type 0} {second : U → V → List ℕ → Type 0} {old new : List ℕ} {why : Stop}
    → Good first → ((u : U) (front : List ℕ) → first u front → Good (second u))
    → Reads first old (Err why) new → Reads (Then first second) old (Err why) new
stop {first = first} {second = second} {old = old} {new = new} {why = why} g h p =
    record { outcome = Outcome-stop first second old new why g h p.outcome }

-- the branch that was taken is the choice
Choice-yes : {V : Type 0} (test : Bool) (first second : V → List ℕ → Type 0) → test ≡ true → Alike first (Choice test first second)
Choice-yes true first second e = record {
  to = λ v word p. record { yes = λ _. p; no = λ (f : true ≡ false). absurd (cc) };
  back = λ v word p. p.yes refl;
}
Choice-yes false first second e = absurd (cc)

Choice-no : {V : Type 0} (test : Bool) (first second : V → List ℕ → Type 0) → test ≡ false → Alike second (Choice test first second)
Choice-no true first second e = absurd (cc)
Choice-no false first second e = record {
  to = λ v word p. record { yes = λ (f : false ≡ true). absurd (cc); no = λ _. p };
  back = λ v word p. p.no refl;
}

-- where the test is true, the first language is read
pub chosen : {V : Type 0} {test : Bool} {first second : V → List ℕ → Type 0} {old new : List ℕ} {r : Result V Stop}
    → test ≡ true → Reads first old r new → Reads (Choice test first second) old r new
chosen {test = test} {first = first} {second = second} e p = alike (Choice-yes test first second e) p

-- and else the second
pub not_chosen : {V : Type 0} {test : Bool} {first second : V → List ℕ → Type 0} {old new : List ℕ} {r : Result V Stop}
    → test ≡ false → Reads second old r new → Reads (Choice test first second) old r new
not_chosen {test = test} {first = first} {second = second} e p = alike (Choice-no test first second e) p

-- the exit of `?` keeps the refusal
pub fail : {V : Type 0} {language : V → List ℕ → Type 0} {old new : List ℕ} {why : Stop} {r : Result V Stop}
    → IsErrAnd r (λ y. y ≡ why) → Reads language old (Err why) new → Reads language old r new
fail h p = grind arith

-- a symbol and then a word of what follows it
pub one_then : {V : Type 0} {letter : ℕ → Type 0} {second : ℕ → V → List ℕ → Type 0} {v : V} {l : List ℕ}
    (x : ℕ) → letter x → second x v l → Then (One letter) second v (x ∷ l)
one_then {l = l} x h p = record { chosen = x; front = x ∷ []; back = l; before = record { allowed = h; list = refl }; after = p; list = refl }

-- the list of a symbol and of what follows it
pub joined : {V : Type 0} {letter : ℕ → Type 0} {second : ℕ → V → List ℕ → Type 0} {v : V} {word l : List ℕ}
    (p : Then (One letter) second v word) → p.back ≡ l → word ≡ p.chosen ∷ l
joined p e = grind arith

-- values that are spelled by one symbol each, and how such a symbol is recognized
pub record Coded {V : Type 0} (allows : ℕ → Type 0) (lawful : V → Type 0) (code : V → ℕ) : Type 0 where
  pub told : ℕ → V
  pub allowed : (v : V) → lawful v → allows (code v)
  pub is_lawful : (x : ℕ) → allows x → lawful (told x)
  pub there : (x : ℕ) → allows x → code (told x) ≡ x
  pub back : (v : V) → lawful v → told (code v) ≡ v

Coded-alike : {V : Type 0} (allows : ℕ → Type 0) (lawful : V → Type 0) (code : V → ℕ) (k : Coded allows lawful code)
    → Alike (Then (One allows) (λ x. Only (k.told x))) (Spelled lawful (λ v. code v ∷ []))
Coded-alike allows lawful code k = record {
  to = λ v word p.
      (let x : ℕ = p.chosen in
      let value : v ≡ k.told x = p.after.value in
      let list : word ≡ x ∷ [] = joined p p.after.list in
      record {
        is_lawful = subst lawful (sym value) (k.is_lawful x p.before.allowed);
        list = list ∙ ap (λ a. a ∷ []) (sym (ap code value ∙ k.there x p.before.allowed));
      });
  back = λ v word p.
      subst (λ w. Then (One allows) (λ x. Only (k.told x)) v w) (sym p.list)
      (one_then (code v) (k.allowed v p.is_lawful) (record { value = sym (k.back v p.is_lawful); list = refl }));
}

-- values of one symbol each are a good language
pub coded_good : {V : Type 0} {allows : ℕ → Type 0} {lawful : V → Type 0} {code : V → ℕ} → Good (One allows) → Coded allows lawful code
    → Good (Spelled lawful (λ v. code v ∷ []))
coded_good {allows = allows} {lawful = lawful} {code = code} g k =
    alike_good _ _ (Coded-alike allows lawful code k) (then_good _ _ g (λ x _ _. only_good (k.told x)))

-- its symbol was refused: so is the value
pub coded_stop : {V : Type 0} {allows : ℕ → Type 0} {lawful : V → Type 0} {code : V → ℕ} {old new : List ℕ} {why : Stop}
    → Good (One allows) → Coded allows lawful code → Reads (One allows) old (Err why) new → Reads (Spelled lawful (λ v. code v ∷ [])) old (Err why) new
coded_stop {allows = allows} {lawful = lawful} {code = code} g k p =
    alike (Coded-alike allows lawful code k) (stop g (λ x _ _. only_good (k.told x)) p)

-- its symbol was read: so is the value
pub coded_read : {V : Type 0} {allows : ℕ → Type 0} {lawful : V → Type 0} {code : V → ℕ} {old new : List ℕ} {x : ℕ} {v : V}
    → lawful v → code v ≡ x → Reads (One allows) old (Ok x) new → Reads (Spelled lawful (λ v. code v ∷ [])) old (Ok v) new
coded_read h e p = grind arith

-- a word of the spelled value, and then a word of what follows it
pub spelled_then : {U V : Type 0} {lawful : U → Type 0} {spelling : U → List ℕ} {second : U → V → List ℕ → Type 0} {v : V}
    (u : U) (l : List ℕ) → lawful u → second u v l → Then (Spelled lawful spelling) second v (spelling u ++ l)
spelled_then u l h p = grind arith

-- the list of a spelled value and of what follows it
pub spelt : {U V : Type 0} {lawful : U → Type 0} {spelling : U → List ℕ} {second : U → V → List ℕ → Type 0} {v : V} {word l : List ℕ}
    (p : Then (Spelled lawful spelling) second v word) → p.back ≡ l → word ≡ spelling p.chosen ++ l
spelt p e = grind arith

-- how much of a list is before what is left of it
pub length_left : (m rest : List ℕ) (n : ℕ) → length (m ++ (n ∷ rest)) - length (n ∷ rest) ≡ length m
length_left m rest n = omega (arith, length-append m (n ∷ rest))
