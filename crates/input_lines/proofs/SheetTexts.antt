-- the texts of evidence: how long they are, and what is read of them
use Rattle.std.proofs.Common.{◌≡◌, ℕ, zero, suc, ◌+◌, ◌≤◌, ◌<◌, ◌^◌, ◌==◌, ◌&&◌, ◌||◌, nat_lt, Bool, true, false, List, [], ◌∷◌, ◌++◌, length, codes, decimal, Result, Ok, Err, ◌⊎◌, inl, inr, refl, sym, ◌∙◌, ap, subst, append_assoc, append-nil, arith}
use Rattle.std.specs.List.{list_any, All}
use Rattle.std.proofs.lemmas.Bool.{eqb-true, lt-ltb, le-ltb, cases_lt}
use Rattle.std.proofs.lemmas.List.{get_or_past}
use Rattle.std.proofs.lemmas.List.Elements.{All-append, All-cons, All-nil}
use Rattle.std.proofs.lemmas.List.Folds.{list_any-append}
use Rattle.std.proofs.lemmas.Fmt.{length-decimal-le}
use Rattle.std.proofs.Math.Bool.{or-false, and-false}
use Rattle.slot_evidence.specs.declared.places.Seen.{Seen}
use Rattle.slot_evidence.specs.declared.places.Seen.TheVariants as seen
use Rattle.slot_evidence.specs.Facts.{Facts, Symbols}
use Rattle.slot_evidence.specs.Seen.{IsSeen, IsLawful, symbols_in}
use Rattle.slot_evidence.specs.Sheet.{IsSheet, IsEnds, seen_at, facts_in}
use Rattle.slot_evidence.proofs.PublicLaws.{seen_by}
use Rattle.input_lines.specs.ReceiverLine.{ReceiverLine, IsPair, IsLine, evidence}
use Rattle.input_lines.specs.declared.join.JoinLine.{JoinLine as Got}
use Rattle.input_lines.specs.declared.join.JoinLine.TheVariants as got
use Rattle.input_lines.specs.declared.fault.LineFault.{LineFault}
use Rattle.input_lines.specs.declared.fault.LineFault.TheVariants as fault
use Rattle.input_lines.specs.Lines.{Says, ReadsJoin, facts_of_pairs}
use Rattle.input_lines.specs.inside.Reading.{pairs_text}
use Rattle.input_lines.proofs.Pairs.{pairs_append}
use Rattle.input_lines.specs.Evidence.{pairs_at, pairs_below, evidence_text}

-- how long a number is
pub number_length : (k n m : ℕ) → n ≡ m → 0 < k → m < 10 ^ k → m < 2 ^ 64 → length (decimal n) ≤ k
number_length k n m e some small fits = omega (arith, ap (λ (x : ℕ). length (decimal x)) e, length-decimal-le k m some small fits)

-- the text of no place, and of one place more
pub text_begun : (old front new : List ℕ) (group n : ℕ) (sheet : List Seen) → front ≡ old ++ codes "e g" → n ≡ group → new ≡ front ++ decimal n
    → new ≡ old ++ (codes "e g" ++ decimal group ++ pairs_text (pairs_below 0 sheet))
unfolding pairs_below
text_begun old front new group n sheet e same h =
    h ∙ ap (λ (k : ℕ). front ++ decimal k) same ∙ ap (λ (l : List ℕ). l ++ decimal group) e ∙ append_assoc old (codes "e g") (decimal group)
    ∙ ap (λ (l : List ℕ). old ++ l) (sym (append-nil (codes "e g" ++ decimal group)))

pub text_more : (old front out new : List ℕ) (n : ℕ) (sheet : List Seen) (s : Seen) → out ≡ old ++ (front ++ pairs_text (pairs_below n sheet)) → s ≡ seen_at sheet n
    → new ≡ out ++ pairs_text (pairs_at n s) → new ≡ old ++ (front ++ pairs_text (pairs_below (n + 1) sheet))
unfolding pairs_below
text_more old front out new n sheet s e seen h =
    let before = pairs_text (pairs_below n sheet) in
    let here = pairs_text (pairs_at n (seen_at sheet n)) in
    let next : suc n ≡ n + 1 = omega arith in
    h ∙ ap (λ (x : Seen). out ++ pairs_text (pairs_at n x)) seen ∙ ap (λ (l : List ℕ). l ++ here) e
    ∙ append_assoc old (front ++ before) here ∙ ap (λ (l : List ℕ). old ++ l) (append_assoc front before here)
    ∙ ap (λ (l : List ℕ). old ++ (front ++ l)) (sym (pairs_append (pairs_below n sheet) (pairs_at n (seen_at sheet n))))
    ∙ ap (λ (k : ℕ). old ++ (front ++ pairs_text (pairs_below k sheet))) next

-- the pairs of a sheet are pairs
are_pairs_at : (place : ℕ) (s : Seen) → place < 64 → IsLawful s → All IsPair (pairs_at place s)
are_pairs_at place seen.None p h = λ k d below. absurd (omega (arith, below))
are_pairs_at place (seen.One v) p h = All-cons IsPair (place, v) [] (p, h) (All-nil IsPair)
are_pairs_at place (seen.Differ least greatest) p h =
    All-cons IsPair (place, least) ((place, greatest) ∷ []) (p, omega (arith, h.0, h.1)) (All-cons IsPair (place, greatest) [] (p, h.1) (All-nil IsPair))

are_pairs : (n : ℕ) (sheet : List Seen) → n ≤ 64 → IsSheet sheet → All IsPair (pairs_below n sheet)
unfolding pairs_below
are_pairs zero sheet few h = λ k d below. absurd (omega (arith, below))
are_pairs (suc n) sheet few h =
    All-append IsPair (pairs_below n sheet) (pairs_at n (seen_at sheet n)) (are_pairs n sheet (omega (arith, few)) h) (are_pairs_at n (seen_at sheet n) (omega (arith, few)) (h.lawful n))

pub text_is_line : (group : ℕ) (sheet : List Seen) → group < 2 ^ 32 → IsSheet sheet → IsLine (evidence group (pairs_below 64 sheet)) (evidence_text group sheet)
text_is_line group sheet small h = (true, (small, (are_pairs 64 sheet (omega arith) h, refl)))

-- the facts of a sheet's pairs are the sheet's
spread : (b x y : Bool) → ((b && x) || ((b && y) || false)) ≡ (b && (x || y))
spread true x y = ap (λ (c : Bool). x || c) (or-false y)
spread false x y = refl

here : (place p v : ℕ) (s : Seen) → facts_of_pairs (pairs_at place s) p v ≡ ((p == place) && symbols_in s v)
here place p v seen.None = sym (and-false (p == place))
here place p v (seen.One w) = or-false ((p == place) && (v == w))
here place p v (seen.Differ least greatest) = spread (p == place) (v == least) (v == greatest)

-- what is below a place or is that place is below the next
merged : (below at x y : Bool) → (at ≡ true → y ≡ x) → ((below && x) || (at && y)) ≡ ((below || at) && x)
merged true true true y same = refl
merged true true false y same = same refl
merged true false x y same = or-false x
merged false true x y same = same refl
merged false false x y same = refl

below_or_at : (p n : ℕ) → nat_lt p (suc n) ≡ (nat_lt p n || (p == n))
below_or_at p n = grind arith

one_more : (n : ℕ) (sheet : List Seen) (p v : ℕ)
    → ((nat_lt p n && symbols_in (seen_at sheet p) v) || ((p == n) && symbols_in (seen_at sheet n) v)) ≡ (nat_lt p (suc n) && symbols_in (seen_at sheet p) v)
one_more n sheet p v =
    merged (nat_lt p n) (p == n) (symbols_in (seen_at sheet p) v) (symbols_in (seen_at sheet n) v) (λ e. ap (λ (k : ℕ). symbols_in (seen_at sheet k) v) (sym (eqb-true p n e)))
    ∙ ap (λ (t : Bool). t && symbols_in (seen_at sheet p) v) (sym (below_or_at p n))

facts_below : (n : ℕ) (sheet : List Seen) (p v : ℕ) → facts_of_pairs (pairs_below n sheet) p v ≡ (nat_lt p n && symbols_in (seen_at sheet p) v)
unfolding pairs_below
facts_below zero sheet p v = ap (λ (t : Bool). t && symbols_in (seen_at sheet p) v) (sym (le-ltb p 0 (omega arith)))
facts_below (suc n) sheet p v =
    let f : ℕ × ℕ → Bool = λ pair. p == pair.0 && v == pair.1 in
    list_any-append f (pairs_below n sheet) (pairs_at n (seen_at sheet n))
    ∙ ap (λ (t : Bool). t || list_any f (pairs_at n (seen_at sheet n))) (facts_below n sheet p v)
    ∙ ap (λ (t : Bool). (nat_lt p n && symbols_in (seen_at sheet p) v) || t) (here n p v (seen_at sheet n))
    ∙ one_more n sheet p v

past_the_sheet : (sheet : List Seen) (p v : ℕ) → length sheet ≤ p → symbols_in (seen_at sheet p) v ≡ false
past_the_sheet sheet p v past = ap (λ (s : Seen). symbols_in s v) (get_or_past sheet p seen.None past)

pub facts_same : (sheet : List Seen) (p v : ℕ) → IsSheet sheet → facts_of_pairs (pairs_below 64 sheet) p v ≡ facts_in sheet p v
facts_same sheet p v h =
    elim (cases_lt p 64) [
      | inl less ↦ facts_below 64 sheet p v ∙ ap (λ (t : Bool). t && symbols_in (seen_at sheet p) v) (lt-ltb p 64 less)
      | inr more ↦ facts_below 64 sheet p v ∙ ap (λ (t : Bool). t && symbols_in (seen_at sheet p) v) (le-ltb p 64 more) ∙ sym (past_the_sheet sheet p v (omega (arith, h.places, more)))
    ]

seen_same : (S T : Symbols) (s : Seen) → ((v : ℕ) → T v ≡ S v) → IsSeen S s → IsSeen T s
seen_same S T s same h =
    let one : S ≡ T = λ i v. sym (same v) i in
    subst (λ (U : Symbols). IsSeen U s) one h

pub text_has_ends : (sheet : List Seen) → IsSheet sheet → IsEnds (facts_of_pairs (pairs_below 64 sheet)) sheet
text_has_ends sheet h = record {
  places = h.places;
  each = λ p.
      seen_same (symbols_in (seen_at sheet p)) (facts_of_pairs (pairs_below 64 sheet) p) (seen_at sheet p) (λ v. facts_same sheet p v h) (seen_by (seen_at sheet p) (h.lawful p));
}

-- what is read of the text
abbrev pub OneLine : Type 0
OneLine = (a b : ReceiverLine) (text : List ℕ) → IsLine a text → IsLine b text → a ≡ b

abbrev pub OneSheet : Type 0
OneSheet = (F : Facts) (s t : List Seen) → IsEnds F s → IsEnds F t → s ≡ t

said : (group : ℕ) (sheet : List Seen) (read : Got) → OneSheet → IsSheet sheet → Says (evidence group (pairs_below 64 sheet)) read → read ≡ got.Evidence group sheet
said group sheet read one h says = says.1.0 ∙ ap (got.Evidence group) (one (facts_of_pairs (pairs_below 64 sheet)) says.0 sheet says.1.1 (text_has_ends sheet h))

pub text_is_read : (group : ℕ) (sheet : List Seen) (answer : Result Got LineFault) → OneLine → OneSheet → group < 2 ^ 32 → IsSheet sheet
    → ReadsJoin (evidence_text group sheet) answer → (answer ≡ Ok (got.Evidence group sheet)) ⊎ (answer ≡ Err fault.NoMemory)
text_is_read group sheet (Ok read) one_line one_sheet small h reads =
    let same = one_line reads.0 (evidence group (pairs_below 64 sheet)) (evidence_text group sheet) reads.1.0 (text_is_line group sheet small h) in
    inl (ap (λ (l : Got). Ok l) (said group sheet read one_sheet h (subst (λ (w : ReceiverLine). Says w read) same reads.1.1)))
text_is_read group sheet (Err (fault.Column n)) one_line one_sheet small h reads = absurd (reads.is_none (evidence group (pairs_below 64 sheet)) (text_is_line group sheet small h))
text_is_read group sheet (Err fault.NoMemory) one_line one_sheet small h reads = inr refl
