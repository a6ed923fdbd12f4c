-- the first fault of lines: there is at most one, and it can be found
use Rattle.std.proofs.Common.{◌≡◌, ℕ, ◌+◌, List, [], ◌∷◌, ◌++◌, length, refl, sym, ◌∙◌, ap, subst, arith, append_assoc, append-nil, ◌⊎◌, inl, inr}
use Rattle.std.proofs.lemmas.Bool.{cases_lt}
use Rattle.line_engine.specs.declared.faults.Fault.{Fault}
use Rattle.line_engine.specs.declared.faults.Fault.TheVariants.{TooManyLines, TooLong, Column, TooManyGroups}
use Rattle.line_engine.specs.Lines.{Lines, lines_of, IsCutInto}
use Rattle.line_engine.specs.Meaning.{Meaning}
use Rattle.line_engine.specs.Faults.{IsWithin, IsFault, IsFaultless, IsFirstFault}
use Rattle.line_engine.specs.Determined.{HasOneColumn, IsDecided}
use Rattle.line_engine.proofs.Faultless.{none_yet, one_more}

-- a line has one fault
one_fault : (meaning : Meaning) → HasOneColumn meaning → (earlier : Lines) (line : List ℕ) (a b : Fault) → IsFault meaning earlier line a → IsFault meaning earlier line b → a ≡ b
one_fault meaning one earlier line a b h k = grind arith

-- a list that is split twice is split at one place, or first at one of them
pub record IsInside (before : Lines) (line : List ℕ) (all : Lines) : Type 0 where
  pub between : Lines
  pub list : all ≡ before ++ line ∷ between

pub record IsSame (before : Lines) (line : List ℕ) (others : Lines) (other : List ℕ) : Type 0 where
  pub front : before ≡ others
  pub here : line ≡ other

pub split_twice : (a : Lines) (x : List ℕ) (c : Lines) (b : Lines) (y : List ℕ) (d : Lines) → a ++ x ∷ c ≡ b ++ y ∷ d → IsSame a x b y ⊎ (IsInside a x b ⊎ IsInside b y a)
split_twice [] x c [] y d e = inl (record { front = refl; here = cc })
split_twice [] x c (u ∷ b) y d e = let same : x ≡ u = cc in inr (inl (record { between = b; list = ap (λ (l : List ℕ). l ∷ b) (sym same) }))
split_twice (u ∷ a) x c [] y d e = let same : u ≡ y = cc in inr (inr (record { between = a; list = ap (λ (l : List ℕ). l ∷ a) same }))
split_twice (u ∷ a) x c (v ∷ b) y d e =
    let same : u ≡ v = cc in
    let rest : a ++ x ∷ c ≡ b ++ y ∷ d = cc in
    elim (split_twice a x c b y d rest) [
      | inl is ↦ inl (record { front = ap (λ (l : List ℕ). l ∷ a) same ∙ ap (λ (l : Lines). v ∷ l) is.front; here = is.here })
      | inr apart ↦ (elim apart [
        | inl first ↦ inr (inl (record { between = first.between; list = ap (λ (l : List ℕ). l ∷ b) (sym same) ∙ ap (λ (l : Lines). u ∷ l) first.list }))
        | inr second ↦ inr (inr (record { between = second.between; list = ap (λ (l : List ℕ). l ∷ a) same ∙ ap (λ (l : Lines). v ∷ l) second.list }))
      ])
    ]

-- lines have one first fault at most
pub one_first : (meaning : Meaning) → HasOneColumn meaning → (lines : Lines) (m n : ℕ) (a b : Fault) → IsFirstFault meaning lines m a → IsFirstFault meaning lines n b → (m ≡ n) × (a ≡ b)
one_first meaning one lines m n a b h k =
    elim (split_twice h.earlier h.line h.later k.earlier k.line k.later (sym h.list ∙ k.list)) [
      | inl is ↦
          let moved = subst (λ (t : List ℕ). IsFault meaning k.earlier t a) is.here (subst (λ (l : Lines). IsFault meaning l h.line a) is.front h.is_fault) in
          (h.at ∙ ap (λ (l : Lines). length l + 1) is.front ∙ sym k.at, one_fault meaning one k.earlier k.line a b moved k.is_fault)
      | inr apart ↦ (elim apart [
        | inl first ↦ absurd (k.faultless.none h.earlier h.line first.between a first.list h.is_fault)
        | inr second ↦ absurd (h.faultless.none k.earlier k.line second.between b second.list k.is_fault)
      ])
    ]

-- lines without a fault have no first one
pub none_first : (meaning : Meaning) (lines : Lines) (number : ℕ) (fault : Fault) → IsFaultless meaning lines → IsFirstFault meaning lines number fault → ⊥
none_first meaning lines number fault none h = none.none h.earlier h.line h.later fault h.list h.is_fault

-- a line has a fault or none
well_formed : (meaning : Meaning) (earlier : Lines) (line : List ℕ) → IsWithin earlier line → ((n : ℕ) → meaning.IsIllFormed earlier line n → ⊥) → (meaning.IsOverfull earlier line → ⊥) → (fault : Fault) → IsFault meaning earlier line fault → ⊥
well_formed meaning earlier line within well few fault h = grind arith

fault_or_none : (meaning : Meaning) → IsDecided meaning → (earlier : Lines) (line : List ℕ) → ((fault : Fault) × IsFault meaning earlier line fault) ⊎ ((fault : Fault) → IsFault meaning earlier line fault → ⊥)
fault_or_none meaning decided earlier line =
    elim (cases_lt (length earlier) 65536) [
      | inr many ↦ inl (TooManyLines, many)
      | inl few ↦ (elim (cases_lt 4200 (length line)) [
        | inl long ↦ inl (TooLong, (few, long))
        | inr short ↦
            let within : IsWithin earlier line = record { few = few; short = short } in
            (elim (decided.column earlier line) [
              | inl column ↦ inl (Column column.0, (within, column.1))
              | inr well ↦ (elim (decided.group earlier line) [
                | inl full ↦ inl (TooManyGroups, (within, well, full))
                | inr room ↦ inr (well_formed meaning earlier line within well room)
              ])
            ])
      ])
    ]

first_from : (meaning : Meaning) → IsDecided meaning → (before lines : Lines) → IsFaultless meaning before
    → ((number : ℕ) × (fault : Fault) × IsFirstFault meaning (before ++ lines) number fault) ⊎ IsFaultless meaning (before ++ lines)
first_from meaning decided before [] none = inr (subst (λ (l : Lines). IsFaultless meaning l) (sym (append-nil before)) none)
first_from meaning decided before (line ∷ lines) none =
    elim (fault_or_none meaning decided before line) [
      | inl f ↦
          inl (length before + 1, f.0, record { earlier = before; line = line; later = lines; list = refl; at = refl; is_fault = f.1; faultless = none })
      | inr sound ↦
          subst (λ (l : Lines). ((number : ℕ) × (fault : Fault) × IsFirstFault meaning l number fault) ⊎ IsFaultless meaning l) (append_assoc before (line ∷ []) lines)
          (first_from meaning decided (before ++ line ∷ []) lines (one_more meaning before line sound none))
    ]

pub first_or_none : (meaning : Meaning) → IsDecided meaning → (lines : Lines) → ((number : ℕ) × (fault : Fault) × IsFirstFault meaning lines number fault) ⊎ IsFaultless meaning lines
first_or_none meaning decided lines = first_from meaning decided [] lines (none_yet meaning)

-- a first fault stays the first
pub first_stays : (meaning : Meaning) (bytes : List ℕ) (lines : Lines) (end : List ℕ) (number : ℕ) (fault : Fault) → IsCutInto bytes lines end → IsFirstFault meaning lines number fault
    → (rest : List ℕ) → IsFirstFault meaning (lines_of (bytes ++ rest)) number fault
first_stays meaning bytes lines end number fault cut h rest = record {
  earlier = h.earlier;
  line = h.line;
  later = h.later ++ lines_of (end ++ rest);
  list = cut.goes_on rest ∙ ap (λ (l : Lines). l ++ lines_of (end ++ rest)) h.list ∙ append_assoc h.earlier (h.line ∷ h.later) (lines_of (end ++ rest));
  at = h.at;
  is_fault = h.is_fault;
  faultless = h.faultless;
}
