-- lines that determine their output
use Rattle.std.proofs.Common.{◌≡◌, ℕ, List, [], ◌∷◌, ◌++◌, refl, sym, ◌∙◌, ap, subst, append_assoc, append-nil, ◌⊎◌, inl, inr}
use Rattle.line_engine.specs.declared.faults.Fault.{Fault}
use Rattle.line_engine.specs.Lines.{Lines}
use Rattle.line_engine.specs.Meaning.{Meaning}
use Rattle.line_engine.specs.Faults.{IsFaultless, IsFirstFault, fault_line, fault_status}
use Rattle.line_engine.specs.Output.{IsFaulty, IsSoFar, IsOutput, Asks}
use Rattle.line_engine.specs.Determined.{IsDetermined, BeginsWith}
use Rattle.line_engine.proofs.FirstFaults.{one_first, none_first, split_twice}

-- two first faults of lines come after the same lines
pub same_earlier : (meaning : Meaning) (lines : Lines) (m n : ℕ) (a b : Fault) (h : IsFirstFault meaning lines m a) (k : IsFirstFault meaning lines n b) → h.earlier ≡ k.earlier
same_earlier meaning lines m n a b h k =
    elim (split_twice h.earlier h.line h.later k.earlier k.line k.later (sym h.list ∙ k.list)) [
      | inl is ↦ is.front
      | inr apart ↦ (elim apart [
        | inl first ↦ absurd (k.faultless.none h.earlier h.line first.between a first.list h.is_fault)
        | inr second ↦ absurd (h.faultless.none k.earlier k.line second.between b second.list k.is_fault)
      ])
    ]

one_faulty : (meaning : Meaning) → IsDetermined meaning → (lines : Lines) (a b : List ℕ) (s t : ℕ) → IsFaulty meaning lines a s → IsFaulty meaning lines b t → (a ≡ b) × (s ≡ t)
one_faulty meaning is lines a b s t h k =
    let one = one_first meaning is.one_column lines h.number k.number h.fault k.fault h.first k.first in
    let same = same_earlier meaning lines h.number k.number h.fault k.fault h.first k.first in
    let given : h.given ≡ k.given = is.one_text k.first.earlier h.given k.given k.first.faultless (subst (λ (l : Lines). meaning.Gives l h.given) same h.gives) k.gives in (
      h.text_is ∙ ap (λ (t : List ℕ). t ++ fault_line h.number h.fault) given ∙ ap (λ (n : ℕ). k.given ++ fault_line n h.fault) one.0 ∙ ap (λ (f : Fault). k.given ++ fault_line k.number f) one.1 ∙ sym k.text_is,
      h.status_is ∙ ap fault_status one.1 ∙ sym k.status_is,
    )

pub one_text : (meaning : Meaning) → IsDetermined meaning → (lines : Lines) (a b : List ℕ) (s t : ℕ) → IsOutput meaning lines a s → IsOutput meaning lines b t → (a ≡ b) × (s ≡ t)
one_text meaning is lines a b s t (inl h) (inl k) = is.one_end lines a b s t h.faultless h.ends k.ends
one_text meaning is lines a b s t (inl h) (inr k) = absurd (none_first meaning lines k.number k.fault h.faultless k.first)
one_text meaning is lines a b s t (inr h) (inl k) = absurd (none_first meaning lines h.number h.fault k.faultless h.first)
one_text meaning is lines a b s t (inr h) (inr k) = one_faulty meaning is lines a b s t h k

-- first lines end before a certain line, or have it
reaches : (first later earlier : Lines) (line : List ℕ) (rest : Lines) → first ++ later ≡ earlier ++ line ∷ rest
    → ((between : Lines) × (earlier ≡ first ++ between)) ⊎ ((between : Lines) × (first ≡ earlier ++ line ∷ between))
reaches [] later earlier line rest e = inl (earlier, refl)
reaches (u ∷ first) later [] line rest e = let same : u ≡ line = cc in inr (first, ap (λ (l : List ℕ). l ∷ first) same)
reaches (u ∷ first) later (v ∷ earlier) line rest e =
    let same : u ≡ v = cc in
    let tail : first ++ later ≡ earlier ++ line ∷ rest = cc in
    elim (reaches first later earlier line rest tail) [
      | inl before ↦ inl (before.0, ap (λ (l : List ℕ). l ∷ earlier) (sym same) ∙ ap (λ (l : Lines). u ∷ l) before.1)
      | inr has ↦ inr (has.0, ap (λ (l : List ℕ). l ∷ first) same ∙ ap (λ (l : Lines). v ∷ l) has.1)
    ]

longer : (whole text more : List ℕ) → BeginsWith whole text → BeginsWith (whole ++ more) text
longer whole text more b = (b.0 ++ more, ap (λ (t : List ℕ). t ++ more) b.1 ∙ append_assoc text b.0 more)

begins_faulty : (meaning : Meaning) → IsDetermined meaning → (lines : Lines) (text whole : List ℕ) (status : ℕ) → IsSoFar meaning lines text → IsFaulty meaning lines whole status → BeginsWith whole text
begins_faulty meaning is lines text whole status s h =
    elim (reaches s.first s.later h.first.earlier h.first.line h.first.later (sym s.list ∙ h.first.list)) [
      | inl before ↦
          let none = subst (λ (l : Lines). IsFaultless meaning l) before.1 h.first.faultless in
          let gives = subst (λ (l : Lines). meaning.Gives l h.given) before.1 h.gives in
          let b = longer h.given text (fault_line h.number h.fault) (is.grows s.first before.0 text h.given none s.gives gives) in
          (b.0, h.text_is ∙ b.1)
      | inr has ↦ absurd (s.faultless.none h.first.earlier h.first.line has.0 h.fault has.1 h.first.is_fault)
    ]

pub begins_output : (meaning : Meaning) → IsDetermined meaning → (lines : Lines) (text whole : List ℕ) (status : ℕ) → IsSoFar meaning lines text → IsOutput meaning lines whole status → BeginsWith whole text
begins_output meaning is lines text whole status s (inl h) =
    is.ends s.first s.later text whole status (subst (λ (l : Lines). IsFaultless meaning l) s.list h.faultless) s.gives (subst (λ (l : Lines). meaning.Ends l whole status) s.list h.ends)
begins_output meaning is lines text whole status s (inr h) = begins_faulty meaning is lines text whole status s h

pub begins_asked : (meaning : Meaning) → IsDetermined meaning → (lines : Lines) (text whole : List ℕ) (status : ℕ) → Asks meaning lines text → IsOutput meaning lines whole status → BeginsWith whole text
begins_asked meaning is lines text whole status (inl h) k =
    let same = (one_text meaning is lines whole text status h.0 k h.1).0 in
    ([], same ∙ sym (append-nil text))
begins_asked meaning is lines text whole status (inr s) k = begins_output meaning is lines text whole status s.1 k

-- every text begins with nothing
pub begins_empty : (text whole : List ℕ) → text ≡ [] → BeginsWith whole text
begins_empty text whole e = (whole, ap (λ (t : List ℕ). t ++ whole) (sym e))
