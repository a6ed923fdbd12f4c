-- Where batches end.
use Rattle.std.proofs.Common.{◌≡◌, ℕ, ◌+◌, ◌<◌, ◌≤◌, List, [], ◌∷◌, ◌++◌, length, take, slice_index_or, refl, sym, ap, subst, ◌∙◌, arith, inl, inr}
use Rattle.std.proofs.lemmas.Bool.{cases_lt}
use Rattle.std.proofs.lemmas.List.{length_push, length-take-le, get_or_push, take-append-le, take_all}
use Rattle.ten_unit.specs.declared.character.Element.{Element}
use Rattle.input_lines.specs.ReceiverLine.{ReceiverLine, nothing, reception, evidence}
use Rattle.join_groups.specs.declared.groups.TheConstants.{MOST_IN_BATCH}
use Rattle.watch_groups.specs.declared.telling.ToldCall.{ToldCall}
use Rattle.watch_groups.specs.Telling.{receptions, EndsBatch, TellsReported, TellsEachBatch}
use Rattle.watch_groups.specs.inside.Kept.{IsOpen}

none_first : (n : ℕ) → n ≡ 0 + n
none_first n = omega arith

one_first : (m n : ℕ) → 1 + (m + n) ≡ (1 + m) + n
one_first m n = omega arith

receptions_push : (said : List ReceiverLine) (line : ReceiverLine) → receptions (said ++ line ∷ []) ≡ receptions said + receptions (line ∷ [])
receptions_push [] line = none_first (receptions (line ∷ []))
receptions_push (nothing ∷ said) line = receptions_push said line
receptions_push (reception group e ∷ said) line = ap (λ (n : ℕ). 1 + n) (receptions_push said line) ∙ one_first (receptions said) (receptions (line ∷ []))
receptions_push (evidence group pairs ∷ said) line = receptions_push said line

-- the last line
last_is : (a b : List ReceiverLine) (x y : ReceiverLine) → a ++ x ∷ [] ≡ b ++ y ∷ [] → x ≡ y
last_is a b x y same =
    let long : length a ≡ length b = omega (arith, ap length same, length_push a x, length_push b y) in
    sym (get_or_push a x nothing (length b) long) ∙ ap (λ (l : List ReceiverLine). slice_index_or l (length b) nothing) same ∙ get_or_push b y nothing (length b) refl

-- a batch ends after no other line than a reception, and only where it is full
pub no_end_nothing : (said : List ReceiverLine) → EndsBatch (said ++ nothing ∷ []) → ⊥
no_end_nothing said ends = two (last_is said ends.earlier nothing (reception ends.group ends.elements) ends.list)
  where
    two : {group : ℕ} {e : List Element} → nothing ≡ reception group e → ⊥
    two h = absurd cc

pub no_end_evidence : (said : List ReceiverLine) (group : ℕ) (pairs : List (ℕ × ℕ)) → EndsBatch (said ++ evidence group pairs ∷ []) → ⊥
no_end_evidence said group pairs ends = two (last_is said ends.earlier (evidence group pairs) (reception ends.group ends.elements) ends.list)
  where
    two : {g h : ℕ} {p : List (ℕ × ℕ)} {e : List Element} → evidence g p ≡ reception h e → ⊥
    two h = absurd cc

pub no_end_open : (said : List ReceiverLine) (group : ℕ) (e : List Element) (heard : ℕ) → IsOpen said heard → heard + 1 < MOST_IN_BATCH → EndsBatch (said ++ reception group e ∷ []) → ⊥
no_end_open said group e heard open_ few ends = absurd (omega (arith, open_.count, few, ends.full, receptions_push said (reception group e)))

-- what is open after one line more
pub open_nothing : (said : List ReceiverLine) (heard : ℕ) → IsOpen said heard → IsOpen (said ++ nothing ∷ []) heard
open_nothing said heard o = record { batches = o.batches; count = omega (arith, o.count, receptions_push said nothing); few = o.few }

pub open_evidence : (said : List ReceiverLine) (group : ℕ) (pairs : List (ℕ × ℕ)) (heard : ℕ) → IsOpen said heard → IsOpen (said ++ evidence group pairs ∷ []) heard
open_evidence said group pairs heard o = record { batches = o.batches; count = omega (arith, o.count, receptions_push said (evidence group pairs)); few = o.few }

pub open_more : (said : List ReceiverLine) (group : ℕ) (e : List Element) (heard more : ℕ) → IsOpen said heard → more ≡ heard + 1 → more < MOST_IN_BATCH → IsOpen (said ++ reception group e ∷ []) more
open_more said group e heard more o is few = record { batches = o.batches; count = omega (arith, o.count, is, receptions_push said (reception group e)); few = few }

pub open_anew : (said : List ReceiverLine) (group : ℕ) (e : List Element) (heard : ℕ) → IsOpen said heard → heard + 1 ≡ MOST_IN_BATCH → IsOpen (said ++ reception group e ∷ []) 0
open_anew said group e heard o full = record { batches = o.batches + 1; count = omega (arith, o.count, full, receptions_push said (reception group e)); few = omega arith }

-- what was told at each batch's end, after one line more
module _ (said : List ReceiverLine) (line : ReceiverLine) (told more : List ToldCall) (stays : (S : List ReceiverLine) → TellsReported S told → TellsReported S more) (each : TellsEachBatch said told) where
  earlier : (n : ℕ) → n ≤ length said → EndsBatch (take n (said ++ line ∷ [])) → TellsReported (take n (said ++ line ∷ [])) more
  earlier n le ends =
      let same : take n (said ++ line ∷ []) ≡ take n said = take-append-le n said (line ∷ []) le in
      subst (λ (s : List ReceiverLine). TellsReported s more) (sym same) (stays (take n said) (each n le (subst EndsBatch same ends)))

  -- no batch ends after this line, or all are told that are reported there
  pub each_more : (EndsBatch (said ++ line ∷ []) → TellsReported (said ++ line ∷ []) more) → TellsEachBatch (said ++ line ∷ []) more
  each_more here n le ends = elim (cases_lt (length said) n) [
    | inr low ↦ earlier n low ends
    | inl high ↦
        let whole : take n (said ++ line ∷ []) ≡ said ++ line ∷ [] = take_all n (said ++ line ∷ []) (omega (arith, length_push said line)) in
        subst (λ (s : List ReceiverLine). TellsReported s more) (sym whole) (here (subst EndsBatch whole ends))
  ]

-- after no line none ends
pub no_end_at_first : (n : ℕ) → n ≤ 0 → EndsBatch (take n []) → ⊥
no_end_at_first n le ends = absurd (omega (arith, le, ap length ends.list, length_push ends.earlier (reception ends.group ends.elements), length-take-le {A = ReceiverLine} n [] le))
