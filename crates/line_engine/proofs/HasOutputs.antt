-- each input has an output
use Rattle.std.proofs.Common.{◌≡◌, ℕ, ◌+◌, List, [], ◌∷◌, ◌++◌, length, refl, sym, subst, arith, append_assoc, append-nil, ◌⊎◌, inl, inr}
use Rattle.std.proofs.lemmas.Bool.{cases_lt}
use Rattle.line_engine.specs.declared.faults.Fault.{Fault}
use Rattle.line_engine.specs.declared.faults.Fault.TheVariants.{TooManyLines, TooLong, Column, TooManyGroups}
use Rattle.line_engine.specs.Lines.{Lines}
use Rattle.line_engine.specs.Meaning.{Meaning}
use Rattle.line_engine.specs.Faults.{IsWithin, IsFault, IsFaultless, fault_line, fault_status}
use Rattle.line_engine.specs.Output.{IsOutput}
use Rattle.line_engine.specs.Determined.{IsComplete, HasOutputs, IsNeverStuck, LacksNoOutput}
use Rattle.line_engine.proofs.Faultless.{none_yet, one_more}

module _ (meaning : Meaning) where
  -- a line of lines without a fault is well-formed
  pub sound_line_of : (lines earlier : Lines) (line : List ℕ) (later : Lines) → IsFaultless meaning lines → lines ≡ earlier ++ line ∷ later
      → (n : ℕ) → meaning.IsIllFormed earlier line n → ⊥
  sound_line_of lines earlier line later none list n ill =
      elim (cases_lt (length earlier) 65536) [
        | inr many ↦ none.none earlier line later TooManyLines list many
        | inl few ↦ (elim (cases_lt 4200 (length line)) [
          | inl long ↦ none.none earlier line later TooLong list (few, long)
          | inr short ↦ none.none earlier line later (Column n) list (record { few = few; short = short }, ill)
        ])
      ]

  no_fault_of : (earlier : Lines) (line : List ℕ) → IsWithin earlier line → ((n : ℕ) → meaning.IsIllFormed earlier line n → ⊥) → (meaning.IsOverfull earlier line → ⊥) → (fault : Fault) → IsFault meaning earlier line fault → ⊥
  no_fault_of earlier line within well few TooManyLines h = let below = within.few in omega (arith, h, below)
  no_fault_of earlier line within well few TooLong h = let short = within.short in omega (arith, h.1, short)
  no_fault_of earlier line within well few (Column n) h = well n h.1
  no_fault_of earlier line within well few TooManyGroups h = few h.2

  module _ (complete : IsComplete meaning) where
    fault_or_none : (earlier : Lines) (line : List ℕ) → IsFaultless meaning earlier → ((fault : Fault) × IsFault meaning earlier line fault) ⊎ ((fault : Fault) → IsFault meaning earlier line fault → ⊥)
    fault_or_none earlier line none =
        elim (cases_lt (length earlier) 65536) [
          | inr many ↦ inl (TooManyLines, many)
          | inl few ↦ (elim (cases_lt 4200 (length line)) [
            | inl long ↦ inl (TooLong, (few, long))
            | inr short ↦
                let within : IsWithin earlier line = record { few = few; short = short } in
                (elim (complete.column earlier line none) [
                  | inl column ↦ inl (Column column.0, (within, column.1))
                  | inr well ↦ (elim (complete.group earlier line none) [
                    | inl full ↦ inl (TooManyGroups, (within, well, full))
                    | inr room ↦ inr (no_fault_of earlier line within well room)
                  ])
                ])
          ])
        ]

    abbrev HasOne : Lines → Type 0
    HasOne lines = (text : List ℕ) × (status : ℕ) × IsOutput meaning lines text status

    output_from : (before lines : Lines) → IsFaultless meaning before → HasOne (before ++ lines)
    output_from before [] none =
        let ends = complete.ends before none in
        subst HasOne (sym (append-nil before)) (ends.0, ends.1, inl (record { faultless = none; ends = ends.2 }))
    output_from before (line ∷ lines) none =
        elim (fault_or_none before line none) [
          | inl f ↦
              let given = complete.gives before none in (
                given.0 ++ fault_line (length before + 1) f.0,
                fault_status f.0,
                inr (record {
                  number = length before + 1;
                  fault = f.0;
                  first = record { earlier = before; line = line; later = lines; list = refl; at = refl; is_fault = f.1; faultless = none };
                  given = given.0;
                  gives = given.1;
                  text_is = refl;
                  status_is = refl;
                }),
              )
          | inr sound ↦ subst HasOne (append_assoc before (line ∷ []) lines) (output_from (before ++ line ∷ []) lines (one_more meaning before line sound none))
        ]

    pub has_outputs : HasOutputs meaning
    has_outputs lines = output_from [] lines (none_yet meaning)

  -- each statement holds or doesn't
  either_way : (A : Type 0) → ((A ⊎ (A → ⊥)) → ⊥) → ⊥
  either_way A k = k (inr (λ a. k (inl a)))

  module _ (never : IsNeverStuck meaning) where
    lacks_from : (before lines : Lines) → IsFaultless meaning before → ((text : List ℕ) (status : ℕ) → IsOutput meaning (before ++ lines) text status → ⊥) → ⊥
    lacks_from before [] none k =
        never.ends before none (λ text status ends.
        k text status (subst (λ (l : Lines). IsOutput meaning l text status) (sym (append-nil before)) (inl (record { faultless = none; ends = ends }))))
    lacks_from before (line ∷ lines) none k =
        either_way ((fault : Fault) × IsFault meaning before line fault) (λ c. elim c [
          | inl f ↦ never.gives before none (λ given gives.
              k (given ++ fault_line (length before + 1) f.0) (fault_status f.0) (inr (record {
                number = length before + 1;
                fault = f.0;
                first = record { earlier = before; line = line; later = lines; list = refl; at = refl; is_fault = f.1; faultless = none };
                given = given;
                gives = gives;
                text_is = refl;
                status_is = refl;
              })))
          | inr sound ↦ lacks_from (before ++ line ∷ []) lines (one_more meaning before line (λ fault is. sound (fault, is)) none) (λ text status output.
              k text status (subst (λ (l : Lines). IsOutput meaning l text status) (append_assoc before (line ∷ []) lines) output))
        ])

    pub lacks_no_output : LacksNoOutput meaning
    lacks_no_output lines = lacks_from [] lines (none_yet meaning)
