-- no stream lacks the lines of its starts
use Rattle.std.proofs.Common.{◌≡◌, ℕ, ◌+◌, ◌<◌, true, nat_lt, if◌then◌else◌, List, [], ◌∷◌, ◌++◌, length, map, refl, sym, ap, subst, append_assoc}
use Rattle.std.specs.List.{AllByRecursion}
use Rattle.std.proofs.lemmas.Bool.{and_parts, ltb-true}
use Rattle.ten_unit.specs.declared.character.Element.{Element}
use Rattle.slot_evidence.specs.Facts.{Facts}
use Rattle.slot_join.specs.declared.joined.Joined.{Joined}
use Rattle.slot_join.specs.Answer.{IsAnswer}
use Rattle.line_engine.specs.Lines.{Lines}
use Rattle.line_engine.specs.Faults.{IsFaultless}
use Rattle.line_engine.specs.Determined.{IsNeverStuck}
use Rattle.line_engine.proofs.PublicLaws.{sound_line_of}
use Rattle.input_lines.specs.StreamLine.{IsStreamLine}
use Rattle.input_lines.proofs.PublicLaws.{line_there}
use Rattle.long_capture.specs.Starts.{starts_below, facts_from}
use Rattle.long_capture.specs.Captures.{decided}
use Rattle.stream_capture.specs.Telling.{AreStreamLines, stream_of, AnsweredStart, AreAnsweredStarts, told_text, are_reported, capture_meaning}

-- it can't be that there is none
abbrev IsThere : Type 0 → Type 0
IsThere A = (A → ⊥) → ⊥

-- no facts lack an answer
abbrev pub AnswerLaw : Type 0
AnswerLaw = (F : Facts) → ((p v : ℕ) → F p v ≡ true → v < 128) → ((answer : Joined) → IsAnswer F answer → ⊥) → ⊥

start_small : (e : List Element) (lead p v : ℕ) → facts_from e lead p v ≡ true → v < 128
unfolding facts_from
start_small e lead p v h = ltb-true v 128 (and_parts (nat_lt v 128) _ (and_parts (nat_lt p 64) _ h).1).0

module _ (law : AnswerLaw) (e : List Element) where
  record ToldOf (leads : List ℕ) : Type 0 where
    told : List AnsweredStart
    leads_are : map (λ one. one.lead) told ≡ leads
    answers : AllByRecursion (λ one. IsAnswer (facts_from e one.lead) one.answer) told

  told_there : (leads : List ℕ) → IsThere (ToldOf leads)
  told_there [] k = k (record { told = []; leads_are = refl; answers = tt })
  told_there (lead ∷ leads) k =
      law (facts_from e lead) (start_small e lead) (λ answer is.
      told_there leads (λ rest. k (record {
        told = record { lead = lead; answer = answer } ∷ rest.told;
        leads_are = ap (λ (l : List ℕ). lead ∷ l) rest.leads_are;
        answers = (is, rest.answers);
      })))

  pub starts_there : (bound : ℕ) → IsThere ((told : List AnsweredStart) × AreAnsweredStarts e bound told)
  starts_there bound k = told_there (starts_below e bound) (λ t. k (t.told, record { leads = t.leads_are; answers = t.answers }))

-- lines without a fault say something
said_there : (earlier lines : Lines) → IsFaultless capture_meaning (earlier ++ lines) → IsThere ((said : List (List Element)) × AreStreamLines said lines)
said_there earlier [] none k = k ([], tt)
said_there earlier (line ∷ lines) none k =
    line_there IsStreamLine line (sound_line_of capture_meaning (earlier ++ line ∷ lines) earlier line lines none refl) (λ w is.
    said_there (earlier ++ line ∷ []) lines (subst (IsFaultless capture_meaning) (sym (append_assoc earlier (line ∷ []) lines)) none) (λ rest.
    k (w ∷ rest.0, (is, rest.1))))

pub capture_never_stuck : AnswerLaw → IsNeverStuck capture_meaning
capture_never_stuck law = record {
  gives = λ lines none k.
      said_there [] lines none (λ said.
      starts_there law (stream_of said.0) (decided (length (stream_of said.0))) (λ told.
      k (told_text 0 told.0) (record { said = said.0; are_lines = said.1; told = told.0; are_told = told.1; text_is = refl })));
  ends = λ lines none k.
      said_there [] lines none (λ said.
      starts_there law (stream_of said.0) (length (stream_of said.0) + 150) (λ told.
      k (told_text 0 told.0) (if are_reported told.0 then 0 else 1)
      (record { said = said.0; are_lines = said.1; told = told.0; are_told = told.1; text_is = refl; status_is = refl })));
}
