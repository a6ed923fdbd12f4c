-- what the command has told, some elements or one start further
use Rattle.std.proofs.Common.{◌≡◌, ℕ, ◌+◌, ◌&&◌, Bool, List, [], ◌∷◌, ◌++◌, length, pos, ◌-ℤ◌, sym, ◌∙◌, ap, ap₂, subst, append_assoc, length-append, arith}
use Rattle.std.specs.List.{AllByRecursion}
use Rattle.std.proofs.lemmas.List.{map-append}
use Rattle.ten_unit.specs.declared.character.Element.{Element}
use Rattle.slot_evidence.specs.Facts.{Facts}
use Rattle.slot_evidence.specs.Sheet.{IsEnds}
use Rattle.slot_join.specs.declared.joined.Joined.{Joined}
use Rattle.slot_join.specs.Answer.{IsAnswer, is_reported}
use Rattle.long_capture.specs.declared.starts.Start.{Start}
use Rattle.long_capture.specs.Starts.{starts_below, facts_from}
use Rattle.long_capture.specs.Told.{IsStart, AreQuiet, IsNextStart}
use Rattle.long_capture.specs.Captures.{StandsFor as CaptureStandsFor, Ending, decided, reached}
use Rattle.stream_capture.specs.declared.command.Capturing.{Capturing}
use Rattle.stream_capture.specs.Telling.{AnsweredStart, AreAnsweredStarts, start_line, told_text}
use Rattle.stream_capture.specs.inside.Progress.{Counts, HasTold, EndsTold, HasToldAll, TellsOne}
use Rattle.stream_capture.proofs.Texts.{line_of, told_push, reported_push}

-- the laws of starts that go on
pub record Laws : Type 0 where
  pub quiet : (e : List Element) (low high : ℕ) → AreQuiet e low high → starts_below e high ≡ starts_below e low
  pub next : (e : List Element) (low high : ℕ) (start : Start) (is : IsNextStart e low high start) → starts_below e high ≡ starts_below e low ++ is.lead ∷ []

-- a start of a stream whose answer has this lead
abbrev one_at : ℕ → Joined → AnsweredStart
one_at lead answer = record { lead = lead; answer = answer }

all_push : (P : AnsweredStart → Type 0) (told : List AnsweredStart) (one : AnsweredStart) → AllByRecursion P told → P one → AllByRecursion P (told ++ one ∷ [])
all_push P [] one all is = (is, tt)
all_push P (t ∷ told) one all is = (all.0, all_push P told one all.1 is)

same_last : {a b high : ℕ} → high ≡ a + 1 → high ≡ b + 1 → a ≡ b
same_last {a} {b} {high} e f = omega (arith, e, f)

module _ (laws : Laws) where
  quiet_told : (e : List Element) (low high : ℕ) (told : List AnsweredStart) → AreAnsweredStarts e low told → AreQuiet e low high → AreAnsweredStarts e high told
  quiet_told e low high told t quiet = record { leads = t.leads ∙ sym (laws.quiet e low high quiet); answers = t.answers }

  next_told : (e : List Element) (low high lead : ℕ) (start : Start) (told : List AnsweredStart) (answer : Joined) → AreAnsweredStarts e low told → IsNextStart e low high start → high ≡ lead + 1
      → ((F : Facts) → IsEnds F start.sheet → IsAnswer F answer) → AreAnsweredStarts e high (told ++ one_at lead answer ∷ [])
  next_told e low high lead start told answer t is last answers =
      let same : is.lead ≡ lead = same_last is.last last in
      let at = subst (λ (k : ℕ). IsStart e k start) same is.is in
      record {
        leads = map-append (λ (one : AnsweredStart). one.lead) told (one_at lead answer ∷ [])
            ∙ ap (λ (l : List ℕ). l ++ lead ∷ []) t.leads
            ∙ ap (λ (k : ℕ). starts_below e low ++ k ∷ []) (sym same)
            ∙ sym (laws.next e low high start is);
        answers = all_push (λ (one : AnsweredStart). IsAnswer (facts_from e one.lead) one.answer) told (one_at lead answer) t.answers (answers (facts_from e lead) at.ends);
      }

  -- ---- the line of a start

  -- this text was told, and counted
  pub record IsCounted (command : Capturing) (told : List AnsweredStart) (text : List ℕ) : Type 0 where
    pub text_is : text ≡ told_text 0 told
    pub counts : Counts command told

  one_counted : (old new : Capturing) (start : Start) (told : List AnsweredStart) (lead : ℕ) (text before after : List ℕ) → IsCounted old told (text ++ before) → (one : TellsOne old new start before after)
      → start.at ≡ pos lead -ℤ pos 150 → IsCounted new (told ++ one_at lead one.answer ∷ []) (text ++ after)
  one_counted old new start told lead text before after is one at =
      let line = line_of (length told) (one_at lead one.answer) in
      record {
        text_is = ap (λ (t : List ℕ). text ++ t) one.text_is
            ∙ ap₂ (λ (k : ℕ) origin. text ++ (before ++ start_line k origin one.answer)) is.counts.count_is at
            ∙ sym (append_assoc text before line)
            ∙ ap (λ (t : List ℕ). t ++ line) is.text_is
            ∙ sym (told_push told (one_at lead one.answer));
        counts = record {
          count_is = one.count_is ∙ ap (λ (k : ℕ). k + 1) is.counts.count_is ∙ sym (length-append told (one_at lead one.answer ∷ []));
          well_is = one.well_is ∙ ap (λ (b : Bool). b && is_reported one.answer) is.counts.well_is ∙ sym (reported_push told (one_at lead one.answer));
        };
      }

  -- the command with another capture has counted the same
  recounted : (old new : Capturing) (told : List AnsweredStart) (text : List ℕ) → new.count ≡ old.count → new.is_well ≡ old.is_well → text ≡ told_text 0 told → Counts old told → IsCounted new told text
  recounted old new told text count well text_is counts = record { text_is = text_is; counts = record { count_is = count ∙ counts.count_is; well_is = well ∙ counts.well_is } }

  -- ---- some elements further

  -- what was told of the stream so far, whatever follows the next elements
  so_far : (old : Capturing) (e xs : List Element) (text : List ℕ) (h : HasTold old e text) (more : List Element) → AreAnsweredStarts (e ++ (xs ++ more)) (reached old.capture) h.told
  so_far old e xs text h more = subst (λ (n : ℕ). AreAnsweredStarts (e ++ (xs ++ more)) n h.told) (sym h.stands.far) (h.are_told (xs ++ more))

  pub quiet_taken : (old new : Capturing) (e xs : List Element) (text : List ℕ) → HasTold old e text → CaptureStandsFor new.capture (e ++ xs)
      → ((more : List Element) → AreQuiet (e ++ (xs ++ more)) (reached old.capture) (reached new.capture)) → new.count ≡ old.count → new.is_well ≡ old.is_well → HasTold new (e ++ xs) text
  quiet_taken old new e xs text h stands quiet count well =
      let counted = recounted old new h.told text count well h.text_is h.counts in
      record {
        stands = stands;
        told = h.told;
        are_told = λ more.
            subst (λ (s : List Element). AreAnsweredStarts s (decided (length (e ++ xs))) h.told) (sym (append_assoc e xs more))
            (subst (λ (n : ℕ). AreAnsweredStarts (e ++ (xs ++ more)) n h.told) stands.far
            (quiet_told (e ++ (xs ++ more)) (reached old.capture) (reached new.capture) h.told (so_far old e xs text h more) (quiet more)));
        text_is = counted.text_is;
        counts = counted.counts;
      }

  pub start_taken : (old taken new : Capturing) (e xs : List Element) (start : Start) (text before after : List ℕ) → HasTold old e (text ++ before)
      → CaptureStandsFor taken.capture (e ++ xs) → ((more : List Element) → IsNextStart (e ++ (xs ++ more)) (reached old.capture) (reached taken.capture) start)
      → taken.count ≡ old.count → taken.is_well ≡ old.is_well → TellsOne taken new start before after → HasTold new (e ++ xs) (text ++ after)
  start_taken old taken new e xs start text before after h stands next count well one =
      let here = next [] in
      let counted = one_counted taken new start h.told here.lead text before after (recounted old taken h.told (text ++ before) count well h.text_is h.counts) one here.is.origin in
      record {
        stands = subst (λ c. CaptureStandsFor c (e ++ xs)) (sym one.capture_is) stands;
        told = h.told ++ one_at here.lead one.answer ∷ [];
        are_told = λ more.
            subst (λ (s : List Element). AreAnsweredStarts s (decided (length (e ++ xs))) (h.told ++ one_at here.lead one.answer ∷ [])) (sym (append_assoc e xs more))
            (subst (λ (n : ℕ). AreAnsweredStarts (e ++ (xs ++ more)) n (h.told ++ one_at here.lead one.answer ∷ [])) stands.far
            (next_told (e ++ (xs ++ more)) (reached old.capture) (reached taken.capture) here.lead start h.told one.answer (so_far old e xs (text ++ before) h more) (next more) here.last one.is_answer));
        text_is = counted.text_is;
        counts = counted.counts;
      }

  -- ---- at the stream's end

  pub start_at_end : (old taken new : Capturing) (e : List Element) (start : Start) (text before after : List ℕ) → EndsTold old e (text ++ before)
      → Ending taken.capture e → IsNextStart e (reached old.capture) (reached taken.capture) start
      → taken.count ≡ old.count → taken.is_well ≡ old.is_well → TellsOne taken new start before after → EndsTold new e (text ++ after)
  start_at_end old taken new e start text before after h ending next count well one =
      let counted = one_counted taken new start h.told next.lead text before after (recounted old taken h.told (text ++ before) count well h.text_is h.counts) one next.is.origin in
      record {
        ending = subst (λ c. Ending c e) (sym one.capture_is) ending;
        told = h.told ++ one_at next.lead one.answer ∷ [];
        are_told =
            subst (λ c. AreAnsweredStarts e (reached c) (h.told ++ one_at next.lead one.answer ∷ [])) (sym one.capture_is)
            (next_told e (reached old.capture) (reached taken.capture) next.lead start h.told one.answer h.are_told next next.last one.is_answer);
        text_is = counted.text_is;
        counts = counted.counts;
      }

  -- no start is left
  pub all_told : (old new : Capturing) (e : List Element) (text : List ℕ) → EndsTold old e text → Ending new.capture e → AreQuiet e (reached old.capture) (reached new.capture)
      → reached new.capture ≡ length e + 150 → new.count ≡ old.count → new.is_well ≡ old.is_well → HasToldAll new e text
  all_told old new e text h ending quiet all count well =
      let counted = recounted old new h.told text count well h.text_is h.counts in
      record {
        told = h.told;
        are_told = subst (λ (n : ℕ). AreAnsweredStarts e n h.told) all (quiet_told e (reached old.capture) (reached new.capture) h.told h.are_told quiet);
        text_is = counted.text_is;
        well_is = counted.counts.well_is;
      }
