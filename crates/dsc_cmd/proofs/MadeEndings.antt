-- What `make` writes is what an empty input ends with.
use Rattle.std.proofs.Common.{◌≡◌, ◌≢◌, ◌⊎◌, inl, inr, ℕ, Bool, List, [], Option, Some, refl, sym, ap, subst, arith}
use Rattle.byte_streams.specs.declared.streams.Source
use Rattle.byte_streams.specs.declared.streams.Sink
use Rattle.byte_streams.specs.Streams.{Rises, SeenBefore}
use Rattle.byte_streams.proofs.PublicLaws.{Gains-none}
use Rattle.line_engine.specs.Lines.{lines_of}
use Rattle.line_engine.specs.Output.{IsWhole, Asks}
use Rattle.line_engine.specs.Endings.{IsFinished, IsOfFault, IsBrokenOff, IsRest, TellsWhole, CutsOff, TellsFront}
use Rattle.line_engine.specs.Runs.{IsRun}
use Rattle.line_engine.proofs.PublicLaws.{none_yet}
use Rattle.command_line.specs.declared.plans.Plan.TheVariants.{Join, Evidence, Encode, Sentences, Replay, Make, Capture, Watch, Exchange, Book}
use Rattle.generated_join.specs.Summary.{IsMade}
use Rattle.dsc_cmd.specs.Plans.{made_meaning, source_of, WritesSummary, CutsOffSummary}

nothing_left : {rest : List ℕ} → ◌≡◌ {A = Option (List ℕ)} (Some []) (Some rest) → rest ≡ []
nothing_left e = cc

whole_of : (n : ℕ) (text : List ℕ) (status : ℕ) → IsMade n text status → IsWhole (made_meaning n) (lines_of []) text status
unfolding lines_of
whole_of n text status made = record { faultless = none_yet (made_meaning n); ends = made }

pub made_whole : (n : ℕ) (before after : Option (List ℕ)) (flushed status : ℕ) → WritesSummary n before after flushed status
    → TellsWhole (made_meaning n) (Some []) (Some []) before after flushed status
made_whole n before after flushed status w = record {
  input = [];
  lost = refl;
  ended = λ rest is. nothing_left is;
  text = w.text;
  whole = whole_of n w.text status w.is_made;
  writes = w.writes;
}

-- what an empty input ends with is what `make` wrote
pub summary_of_whole : (n : ℕ) (left_before left_after before after : Option (List ℕ)) (flushed status : ℕ)
    → TellsWhole (made_meaning n) left_before left_after before after flushed status → WritesSummary n before after flushed status
summary_of_whole n left_before left_after before after flushed status w = record { text = w.text; is_made = w.whole.ends; writes = w.writes }

rest_is : (rest : List ℕ) → IsRest (Some []) rest → rest ≡ []
rest_is rest (inl is) = is
rest_is rest (inr is) = nothing_left is

pub made_cut : (n : ℕ) (before after : Option (List ℕ)) → CutsOffSummary n before after → CutsOff (made_meaning n) (Some []) (Some []) before after
made_cut n before after w = record {
  taken = [];
  lost = refl;
  text = w.text;
  asked = λ rest is.
      subst (λ (r : List ℕ). Asks (made_meaning n) (lines_of r) w.text) (sym (rest_is rest is)) (inl (w.status, inl (whole_of n w.text w.status w.is_made)));
  early = inl (λ rest is. nothing_left is);
  writes = w.writes;
}

pub made_want : (n : ℕ) (written : Option (List ℕ)) → TellsFront (made_meaning n) (Some []) (Some []) written written
made_want n written = record {
  taken = [];
  lost = refl;
  text = [];
  so_far = λ rest is. record { first = []; later = lines_of rest; list = refl; faultless = none_yet (made_meaning n); gives = refl };
  writes = record { front = []; back = []; text_is = refl; appended = Gains-none written };
}

-- ---- `make` ends with no other status

abbrev pub IsMadeStatus : ℕ → Type 0
IsMadeStatus status = IsFinished status ⊎ (status ≡ 5) ⊎ (status ≡ 6)

pub no_fault : (status : ℕ) → IsMadeStatus status → (status ≡ 3) ⊎ (status ≡ 7) → ⊥
no_fault status (inl (inl a)) (inl b) = absurd (cc)
no_fault status (inl (inl a)) (inr b) = absurd (cc)
no_fault status (inl (inr a)) (inl b) = absurd (cc)
no_fault status (inl (inr a)) (inr b) = absurd (cc)
no_fault status (inr (inl a)) (inl b) = absurd (cc)
no_fault status (inr (inl a)) (inr b) = absurd (cc)
no_fault status (inr (inr a)) (inl b) = absurd (cc)
no_fault status (inr (inr a)) (inr b) = absurd (cc)

pub no_read_fault : (status : ℕ) → IsMadeStatus status → status ≡ 4 → ⊥
no_read_fault status (inl (inl a)) b = absurd (cc)
no_read_fault status (inl (inr a)) b = absurd (cc)
no_read_fault status (inr (inl a)) b = absurd (cc)
no_read_fault status (inr (inr a)) b = absurd (cc)

pub no_cut : (status : ℕ) → IsFinished status → status ≡ 5 → ⊥
no_cut status (inl a) b = absurd (cc)
no_cut status (inr a) b = absurd (cc)

broken_off_made : {status : ℕ} → IsMadeStatus status → IsBrokenOff status → (status ≡ 5) ⊎ (status ≡ 6)
broken_off_made which (inl stopped) = absurd (no_read_fault _ which stopped)
broken_off_made which (inr other) = other

quiet_made : {status : ℕ} → IsMadeStatus status → (status ≡ 4) ⊎ (status ≡ 6) → status ≡ 6
quiet_made which (inl stopped) = absurd (no_read_fault _ which stopped)
quiet_made which (inr memory) = memory

range_made : {status : ℕ} → IsMadeStatus status → IsFinished status ⊎ IsOfFault status ⊎ (status ≡ 4) ⊎ (status ≡ 5) ⊎ (status ≡ 6)
range_made (inl finished) = inl finished
range_made (inr (inl cut)) = inr (inr (inr (inl cut)))
range_made (inr (inr memory)) = inr (inr (inr (inr memory)))

-- `make` is a run over an empty input, which leaves its source alone
pub made_run : {In Out : Type 0} (n : ℕ) (source : Source.Ghosts In) (sink : Sink.Ghosts Out) (from : In) (before after : Out) (status : ℕ)
    → IsMadeStatus status
    → (done : IsFinished status → WritesSummary n (sink.written before) (sink.written after) (sink.flushed after) status)
    → (cut : status ≡ 5 → CutsOffSummary n (sink.written before) (sink.written after))
    → (unflushed : status ≡ 5 → sink.flushed after ≡ sink.flushed before)
    → (cause : status ≡ 5 → Rises (sink.faults before) (sink.faults after))
    → (sound : status ≢ 5 → sink.faults after ≡ sink.faults before)
    → (unwritten : status ≡ 6 → after ≡ before)
    → SeenBefore (sink.written before) (sink.written after)
    → IsRun (made_meaning n) (source_of (Make n) source) sink from from before after status
made_run n source sink from before after status which done cut unflushed cause sound unwritten told = record {
  whole = λ finished. made_whole n _ _ _ _ (done finished);
  faulty = λ fault. absurd (no_fault status which fault);
  stopped = λ stopped. absurd (no_read_fault status which stopped);
  cut = λ is. made_cut n _ _ (cut is);
  memory = λ memory.
      subst (λ state. TellsFront (made_meaning n) (Some []) (Some []) (sink.written before) (sink.written state)) (sym (unwritten memory)) (made_want n (sink.written before));
  unwritten = λ quiet halt. unwritten (quiet_made which halt);
  unflushed = λ broken_off. elim (broken_off_made which broken_off) [
    | inl is ↦ unflushed is
    | inr memory ↦ ap (λ state. sink.flushed state) (unwritten memory)
  ];
  bounded = record { taken = []; lost = refl; within = omega arith };
  read_cause = λ stopped. absurd (no_read_fault status which stopped);
  read_sound = λ _. refl;
  write_cause = cause;
  write_sound = sound;
  told = ((λ bytes is. ([], refl)), told);
  range = range_made which;
  completes = λ _ sinks. elim which [
    | inl finished ↦ inl finished
    | inr other ↦ elim other [
      | inl is ↦ absurd (sinks (cause is))
      | inr memory ↦ inr (inr memory)
    ]
  ];
}

-- ---- other plans make nothing

pub join_is_not_make : {m n : ℕ} → Join m ≡ Make n → ⊥
join_is_not_make e = cc

pub evidence_is_not_make : {m n : ℕ} → Evidence m ≡ Make n → ⊥
evidence_is_not_make e = cc

pub encode_is_not_make : {long : Bool} {n : ℕ} → Encode long ≡ Make n → ⊥
encode_is_not_make e = cc

pub sentences_is_not_make : {n : ℕ} → Sentences ≡ Make n → ⊥
sentences_is_not_make e = cc

pub replay_is_not_make : {m n : ℕ} → Replay m ≡ Make n → ⊥
replay_is_not_make e = cc

pub watch_is_not_make : {m n : ℕ} → Watch m ≡ Make n → ⊥
watch_is_not_make e = cc

pub exchange_is_not_make : {n : ℕ} → Exchange ≡ Make n → ⊥
exchange_is_not_make e = cc

pub capture_is_not_make : {n : ℕ} → Capture ≡ Make n → ⊥
capture_is_not_make e = cc

pub book_is_not_make : {n : ℕ} → Book ≡ Make n → ⊥
book_is_not_make e = cc
