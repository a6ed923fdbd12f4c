-- how a run ends
use Rattle.std.proofs.Common.{◌≡◌, ◌≢◌, ℕ, List, [], ◌++◌, Option, refl, sym, ◌∙◌, ap, subst, arith, append-nil, ◌⊎◌, inl, inr}
use Rattle.byte_streams.specs.Streams.{IsEnded}
use Rattle.line_engine.specs.declared.faults.FirstFault.{FirstFault}
use Rattle.line_engine.specs.declared.halts.Halt.{Halt}
use Rattle.line_engine.specs.declared.halts.Halt.TheVariants as halt
use Rattle.line_engine.specs.Lines.{Lines, lines_of}
use Rattle.line_engine.specs.Meaning.{Meaning}
use Rattle.line_engine.specs.Faults.{IsFaultless, fault_line, fault_status}
use Rattle.line_engine.specs.Output.{IsFaulty, IsSoFar, Asks}
use Rattle.line_engine.specs.Endings.{IsOfFault, IsRest, Writes, WritesFront, TellsFault, TellsFront, CutsOff}
use Rattle.line_engine.specs.inside.Progress.{HasWritten, Fails, RunsThrough, RunsInto, StopsAtFault}
use Rattle.line_engine.proofs.Going.{GivesLaw, no_rest}

first_so_far : {meaning : Meaning} {all lines : Lines} {text : List ℕ} → ((later : Lines) × (all ≡ lines ++ later)) → IsFaultless meaning lines → meaning.Gives lines text → IsSoFar meaning all text
first_so_far {lines = lines} first none gives = record { first = lines; later = first.0; list = first.1; faultless = none; gives = gives }

at_rest : (left : Option (List ℕ)) (taken rest : List ℕ) → IsEnded left → IsRest left rest → lines_of taken ≡ lines_of (taken ++ rest)
at_rest left taken rest ended is = ap lines_of (sym (append-nil taken) ∙ ap (λ (l : List ℕ). taken ++ l) (sym (no_rest left rest ended is)))

-- the whole text was cut off
pub finished_cut : {Command Sink : Type 0} {meaning : Meaning} {stands_for : Command → Lines → List ℕ → Type 0} {written : Sink → Option (List ℕ)} {faults : Sink → ℕ} {left_before left_after : Option (List ℕ)}
    {start old new : Sink} {command : Command} {before : List ℕ} (after shown : List ℕ) (status : ℕ) → shown ≡ after → RunsThrough meaning stands_for written faults left_before left_after start command before old
    → ((lines : Lines) (text : List ℕ) → stands_for command lines (text ++ before) → meaning.Ends lines (text ++ after) status)
    → ((from : Sink) (text : List ℕ) → HasWritten written faults from old text → Fails written faults from new (text ++ shown ++ []))
    → CutsOff meaning left_before left_after (written start) (written new)
finished_cut {meaning = meaning} {written = written} {faults = faults} {left_after = left_after} {start = start} {new = new} after shown status e runs ends fails =
    let through = runs.through in
    let text = through.text ++ after in
    let cut = subst (λ (t : List ℕ). Fails written faults start new (through.text ++ t ++ [])) e (fails start through.text through.wrote) in
    record {
      taken = runs.taken;
      lost = runs.lost;
      text = text;
      asked = λ rest is. subst (λ (lines : Lines). Asks meaning lines text) (at_rest left_after runs.taken rest runs.ended is)
          (inl (status, inl (record { faultless = through.faultless; ends = ends (lines_of runs.taken) through.text through.stands })));
      early = inl runs.ended;
      writes = subst (λ (t : List ℕ). WritesFront (written start) (written new) t) (append-nil text) cut.writes;
    }

-- the command found no memory to end its input
pub finished_front : {Command Sink : Type 0} {meaning : Meaning} {stands_for : Command → Lines → List ℕ → Type 0} {written : Sink → Option (List ℕ)} {faults : Sink → ℕ} {left_before left_after : Option (List ℕ)}
    {start sink : Sink} {command : Command} {before : List ℕ} → GivesLaw meaning stands_for → RunsThrough meaning stands_for written faults left_before left_after start command before sink
    → TellsFront meaning left_before left_after (written start) (written sink)
finished_front {meaning = meaning} {left_after = left_after} {command = command} {before = before} gives runs =
    let through = runs.through in
    let given = gives command (lines_of runs.taken) (through.text ++ before) through.stands in
    record {
      taken = runs.taken;
      lost = runs.lost;
      text = through.text ++ before;
      so_far = λ rest is. first_so_far ([], sym (at_rest left_after runs.taken rest runs.ended is) ∙ sym (append-nil (lines_of runs.taken))) through.faultless given;
      writes = record { front = through.text; back = before; text_is = refl; appended = through.wrote.gained };
    }

faulty : {Sink : Type 0} {meaning : Meaning} {written : Sink → Option (List ℕ)} {faults : Sink → ℕ} {start sink : Sink} {left : Option (List ℕ)} {taken pending : List ℕ} {first : FirstFault} (rest : List ℕ) (status : ℕ) → status ≡ fault_status first.fault
    → (stops : StopsAtFault meaning written faults start left taken pending sink first) → IsRest left rest → IsFaulty meaning (lines_of (taken ++ rest)) (stops.text ++ pending ++ fault_line first.line first.fault) status
faulty {pending = pending} {first = first} rest status e stops is =
    let next = stops.next rest is in
    record {
      number = first.line;
      fault = first.fault;
      first = record { earlier = stops.lines; line = next.line; later = next.later; list = next.list; at = stops.line_is; is_fault = next.is_fault; faultless = stops.faultless };
      given = stops.text ++ pending;
      gives = stops.gives;
      text_is = refl;
      status_is = e;
    }

-- the first fault was told
pub fault_told : {Sink : Type 0} {meaning : Meaning} {written : Sink → Option (List ℕ)} {faults : Sink → ℕ} {left_before left_after : Option (List ℕ)} {start old new : Sink} {pending : List ℕ} {flushed : ℕ} (first : FirstFault) (shown line : List ℕ) (status : ℕ)
    → RunsInto meaning written faults left_before left_after start pending old (halt.Fault first) → shown ≡ pending → line ≡ fault_line first.line first.fault → status ≡ fault_status first.fault
    → ((from : Sink) (text : List ℕ) → HasWritten written faults from old text → Writes (written from) (written new) flushed (text ++ shown ++ line)) → TellsFault meaning left_before left_after (written start) (written new) flushed status
fault_told {written = written} {start = start} {new = new} {pending = pending} {flushed = flushed} first shown line status runs same e f done = record {
  taken = runs.taken;
  lost = runs.lost;
  text = runs.stops.text ++ pending ++ fault_line first.line first.fault;
  faulty = λ rest is. faulty rest status f runs.stops is;
  writes = subst (λ (t : List ℕ). Writes (written start) (written new) flushed (runs.stops.text ++ pending ++ t)) e (subst (λ (t : List ℕ). Writes (written start) (written new) flushed (runs.stops.text ++ t ++ line)) same (done start runs.stops.text runs.stops.wrote));
}

-- and was cut off
pub fault_cut : {Sink : Type 0} {meaning : Meaning} {written : Sink → Option (List ℕ)} {faults : Sink → ℕ} {left_before left_after : Option (List ℕ)} {start old new : Sink} {pending : List ℕ} (first : FirstFault) (shown line : List ℕ)
    → RunsInto meaning written faults left_before left_after start pending old (halt.Fault first) → shown ≡ pending → line ≡ fault_line first.line first.fault
    → ((from : Sink) (text : List ℕ) → HasWritten written faults from old text → Fails written faults from new (text ++ shown ++ line)) → CutsOff meaning left_before left_after (written start) (written new)
fault_cut {written = written} {faults = faults} {start = start} {new = new} {pending = pending} first shown line runs same e fails =
    let cut = subst (λ (t : List ℕ). Fails written faults start new (runs.stops.text ++ pending ++ t)) e (subst (λ (t : List ℕ). Fails written faults start new (runs.stops.text ++ t ++ line)) same (fails start runs.stops.text runs.stops.wrote)) in
    record {
      taken = runs.taken;
      lost = runs.lost;
      text = runs.stops.text ++ pending ++ fault_line first.line first.fault;
      asked = λ rest is. inl (fault_status first.fault, inr (faulty rest (fault_status first.fault) refl runs.stops is));
      early = inr (λ rest is. inl (fault_status first.fault, faulty rest (fault_status first.fault) refl runs.stops is));
      writes = cut.writes;
    }

-- what lines so far gave was cut off
pub write_cut : {Sink : Type 0} {meaning : Meaning} {written : Sink → Option (List ℕ)} {faults : Sink → ℕ} {left_before left_after : Option (List ℕ)} {start sink : Sink} {pending : List ℕ}
    → RunsInto meaning written faults left_before left_after start pending sink halt.Write → CutsOff meaning left_before left_after (written start) (written sink)
write_cut runs = record {
  taken = runs.taken;
  lost = runs.lost;
  text = runs.stops.text;
  asked = λ rest is. inr (runs.stops.some, first_so_far (runs.stops.first rest is) runs.stops.faultless runs.stops.gives);
  early = inr (λ rest is. inr (runs.stops.some, first_so_far (runs.stops.first rest is) runs.stops.faultless runs.stops.gives));
  writes = runs.stops.fails.writes;
}

-- there was no memory for a line
pub memory_front : {Sink : Type 0} {meaning : Meaning} {written : Sink → Option (List ℕ)} {faults : Sink → ℕ} {left_before left_after : Option (List ℕ)} {start sink : Sink} {pending : List ℕ}
    → RunsInto meaning written faults left_before left_after start pending sink halt.Memory → TellsFront meaning left_before left_after (written start) (written sink)
memory_front runs =
    let stops = runs.stops in
    record {
      taken = runs.taken;
      lost = runs.lost;
      text = stops.text ++ stops.back;
      so_far = λ rest is. first_so_far (stops.first rest is) stops.faultless stops.gives;
      writes = record { front = stops.text; back = stops.back; text_is = refl; appended = stops.wrote.gained };
    }

pub at_halt : {Sink : Type 0} {meaning : Meaning} {written : Sink → Option (List ℕ)} {faults : Sink → ℕ} {left_before left_after : Option (List ℕ)} {start sink : Sink} {pending : List ℕ} {h k : Halt}
    → h ≡ k → RunsInto meaning written faults left_before left_after start pending sink h → RunsInto meaning written faults left_before left_after start pending sink k
at_halt e runs = grind arith

pub not_five : (status : ℕ) → IsOfFault status → status ≢ 5
not_five status h five = grind arith

pub status_of : (status told : ℕ) → status ≢ 5 → (status ≡ told) ⊎ (status ≡ 5) → status ≡ told
status_of status told other h = grind arith
