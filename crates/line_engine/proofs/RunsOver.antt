-- a run over a meaning is one over any with the same faults that it implies
use Rattle.std.proofs.Common.{ℕ, List, ◌++◌, Option, ◌⊎◌, inl, inr}
use Rattle.byte_streams.specs.declared.streams.Source
use Rattle.byte_streams.specs.declared.streams.Sink
use Rattle.line_engine.specs.declared.faults.Fault.{Fault}
use Rattle.line_engine.specs.declared.faults.Fault.TheVariants.{TooManyLines}
use Rattle.byte_streams.specs.Streams.{IsEnded}
use Rattle.line_engine.specs.Lines.{Lines, lines_of}
use Rattle.line_engine.specs.Meaning.{Meaning}
use Rattle.line_engine.specs.Faults.{IsFault, IsFaultless, IsFirstFault}
use Rattle.line_engine.specs.Output.{IsWhole, IsFaulty, IsSoFar, IsOutput, Asks, AsksEarly}
use Rattle.line_engine.specs.Endings.{IsRest, TellsWhole, TellsFault, TellsSoFar, CutsOff, TellsFront}
use Rattle.line_engine.specs.Runs.{IsRun}

-- a meaning with other texts of the same lines
abbrev pub with_texts : (M : Meaning) → (Lines → List ℕ → Type 0) → (Lines → List ℕ → ℕ → Type 0) → Meaning
with_texts M G E = record M { Gives = G; Ends = E }

module _ (M : Meaning) (G : Lines → List ℕ → Type 0) (E : Lines → List ℕ → ℕ → Type 0)
    (gives : (lines : Lines) (text : List ℕ) → M.Gives lines text → G lines text)
    (ends : (lines : Lines) (text : List ℕ) (status : ℕ) → M.Ends lines text status → E lines text status) where
  abbrev N : Meaning
  N = with_texts M G E

  -- ---- both meanings have the same faults

  forth : (earlier : Lines) (line : List ℕ) (fault : Fault) → IsFault M earlier line fault → IsFault N earlier line fault
  forth earlier line TooManyLines is = is
  forth earlier line _ is = is

  back : (earlier : Lines) (line : List ℕ) (fault : Fault) → IsFault N earlier line fault → IsFault M earlier line fault
  back earlier line TooManyLines is = is
  back earlier line _ is = is

  faultless : (lines : Lines) → IsFaultless M lines → IsFaultless N lines
  faultless lines f = record { none = λ earlier line later fault list is. f.none earlier line later fault list (back earlier line fault is) }

  abbrev first_fault : (lines : Lines) (number : ℕ) (fault : Fault) → IsFirstFault M lines number fault → IsFirstFault N lines number fault
  first_fault lines number fault f = record {
    earlier = f.earlier;
    line = f.line;
    later = f.later;
    list = f.list;
    at = f.at;
    is_fault = forth f.earlier f.line fault f.is_fault;
    faultless = faultless f.earlier f.faultless;
  }

  whole : (lines : Lines) (text : List ℕ) (status : ℕ) → IsWhole M lines text status → IsWhole N lines text status
  whole lines text status w = record { faultless = faultless lines w.faultless; ends = ends lines text status w.ends }

  faulty : (lines : Lines) (text : List ℕ) (status : ℕ) → IsFaulty M lines text status → IsFaulty N lines text status
  faulty lines text status f = record {
    number = f.number;
    fault = f.fault;
    first = first_fault lines f.number f.fault f.first;
    given = f.given;
    gives = gives f.first.earlier f.given f.gives;
    text_is = f.text_is;
    status_is = f.status_is;
  }

  so_far : (lines : Lines) (text : List ℕ) → IsSoFar M lines text → IsSoFar N lines text
  so_far lines text s = record { first = s.first; later = s.later; list = s.list; faultless = faultless s.first s.faultless; gives = gives s.first text s.gives }

  output : (lines : Lines) (text : List ℕ) (status : ℕ) → IsOutput M lines text status → IsOutput N lines text status
  output lines text status (inl w) = inl (whole lines text status w)
  output lines text status (inr f) = inr (faulty lines text status f)

  asks : (lines : Lines) (text : List ℕ) → Asks M lines text → Asks N lines text
  asks lines text (inl o) = inl (o.0, output lines text o.0 o.1)
  asks lines text (inr s) = inr (s.0, so_far lines text s.1)

  asks_early : (lines : Lines) (text : List ℕ) → AsksEarly M lines text → AsksEarly N lines text
  asks_early lines text (inl f) = inl (f.0, faulty lines text f.0 f.1)
  asks_early lines text (inr s) = inr (s.0, so_far lines text s.1)

  early_text : (left : Option (List ℕ)) (taken text : List ℕ) → IsEnded left ⊎ ((rest : List ℕ) → IsRest left rest → AsksEarly M (lines_of (taken ++ rest)) text)
      → IsEnded left ⊎ ((rest : List ℕ) → IsRest left rest → AsksEarly N (lines_of (taken ++ rest)) text)
  early_text left taken text (inl ended) = inl ended
  early_text left taken text (inr early) = inr (λ rest is. asks_early _ text (early rest is))

  -- ---- the endings

  module _ (left_before left_after before after : Option (List ℕ)) where
    tells_whole : (flushed status : ℕ) → TellsWhole M left_before left_after before after flushed status → TellsWhole N left_before left_after before after flushed status
    tells_whole flushed status t = record { input = t.input; lost = t.lost; ended = t.ended; text = t.text; whole = whole _ t.text status t.whole; writes = t.writes }

    tells_fault : (flushed status : ℕ) → TellsFault M left_before left_after before after flushed status → TellsFault N left_before left_after before after flushed status
    tells_fault flushed status t = record { taken = t.taken; lost = t.lost; text = t.text; faulty = λ rest is. faulty _ t.text status (t.faulty rest is); writes = t.writes }

    tells_so_far : TellsSoFar M left_before left_after before after → TellsSoFar N left_before left_after before after
    tells_so_far t = record {
      taken = t.taken;
      lost = t.lost;
      lines = t.lines;
      end = t.end;
      cut = t.cut;
      faultless = faultless t.lines t.faultless;
      text = t.text;
      gives = gives t.lines t.text t.gives;
      appended = t.appended;
    }

    cuts_off : CutsOff M left_before left_after before after → CutsOff N left_before left_after before after
    cuts_off t = record {
      taken = t.taken;
      lost = t.lost;
      text = t.text;
      asked = λ rest is. asks _ t.text (t.asked rest is);
      early = early_text left_after t.taken t.text t.early;
      writes = t.writes;
    }

    tells_front : TellsFront M left_before left_after before after → TellsFront N left_before left_after before after
    tells_front t = record { taken = t.taken; lost = t.lost; text = t.text; so_far = λ rest is. so_far _ t.text (t.so_far rest is); writes = t.writes }

  -- a run
  pub runs_over : {In Out : Type 0} (source : Source.Ghosts In) (sink : Sink.Ghosts Out) (from rest : In) (before after : Out) (status : ℕ)
      → IsRun M source sink from rest before after status → IsRun N source sink from rest before after status
  runs_over source sink from rest before after status r = record {
    whole = λ is. tells_whole _ _ _ _ _ status (r.whole is);
    faulty = λ is. tells_fault _ _ _ _ _ status (r.faulty is);
    stopped = λ is. tells_so_far _ _ _ _ (r.stopped is);
    cut = λ is. cuts_off _ _ _ _ (r.cut is);
    memory = λ is. tells_front _ _ _ _ (r.memory is);
    unwritten = λ quiet is. r.unwritten (λ lines text given. quiet lines text (gives lines text given)) is;
    unflushed = r.unflushed;
    bounded = r.bounded;
    read_cause = r.read_cause;
    read_sound = r.read_sound;
    write_cause = r.write_cause;
    write_sound = r.write_sound;
    told = r.told;
    range = r.range;
    completes = r.completes;
  }
