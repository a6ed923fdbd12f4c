-- a run from one line to the next
use Rattle.std.proofs.Common.{◌≡◌, ◌≢◌, ℕ, ◌+◌, ◌<◌, ◌≤◌, true, List, [], ◌∷◌, ◌++◌, length, Option, refl, sym, ◌∙◌, ap, subst, arith, append-nil}
use Rattle.std.proofs.lemmas.List.{length_push}
use Rattle.byte_streams.specs.Streams.{Loses, IsEnded}
use Rattle.line_engine.specs.declared.faults.Fault.{Fault}
use Rattle.line_engine.specs.declared.halts.Halt.{Halt}
use Rattle.line_engine.specs.declared.halts.Halt.TheVariants as halt
use Rattle.line_engine.specs.Lines.{Lines, lines_of}
use Rattle.line_engine.specs.Meaning.{Meaning}
use Rattle.line_engine.specs.Faults.{IsFaultless}
use Rattle.line_engine.specs.Endings.{IsRest}
use Rattle.line_engine.specs.inside.Progress.{HasWritten, IsOn, IsThrough, IsNextFault, Stops, StopsAtLine, PassesLimit, IsLimitPassed, IsCounted, TakesLines, PendingFails, RunsInto}
use Rattle.line_engine.proofs.Cutting.{is_text, IsOpenLine, open_line, none_taken, read_more, next_line, line_taken, at_end}
use Rattle.line_engine.proofs.Faultless.{none_yet}

-- what a command stands for is what its lines give
abbrev pub GivesLaw : {Command : Type 0} → Meaning → (Command → Lines → List ℕ → Type 0) → Type 0
GivesLaw {Command} meaning stands_for = (command : Command) (lines : Lines) (text : List ℕ) → stands_for command lines text → meaning.Gives lines text

pub on_counted : {Command Sink : Type 0} {meaning : Meaning} {stands_for : Command → Lines → List ℕ → Type 0} {written : Sink → Option (List ℕ)} {faults : Sink → ℕ} {start sink : Sink}
    {taken left : List ℕ} {count : ℕ} {command : Command} {pending : List ℕ} → IsOn meaning stands_for written faults start taken left count command pending sink → IsCounted stands_for command pending count
on_counted on = record { lines = on.lines; written = on.text; stands = on.stands; count_is = on.count_is }

-- a run begins
pub on_start : {Command Sink : Type 0} {meaning : Meaning} {stands_for : Command → Lines → List ℕ → Type 0} {written : Sink → Option (List ℕ)} {faults : Sink → ℕ} {sink : Sink}
    {command : Command} → (pending : List ℕ) → pending ≡ [] → stands_for command [] [] → HasWritten written faults sink sink [] → IsOn meaning stands_for written faults sink [] [] 0 command pending sink
on_start {meaning = meaning} {stands_for = stands_for} {command = command} pending e stands wrote = record {
  lines = [];
  text = [];
  goes_on = none_taken;
  count_is = refl;
  faultless = none_yet meaning;
  stands = subst (λ (t : List ℕ). stands_for command [] t) (sym e) stands;
  wrote = wrote;
}

-- more bytes were read
pub on_read : {Command Sink : Type 0} {meaning : Meaning} {stands_for : Command → Lines → List ℕ → Type 0} {written : Sink → Option (List ℕ)} {faults : Sink → ℕ} {start sink : Sink}
    {taken left : List ℕ} {count : ℕ} {command : Command} {pending : List ℕ} (given more : List ℕ) → more ≡ left ++ given
    → IsOn meaning stands_for written faults start taken left count command pending sink → IsOn meaning stands_for written faults start (taken ++ given) more count command pending sink
on_read {taken = taken} {left = left} given more e on = record {
  lines = on.lines;
  text = on.text;
  goes_on = λ rest. read_more taken on.lines left given on.goes_on rest ∙ ap (λ (l : List ℕ). on.lines ++ lines_of (l ++ rest)) (sym e);
  count_is = on.count_is;
  faultless = on.faultless;
  stands = on.stands;
  wrote = on.wrote;
}

-- a line was taken
pub on_line : {Command Sink : Type 0} {meaning : Meaning} {stands_for : Command → Lines → List ℕ → Type 0} {written : Sink → Option (List ℕ)} {faults : Sink → ℕ} {start sink : Sink}
    {taken rest : List ℕ} {count : ℕ} {old new : Command} {before after : List ℕ} (line : List ℕ) → is_text line ≡ true
    → (on : IsOn meaning stands_for written faults start taken (line ++ (10 ∷ rest)) count old before sink) → TakesLines meaning stands_for on.lines (line ∷ []) new (on.text ++ after)
    → IsOn meaning stands_for written faults start taken rest (count + 1) new after sink
on_line {taken = taken} {rest = rest} line t on takes = record {
  lines = on.lines ++ line ∷ [];
  text = on.text;
  goes_on = line_taken taken on.lines line rest t on.goes_on;
  count_is = ap (λ (n : ℕ). n + 1) on.count_is ∙ sym (length_push on.lines line);
  faultless = takes.faultless on.faultless;
  stands = takes.stands;
  wrote = on.wrote;
}

-- what was pending is written
pub on_written : {Command Sink : Type 0} {meaning : Meaning} {stands_for : Command → Lines → List ℕ → Type 0} {written : Sink → Option (List ℕ)} {faults : Sink → ℕ} {start old new : Sink}
    {taken left : List ℕ} {count : ℕ} {command : Command} {before : List ℕ} (after : List ℕ) → after ≡ []
    → (on : IsOn meaning stands_for written faults start taken left count command before old) → HasWritten written faults start new (on.text ++ before)
    → IsOn meaning stands_for written faults start taken left count command after new
on_written {stands_for = stands_for} {command = command} {before = before} after e on wrote = record {
  lines = on.lines;
  text = on.text ++ before;
  goes_on = on.goes_on;
  count_is = on.count_is;
  faultless = on.faultless;
  stands = subst (λ (t : List ℕ). stands_for command on.lines t) (sym (append-nil (on.text ++ before)) ∙ ap (λ (t : List ℕ). (on.text ++ before) ++ t) (sym e)) on.stands;
  wrote = wrote;
}

pub counted_written : {Command : Type 0} {stands_for : Command → Lines → List ℕ → Type 0} {command : Command} {before : List ℕ} {count : ℕ} (after : List ℕ) → after ≡ []
    → IsCounted stands_for command before count → IsCounted stands_for command after count
counted_written {stands_for = stands_for} {command = command} {before = before} after e was = record {
  lines = was.lines;
  written = was.written ++ before;
  stands = subst (λ (t : List ℕ). stands_for command was.lines t) (sym (append-nil (was.written ++ before)) ∙ ap (λ (t : List ℕ). (was.written ++ before) ++ t) (sym e)) was.stands;
  count_is = was.count_is;
}

-- the command said more of the same lines
pub on_paused : {Command Sink : Type 0} {meaning : Meaning} {stands_for : Command → Lines → List ℕ → Type 0} {written : Sink → Option (List ℕ)} {faults : Sink → ℕ} {start sink : Sink}
    {taken left : List ℕ} {count : ℕ} {old new : Command} {before : List ℕ} (after : List ℕ)
    → ((lines : Lines) (text : List ℕ) → stands_for old lines (text ++ before) → stands_for new lines (text ++ after))
    → IsOn meaning stands_for written faults start taken left count old before sink → IsOn meaning stands_for written faults start taken left count new after sink
on_paused after says on = grind arith

-- and there was no memory for it
pub stops_in_pause : {Command Sink : Type 0} {meaning : Meaning} {stands_for : Command → Lines → List ℕ → Type 0} {written : Sink → Option (List ℕ)} {faults : Sink → ℕ} {start sink : Sink}
    {taken rest : List ℕ} {count : ℕ} {command : Command} {before : List ℕ} (after : List ℕ) (left : Option (List ℕ)) → GivesLaw meaning stands_for
    → IsOn meaning stands_for written faults start taken rest count command before sink → (h : Halt) → h ≡ halt.Memory → Stops meaning written faults start left taken after sink h
stops_in_pause {rest = rest} {command = command} {before = before} after left gives on halt.Memory is = record {
  lines = on.lines;
  text = on.text;
  back = before;
  first = λ more is. (lines_of (rest ++ more), on.goes_on more);
  faultless = on.faultless;
  gives = gives command on.lines (on.text ++ before) on.stands;
  wrote = on.wrote;
}
stops_in_pause after left gives on (halt.Fault first) is = absurd (cc)
stops_in_pause after left gives on _ is = absurd (cc)

-- a line stops a run
pub stops_at_line : {Command Sink : Type 0} {meaning : Meaning} {stands_for : Command → Lines → List ℕ → Type 0} {written : Sink → Option (List ℕ)} {faults : Sink → ℕ} {start sink : Sink}
    {taken : List ℕ} {count : ℕ} {old : Command} {before : List ℕ} (line rest after : List ℕ) (left : Option (List ℕ)) → GivesLaw meaning stands_for → is_text line ≡ true
    → (on : IsOn meaning stands_for written faults start taken (line ++ (10 ∷ rest)) count old before sink) → (h : Halt) → StopsAtLine meaning on.lines line before after h
    → Stops meaning written faults start left taken after sink h
stops_at_line {meaning = meaning} {taken = taken} {old = old} {before = before} line rest after left gives t on (halt.Fault first) stops = record {
  lines = on.lines;
  text = on.text;
  line_is = stops.0;
  faultless = on.faultless;
  gives = subst (λ (p : List ℕ). meaning.Gives on.lines (on.text ++ p)) (sym stops.2) (gives old on.lines (on.text ++ before) on.stands);
  wrote = on.wrote;
  next = λ more is. record { line = line; later = lines_of (rest ++ more); list = next_line taken on.lines line rest t on.goes_on more; is_fault = stops.1 };
}
stops_at_line line rest after left gives t on halt.Read stops = absurd stops
stops_at_line line rest after left gives t on halt.Write stops = absurd stops
stops_at_line {old = old} {before = before} line rest after left gives t on halt.Memory stops = record {
  lines = on.lines;
  text = on.text;
  back = before;
  first = λ more is. (lines_of ((line ++ (10 ∷ rest)) ++ more), on.goes_on more);
  faultless = on.faultless;
  gives = gives old on.lines (on.text ++ before) on.stands;
  wrote = on.wrote;
}

-- a fault of the sink stops a run
some_more : (a b : List ℕ) → b ≢ [] → a ++ b ≢ []
some_more [] b some e = some e
some_more (x ∷ a) b some e = absurd (cc)

-- a write that fails ends the run with what was written before it
pub stops_in_write : {Command Sink : Type 0} {meaning : Meaning} {stands_for : Command → Lines → List ℕ → Type 0} {written : Sink → Option (List ℕ)} {faults : Sink → ℕ} {start old : Sink}
    {taken rest : List ℕ} {count : ℕ} {command : Command} {before : List ℕ} (new : Sink) (after : List ℕ) (left : Option (List ℕ)) → GivesLaw meaning stands_for
    → IsOn meaning stands_for written faults start taken rest count command before old → (h : Halt) → PendingFails written faults old new before h
    → Stops meaning written faults start left taken after new h
stops_in_write new after left gives on (halt.Fault first) stops = absurd stops
stops_in_write new after left gives on halt.Read stops = absurd stops
stops_in_write {start = start} {rest = rest} {command = command} {before = before} new after left gives on halt.Write stops = record {
  lines = on.lines;
  text = on.text ++ before;
  some = some_more on.text before stops.0;
  first = λ more is. (lines_of (rest ++ more), on.goes_on more);
  faultless = on.faultless;
  gives = gives command on.lines (on.text ++ before) on.stands;
  fails = stops.1 start on.text on.wrote;
}
stops_in_write new after left gives on halt.Memory stops = absurd stops

open_fault : {meaning : Meaning} {all lines : Lines} {rest more : List ℕ} {count : ℕ} {fault : Fault} → IsOpenLine rest more → all ≡ lines ++ lines_of (rest ++ more) → count ≡ length lines
    → IsLimitPassed count (length rest) fault → IsNextFault meaning all lines fault
open_fault o e n p = grind arith

pub stops_open : {Command Sink : Type 0} {meaning : Meaning} {stands_for : Command → Lines → List ℕ → Type 0} {written : Sink → Option (List ℕ)} {faults : Sink → ℕ} {start sink : Sink}
    {taken rest : List ℕ} {count : ℕ} {command : Command} {pending : List ℕ} (left : Option (List ℕ)) → GivesLaw meaning stands_for → is_text rest ≡ true → 0 < length rest
    → IsOn meaning stands_for written faults start taken rest count command pending sink → (h : Halt) → PassesLimit count (length rest) h
    → Stops meaning written faults start left taken pending sink h
stops_open {rest = rest} {command = command} {pending = pending} left gives t some on (halt.Fault first) p = record {
  lines = on.lines;
  text = on.text;
  line_is = p.0 ∙ ap (λ (n : ℕ). n + 1) on.count_is;
  faultless = on.faultless;
  gives = gives command on.lines (on.text ++ pending) on.stands;
  wrote = on.wrote;
  next = λ more is. open_fault (open_line rest more t some) (on.goes_on more) on.count_is p.1;
}
stops_open left gives t some on halt.Read p = absurd p
stops_open left gives t some on _ p = absurd p

-- nothing follows an ended source
pub no_rest : (left : Option (List ℕ)) (rest : List ℕ) → IsEnded left → IsRest left rest → rest ≡ []
no_rest left rest ended h = grind arith

-- the last line stops a run
pub stops_last : {Command Sink : Type 0} {meaning : Meaning} {stands_for : Command → Lines → List ℕ → Type 0} {written : Sink → Option (List ℕ)} {faults : Sink → ℕ} {start sink : Sink}
    {taken : List ℕ} {count : ℕ} {old : Command} {before : List ℕ} (line after : List ℕ) (left : Option (List ℕ)) → GivesLaw meaning stands_for → lines_of line ≡ line ∷ [] → IsEnded left
    → (on : IsOn meaning stands_for written faults start taken line count old before sink) → (h : Halt) → StopsAtLine meaning on.lines line before after h
    → Stops meaning written faults start left taken after sink h
stops_last {meaning = meaning} {taken = taken} {old = old} {before = before} line after left gives t ended on (halt.Fault first) stops = record {
  lines = on.lines;
  text = on.text;
  line_is = stops.0;
  faultless = on.faultless;
  gives = subst (λ (p : List ℕ). meaning.Gives on.lines (on.text ++ p)) (sym stops.2) (gives old on.lines (on.text ++ before) on.stands);
  wrote = on.wrote;
  next = λ more is. record {
    line = line;
    later = [];
    list = ap (λ (m : List ℕ). lines_of (taken ++ m)) (no_rest left more ended is) ∙ ap lines_of (append-nil taken) ∙ at_end taken on.lines line on.goes_on ∙ ap (λ (l : Lines). on.lines ++ l) t;
    is_fault = stops.1;
  };
}
stops_last line after left gives t ended on halt.Read stops = absurd stops
stops_last line after left gives t ended on halt.Write stops = absurd stops
stops_last {old = old} {before = before} line after left gives t ended on halt.Memory stops = record {
  lines = on.lines;
  text = on.text;
  back = before;
  first = λ more is. (lines_of (line ++ more), on.goes_on more);
  faultless = on.faultless;
  gives = gives old on.lines (on.text ++ before) on.stands;
  wrote = on.wrote;
}

-- all lines were taken
pub on_through : {Command Sink : Type 0} {meaning : Meaning} {stands_for : Command → Lines → List ℕ → Type 0} {written : Sink → Option (List ℕ)} {faults : Sink → ℕ} {start sink : Sink}
    {taken : List ℕ} {count : ℕ} {old new : Command} {before after : List ℕ} (rest : List ℕ) → (on : IsOn meaning stands_for written faults start taken rest count old before sink)
    → TakesLines meaning stands_for on.lines (lines_of rest) new (on.text ++ after) → IsThrough meaning stands_for written faults start taken new after sink
on_through {meaning = meaning} {stands_for = stands_for} {taken = taken} {new = new} {after = after} rest on takes =
    let same : on.lines ++ lines_of rest ≡ lines_of taken = sym (at_end taken on.lines rest on.goes_on) in
    record {
      text = on.text;
      few = subst (λ (l : Lines). length l ≤ 65536) same takes.few;
      faultless = subst (λ (l : Lines). IsFaultless meaning l) same (takes.faultless on.faultless);
      stands = subst (λ (l : Lines). stands_for new l (on.text ++ after)) same takes.stands;
      wrote = on.wrote;
    }

-- what is left, in another spelling
pub on_left : {Command Sink : Type 0} {meaning : Meaning} {stands_for : Command → Lines → List ℕ → Type 0} {written : Sink → Option (List ℕ)} {faults : Sink → ℕ} {start sink : Sink}
    {taken left other : List ℕ} {count : ℕ} {command : Command} {pending : List ℕ} → left ≡ other
    → IsOn meaning stands_for written faults start taken left count command pending sink → IsOn meaning stands_for written faults start taken other count command pending sink
on_left e on = grind arith

pub counted_line : {Command : Type 0} {meaning : Meaning} {stands_for : Command → Lines → List ℕ → Type 0} {old new : Command} {line before after : List ℕ} {count : ℕ}
    → (was : IsCounted stands_for old before count) → TakesLines meaning stands_for was.lines (line ∷ []) new (was.written ++ after) → IsCounted stands_for new after (count + 1)
counted_line {line = line} was takes = record {
  lines = was.lines ++ line ∷ [];
  written = was.written;
  stands = takes.stands;
  count_is = ap (λ (n : ℕ). n + 1) was.count_is ∙ sym (length_push was.lines line);
}

-- a run that stopped between two reads
pub stopped : {Sink : Type 0} {meaning : Meaning} {written : Sink → Option (List ℕ)} {faults : Sink → ℕ} (left_before left : Option (List ℕ)) (start sink : Sink) (taken pending : List ℕ) (h : Halt)
    → Loses left_before left taken → length taken ≤ 275447808 → Stops meaning written faults start left taken pending sink h → RunsInto meaning written faults left_before left start pending sink h
stopped left_before left start sink taken pending h lost within s = grind arith

pub not_read : {Sink : Type 0} (meaning : Meaning) (written : Sink → Option (List ℕ)) (faults : Sink → ℕ) (start sink : Sink) (left : Option (List ℕ)) (taken pending : List ℕ) (h : Halt)
    → Stops meaning written faults start left taken pending sink h → h ≡ halt.Read → ⊥
not_read meaning written faults start sink left taken pending h s e = subst (λ (k : Halt). Stops meaning written faults start left taken pending sink k) e s
