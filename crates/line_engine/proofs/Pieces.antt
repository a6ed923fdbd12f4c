-- from one read to the next
use Rattle.std.proofs.Common.{◌≡◌, ℕ, ◌+◌, ◌*◌, ◌<◌, ◌≤◌, true, List, [], ◌++◌, length, Option, Result, Err, IsErrAnd, refl, sym, ◌∙◌, ap, subst, arith, append-nil, length-append}
use Rattle.std.proofs.lemmas.List.{nil_from_length}
use Rattle.byte_streams.specs.Streams.{Loses, IsEnded}
use Rattle.byte_streams.proofs.PublicLaws.{Loses-none, Loses-more}
use Rattle.line_engine.specs.declared.halts.Halt.{Halt}
use Rattle.line_engine.specs.declared.halts.Halt.TheVariants as halt
use Rattle.line_engine.specs.Lines.{Lines, lines_of}
use Rattle.line_engine.specs.Meaning.{Meaning}
use Rattle.line_engine.specs.inside.Progress.{HasWritten, IsOn, RunsThrough, RunsInto, Stops, StopsAtLine, TakesLines}
use Rattle.line_engine.proofs.Cutting.{is_text, cut_all}
use Rattle.line_engine.proofs.Faultless.{none_yet}
use Rattle.line_engine.proofs.Going.{GivesLaw, on_read, on_written, on_through, stopped, stops_last}
use Rattle.line_engine.proofs.Writing.{nothing_written}

-- what the exit of a `?` returns is the error
pub exit_is : {T E : Type 0} (r : Result T E) (e d : E) → IsErrAnd r (λ y. y ≡ e) → r ≡ Err d → e ≡ d
exit_is r e d is f = grind arith

-- without memory for the first read
pub no_window : {Command Sink : Type 0} (meaning : Meaning) (stands_for : Command → Lines → List ℕ → Type 0) (written : Sink → Option (List ℕ)) (faults : Sink → ℕ) (left : Option (List ℕ)) (sink : Sink) (command : Command) (pending : List ℕ)
    → GivesLaw meaning stands_for → stands_for command [] [] → RunsInto meaning written faults left left sink pending sink halt.Memory
no_window meaning stands_for written faults left sink command pending gives fresh = record {
  taken = [];
  lost = Loses-none left;
  within = omega arith;
  stops = record {
    lines = [];
    text = [];
    back = [];
    first = λ rest is. (lines_of rest, refl);
    faultless = none_yet meaning;
    gives = gives command [] [] fresh;
    wrote = nothing_written written faults sink;
  };
}

-- a run after a read
pub record IsReadOn {Command Sink : Type 0} (meaning : Meaning) (stands_for : Command → Lines → List ℕ → Type 0) (written : Sink → Option (List ℕ)) (faults : Sink → ℕ) (left_before left_after : Option (List ℕ))
    (start : Sink) (window : List ℕ) (count : ℕ) (command : Command) (pending : List ℕ) (sink : Sink) : Type 0 where
  pub taken : List ℕ
  pub lost : Loses left_before left_after taken
  pub within : length taken ≤ 275447808
  pub most : length taken ≤ count * 4201 + length window
  pub on : IsOn meaning stands_for written faults start taken window count command pending sink

pub read_on : {Command Sink : Type 0} {meaning : Meaning} {stands_for : Command → Lines → List ℕ → Type 0} {written : Sink → Option (List ℕ)} {faults : Sink → ℕ} {start old new : Sink}
    {taken window : List ℕ} {count : ℕ} {command : Command} {before : List ℕ} (left_before left_mid left_after : Option (List ℕ)) (after given bytes : List ℕ) (n : ℕ)
    → (on : IsOn meaning stands_for written faults start taken window count command before old) → Loses left_before left_mid taken → length taken ≤ count * 4201 + length window → count * 4201 + length window ≤ 275316736
    → after ≡ [] → HasWritten written faults start new (on.text ++ before) → bytes ≡ window ++ given → length given ≡ n → n ≤ 131072 → Loses left_mid left_after given
    → IsReadOn meaning stands_for written faults left_before left_after start bytes count command after new
read_on {taken = taken} {window = window} {count = count} left_before left_mid left_after after given bytes n on lost most few empty wrote e len le lost_too = record {
  taken = taken ++ given;
  lost = Loses-more left_before left_mid left_after taken given lost lost_too;
  within = omega (arith, length-append taken given);
  most = omega (arith, length-append taken given, length-append window given, ap length e);
  on = on_read given bytes e (on_written after empty on wrote);
}

-- a run stopped between this read and the next one
pub stops_after : {Command Sink : Type 0} {meaning : Meaning} {stands_for : Command → Lines → List ℕ → Type 0} {written : Sink → Option (List ℕ)} {faults : Sink → ℕ} {left_before left_after : Option (List ℕ)}
    {start old : Sink} {window : List ℕ} {count : ℕ} {command : Command} {before : List ℕ} (new : Sink) (after : List ℕ) → (is : IsReadOn meaning stands_for written faults left_before left_after start window count command before old)
    → (h : Halt) → Stops meaning written faults start left_after is.taken after new h → RunsInto meaning written faults left_before left_after start after new h
stops_after {left_before = left_before} {left_after = left_after} {start = start} new after is h s = stopped left_before left_after start new is.taken after h is.lost is.within s

-- nothing more came
pub text_still : (window given bytes : List ℕ) → is_text window ≡ true → length given ≡ 0 → bytes ≡ window ++ given → is_text bytes ≡ true
text_still window given bytes t none e = subst (λ (l : List ℕ). is_text l ≡ true) (sym (e ∙ ap (λ (l : List ℕ). window ++ l) (nil_from_length given none) ∙ append-nil window)) t

pub runs_through : {Command Sink : Type 0} {meaning : Meaning} {stands_for : Command → Lines → List ℕ → Type 0} {written : Sink → Option (List ℕ)} {faults : Sink → ℕ} {left_before left_after : Option (List ℕ)}
    {start sink : Sink} {count : ℕ} {old : Command} {before : List ℕ} (bytes : List ℕ) (new : Command) (after : List ℕ) → IsEnded left_after → (is : IsReadOn meaning stands_for written faults left_before left_after start bytes count old before sink)
    → ((lines : Lines) (text : List ℕ) → stands_for old lines (text ++ before) → count ≡ length lines → TakesLines meaning stands_for lines (lines_of bytes) new (text ++ after))
    → RunsThrough meaning stands_for written faults left_before left_after start new after sink
runs_through bytes new after ended is takes = record {
  taken = is.taken;
  lost = is.lost;
  within = is.within;
  ended = ended;
  through = on_through bytes is.on (takes is.on.lines is.on.text is.on.stands is.on.count_is);
}

pub runs_into_last : {Command Sink : Type 0} {meaning : Meaning} {stands_for : Command → Lines → List ℕ → Type 0} {written : Sink → Option (List ℕ)} {faults : Sink → ℕ} {left_before left_after : Option (List ℕ)}
    {start sink : Sink} {count : ℕ} {old : Command} {before : List ℕ} (bytes after : List ℕ) → GivesLaw meaning stands_for → IsEnded left_after → is_text bytes ≡ true → (is : IsReadOn meaning stands_for written faults left_before left_after start bytes count old before sink)
    → (h : Halt) → (0 < length bytes) × ((lines : Lines) (text : List ℕ) → stands_for old lines (text ++ before) → count ≡ length lines → StopsAtLine meaning lines bytes before after h)
    → RunsInto meaning written faults left_before left_after start after sink h
runs_into_last {left_after = left_after} {sink = sink} bytes after gives ended t is h s =
    stops_after sink after is h (stops_last bytes after left_after gives (cut_all bytes t s.0) ended is.on h (s.1 is.on.lines is.on.text is.on.stands is.on.count_is))

-- an open line within the limits
pub few_bytes : (count left len : ℕ) → count ≤ 65536 → (0 < left → count < 65536) → left ≤ 4200 → len ≡ left → count * 4201 + len ≤ 275316736
few_bytes count left len few some short e = grind arith
