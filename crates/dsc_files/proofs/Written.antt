-- what was written is read
use Rattle.std.proofs.Common.{◌≡◌, ◌<◌, ◌^◌, ◌⊎◌, inl, inr, ℕ, Option, Some, None, List, Result, Ok, Err, refl, ap, ◌∙◌}
use Rattle.call_values.specs.declared.calls.Call.{Call}
use Rattle.call_values.specs.Calls.{IsCall}
use Rattle.expansion.specs.declared.values.Sets.{Sets}
use Rattle.slot_evidence.specs.declared.places.Seen.{Seen}
use Rattle.slot_evidence.specs.Sheet.{IsSheet}
use Rattle.slot_join.specs.declared.joined.Extra.{Extra}
use Rattle.slot_join.specs.declared.joined.Extra.TheVariants.{Absent, Whole, Broken}
use Rattle.call_texts.specs.Texts.{IsWholeOrAbsent, extra_of, reported_text}
use Rattle.input_lines.specs.Evidence.{evidence_text}
use Rattle.input_lines.specs.declared.fault.LineFault.{LineFault}
use Rattle.input_lines.specs.declared.fault.LineFault.TheVariants as fault
use Rattle.input_lines.specs.declared.join.JoinLine.{JoinLine as Got}
use Rattle.input_lines.specs.declared.join.JoinLine.TheVariants as got
use Rattle.input_lines.specs.declared.calls.CallLine.{CallLine}
use Rattle.input_lines.specs.declared.calls.CallLine.TheVariants as call
use Rattle.input_lines.specs.CallLine.{IsCallLine}
use Rattle.input_lines.specs.Lines.{ReadsJoin}
use Rattle.dsc_files.specs.declared.lines.Line.{Line}
use Rattle.dsc_files.specs.declared.lines.Line.TheVariants as line
use Rattle.dsc_files.specs.declared.lines.FileKind.TheVariants as kind
use Rattle.dsc_files.specs.Files.{line_of_call, line_of_join, ReadsLine}

abbrev pub OneCallLine : Type 0
OneCallLine = (a b : CallLine) (text : List ℕ) → IsCallLine a text → IsCallLine b text → a ≡ b

read_as : OneCallLine → (c : Call) (x : Option Sets) (answer : Result Line LineFault) → IsCallLine (call.Call c x) (reported_text c (extra_of x))
    → ReadsLine kind.Call (reported_text c (extra_of x)) answer → answer ≡ Ok (line.Call c (extra_of x))
read_as one c x (Ok read) is (says, (here, told)) = ap Ok (told ∙ ap line_of_call (one says (call.Call c x) (reported_text c (extra_of x)) here is))
read_as one c x (Err (fault.Column n)) is h = absurd (h.is_none (call.Call c x) is)
read_as one c x (Err fault.NoMemory) is h = absurd h

pub call_is_read : OneCallLine → (c : Call) (x : Extra) (answer : Result Line LineFault) → IsCall c → IsWholeOrAbsent x → ReadsLine kind.Call (reported_text c x) answer
    → answer ≡ Ok (line.Call c x)
call_is_read one c Absent answer is whole h = read_as one c None answer ((is, whole), refl) h
call_is_read one c (Whole x) answer is whole h = read_as one c (Some x) answer ((is, whole), refl) h
call_is_read one c (Broken n) answer is whole h = absurd whole

abbrev pub EvidenceLaw : Type 0
EvidenceLaw = (group : ℕ) (sheet : List Seen) (answer : Result Got LineFault) → group < 2 ^ 32 → IsSheet sheet → ReadsJoin (evidence_text group sheet) answer
    → (answer ≡ Ok (got.Evidence group sheet)) ⊎ (answer ≡ Err fault.NoMemory)

ok_same : {a b : Got} → ◌≡◌ {A = Result Got LineFault} (Ok a) (Ok b) → a ≡ b
ok_same h = cc

pub evidence_line : EvidenceLaw → (group : ℕ) (sheet : List Seen) (answer : Result Line LineFault) → group < 2 ^ 32 → IsSheet sheet
    → ReadsLine kind.Join (evidence_text group sheet) answer → (answer ≡ Ok (line.Evidence group sheet)) ⊎ (answer ≡ Err fault.NoMemory)
evidence_line law group sheet (Ok read) small is (says, (here, (one, (told, same)))) =
    elim (law group sheet (Ok one) small is (says, (here, told))) [
      | inl given ↦ inl (ap Ok (same ∙ ap line_of_join (ok_same given)))
      | inr none ↦ absurd (let e = none in cc)
    ]
evidence_line law group sheet (Err (fault.Column n)) small is h =
    elim (law group sheet (Err (fault.Column n)) small is h) [
      | inl given ↦ absurd (let e = given in cc)
      | inr none ↦ absurd (let e = none in cc)
    ]
evidence_line law group sheet (Err fault.NoMemory) small is h = inr refl
