use Rattle.std.proofs.Common.{◌≡◌, ℕ, ◌+◌, ◌<◌, List, length, get_or, arith, ap, subst, ◌∙◌, length-append}
use Rattle.std.proofs.lemmas.List.{get_or_append_left}
use Rattle.call_values.specs.declared.calls.Call.{Call}
use Rattle.call_grammar.specs.Spelling.{spell}
use Rattle.call_grammar.specs.Reading.{BeginsWith}
use Rattle.slot_evidence.specs.Facts.{Facts}
use Rattle.slot_evidence.specs.Seen.{ShowsOne}
use Rattle.slot_join.specs.Extra.{IsShownFrom}
use Rattle.slot_join.proofs.IntactCalls.{whole_answer}
use Rattle.slot_join.proofs.whole.whole_call.Goals as goal

-- a list that is shown from the first place on and begins with a call's
front_shown : (F : Facts) (list : List ℕ) (c : Call) (n : ℕ) → BeginsWith list c n → IsShownFrom F 0 list → (p : ℕ) → p + 2 < length (spell c) → ShowsOne (F p) (get_or (spell c) p 0)
front_shown F list c n begins shown p below =
    let size = ap length begins.list ∙ length-append (spell c) begins.rest in
    let at : get_or list p 0 ≡ get_or (spell c) p 0 = ap (λ (l : List ℕ). get_or l p 0) begins.list ∙ get_or_append_left (spell c) begins.rest 0 p (omega (arith, below)) in
    let here : 0 + p ≡ p = omega arith in
    subst (λ (v : ℕ). ShowsOne (F p) v) at (subst (λ (k : ℕ). ShowsOne (F k) (get_or list p 0)) here (shown p (omega (arith, size, below))))

pub read_extra-expansion-requires-clause-place : goal.read_extra-expansion-requires-clause-place
read_extra-expansion-requires-clause-place c =
    let begins = c.in-Ok.ensures in
    omega (arith, begins.place, (c.lists_are_short.ensures c.in-Ok.whole.0 begins.lawful).0, (c.lists_are_short.ensures c.in-Ok.whole.0 begins.lawful).1)

pub returns-in-Ok : goal.returns-in-Ok
returns-in-Ok c = λ F ends.
    let begins = subst (λ (l : List ℕ). BeginsWith l c.in-Ok.whole.0 c.in-Ok.whole.1) c.as_slice.ensures.value c.in-Ok.ensures in
    whole_answer c.formats_begin_calls.ensures F c.in-Ok.whole.0 c.read_extra-expansion.result begins.lawful (c.lists_are_short.ensures c.in-Ok.whole.0 begins.lawful).0
    (front_shown F c.shown_from-shown.result.items c.in-Ok.whole.0 c.in-Ok.whole.1 begins (c.shown_from-shown.ensures.shown F ends)) (c.read_extra-expansion.ensures F ends)
