use Rattle.std.proofs.Common.{◌≡◌, ℕ, ◌∷◌, ap, sym, ◌∙◌}
use Rattle.line_grammar.specs.Sections.{nth, last}
use Rattle.line_grammar.proofs.Rows.{or, row_found, first_found}
use Rattle.traffic_lines.specs.Events.{tick, answer, decline, send, IsEvent, event_parts}
use Rattle.traffic_lines.proofs.Deeds.{is_tick, is_answer, is_decline, is_send}
use Rattle.traffic_lines.proofs.events.told_deed.Goals as goal

pub returns-then-is_ok : goal.returns-then-is_ok
returns-then-is_ok g c =
    let lawful = IsEvent g.O.Rows.lawful g.C.Rows.lawful in
    let parts = event_parts g.O.Rows.parts g.C.Rows.parts in
    first_found (last 1) lawful parts g.O.Rows.rows (or tick (or answer (or decline send))) _ _ c.own-own.ensures.row

pub returns-in-116 : goal.returns-in-116
returns-in-116 g c =
    let lawful = IsEvent g.O.Rows.lawful g.C.Rows.lawful in
    let parts = event_parts g.O.Rows.parts g.C.Rows.parts in
    let missed = c.own-own.ensures.missed (sym c.is_ok.ensures.value ∙ c.if-is_ok.false) in
    is_tick g.O.Rows.rows g.O.Rows.lawful g.O.Rows.parts g.C.Rows.lawful g.C.Rows.parts _ _ missed (row_found (nth 2) lawful parts tick _ _ c.tick.ensures)

pub returns-in-97 : goal.returns-in-97
returns-in-97 g c =
    let lawful = IsEvent g.O.Rows.lawful g.C.Rows.lawful in
    let parts = event_parts g.O.Rows.parts g.C.Rows.parts in
    let missed = c.own-own.ensures.missed (sym c.is_ok.ensures.value ∙ c.if-is_ok.false) in
    let back = c.in-Some.field-0-1.now in
    let e : c.args.bytes.now ≡ 97 ∷ back = c.in-Some.ensures.cases.0 ∙ ap (λ (b : ℕ). b ∷ back) c.in-97.is in
    is_answer g.O.Rows.rows g.O.Rows.lawful g.O.Rows.parts g.C.Rows.lawful g.C.Rows.parts _ _ missed back e (row_found (nth 3) lawful parts answer _ _ c.answer.ensures)

pub returns-in-100 : goal.returns-in-100
returns-in-100 g c =
    let lawful = IsEvent g.O.Rows.lawful g.C.Rows.lawful in
    let parts = event_parts g.O.Rows.parts g.C.Rows.parts in
    let missed = c.own-own.ensures.missed (sym c.is_ok.ensures.value ∙ c.if-is_ok.false) in
    let back = c.in-Some.field-0-1.now in
    let e : c.args.bytes.now ≡ 100 ∷ back = c.in-Some.ensures.cases.0 ∙ ap (λ (b : ℕ). b ∷ back) c.in-100.is in
    is_decline g.O.Rows.rows g.O.Rows.lawful g.O.Rows.parts g.C.Rows.lawful g.C.Rows.parts _ _ missed back e (row_found (nth 4) lawful parts decline _ _ c.decline.ensures)

pub returns-in-115 : goal.returns-in-115
returns-in-115 g c =
    let lawful = IsEvent g.O.Rows.lawful g.C.Rows.lawful in
    let parts = event_parts g.O.Rows.parts g.C.Rows.parts in
    let missed = c.own-own.ensures.missed (sym c.is_ok.ensures.value ∙ c.if-is_ok.false) in
    let back = c.in-Some.field-0-1.now in
    let e : c.args.bytes.now ≡ 115 ∷ back = c.in-Some.ensures.cases.0 ∙ ap (λ (b : ℕ). b ∷ back) c.in-115.is in
    is_send g.O.Rows.rows g.O.Rows.lawful g.O.Rows.parts g.C.Rows.lawful g.C.Rows.parts _ _ missed back e (row_found (last 5) lawful parts send _ _ c.send.ensures)
