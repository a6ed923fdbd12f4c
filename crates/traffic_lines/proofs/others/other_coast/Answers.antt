use Rattle.std.proofs.Common.{◌≡◌, ◌≢◌, ℕ, Ok, Err, codes, refl, sym, ◌∙◌, ap, subst, arith}
use Rattle.std.proofs.lemmas.Grind.{common_steps}
use Rattle.call_values.specs.Identity.{IsMmsi}
use Rattle.line_grammar.specs.Grammar.{Grammar, finish, word, field, Parts, part}
use Rattle.line_grammar.specs.Sections.{last}
use Rattle.line_grammar.specs.Shapes.{digits}
use Rattle.line_grammar.specs.inside.Reading.{read_token}
use Rattle.line_grammar.proofs.Rows.{leaves_row, after_row, leaves_after, field_read, field_left}
use Rattle.line_grammar.proofs.SectionSteps.{IsRead, both, behind, word_read, word_left}
use Rattle.traffic_lines.specs.Lines.{coast, coast_station_parts, band}
use Rattle.traffic_lines.specs.Worlds.{other_identity, IsOtherCoast}
use Rattle.traffic_lines.proofs.others.other_coast.Goals as goal

abbrev label : Grammar → Grammar
label = word (codes "station coast ")

abbrev identity : ℕ → Grammar → Grammar
identity ship = field (other_identity ship)

pub returns-in_err-rest : goal.returns-in_err-rest
returns-in_err-rest c =
    let ship = c.args.ship in
    leaves_row (last 0) (IsOtherCoast ship) coast_station_parts (coast (other_identity ship)) c.args.bytes.now c.args.bytes.now _ _ refl c.from_residual.ensures.1
    (word_left _ _ _ c.in_err-rest.ensures.left (identity ship (band finish)))

pub returns-in_err-number : goal.returns-in_err-number
returns-in_err-number c =
    let ship = c.args.ship in
    let missed = subst (λ (m : ℕ). read_token (other_identity m) c.in_ok-rest.rest.now ≡ Err c.in_err-number.field-0.0) c.number.ensures.value c.in_err-number.ensures.left in
    leaves_row (last 0) (IsOtherCoast ship) coast_station_parts (coast (other_identity ship)) c.args.bytes.now c.args.bytes.now _ _ refl c.from_residual-in_err-number.ensures.1
    (behind label (identity ship) _ _ _ _ (word_read _ _ _ c.in_ok-rest.ensures.rest) (field_left _ _ _ missed) (band finish))

pub returns-in_err-band : goal.returns-in_err-band
returns-in_err-band c =
    let ship = c.args.ship in
    let value =
    subst (λ (m : ℕ). read_token (other_identity m) c.in_ok-rest.rest.now ≡ Ok (digits 9 c.in_ok-number.number, c.in_ok-number.rest.now)) c.number.ensures.value c.in_ok-number.ensures.value in
    leaves_after (last 0) (IsOtherCoast ship) coast_station_parts (λ (rest : Grammar). label (identity ship rest)) band _ c.args.bytes.now c.args.bytes.now _ _ _ _ refl
    c.from_residual-in_err-band.ensures.1 (both label (identity ship) _ _ _ _ _ (word_read _ _ _ c.in_ok-rest.ensures.rest) (field_read _ _ _ _ value)) refl c.in_err-band.ensures

pub returns : goal.returns
returns c =
    let ship = c.args.ship in
    let value =
    subst (λ (m : ℕ). read_token (other_identity m) c.in_ok-rest.rest.now ≡ Ok (digits 9 c.in_ok-number.number, c.in_ok-number.rest.now)) c.number.ensures.value c.in_ok-number.ensures.value in
    let other = subst (λ (m : ℕ). c.in_ok-number.number ≢ m) c.number.ensures.value c.in_ok-number.ensures.other in
    let same : c.in_ok-number.number ≡ c.unwrap.result = grind (arith, common_steps) in
    let read = c.in_ok-band.ensures in
    after_row (last 0) (IsOtherCoast ship) coast_station_parts (λ (rest : Grammar). label (identity ship rest)) band _ c.args.bytes.now c.args.bytes.now _ _ _ _ refl
    (both label (identity ship) _ _ _ _ _ (word_read _ _ _ c.in_ok-rest.ensures.rest) (field_read _ _ _ _ value)) refl read.1.1
    ((subst IsMmsi same c.in_ok-number.ensures.lawful, subst (λ (n : ℕ). n ≢ ship) same other), tt)
    (ap (λ (p : Parts). part (digits 9 c.unwrap.result) p) read.1.2 ∙ ap (λ (n : ℕ). part (digits 9 n) read.1.0) (sym same))
