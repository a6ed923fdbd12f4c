use Rattle.std.proofs.Common.{codes, decimal, refl, ap, rules}
use Rattle.line_grammar.specs.Grammar.{Grammar, finish, word, field, Parts, part}
use Rattle.line_grammar.specs.Sections.{last}
use Rattle.line_grammar.proofs.Rows.{leaves_row, after_row, leaves_after, field_read, field_left}
use Rattle.line_grammar.proofs.SectionSteps.{both, behind, word_read, word_left}
use Rattle.traffic_lines.specs.Events.{number}
use Rattle.traffic_lines.specs.Lines.{at_moment, moment_parts, IsAtMoment}
use Rattle.traffic_lines.proofs.points.Tuple2U32Rows.read.Goals as goal

abbrev moment : Grammar → Grammar
moment = field number

abbrev blank : Grammar → Grammar
blank = word (codes " ")

pub returns-in_err-at : goal.returns-in_err-at
returns-in_err-at g c =
    leaves_row (last 0) (IsAtMoment g.E.Rows.lawful) (moment_parts g.E.Rows.parts) (at_moment g.E.Rows.rows) c.args.bytes.now c.args.bytes.now _ _ refl c.from_residual.ensures.1
    (field_left _ _ _ c.in_err-at.ensures.left (blank (g.E.Rows.rows finish)))

pub returns-in_err-rest : goal.returns-in_err-rest
returns-in_err-rest g c =
    leaves_row (last 0) (IsAtMoment g.E.Rows.lawful) (moment_parts g.E.Rows.parts) (at_moment g.E.Rows.rows) c.args.bytes.now c.args.bytes.now _ _ refl c.from_residual-in_err-rest.ensures.1
    (behind moment blank _ _ _ _ (field_read _ _ _ _ c.in_ok-at.ensures.value) (word_left _ _ _ c.in_err-rest.ensures.left) (g.E.Rows.rows finish))

pub returns-in_err-what : goal.returns-in_err-what
returns-in_err-what g c =
    leaves_after (last 0) (IsAtMoment g.E.Rows.lawful) (moment_parts g.E.Rows.parts) (λ (rest : Grammar). moment (blank rest)) g.E.Rows.rows _ c.args.bytes.now c.args.bytes.now _ _ _ _ refl
    c.from_residual-in_err-what.ensures.1 (both moment blank _ _ _ _ _ (field_read _ _ _ _ c.in_ok-at.ensures.value) (word_read _ _ _ c.in_ok-rest.ensures.rest)) refl c.in_err-what.ensures

pub returns : goal.returns
returns g c =
    let read = c.in_ok-what.ensures in
    after_row (last 0) (IsAtMoment g.E.Rows.lawful) (moment_parts g.E.Rows.parts) (λ (rest : Grammar). moment (blank rest)) g.E.Rows.rows _ c.args.bytes.now c.args.bytes.now _ _ read.1.0
    (c.in_ok-at.at.number, c.in_ok-what.what) refl (both moment blank _ _ _ _ _ (field_read _ _ _ _ c.in_ok-at.ensures.value) (word_read _ _ _ c.in_ok-rest.ensures.rest)) refl read.1.1
    (search rules, read.0) (ap (λ (p : Parts). part (decimal c.in_ok-at.at.number) p) read.1.2)
