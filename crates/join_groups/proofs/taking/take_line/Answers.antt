use Rattle.std.proofs.Common.{◌≡◌, ℕ, List, Option, Some, IfSome, refl, sym, subst, inl, inr}
use Rattle.std.proofs.lemmas.Result.{on_ok_weaker, IfErr-weaker}
use Rattle.slot_evidence.specs.Facts.{facts_of}
use Rattle.ten_unit.specs.declared.character.Element.{Element}
use Rattle.line_engine.specs.declared.command.Refusal.{Refusal}
use Rattle.input_lines.specs.ReceiverLine.{reception, IsLine}
use Rattle.input_lines.specs.declared.join.JoinLine.TheVariants as got
use Rattle.join_groups.specs.Groups.{is_named, group_facts}
use Rattle.join_groups.specs.inside.Kept.{IsRefused}
use Rattle.join_groups.proofs.Keeping.{short_read, says_reception, keeps_line, full_brings, brings_full}
use Rattle.join_groups.proofs.taking.take_line.Goals as goal

-- a reception that was read is the line's
is_line : (read : Option (ℕ × List Element)) (text : List ℕ) (group : ℕ) (e : List Element) → read ≡ Some (group, e) → IfSome read (λ parts. IsLine (reception parts.0 parts.1) text) → IsLine (reception group e) text
is_line read text group e same line = subst (λ (r : Option (ℕ × List Element)). IfSome r (λ parts. IsLine (reception parts.0 parts.1) text)) same line

pub hear-requires-clause-short : goal.hear-requires-clause-short
hear-requires-clause-short g c =
    short_read (reception c.in-Some.group c.in-Some.elements) (got.Reception c.in-Some.group c.in-Some.elements) c.args.text.now (is_line c.in_ok-group.field-0 c.args.text.now c.in-Some.group c.in-Some.elements c.in-Some.is c.in_ok-group.ensures) refl c.requires.short _ _ refl

pub hear-requires-clause-ready : goal.hear-requires-clause-ready
hear-requires-clause-ready g c =
    let said = c.requires.ready.0 in
    record {
      named = is_named said;
      facts = group_facts said;
      holds = c.requires.ready.1;
    }

pub returns-in-Some-clause-ok : goal.returns-in-Some-clause-ok
returns-in-Some-clause-ok g c = on_ok_weaker c.hear.result
    (λ ok. λ said keeps.
    let line = reception c.in-Some.group c.in-Some.elements in
    let says = says_reception line c.in-Some.group c.in-Some.elements refl in
    let taken = ok (is_named said) (group_facts said) keeps in (
      line,
      (
        (is_line c.in_ok-group.field-0 c.args.text.now c.in-Some.group c.in-Some.elements c.in-Some.is c.in_ok-group.ensures),
        (
            λ b. taken.0 (brings_full said line c.in-Some.group says.0 b)),
        keeps_line c.hear.new.self said line c.in-Some.group (facts_of c.in-Some.elements) says.0 says.1 taken.1,
      ),
    ))
    c.hear.ensures.ok

pub returns-in-Some-clause-err : goal.returns-in-Some-clause-err
returns-in-Some-clause-err g c = IfErr-weaker c.hear.result _ _
    (λ refusal err. elim err [
      | inl memory ↦ λ said keeps. subst (λ (r : Refusal). IsRefused said c.args.text.now r) (sym memory) tt
      | inr full ↦ λ said keeps.
          let line = reception c.in-Some.group c.in-Some.elements in
          let says = says_reception line c.in-Some.group c.in-Some.elements refl in
          let brings = full (is_named said) (group_facts said) keeps in
          subst (λ (r : Refusal). IsRefused said c.args.text.now r) (sym brings.0) (line, ((is_line c.in_ok-group.field-0 c.args.text.now c.in-Some.group c.in-Some.elements c.in-Some.is c.in_ok-group.ensures), full_brings said line c.in-Some.group says.0 brings.1))
    ])
    c.hear.ensures.err
