use Rattle.std.proofs.Common.{refl, subst, inl, inr}
use Rattle.std.proofs.lemmas.Result.{on_ok_weaker, IfErr-weaker}
use Rattle.slot_evidence.specs.Facts.{facts_of}
use Rattle.input_lines.specs.declared.join.JoinLine.{JoinLine as Got}
use Rattle.input_lines.specs.Lines.{Says}
use Rattle.join_groups.specs.Groups.{is_named, facts_of_line, group_facts}
use Rattle.join_groups.proofs.Keeping.{says_nothing, says_reception, says_evidence, keeps_line, full_brings, brings_full}
use Rattle.join_groups.proofs.taking.take_read.Goals as goal

pub returns-in-Nothing-clause-ok : goal.returns-in-Nothing-clause-ok
returns-in-Nothing-clause-ok c = λ said line keeps is.
    says_nothing said line c.args.groups.now keeps (subst (λ (read : Got). Says line read) c.in-Nothing.is is)

pub returns-in-Reception-clause-ok : goal.returns-in-Reception-clause-ok
returns-in-Reception-clause-ok c = on_ok_weaker c.wait.result
    (λ ok. λ said line keeps is.
    let says = says_reception line c.in-Reception.group c.in-Reception.elements (subst (λ (read : Got). Says line read) c.in-Reception.is is) in
    let taken = ok (is_named said) (group_facts said) keeps in (
      λ b. taken.0 (brings_full said line c.in-Reception.group says.0 b),
      keeps_line c.wait.new.self said line c.in-Reception.group (facts_of c.in-Reception.elements) says.0 says.1 taken.1,
    ))
    c.wait.ensures.ok

pub returns-in-Reception-clause-err : goal.returns-in-Reception-clause-err
returns-in-Reception-clause-err c = IfErr-weaker c.wait.result _ _
    (λ refusal err. elim err [
      | inl memory ↦ inl memory
      | inr full ↦ inr (λ said line keeps is.
          let says = says_reception line c.in-Reception.group c.in-Reception.elements (subst (λ (read : Got). Says line read) c.in-Reception.is is) in
          let brings = full (is_named said) (group_facts said) keeps in
          (brings.0, full_brings said line c.in-Reception.group says.0 brings.1))
    ])
    c.wait.ensures.err

pub returns-in-Evidence-clause-ok : goal.returns-in-Evidence-clause-ok
returns-in-Evidence-clause-ok c = on_ok_weaker c.meet.result
    (λ ok. λ said line keeps is.
    let says = says_evidence line c.in-Evidence.group c.in-Evidence.sheet (subst (λ (read : Got). Says line read) c.in-Evidence.is is) in
    let taken = ok (is_named said) (group_facts said) (facts_of_line c.in-Evidence.group line) keeps says.1 in (
      λ b. taken.0 (brings_full said line c.in-Evidence.group says.0 b),
      keeps_line c.meet.new.self said line c.in-Evidence.group (facts_of_line c.in-Evidence.group line) says.0 refl taken.1,
    ))
    c.meet.ensures.ok

pub returns-in-Evidence-clause-err : goal.returns-in-Evidence-clause-err
returns-in-Evidence-clause-err c = IfErr-weaker c.meet.result _ _
    (λ refusal err. elim err [
      | inl memory ↦ inl memory
      | inr full ↦ inr (λ said line keeps is.
          let says = says_evidence line c.in-Evidence.group c.in-Evidence.sheet (subst (λ (read : Got). Says line read) c.in-Evidence.is is) in
          let brings = full (is_named said) (group_facts said) keeps in
          (brings.0, full_brings said line c.in-Evidence.group says.0 brings.1))
    ])
    c.meet.ensures.err
