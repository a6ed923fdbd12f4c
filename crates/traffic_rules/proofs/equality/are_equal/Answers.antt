use lib.Pointwise.{pointwise}
use Rattle.std.proofs.Common.{◌≡◌, List, ℕ, nat_eq, true, sym, ◌∙◌, ap, subst}
use Rattle.call_values.specs.declared.calls.Call.{Call}
use Rattle.call_grammar.specs.Spelling.{spell}
use Rattle.traffic_rules.proofs.Lists.{same_list, list_itself}
use Rattle.traffic_rules.proofs.equality.are_equal.Goals as goal

pub returns-clause-same : goal.returns-clause-same
returns-clause-same c =
    let a = c.args.a.now in
    let b = c.args.b.now in
    let value : c.eq.result ≡ pointwise nat_eq (spell a) (spell b) = c.eq.ensures
    ∙ ap (λ (l : List ℕ). pointwise nat_eq l c.as_slice-2.result.now) (c.as_slice.ensures.value ∙ c.spell.ensures)
    ∙ ap (λ (l : List ℕ). pointwise nat_eq (spell a) l) (c.as_slice-2.ensures.value ∙ c.spell-2.ensures) in (
      λ yes. c.one_list.ensures a b c.lawful.ensures c.lawful-2.ensures (same_list (spell a) (spell b) (sym value ∙ yes)),
      λ same. value ∙ subst (λ (d : Call). pointwise nat_eq (spell a) (spell d) ≡ true) same (list_itself (spell a)),
    )
