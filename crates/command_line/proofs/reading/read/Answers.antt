use Rattle.std.proofs.Common.{◌≡◌, ◌∙◌, ap₂, sym, subst, Option, Some, None, option_map, List, codes}
use Rattle.std.proofs.lemmas.Option.{IfSome_then, same_Some, none-some}
use Rattle.clap.specs.Words.{Row, Text, found_of, first_of, rows_of, subcommand_rows_of}
use Rattle.clap.proofs.WalkLemmas.{first_value-rows}
use Rattle.command_line.specs.inside.CommandLine.{IsAsked}
use Rattle.command_line.proofs.PlanWords.{same_pair}
use Rattle.command_line.proofs.reading.read.Goals as goal

-- the name and the rows of what was entered, taken apart
entry_is : {X : Type 0} (o : Option X) (f : X → Text) (g : X → List Row) (name : Text) (rows : List Row) → Some name ≡ option_map f o
    → Some rows ≡ option_map (λ (p : Text × List Row). p.1) (option_map {U = Text × List Row} (λ x. (f x, g x)) o) → option_map {U = Text × List Row} (λ x. (f x, g x)) o ≡ Some (name, rows)
entry_is None f g name rows is also = absurd (none-some _ (sym is))
entry_is (Some x) f g name rows is also = ap₂ (λ (n : Text) (rs : List Row). Some (n, rs)) (sym (same_Some name (f x) is)) (sym (same_Some rows (g x) also))

pub returns-clause-some : goal.returns-clause-some
returns-clause-some c =
    let values = c.in_ok-command.values.now in
    let given = c.get_str.ensures ∙ first_value-rows (found_of values) (codes "number") in
    let found : subcommand_rows_of c.args.matches.now ≡ Some (c.in_ok-command.command.now, rows_of (found_of values)) = entry_is _ _ _ _ _ c.in_ok-command.ensures.name c.in_ok-command.ensures.rows in
    IfSome_then c.asked.result c.asked.ensures.some (λ plan asked. (
      c.in_ok-command.command.now,
      rows_of (found_of values),
      found,
      subst (λ (g : Option Text). IsAsked c.in_ok-command.command.now g plan) given asked,
    ))

pub returns-clause-none : goal.returns-clause-none
returns-clause-none c none command rows plan found asked =
    let values = c.in_ok-command.values.now in
    let given = c.get_str.ensures ∙ first_value-rows (found_of values) (codes "number") in
    let here : subcommand_rows_of c.args.matches.now ≡ Some (c.in_ok-command.command.now, rows_of (found_of values)) = entry_is _ _ _ _ _ c.in_ok-command.ensures.name c.in_ok-command.ensures.rows in
    let same = same_pair (sym found ∙ here) in
    c.asked.ensures.none none plan (subst (λ (g : Option Text). IsAsked c.in_ok-command.command.now g plan) (sym given)
    (subst (λ (p : Text). IsAsked p (first_of (codes "number") (rows_of (found_of values))) plan) same.0
    (subst (λ (rs : List Row). IsAsked command (first_of (codes "number") rs) plan) same.1 asked)))
