use Rattle.std.proofs.Common.{ℕ, List, [], ◌∷◌, ◌++◌, get_or, refl, ap, subst}
use Rattle.call_grammar.specs.Spelling.{format_of, fields_of, end_of, check_of, covered}
use Rattle.dsc_symbols.specs.Formats.{IsFormat}
use Rattle.call_grammar.specs.Walk.{IsViable}
use Rattle.call_grammar.proofs.Readings.{format_lawful, format_call}
use Rattle.call_grammar.proofs.laws.formats_begin_calls.Goals as goal

begins : (f : ℕ) → IsFormat f → IsViable (f ∷ f ∷ [])
begins f is =
    let c = format_call f is in
    let viable : IsViable (format_of c.0 ∷ format_of c.0 ∷ []) = record {
      call = c.0;
      rest = ((fields_of c.0 ++ (end_of c.0 ∷ [])) ++ (check_of (covered c.0) ∷ [])) ++ (end_of c.0 ∷ end_of c.0 ∷ []);
      lawful = c.1;
      list = refl;
    } in
    subst (λ (x : ℕ). IsViable (x ∷ x ∷ [])) c.2 viable

pub returns : goal.returns
returns c = λ f. (
  λ is. begins f is,
  λ viable. subst IsFormat (ap (λ (l : List ℕ). get_or l 0 0) viable.list) (format_lawful viable.call),
)
