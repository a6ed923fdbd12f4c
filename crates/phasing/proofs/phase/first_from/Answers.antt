use Rattle.std.proofs.Common.{◌+◌, ◌*◌, ◌/◌, inl, inr, arith}
use Rattle.std.proofs.lemmas.Bool.{cases_lt}
use Rattle.phasing.proofs.Leads.{is_phased-past}
use Rattle.phasing.proofs.phase.first_from.Goals as goal

pub returns-clause-none : goal.returns-clause-none
returns-clause-none g c = λ none lead low.
    let e = g.E.Elements.list c.args.e in
    elim (cases_lt lead (64 * c.args.begin + 192 * (c.saturating_sub-turns.result / 192) + 22)) [
      | inl inside ↦ c.first_within.ensures.none none lead low inside
      | inr past ↦ is_phased-past e lead (omega arith)
    ]
