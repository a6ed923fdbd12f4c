use Rattle.std.proofs.Common.{◌≡◌, sym, ◌∙◌, ap, arith}
use Rattle.std.proofs.lemmas.Grind.{common_steps}
use Rattle.line_grammar.specs.Grammar.{Parts, finish, none, first}
use Rattle.line_grammar.specs.inside.Reading.{read}
use Rattle.call_texts.specs.CallGrammar as grammar
use Rattle.call_texts.specs.CallGrammar.{perhaps}
use Rattle.call_texts.specs.inside.Expansions as inside
use Rattle.call_texts.proofs.ExpansionSteps.{from_enhanced_parts}
use Rattle.line_grammar.proofs.SectionSteps.{whole}
use Rattle.call_texts.proofs.expansions.from_enhanced.Goals as goal

pub returns : goal.returns
returns c =
    let enhanced = c.in_ok-enhanced.enhanced in
    let speed = c.in_ok-speed.speed in
    let course = c.in_ok-speed.course in
    let value : c.unwrap.result ≡ record { enhanced = enhanced; speed = speed; course = course } = grind (arith, common_steps) in
    let rest = perhaps grammar.speed (perhaps grammar.course finish) in (
      _,
      ap (read (grammar.enhanced rest)) (sym c.new-line.ensures)
          ∙ whole grammar.enhanced rest (inside.set_part 8 enhanced) _ _ _ _ c.in_ok-enhanced.ensures.reads c.rest.ensures c.in_ok-speed.ensures.reads.1,
      ap inside.sets value ∙ from_enhanced_parts enhanced speed course none c.in_ok-enhanced.ensures.lawful.0
          ∙ ap (λ (p : Parts). first (inside.set_part 8 enhanced p)) c.in_ok-speed.ensures.reads.2,
    )
