use Rattle.std.proofs.Common.{◌≡◌, refl, ◌∙◌, ap, codes}
use Rattle.call_values.specs.declared.choices.End.{End}
use Rattle.call_values.specs.declared.choices.End.TheVariants.{Ask, Reply, Plain}
use Rattle.call_values.specs.Ends.{end_symbol, end_named}
use Rattle.sentence_frame.specs.Frames.{sentence, closed}
use Rattle.sentence_frame.specs.Texts as text
use Rattle.sentence_frame.specs.Texts.{digit_text, perhaps_text}
use Rattle.sentence_frame.proofs.Growing.{grown_none, grown_more}
use Rattle.dsc_sentences.specs.Calls.{of_call}
use Rattle.dsc_sentences.specs.Dsc.{texts, end_text, expanded_text}
use Rattle.dsc_sentences.proofs.call_printing.print_call.Goals as goal

named : (e : End) → e ≡ end_named (end_symbol e)
named Ask = refl
named Reply = refl
named Plain = refl

pub returns : goal.returns
unfolding texts sentence of_call
returns c =
    let s = of_call c.args.c.now c.args.expanded in
    let g0 = grown_none (codes "$CDDSC") c.begin_sentence-out.result.items c.begin_sentence-out.ensures in
    let g1 = grown_more _ _ _ (text.digits 2 s.format) c.append_number_field.new.out.items g0 (cc) in
    let g2 = grown_more _ _ _ (digit_text s.address) c.append_address_field.new.out.items g1 (cc) in
    let g3 = grown_more _ _ _ (perhaps_text (text.digits 2) s.category) c.append_number_field-2.new.out.items g2 (cc) in
    let g4 = grown_more _ _ _ (perhaps_text (text.digits 2) s.first) c.append_number_field-3.new.out.items g3 (cc) in
    let g5 = grown_more _ _ _ (perhaps_text (text.digits 2) s.second) c.append_number_field-4.new.out.items g4 (cc) in
    let g6 = grown_more _ _ _ (digit_text s.place.items) c.append_place_field.new.out.items g5 (cc) in
    let g7 = grown_more _ _ _ (perhaps_text (text.digits 4) s.time) c.append_perhaps_number_field.new.out.items g6 (cc) in
    let g8 = grown_more _ _ _ (perhaps_text digit_text s.distress) c.append_distress_field.new.out.items g7 (cc) in
    let g9 = grown_more _ _ _ (perhaps_text (text.digits 2) s.nature) c.append_perhaps_number_field-2.new.out.items g8 (cc) in
    let end : c.own_end.result ≡ s.end = named c.own_end.result ∙ ap end_named c.own_end.ensures in
    let g10 = grown_more _ _ _ (end_text s.end) c.append_field.new.out.items g9 (cc) in
    let g11 = grown_more _ _ _ (expanded_text s.expanded) c.append_field-2.new.out.items g10 (cc) in
    c.close.ensures ∙ ap closed g11.is
