use Rattle.std.proofs.Common.{ℕ, List, ◌++◌, ◌∙◌, ap, codes}
use Rattle.sentence_frame.specs.Texts.{digit_text}
use Rattle.casualty_book.specs.Texts.{row_text, kind_text, number_or_hyphen, digits_or_hyphen}
use Rattle.casualty_book.specs.inside.Packing.{unpack, told}
use Rattle.casualty_book.proofs.Pieces.{regrouped}
use Rattle.casualty_book.proofs.texts.put_key.Goals as goal

pub returns : goal.returns
unfolding row_text
returns c =
    let row = unpack c.args.key.now in
    let t14 = number_or_hyphen 2 row.second in
    let t13 = codes " then=" ++ t14 in
    let t12 = number_or_hyphen 4 row.time ++ t13 in
    let t11 = codes " time=" ++ t12 in
    let t10 = digits_or_hyphen row.place.items ++ t11 in
    let t9 = codes " pos=" ++ t10 in
    let t8 = number_or_hyphen 2 row.nature ++ t9 in
    let t7 = codes " nature=" ++ t8 in
    let t6 = digit_text row.from ++ t7 in
    let t5 = codes " from=" ++ t6 in
    let t4 = kind_text row.kind ++ t5 in
    let t3 = codes " " ++ t4 in
    let t2 = digit_text row.casualty ++ t3 in
    (c.append_code_or_hyphen-3.ensures.items ∙ ap (λ (n : ℕ). c.append-8.new.out.items ++ number_or_hyphen 2 (told n)) c.from-2.ensures)
    ∙ regrouped c.append_code_or_hyphen-2.new.out.items (codes " then=") c.append-8.new.out.items t14 (c.append-8.ensures.items)
    ∙ regrouped c.append-7.new.out.items (number_or_hyphen 4 row.time) c.append_code_or_hyphen-2.new.out.items t13 (c.append_code_or_hyphen-2.ensures.items)
    ∙ regrouped c.append_packed_or_hyphen.new.out.items (codes " time=") c.append-7.new.out.items t12 (c.append-7.ensures.items)
    ∙ regrouped c.append-6.new.out.items (digits_or_hyphen row.place.items) c.append_packed_or_hyphen.new.out.items t11 (c.append_packed_or_hyphen.ensures.items)
    ∙ regrouped c.append_code_or_hyphen.new.out.items (codes " pos=") c.append-6.new.out.items t10 (c.append-6.ensures.items)
    ∙ regrouped c.append-5.new.out.items (number_or_hyphen 2 row.nature) c.append_code_or_hyphen.new.out.items t9 (c.append_code_or_hyphen.ensures.items ∙ ap (λ (n : ℕ). c.append-5.new.out.items ++ number_or_hyphen 2 (told n)) c.from.ensures)
    ∙ regrouped c.append_packed-2.new.out.items (codes " nature=") c.append-5.new.out.items t8 (c.append-5.ensures.items)
    ∙ regrouped c.append-4.new.out.items (digit_text row.from) c.append_packed-2.new.out.items t7 (c.append_packed-2.ensures.items)
    ∙ regrouped c.append-3.new.out.items (codes " from=") c.append-4.new.out.items t6 (c.append-4.ensures.items)
    ∙ regrouped c.append-2.new.out.items (kind_text row.kind) c.append-3.new.out.items t5 (c.append-3.ensures.items ∙ ap (λ (l : List ℕ). c.append-2.new.out.items ++ l) c.kind_text.ensures.word)
    ∙ regrouped c.append_packed.new.out.items (codes " ") c.append-2.new.out.items t4 (c.append-2.ensures.items)
    ∙ regrouped c.append.new.out.items (digit_text row.casualty) c.append_packed.new.out.items t3 (c.append_packed.ensures.items)
    ∙ regrouped c.new-out.result.items (codes "casualty ") c.append.new.out.items t2 (c.append.ensures.items)
    ∙ ap (λ (l : List ℕ). l ++ (codes "casualty " ++ t2)) c.new-out.ensures
