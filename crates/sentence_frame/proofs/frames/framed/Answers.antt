use Rattle.std.proofs.Common.{◌∙◌, sym}
use Rattle.std.proofs.lemmas.Bool.{and_parts}
use Rattle.std.specs.List.{list_all}
use Rattle.sentence_frame.specs.Refusals.{is_ending, is_clean, last_five, inner}
use Rattle.sentence_frame.proofs.Heads.{head_fits, head_facts, begins_facts, ending_facts}
use Rattle.sentence_frame.proofs.frames.framed.Goals as goal

pub behind-requires : goal.behind-requires
behind-requires c =
    let head = c.args.head.now in
    let bytes = c.args.bytes.now in
    let is_ended = and_parts (is_ending (last_five bytes)) (list_all is_clean (inner bytes)) (sym c.is_ended.ensures ∙ c.if-not-is_ended.false) in
    head_fits head bytes (head_facts head c.requires) (begins_facts head bytes (sym c.begins.ensures.value ∙ c.if-not-begins.false)) (ending_facts (last_five bytes) is_ended.0)
