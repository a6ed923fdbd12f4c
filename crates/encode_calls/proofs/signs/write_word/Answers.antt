use Rattle.std.proofs.Common.{◌≡◌, ℕ, ◌+◌, ◌-◌, List, ◌++◌, length, take, drop, ap, ◌∙◌, arith}
use Rattle.std.proofs.lemmas.Slice.{take-put_mid}
use Rattle.std.proofs.lemmas.Simd.{put_chunk_whole}
use Rattle.std.specs.Simd.Lanes.{put_chunk}
use Rattle.encode_calls.proofs.SignTable.{word_right, overwritten}
use Rattle.encode_calls.proofs.signs.write_word.Goals as goal

pub returns : goal.returns
returns c =
    let words = c.args.words.now in
    let at = c.args.at in
    let long : length c.row.result ≡ 16 = search in
    let mid = take (at + 16 - at) (drop at words) in
    let same : put_chunk 0 mid c.row.result ≡ c.row.result = put_chunk_whole mid c.row.result (grind (arith, long)) in
    let put =
    take-put_mid at _ words (put_chunk 0 mid c.row.result) (at + 16) (omega (arith, ap length same, long)) (omega arith)
    ∙ ap (λ (l : List ℕ). take at words ++ l) same
    in
    overwritten words c.row.result _ at (omega arith) put ∙ ap (λ (l : List ℕ). take at words ++ l) (ap (take 10) c.row.ensures ∙ word_right c.args.symbol c.requires.symbol)
