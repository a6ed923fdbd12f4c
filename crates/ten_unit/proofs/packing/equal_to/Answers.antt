use Rattle.std.proofs.Common.{ℕ, eqb, false, ap, ◌∙◌, arith, cond, w8}
use Rattle.std.specs.Int.{bit_at}
use Rattle.std.proofs.lemmas.Simd.{bitmask_splat, bit_mask_l}
use Rattle.std.proofs.lemmas.List.{get_or-map}
use Rattle.std.specs.Prelude.{map}
use Rattle.ten_unit.proofs.packing.equal_to.Goals as goal

pub returns : goal.returns
returns c = λ i h.
    let codes = c.args.codes.now in
    let p = λ (x : ℕ). eqb x c.args.code in
    ap (λ n. bit_at n i) (bitmask_splat w8 eqb codes 64 c.args.code c.told-codes (omega arith))
    ∙ bit_mask_l (map p codes) i
    ∙ ap (λ b. cond b 1 0) (get_or-map p codes i 0 false (omega (arith, c.told-codes)))
