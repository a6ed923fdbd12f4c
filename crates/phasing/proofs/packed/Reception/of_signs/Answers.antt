use Rattle.std.proofs.Common.{◌≡◌, ◌+◌, ◌*◌, ◌≤◌, drop, length, vec_capacity, refl, arith, ap, sym, ◌∙◌}
use Rattle.std.proofs.lemmas.List.{length-drop, length_push}
use Rattle.phasing.proofs.PackedBits.{PackedFront, all_blocks, block_padded, front_block, front_left, front_more, front_keep, front_signs, front_view, none_left, none_packed, not_all_of, some_left}
use Rattle.phasing.proofs.packed.Reception.of_signs.Goals as goal
use Rattle.phasing.proofs.packed.Reception.of_signs.Goals.{After-push_reserved-2}

pub loop-block-init : goal.loop-block-init
loop-block-init c =
    let planes = c.in_ok-planes.planes in
    let ceiling : c.div_ceil.result ≤ vec_capacity planes = c.in_ok-planes.ensures.capacity in
    record {
      front = none_packed c.args.signs.now _ c.in_ok-planes.ensures.items;
      count = c.in_ok-planes.ensures.len ∙ sym (ap length c.in_ok-planes.ensures.items);
      room = all_blocks (length c.args.signs.now) c.div_ceil.result (vec_capacity planes) c.div_ceil.ensures ceiling;
    }

pub returns-in_default-pack_signs-clause-none : goal.returns-in_default-pack_signs-clause-none
returns-in_default-pack_signs-clause-none c = λ _.
    not_all_of _ _ _ (front_block _ _ _ _ c.loop-block.invariant.front c.in-Some.ensures.cases.0 (omega (arith, c.in-Some.ensures.cases.2))) (c.in_default-pack_signs.ensures.none refl)

pub push_reserved-requires : goal.push_reserved-requires
push_reserved-requires c =
    let left = front_left _ _ _ c.loop-block.invariant.front in
    omega (arith, left, c.in-Some.ensures.cases.2, c.loop-block.invariant.count, c.loop-block.invariant.room)

pub loop-block-preserved : goal.loop-block-preserved
loop-block-preserved c =
    let made = c.push_reserved.ensures in
    let capacity : vec_capacity c.push_reserved.new.self ≡ vec_capacity c.loop-block.planes = made.capacity in
    let longer : length c.push_reserved.new.self.items ≡ length c.loop-block.planes.items + 1 = ap length made.items ∙ length_push _ _ in
    record {
      front =
          front_more _ _ _ _ _ _ _ c.loop-block.invariant.front
          (front_block _ _ _ _ c.loop-block.invariant.front c.in-Some.ensures.cases.0 (omega (arith, c.in-Some.ensures.cases.2)))
          c.in-Some-pack_signs.ensures.signs c.in-Some-pack_signs.ensures.planes made.items c.in-Some.ensures.cases.1;
      count = omega (arith, made.len, longer, c.loop-block.invariant.count);
      room = omega (arith, capacity, c.loop-block.invariant.room);
    }

pub loop-block-smaller : goal.loop-block-smaller
loop-block-smaller c = omega (arith, c.in-Some.ensures.cases.2)

pub of-requires : goal.of-requires
of-requires c = front_keep _ _ _ c.loop-block.invariant.front (none_left _ c.if-is_empty.ensures)

pub returns-then-is_empty-clause-some : goal.returns-then-is_empty-clause-some
returns-then-is_empty-clause-some c = (
  front_signs _ _ _ c.loop-block.invariant.front (none_left _ c.if-is_empty.ensures),
  c.of.ensures ∙ front_view _ _ _ c.loop-block.invariant.front (none_left _ c.if-is_empty.ensures),
)

-- the last signs, fewer than 64, and lost elements after them
pub returns-in_default-pack_signs-2-clause-none : goal.returns-in_default-pack_signs-2-clause-none
returns-in_default-pack_signs-2-clause-none c = λ _.
    let begin = 64 * length c.loop-block.planes.items in
    not_all_of c.args.signs.now c.padded_signs.result begin
    (block_padded c.args.signs.now c.padded_signs.result c.loop-block.rest.now begin c.loop-block.invariant.front.behind c.in_default.ensures.cases c.padded_signs.ensures)
    (c.in_default-pack_signs-2.ensures.none refl)

pub push_reserved-requires-2 : goal.push_reserved-requires-2
push_reserved-requires-2 c =
    let left = front_left _ _ _ c.loop-block.invariant.front in
    let some = some_left _ c.if-is_empty.ensures in
    omega (arith, left, some, c.loop-block.invariant.count, c.loop-block.invariant.room)

whole : (c : After-push_reserved-2) → PackedFront c.args.signs.now (drop 64 c.loop-block.rest.now) c.push_reserved-2.new.self.items
whole c =
    let begin = 64 * length c.loop-block.planes.items in
    front_more c.args.signs.now c.loop-block.rest.now (drop 64 c.loop-block.rest.now) c.padded_signs.result c.loop-block.planes.items c.push_reserved-2.new.self.items _ c.loop-block.invariant.front
    (block_padded c.args.signs.now c.padded_signs.result c.loop-block.rest.now begin c.loop-block.invariant.front.behind c.in_default.ensures.cases c.padded_signs.ensures)
    c.in-Some-pack_signs-2.ensures.signs c.in-Some-pack_signs-2.ensures.planes c.push_reserved-2.ensures.items refl

left : (c : After-push_reserved-2) → length (drop 64 c.loop-block.rest.now) ≡ 0
left c = omega (arith, length-drop 64 c.loop-block.rest.now, c.in_default.ensures.cases)

pub of-requires-2 : goal.of-requires-2
of-requires-2 c = front_keep _ _ _ (whole c) (left c)

pub returns-clause-some : goal.returns-clause-some
returns-clause-some c =
    let begin = 64 * length c.loop-block.planes.items in
    let all = front_more c.args.signs.now c.loop-block.rest.now (drop 64 c.loop-block.rest.now) c.padded_signs.result c.loop-block.planes.items c.push_reserved-2.new.self.items _ c.loop-block.invariant.front
    (block_padded c.args.signs.now c.padded_signs.result c.loop-block.rest.now begin c.loop-block.invariant.front.behind c.in_default.ensures.cases c.padded_signs.ensures)
    c.in-Some-pack_signs-2.ensures.signs c.in-Some-pack_signs-2.ensures.planes c.push_reserved-2.ensures.items refl
    in
    let none : length (drop 64 c.loop-block.rest.now) ≡ 0 = omega (arith, length-drop 64 c.loop-block.rest.now, c.in_default.ensures.cases) in
    (front_signs _ _ _ all none, c.of-2.ensures ∙ front_view _ _ _ all none)
