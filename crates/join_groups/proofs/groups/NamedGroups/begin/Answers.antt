use Rattle.std.proofs.Common.{◌≡◌, ℕ, List, Some, cond, length, refl, sym, subst, inr, arith}
use Rattle.std.specs.Ordering.{nat_cmp, is_eq}
use Rattle.slot_evidence.specs.declared.places.Seen.{Seen}
use Rattle.join_groups.specs.Holds.{HoldsIn, named_with}
use Rattle.join_groups.proofs.Rising.{found}
use Rattle.join_groups.proofs.Holding.{is_full, full_has_many, holds_numbered, number_given}
use Rattle.join_groups.proofs.groups.NamedGroups.begin.Goals as goal

pub returns-then-len-ge-MOST_GROUPS-clause-err : goal.returns-then-len-ge-MOST_GROUPS-clause-err
returns-then-len-ge-MOST_GROUPS-clause-err c = inr (λ named F holds. (
  refl,
  is_full c.args.self.now.numbers.entries c.args.self.now.sheets.items c.args.self.now.batch.items named F c.args.group c.len.ensures.ordered c.requires (omega (arith, c.len.ensures.len)) holds,
))

pub returns-in-Ok-clause-ok : goal.returns-in-Ok-clause-ok
returns-in-Ok-clause-ok c = λ named F holds.
    let old = c.args.self.now in
    let next = c.insert.new.self.entries in
    let count : c.len-number.result ≡ length old.sheets.items = omega (arith, c.len-number.ensures, old.sheets.ok.0) in
    let given : (k : ℕ) → found next k ≡ cond (is_eq (nat_cmp c.args.group k)) (Some c.len-number.result) (found old.numbers.entries k) = c.in-Ok.ensures.updates.0 in
    let counted : (k : ℕ) → found next k ≡ cond (is_eq (nat_cmp c.args.group k)) (Some (length old.sheets.items)) (found old.numbers.entries k) =
    subst (λ (n : ℕ). (k : ℕ) → found next k ≡ cond (is_eq (nat_cmp c.args.group k)) (Some n) (found old.numbers.entries k)) count given in (
      λ full. absurd (omega (arith, full_has_many old.numbers.entries old.sheets.items old.batch.items named F c.args.group c.len.ensures.ordered holds full, c.len.ensures.len)),
      subst (λ (s : List (List Seen)). HoldsIn (found next) s old.batch.items (named_with c.args.group named) F) (sym c.in_ok-push.ensures.items)
          (holds_numbered (found old.numbers.entries) (found next) old.sheets.items old.batch.items named F c.args.group c.empty.result c.requires counted c.empty.ensures.ends holds),
      number_given (found next) (found old.numbers.entries) c.args.group c.len-number.result given,
    )
