use Rattle.std.proofs.Common.{◌≡◌, Bool, true, false, ◌&&◌, ◌||◌, refl, sym, ap, ◌∙◌}
use Rattle.std.proofs.Math.Bool.{or-false}
use Rattle.std.proofs.lemmas.Bool.Decides.{Decides-eqb}
use Rattle.std.proofs.lemmas.Slice.Eq.{slice_eq-Decides}
use Rattle.slot_evidence.specs.Facts.{Facts, facts_of, union}
use Rattle.slot_evidence.proofs.PublicLaws.{IsEnds-same}
use Rattle.receiver_pool.proofs.Parts.{turn_taken}
use Rattle.receiver_pool.proofs.Gathered.{or_assoc}
use Rattle.receiver_pool.proofs.Posted.{left_true, right_true, same_ends, alike_posted}
use Rattle.receiver_pool.proofs.at_once.post_turn.Goals as goal

-- another's reception adds nothing
none_added : (mine : Bool) → mine ≡ false → (a x : Bool) → a ≡ (a || (mine && x))
none_added mine is a x = sym (ap (λ (b : Bool). a || (b && x)) is ∙ or-false a)

one_added : (mine : Bool) → mine ≡ true → (f a x : Bool) → (f || a || x) ≡ (f || (a || (mine && x)))
one_added mine is f a x = or_assoc f a x ∙ ap (λ (b : Bool). f || (a || (b && x))) (sym is)

pub returns-then-not-mine-clause-sheet : goal.returns-then-not-mine-clause-sheet
returns-then-not-mine-clause-sheet c = λ P ends.
    IsEnds-same P _ _ (λ p v. none_added c.args.mine c.if-not-mine.true (P p v) (facts_of c.args.heard.now p v)) ends

pub returns-then-not-mine-clause-ends : goal.returns-then-not-mine-clause-ends
returns-then-not-mine-clause-ends c = λ F P ends was.
    IsEnds-same (union F P) _ _ (λ p v. ap (λ (b : Bool). F p v || b) (none_added c.args.mine c.if-not-mine.true (P p v) (facts_of c.args.heard.now p v))) was

pub returns-then-eq-clause-sheet : goal.returns-then-eq-clause-sheet
returns-then-eq-clause-sheet c = λ P ends.
    turn_taken c.args.mine P (facts_of c.args.heard.now) _ c.if-not-mine.false (c.meet.ensures P (facts_of c.args.heard.now) ends c.shown_by-shown.ensures)

pub returns-then-eq-clause-ends : goal.returns-then-eq-clause-ends
returns-then-eq-clause-ends c = λ F P ends was.
    let X : Facts = λ p v. c.args.mine && facts_of c.args.heard.now p v in
    let met = turn_taken c.args.mine P (facts_of c.args.heard.now) _ c.if-not-mine.false (c.meet.ensures P (facts_of c.args.heard.now) ends c.shown_by-shown.ensures) in
    let leasts = (slice_eq-Decides Decides-eqb _ _ true (left_true _ _ c.if-eq.ensures)).0 refl in
    let pasts = (slice_eq-Decides Decides-eqb _ _ true (right_true _ _ c.if-eq.ensures)).0 refl in
    let back = same_ends c.meet.new.self c.args.sheet.now (union P X) c.sheet_is_lawful-2.ensures c.sheet_is_lawful.ensures leasts pasts met in
    let law = c.ends_are_kept.ensures in
    alike_posted law.kept law.itself law.unions law.sheet F P (union P X) c.args.sheet.now _ ends back was

pub returns-clause-sheet : goal.returns-clause-sheet
returns-clause-sheet c = λ P ends.
    turn_taken c.args.mine P (facts_of c.args.heard.now) _ c.if-not-mine.false (c.meet.ensures P (facts_of c.args.heard.now) ends c.shown_by-shown.ensures)

pub returns-clause-ends : goal.returns-clause-ends
returns-clause-ends c = λ F P ends was.
    IsEnds-same (union (union F P) (facts_of c.args.heard.now)) _ _
    (λ p v. one_added c.args.mine c.if-not-mine.false (F p v) (P p v) (facts_of c.args.heard.now p v))
    (c.post_sheet.ensures.ends (union F P) (facts_of c.args.heard.now) was c.shown_by-shown.ensures)
