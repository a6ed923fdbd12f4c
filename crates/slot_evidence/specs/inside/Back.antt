-- What a sheet says of its places gives back the two numbers that it keeps of each.
use Rattle.std.specs.Prelude.{◌≡◌, ℕ, zero, suc, ◌==◌, Bool, true, false, cond, List, [], ◌∷◌, map, refl}
use Rattle.std.proofs.Common.{ap, sym, ◌∙◌}
use Rattle.std.proofs.lemmas.Bool.{eqb-true}
use Rattle.slot_evidence.specs.declared.places.Seen.TheVariants as seen
use Rattle.slot_evidence.specs.TwoNumbers.{seen_between, least_of, past_of, AreInOrder}
use Rattle.slot_evidence.specs.inside.Kept.{seen_of, AreOrdered}

least_either : (b : Bool) (least greatest : ℕ) → least_of (cond b (seen.One least) (seen.Differ least greatest)) ≡ least
least_either true least greatest = refl
least_either false least greatest = refl

pub least_back : (least past : ℕ) → AreInOrder least past → least_of (seen_between least past) ≡ least
least_back least zero order = sym order
least_back least (suc greatest) order = least_either (least == greatest) least greatest

past_either : (b : Bool) (least greatest : ℕ) → (least == greatest) ≡ b → past_of (cond b (seen.One least) (seen.Differ least greatest)) ≡ suc greatest
past_either true least greatest same = ap suc (eqb-true least greatest same)
past_either false least greatest other = refl

pub past_back : (least past : ℕ) → past_of (seen_between least past) ≡ past
past_back least zero = refl
past_back least (suc greatest) = past_either (least == greatest) least greatest refl

pub leasts_back : (leasts pasts : List ℕ) → AreOrdered leasts pasts → map least_of (seen_of leasts pasts) ≡ leasts
leasts_back [] [] ordered = refl
leasts_back [] (past ∷ pasts) ordered = absurd ordered
leasts_back (least ∷ leasts) [] ordered = absurd ordered
leasts_back (least ∷ leasts) (past ∷ pasts) ordered =
    ap (λ (n : ℕ). n ∷ map least_of (seen_of leasts pasts)) (least_back least past ordered.0)
    ∙ ap (λ (l : List ℕ). least ∷ l) (leasts_back leasts pasts ordered.1)

pub pasts_back : (leasts pasts : List ℕ) → AreOrdered leasts pasts → map past_of (seen_of leasts pasts) ≡ pasts
pasts_back [] [] ordered = refl
pasts_back [] (past ∷ pasts) ordered = absurd ordered
pasts_back (least ∷ leasts) [] ordered = absurd ordered
pasts_back (least ∷ leasts) (past ∷ pasts) ordered =
    ap (λ (n : ℕ). n ∷ map past_of (seen_of leasts pasts)) (past_back least past)
    ∙ ap (λ (l : List ℕ). past ∷ l) (pasts_back leasts pasts ordered.1)
