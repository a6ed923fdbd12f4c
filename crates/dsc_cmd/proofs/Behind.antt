-- The facts of a group and those of the receptions of its lines are alike.
use Rattle.std.proofs.Common.{◌≡◌, ℕ, Bool, true, false, ◌&&◌, ◌||◌, ◌==◌, List, [], ◌∷◌, refl, sym, ap, subst, ◌∙◌}
use Rattle.std.proofs.Math.Path.{fun_ext}
use Rattle.std.specs.List.{list_any}
use Rattle.std.proofs.lemmas.List.Folds.{list_any-append}
use Rattle.std.proofs.lemmas.Bool.{eqb-true, eqb-false}
use Rattle.std.proofs.Math.Bool.{or-false}
use Rattle.ten_unit.specs.declared.character.Element.{Element}
use Rattle.slot_evidence.specs.declared.places.Seen.{Seen}
use Rattle.slot_evidence.specs.Facts.{Facts, Symbols, facts_of, facts_of_all}
use Rattle.slot_evidence.specs.Sheet.{IsEnds, facts_in}
use Rattle.slot_evidence.specs.Alike.{AreAlike}
use Rattle.slot_evidence.proofs.PublicLaws.{same_alike, flip_alike}
use Rattle.input_lines.specs.ReceiverLine.{ReceiverLine, nothing, reception, evidence}
use Rattle.input_lines.specs.Lines.{facts_of_pairs}
use Rattle.join_groups.specs.Groups.{facts_of_line, group_facts}
use Rattle.dsc_cmd.specs.Heard.{StandsForThem, AreBehindLine, AreBehind}

-- the laws of sets that are alike
pub record Laws : Type 0 where
  pub itself : (S : Symbols) → AreAlike S S
  pub unions : (S T U V : Symbols) → AreAlike S T → AreAlike U V → AreAlike (λ v. S v || U v) (λ v. T v || V v)
  pub sheet : (F : Facts) (sheet : List Seen) (p : ℕ) → IsEnds F sheet → AreAlike (F p) (facts_in sheet p)

all_none : (receptions : List (List Element)) (p v : ℕ) → receptions ≡ [] → facts_of_all receptions p v ≡ false
unfolding facts_of_all
all_none receptions p v none = ap (λ (r : List (List Element)). list_any (λ e. facts_of e p v) r) none

module _ (laws : Laws) (k : ℕ) where
  by_reception : (group : ℕ) (e : List Element) (here : List (List Element)) (p : ℕ) (t : Bool) → (group == k) ≡ t → AreBehindLine k (reception group e) here
      → AreAlike (λ v. t && facts_of e p v) (facts_of_all here p)
  unfolding facts_of_all
  by_reception group e here p true is behind = same_alike (λ v. facts_of e p v) (facts_of_all here p) (λ v.
      sym (or-false (facts_of e p v)) ∙ sym (ap (λ (r : List (List Element)). list_any (λ d. facts_of d p v) r) (behind.0 (eqb-true group k is))))
  by_reception group e here p false is behind = same_alike (λ v. false) (facts_of_all here p) (λ v. sym (all_none here p v (behind.1 (eqb-false group k is))))

  by_evidence : (group : ℕ) (pairs : List (ℕ × ℕ)) (here : List (List Element)) (p : ℕ) (t : Bool) → (group == k) ≡ t → AreBehindLine k (evidence group pairs) here
      → AreAlike (λ v. t && facts_of_pairs pairs p v) (facts_of_all here p)
  by_evidence group pairs here p true is behind =
      let stands : StandsForThem pairs here = behind.0 (eqb-true group k is) in
      let same : facts_in stands.sheet p ≡ facts_of_pairs pairs p = fun_ext (λ v. sym (stands.same p v)) in
      subst (λ (S : Symbols). AreAlike S (facts_of_all here p)) same (flip_alike (facts_of_all here p) (facts_in stands.sheet p) (laws.sheet (facts_of_all here) stands.sheet p stands.ends))
  by_evidence group pairs here p false is behind = same_alike (λ v. false) (facts_of_all here p) (λ v. sym (all_none here p v (behind.1 (eqb-false group k is))))

  line_alike : (line : ReceiverLine) (here : List (List Element)) → AreBehindLine k line here → (p : ℕ) → AreAlike (facts_of_line k line p) (facts_of_all here p)
  line_alike nothing here behind p = same_alike (λ v. false) (facts_of_all here p) (λ v. sym (all_none here p v behind))
  line_alike (reception group e) here behind p = by_reception group e here p (group == k) refl behind
  line_alike (evidence group pairs) here behind p = by_evidence group pairs here p (group == k) refl behind

  -- the facts of the group are alike those of all receptions of its lines
  pub behind_alike : (said : List ReceiverLine) (receptions : List (List Element)) → AreBehind k said receptions → (p : ℕ) → AreAlike (group_facts said k p) (facts_of_all receptions p)
  unfolding group_facts facts_of_all
  behind_alike [] receptions none p = same_alike (λ v. false) (facts_of_all receptions p) (λ v. sym (all_none receptions p v none))
  behind_alike (line ∷ said) receptions behind p =
      let here : List (List Element) = behind.0 in
      let rest : List (List Element) = behind.1 in
      let split : (λ (v : ℕ). list_any (λ e. facts_of e p v) here || list_any (λ e. facts_of e p v) rest) ≡ facts_of_all receptions p =
      fun_ext (λ v. sym (ap (λ (r : List (List Element)). list_any (λ e. facts_of e p v) r) behind.2 ∙ list_any-append (λ e. facts_of e p v) here rest)) in
      subst (λ (S : Symbols). AreAlike (group_facts (line ∷ said) k p) S) split
      (laws.unions (facts_of_line k line p) (facts_of_all here p) (group_facts said k p) (facts_of_all rest p) (line_alike line here behind.3 p) (behind_alike said rest behind.4 p))
