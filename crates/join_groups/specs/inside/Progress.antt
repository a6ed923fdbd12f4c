-- Telling of one group after another.
use Rattle.std.specs.Prelude.{◌≡◌, ℕ, Bool, List, [], ◌∷◌, ◌++◌, slice_index_or}
use Rattle.std.specs.List.{list_all, flat_map}
use Rattle.slot_evidence.specs.declared.places.Seen.{Seen}
use Rattle.slot_evidence.specs.Facts.{Facts}
use Rattle.slot_evidence.specs.Sheet.{IsEnds}
use Rattle.join_groups.specs.Output.{GroupLine, Telling}

-- groups, each with its number
abbrev pub Numbers : Type 0
Numbers = List (ℕ × ℕ)

-- these groups are told of, one by one, whatever facts their sheets keep the ends of
abbrev pub AreOf : Telling → (sheets : List (List Seen)) → Numbers → List GroupLine → Type 0
AreOf tells sheets [] [] = Unit {0}
AreOf tells sheets [] (told ∷ all) = ⊥
AreOf tells sheets (e ∷ numbers) [] = ⊥
AreOf tells sheets (e ∷ numbers) (told ∷ all) =
    (told.group ≡ e.0) × ((F : Facts) → IsEnds F (slice_index_or sheets e.1 []) → tells F told) × AreOf tells sheets numbers all

-- these groups were told
pub record HasTold (tells : Telling) (sheets : List (List Seen)) (numbers : Numbers) (text : List ℕ) (is_well : Bool) : Type 0 where
  pub all : List GroupLine
  pub are_of : AreOf tells sheets numbers all
  pub text_is : text ≡ flat_map (λ told. told.line) all
  pub well_is : is_well ≡ list_all (λ told. told.is_well) all

-- some groups were told, and these are left
pub record Progress (tells : Telling) (sheets : List (List Seen)) (numbers left : Numbers) (before after : List ℕ) (is_well : Bool) : Type 0 where
  pub done : Numbers
  pub text : List ℕ
  pub split : numbers ≡ done ++ left
  pub has_told : HasTold tells sheets done text is_well
  pub written : after ≡ before ++ text
