-- Errors in one sense alone: ITU-R M.493, section on the error-detecting code; the definition is this project's
-- profile.
use Rattle.std.specs.Prelude.{◌≡◌, ◌⊎◌, Bool, false, ◌&&◌, ◌||◌, List, ◌∷◌, length}
use Rattle.std.specs.List.{list_any}
use Rattle.ten_unit.specs.declared.character.Element.{Element}
use Rattle.ten_unit.specs.declared.character.Element.TheVariants.{Y, B, Lost}
use Rattle.ten_unit.specs.Word.{element_eq}

-- at some place the one element was sent and the other received
abbrev pub is_turned : Element → Element → List Element → List Element → Bool
is_turned one other (s ∷ sent) (r ∷ received) = (element_eq s one && element_eq r other) || is_turned one other sent received
is_turned _ _ _ _ = false

-- ten elements are sent, none of them lost, and ten received; each received one is lost, right, or wrong in one sense
-- alone: no sent B is received as Y, or no sent Y is received as B
pub record IsOneWay (sent received : List Element) : Type 0 where
  pub ten_sent : length sent ≡ 10
  pub none_lost : list_any (element_eq Lost) sent ≡ false
  pub ten_received : length received ≡ 10
  pub one_sense : (is_turned B Y sent received ≡ false) ⊎ (is_turned Y B sent received ≡ false)
