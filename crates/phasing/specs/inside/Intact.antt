-- The end of a call's start, for a look at receptions without a wrong element. This project's own form.
use Rattle.std.specs.Prelude.{◌≡◌, ℕ, ◌+◌, ◌<◌, ◌==◌, true, slice_index_or}
use Rattle.std.specs.List.{list_any}
use Rattle.ten_unit.specs.declared.character.Element.{Element}
use Rattle.ten_unit.specs.declared.character.Element.TheVariants.{Lost}
use Rattle.phasing.specs.Sent.{sent}
use Rattle.phasing.specs.Start.{formats, start_symbols}

-- from a place on the elements are those of slots 12 to 15 of a call with this format specifier, which are sent from
-- element 320 on after the long dot pattern
pub record IsStartsEnd (e : ℕ → Element) (base : ℕ) : Type 0 where
  pub format : ℕ
  pub known : list_any (λ f. f == format) formats ≡ true
  pub each : (i : ℕ) → i < 40 → e (base + i) ≡ slice_index_or (sent (start_symbols format) true) (320 + i) Lost
