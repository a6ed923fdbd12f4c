-- What the laws of sentences speak of.
use Rattle.std.specs.Prelude.{◌≡◌, ◌≢◌, ℕ, ◌≤◌, true, List, [], length, Ok}
use Rattle.std.specs.List.{list_all}
use Rattle.sentence_frame.specs.Frames.{sentence}
use Rattle.sentence_frame.specs.Refusals.{Form, is_head, judged}
use Rattle.sentence_frame.specs.Shapes.{is_among}
use Rattle.sentence_frame.specs.inside.Fields.{are_plain}

-- texts that a sentence of this form may have: as many as it may have, of clean bytes without commas, each accepted,
-- and not too long in all
pub record AreTexts (form : Form) (texts : List (List ℕ)) : Type 0 where
  pub head : is_head form.head ≡ true
  pub some : texts ≢ []
  pub count : is_among form.counts (length texts) ≡ true
  pub plain : list_all are_plain texts ≡ true
  pub accepted : judged 1 (form.shapes texts) texts texts ≡ Ok texts
  pub short : length (sentence form.head texts) ≤ 82
