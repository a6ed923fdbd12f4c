-- The sentences of a call and of the expansion after it: this project's profile.
use Rattle.std.specs.Prelude.{ℕ, true, false, List, ◌++◌, Option, Some, None, codes}
use Rattle.call_values.specs.declared.calls.Call.{Call}
use Rattle.call_values.specs.Views.{sender_of}
use Rattle.expansion.specs.declared.values.Sets.{Sets}
use Rattle.sentence_frame.specs.Frames.{sentence}
use Rattle.dsc_sentences.specs.Calls.{of_call}
use Rattle.dsc_sentences.specs.Expansions.{of_expansion}
use Rattle.dsc_sentences.specs.Dsc as dsc
use Rattle.dsc_sentences.specs.Dse as dse

-- the DSC sentence of a call; where an expansion follows, it says so, and the expansion's DSE sentence with the call's
-- sender comes after it
unfoldable pub sentences_of : Call → Option Sets → List ℕ
sentences_of call None = sentence (codes "$CDDSC") (dsc.texts (of_call call false))
sentences_of call (Some x) =
    sentence (codes "$CDDSC") (dsc.texts (of_call call true)) ++ sentence (codes "$CDDSE") (dse.texts (of_expansion (sender_of call) x))
