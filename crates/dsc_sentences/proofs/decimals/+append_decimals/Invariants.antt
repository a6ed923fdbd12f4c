use Rattle.dsc_sentences.proofs.decimals.+append_decimals.Given as goal

abbrev pub decreases-append_decimals : goal.decreases-append_decimals
decreases-append_decimals g l = l.width
