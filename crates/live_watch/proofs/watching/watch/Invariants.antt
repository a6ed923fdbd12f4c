use Rattle.live_watch.specs.inside.Known.{known_facts, listed_facts}
use Rattle.live_watch.proofs.watching.watch.Given as goal

abbrev pub ghosts-watch_on : goal.ghosts-watch_on
ghosts-watch_on g a = record { facts = listed_facts (known_facts a.so_far.now a.list.now) }
