use Rattle.net_file.proofs.Places.{AtPlace}
use Rattle.net_file.proofs.read_places.Given as goal

abbrev pub invariant-loop-place : goal.invariant-loop-place
invariant-loop-place l = AtPlace l.count l.total l.transitions l.behind l.place l.rest
