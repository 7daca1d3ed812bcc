-- Both ends before the first call: the net of a file, the fresh states, and how long each is. Assumes nothing.
use Rattle.std.specs.Prelude.{ℕ, ◌+◌, ◌≤◌, ◌≡◌, Result, Ok, Err, List, ◌++◌, length, drop}
use Rattle.effbd.specs.Answers.{Outcome, accepted, refused}
use Rattle.effbd.specs.declared.refusals.Refusal.{Refusal}
use Rattle.effbd.specs.Diagrams.{Diagram}
use Rattle.effbd.specs.Nesting.{read_diagram}
use Rattle.effbd.specs.Layout.{places}
use Rattle.effbd.specs.States.{fresh_words}
use Rattle.effbd.specs.Nets.{most_places, most_transitions}
use Rattle.effbd.specs.Firing.{net_word_count, fresh_net_words}
use Rattle.effbd.specs.Patterns.{net_of}
use Rattle.effbd.specs.History.{net_file_of}
use Rattle.translate.specs.NetRecords.{net_room}
use Rattle.ends.specs.declared.EndSizes.{EndSizes}

-- room for the state of every diagram, and of every net
abbrev pub leader_room : ℕ
leader_room = most_places

abbrev pub follower_room : ℕ
follower_room = most_places + most_transitions

-- how long a file's net is, or the file's refusal
unfoldable pub net_length : Outcome Diagram → Outcome ℕ
net_length (accepted d) = accepted (length (net_file_of d))
net_length (refused number value) = refused number value

-- the net of an accepted file stands at the start of an area, which has room for it; of a refused one nothing
pub record NetLaid (d : Diagram) (area after : List ℕ) : Type 0 where
  pub holds : after ≡ net_file_of d ++ drop (length (net_file_of d)) area
  pub small : length (net_file_of d) ≤ net_room

abbrev pub NetLaidAs : Outcome Diagram → (area after : List ℕ) → Type 0
NetLaidAs (accepted d) area after = NetLaid d area after
NetLaidAs (refused number value) area after = after ≡ area

-- an accepted file and its net
pub record NetOf (file net : List ℕ) : Type 0 where
  pub diagram : Diagram
  pub read : read_diagram file ≡ accepted diagram
  pub is : net ≡ net_file_of diagram

-- the fresh states of both ends stand at the start of the words lent for them, which have room for every diagram's
pub record FreshEnds (d : Diagram) (leader follower leader' follower' : List ℕ) (leader_words follower_words : ℕ) : Type 0 where
  pub leader-long : leader_words ≡ places d
  pub leader-fits : leader_words ≤ leader_room
  pub leader-holds : leader' ≡ fresh_words d ++ drop leader_words leader
  pub follower-long : follower_words ≡ net_word_count (net_of d)
  pub follower-fits : follower_words ≤ follower_room
  pub follower-holds : follower' ≡ fresh_net_words (net_of d) ++ drop follower_words follower

pub record FreshOf (file leader follower leader' follower' : List ℕ) (leader_words follower_words : ℕ) : Type 0 where
  pub diagram : Diagram
  pub read : read_diagram file ≡ accepted diagram
  pub ends : FreshEnds diagram leader follower leader' follower' leader_words follower_words

-- the net and both states stand ready
pub record ReadyEnds (d : Diagram) (net leader follower net' leader' follower' : List ℕ) (net_bytes leader_words follower_words : ℕ) : Type 0 where
  pub net-long : net_bytes ≡ length (net_file_of d)
  pub net-fits : net_bytes ≤ net_room
  pub net-holds : net' ≡ net_file_of d ++ drop net_bytes net
  pub fresh : FreshEnds d leader follower leader' follower' leader_words follower_words

-- nothing lent is altered
pub record NoEnds (net leader follower net' leader' follower' : List ℕ) (net_bytes leader_words follower_words : ℕ) : Type 0 where
  pub net-kept : net' ≡ net
  pub leader-kept : leader' ≡ leader
  pub follower-kept : follower' ≡ follower
  pub no-net : net_bytes ≡ 0
  pub no-leader : leader_words ≡ 0
  pub no-follower : follower_words ≡ 0

-- what `ready` leaves: both ends of the diagram, or nothing was done
abbrev pub ReadyAs : Outcome Diagram → (net leader follower net' leader' follower' : List ℕ) (net_bytes leader_words follower_words : ℕ) → Type 0
ReadyAs (accepted d) net leader follower net' leader' follower' net_bytes leader_words follower_words =
    ReadyEnds d net leader follower net' leader' follower' net_bytes leader_words follower_words
ReadyAs (refused number value) net leader follower net' leader' follower' net_bytes leader_words follower_words =
    NoEnds net leader follower net' leader' follower' net_bytes leader_words follower_words

-- how long the net and the states are, 0 where the file is refused
abbrev pub net_bytes : Result EndSizes Refusal → ℕ
net_bytes (Ok sizes) = sizes.net
net_bytes (Err refusal) = 0

abbrev pub leader_words : Result EndSizes Refusal → ℕ
leader_words (Ok sizes) = sizes.states.leader
leader_words (Err refusal) = 0

abbrev pub follower_words : Result EndSizes Refusal → ℕ
follower_words (Ok sizes) = sizes.states.follower
follower_words (Err refusal) = 0
