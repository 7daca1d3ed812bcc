-- What is proved of diagrams and nets, each statement whole; the proofs stand in the files named. Of a file nothing is supposed but that it is
-- bytes and that it is accepted; of a list of calls what document 01 supposes of it (`MayBeHanded`, crate effbd, specs/History.antt).
use Rattle.std.specs.Prelude.{ℕ, ◌≡◌, true, List, length}
use Rattle.std.proofs.Common.{sym, ◌∙◌, ap}
use Rattle.effbd.specs.Answers.{accepted, is_accepted}
use Rattle.effbd.specs.Records.{are_bytes}
use Rattle.effbd.specs.Diagrams.{Diagram}
use Rattle.effbd.specs.Nesting.{read_diagram}
use Rattle.effbd.specs.Layout.{places}
use Rattle.effbd.specs.States.{fresh_words, state_of, state_passes}
use Rattle.effbd.specs.Moves.{Move}
use Rattle.effbd.specs.Nets.{Net, net_bytes, read_net}
use Rattle.effbd.specs.Firing.{checked_net_move, fresh_net_words}
use Rattle.effbd.specs.Patterns.{net_of}
use Rattle.effbd.specs.Image.{image_words}
use Rattle.effbd.specs.BusEnds.{telegram}
use Rattle.effbd.specs.History.{Call, MayBeHanded, Demand3}
use Rattle.agreement.specs.Formed.{well_formed}
use Rattle.agreement.specs.Named.{moves_from}
use Rattle.agreement.specs.AcceptedFiles.{held}
use Rattle.agreement.proofs.StateCheck.{valid-proper}
use Rattle.agreement.proofs.StateWords.{Kept}
use Rattle.agreement.specs.NetFiles.{NetBack, read_back as net_read_back, net-back as net_is_encoding}
use Rattle.agreement.proofs.WellFormed.{well-made}
use Rattle.agreement.specs.Telegrams.{Telegram, telegram-back as telegram_reads_back}
use Rattle.agreement.proofs.Reached.{Good, fresh-good, fresh-net, reached-good, file-step, net-step, same_at, after-move, refuses, net-follows}
use Rattle.agreement.proofs.Demand.{whole}
use Rattle.agreement.specs.Theorems.{reached, AgreeAt}

module _ (file : List ℕ) (d : Diagram) (bytes : are_bytes file ≡ true) (read : read_diagram file ≡ accepted d) where
  reached-is : (moves : List Move) → Good d (held file d bytes read) (reached d moves)
  reached-is moves = reached-good file d bytes read moves (fresh_words d) (fresh-good d (held file d bytes read))

  -- THEOREM: diagram and net agree at every state reached by a list of moves (Reached.antt, over Moves.antt, Waits.antt and the steps of each kind)
  pub agreement : (moves : List Move) → AgreeAt file d (reached d moves)
  agreement moves = let g = reached-is moves in record {
    accepts = λ code argument. ap is_accepted (file-step file d bytes read code argument _ g)
        ∙ (same_at file d bytes read code argument _ g ∙ ap is_accepted (sym (net-step file d bytes read code argument _)));
    moves = λ code argument next e. net-step file d bytes read code argument _
        ∙ (after-move file d bytes read code argument _ next g (sym (file-step file d bytes read code argument _ g) ∙ e)).0;
    refusals = λ code argument number value e. net-step file d bytes read code argument _
        ∙ refuses file d bytes read code argument number value _ g (sym (file-step file d bytes read code argument _ g) ∙ e);
  }

  -- THEOREM: the net's fresh state is the image of the diagram's, and any list of moves leaves the net at the image (Reached.antt)
  pub net-fresh : fresh_net_words (net_of d) ≡ image_words d (fresh_words d)
  net-fresh = fresh-net d (held file d bytes read)

  pub net-reaches : (moves : List Move) → moves_from (checked_net_move (net_of d)) moves (fresh_net_words (net_of d)) ≡ image_words d (reached d moves)
  net-reaches moves = ap (moves_from (checked_net_move (net_of d)) moves) net-fresh ∙ net-follows file d bytes read moves (fresh_words d) (fresh-good d (held file d bytes read))

  -- THEOREM: every state reached passes the state check, 20 (StateCheck.antt)
  pub reached-passes : (moves : List Move) → (length (reached d moves) ≡ places d) × (state_passes d (state_of d (reached d moves)) ≡ true)
  unfolding Kept
  reached-passes moves = let g = reached-is moves in (g.long, valid-proper d (state_of d (reached d moves)) g.kept.valid)

  -- THEOREM: the net of an accepted diagram is one that a net file can hold (WellFormed.antt)
  pub net-well-formed : well_formed (net_of d) ≡ true
  net-well-formed = well-made d (held file d bytes read)

  -- THEOREM: demand 3, for every station and list of calls, whatever the bus loses, repeats or delivers late, refused calls included (Demand.antt)
  pub demand-3 : (station : ℕ) (calls : List Call) → MayBeHanded file d station calls → Demand3 file d station calls
  demand-3 station calls handed = whole file d bytes read station calls handed

-- THEOREM: a net that a file can hold reads back from its bytes; an accepted net file is the bytes of the net that it reads to (NetFiles.antt)
pub net-read-back : (n : Net) → well_formed n ≡ true → read_net (net_bytes n) ≡ accepted n
net-read-back = net_read_back

pub net-is-encoding : (file : List ℕ) (n : Net) → are_bytes file ≡ true → read_net file ≡ accepted n → NetBack file n
net-is-encoding = net_is_encoding

-- THEOREM: a written telegram reads back (Telegrams.antt)
pub telegram-read-back : (number station code argument : ℕ) → Telegram number station code argument (telegram number station code argument)
telegram-read-back = telegram_reads_back
