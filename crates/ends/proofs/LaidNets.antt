-- The net of a file in an area, or a refusal; what is read of that net, and both fresh states.
use Prim.Native.Nat.{ℕ, ◌≤◌}
use mathlib.Core.Path.{◌≡◌, refl, sym, ◌∙◌, ap, subst}
use mathlib.Core.Bool.{Bool, true, cond}
use mathlib.Core.List.{List, ◌++◌}
use native.Mathlib.Omega.{arith}
use lib.ListN.{length, take, drop, length-append}
use lib.Seq.{take_at}
use lib.Dec.{eqb}
use borrow.Author.Tests.{le-ltb}
use Rattle.effbd.specs.Answers.{Outcome, accepted, refused, and_then, number}
use Rattle.effbd.specs.Records.{are_bytes}
use Rattle.effbd.specs.Diagrams.{Diagram}
use Rattle.effbd.specs.Nesting.{read_diagram}
use Rattle.effbd.specs.Layout.{places}
use Rattle.effbd.specs.States.{fresh_words}
use Rattle.effbd.specs.Moves.{fresh_diagram}
use Rattle.effbd.specs.Nets.{Net, read_net}
use Rattle.effbd.specs.Firing.{net_word_count, fresh_net_words, fresh_net}
use Rattle.effbd.specs.Patterns.{net_of, Translated, translated}
use Rattle.effbd.specs.History.{net_file_of}
use Rattle.translate.specs.NetRecords.{net_room}
use Rattle.agreement.specs.AcceptedFiles.{held}
use Rattle.agreement.proofs.Theorems.{net-well-formed, net-read-back}
use Rattle.diagram_file.specs.Tables.{DiagramOf}
use Rattle.diagram_table.specs.Held.{HoldsFile}
use Rattle.diagram_file.proofs.Promises.{turned-away}
use Rattle.std.specs.Prelude.{Err}
use Rattle.effbd.specs.declared.refusals.Refusal.{Refusal}
use Rattle.translate.proofs.Sizes.{net-short}
use Rattle.copies.specs.Counting.{copies_counted}
use Rattle.copies.specs.Promised.{zeros, WidenedPlant}
use Rattle.copies.proofs.Plants.{widened-by}
use Rattle.diagram_table.specs.Cells.{wide_total}
use Rattle.ends.specs.ReadyEnds.{net_length, NetLaidAs, NetOf}

-- a refused file has no net
pub no-net : (file area : List ℕ) (e : Refusal) → DiagramOf file (Err e) → (refused (number e.reason) e.value ≡ net_length (read_diagram file)) × NetLaidAs (read_diagram file) area area
unfolding net_length
no-net file area e p = rw (turned-away file e p) (refl, refl)

-- an accepted file's net fits
module _ (file : List ℕ) (rows items : ℕ) (table : List ℕ) (h : HoldsFile file rows items table) (bytes : are_bytes file ≡ true) where
  -- the table with its copies, as the translator has it
  abbrev wide : List ℕ
  wide = copies_counted file rows items table (zeros wide_total)

  widened : WidenedPlant file rows items table wide
  widened = widened-by file rows items table bytes

  small : length (net_file_of h.diagram) ≤ net_room
  small = let p = widened.plant h in
      subst (λ (d : Diagram). length (net_file_of d) ≤ net_room) (widened.same h)
      (net-short p.held.diagram rows items wide file p.held.holds p.held.uses p.copies p.ranks (held file p.held.diagram bytes p.held.read))

  translation : (area : List ℕ) → net_room ≤ length area
      → translated file area ≡ record { answer = accepted (length (net_file_of h.diagram)); area = net_file_of h.diagram ++ drop (length (net_file_of h.diagram)) area }
  unfolding translated
  translation area l = let s = small in rw (h.read, le-ltb (length area) (length (net_file_of h.diagram)) (omega arith))

  pub net-laid : (area after : List ℕ) (answer : Outcome ℕ) → net_room ≤ length area → answer ≡ (translated file area).answer → after ≡ (translated file area).area
      → (answer ≡ net_length (read_diagram file)) × NetLaidAs (read_diagram file) area after
  unfolding net_length
  net-laid area after answer l a e = let t = translation area l in
      subst (λ (o : Outcome Diagram). (answer ≡ net_length o) × NetLaidAs o area after) (sym h.read)
      (a ∙ ap (λ (x : Translated). x.answer) t, record { holds = e ∙ ap (λ (x : Translated). x.area) t; small = small })

-- a file that is accepted, and its net in an area
pub found-net : (file area after : List ℕ) (n : ℕ) → accepted n ≡ net_length (read_diagram file) → NetLaidAs (read_diagram file) area after
    → (n ≤ length after) × NetOf file (take n after)
unfolding net_length
found-net file area after n e h = go (read_diagram file) refl e h
  where
    go : (o : Outcome Diagram) → read_diagram file ≡ o → accepted n ≡ net_length o → NetLaidAs o area after → (n ≤ length after) × NetOf file (take n after)
    go (accepted d) r f l =
        let q : n ≡ length (net_file_of d) = cc in
        let long = ap length l.holds ∙ length-append (net_file_of d) (drop (length (net_file_of d)) area) in
        (omega arith, record { diagram = d; read = r; is = ap (take n) l.holds ∙ take_at (net_file_of d) (drop (length (net_file_of d)) area) n (sym q) })
    go (refused number value) r f l = absurd (let z : ◌≡◌ {A = ℕ} 0 1 = cc in omega arith)

module _ (file net : List ℕ) (n : NetOf file net) (bytes : are_bytes file ≡ true) where
  pub net-reads : read_net net ≡ accepted (net_of n.diagram)
  net-reads = ap read_net n.is ∙ net-read-back (net_of n.diagram) (net-well-formed file n.diagram bytes n.read)

  pub fresh-is : (leader : List ℕ) (a : Bool) → eqb (length leader) (places n.diagram) ≡ a → fresh_diagram file leader ≡ cond a (accepted (fresh_words n.diagram)) (refused 20 0)
  unfolding fresh_diagram
  fresh-is leader a p = ap (λ (o : Outcome Diagram). and_then o (λ d. cond (eqb (length leader) (places d)) (accepted (fresh_words d)) (refused 20 0))) n.read
      ∙ ap (λ (x : Bool). cond x (accepted (fresh_words n.diagram)) (refused 20 0)) p

  pub fresh-net-is : (follower : List ℕ) → eqb (length follower) (net_word_count (net_of n.diagram)) ≡ true → fresh_net net follower ≡ accepted (fresh_net_words (net_of n.diagram))
  unfolding fresh_net
  fresh-net-is follower p = ap (λ (o : Outcome Net). and_then o (λ x. cond (eqb (length follower) (net_word_count x)) (accepted (fresh_net_words x)) (refused 20 0))) net-reads
      ∙ ap (λ (x : Bool). cond x (accepted (fresh_net_words (net_of n.diagram))) (refused 20 0)) p
