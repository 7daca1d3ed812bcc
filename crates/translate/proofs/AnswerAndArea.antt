-- Where a net fits, the area holds its bytes and the next offset is their number; the answer and the area that a translation leaves.
use Rattle.std.proofs.Common.{ℕ, ◌+◌, ◌≤◌, ◌<◌, ◌≡◌, refl, ap, sym, subst, ◌∙◌, true, List, [], ◌∷◌, ◌++◌, arith, zero-add, length, drop, eq-eqb, lt-ltb, le-ltb}
use Rattle.std.proofs.lemmas.List.Edits.{sets}
use lib.Seq.{sets-eq}
use Rattle.std.specs.Prelude.{Err}
use Rattle.effbd.specs.Answers.{accepted, refused, number}
use Rattle.effbd.specs.Records.{are_bytes}
use Rattle.effbd.specs.Counts.{count_total}
use Rattle.effbd.specs.Nets.{net_bytes}
use Rattle.effbd.specs.Patterns.{net_of, translated}
use Rattle.effbd.specs.declared.refusals.Refusal.{Refusal}
use Rattle.agreement.specs.AcceptedFiles.{Held, held}
use Rattle.diagram_table.specs.Cells.{some_trigger_in, counts_in}
use Rattle.diagram_table.specs.Held.{HoldsFile, HoldsPlant}
use Rattle.diagram_file.specs.Tables.{DiagramOf}
use Rattle.diagram_file.proofs.Promises.{turned-away as refused-is}
use Rattle.net_records.specs.declared.Writer.{Writer}
use Rattle.net_records.specs.Writing.{flat, offset_limit, Wrote}
use Rattle.net_records.proofs.Bytes.{reach-fits, laid-fits}
use Rattle.translate.specs.NetRecords.{net_records, longest_net, net_room}
use Rattle.translate.proofs.NetBytes.{net-is}
use Rattle.translate.proofs.Sizes.{longest-plain, net-small, net-short}

-- the refusal of a short area
abbrev area_short : ℕ
area_short = 10

-- behind a part of no bytes an area is as it was
pub nothing_written : (part area : List ℕ) → length part ≡ 0 → part ++ area ≡ area
nothing_written [] area z = refl
nothing_written (x ∷ part) area z = absurd (omega arith)

-- an accepted file, its diagram's table
module _ (file : List ℕ) (rows items : ℕ) (table : List ℕ) (plant : HoldsPlant file rows items table) (bytes : are_bytes file ≡ true) where
  abbrev h : HoldsFile file rows items table
  h = plant.held

  net : List ℕ
  net = net_bytes (net_of h.diagram)

  sound : Held h.diagram
  sound = held file h.diagram bytes h.read

  is-net : flat (net_records table file rows items) ≡ net
  unfolding net
  is-net = net-is h.diagram rows items table file h.holds h.uses plant.copies plant.ranks sound

  small : length net ≤ net_room
  unfolding net
  small = net-short h.diagram rows items table file h.holds h.uses plant.copies plant.ranks sound

  fits : 0 + length (flat (net_records table file rows items)) ≤ offset_limit
  fits = rw is-net (let s = small in omega arith)

  -- no net of these rows, items and counts is longer
  pub never-longer : length (flat (net_records table file rows items)) ≤ longest_net rows items (counts_in table items)
  unfolding net
  never-longer = let total : count_total h.diagram ≡ counts_in table items = sym (ap (counts_in table) h.holds.records.items_are ∙ plant.copies.total) in
      rw is-net (subst (λ n. length (net_bytes (net_of h.diagram)) ≤ longest_net rows items n) total
      (net-small h.diagram rows items table file h.holds h.uses plant.copies plant.ranks sound))

  pub plain-shorter : some_trigger_in table ≡ 0 → length (flat (net_records table file rows items)) ≤ 61928
  unfolding counts_in
  plain-shorter z =
      let plain : counts_in table items ≡ items = rw (eq-eqb (some_trigger_in table) 0 z) in
      let a = subst (λ n. length (flat (net_records table file rows items)) ≤ longest_net rows items n) plain never-longer in
      let b = longest-plain rows items h.holds.records.few_rows h.holds.records.few_items in
      omega arith

  -- the writer comes as far as the net is long, and that fits an answer
  pub measure : {a b : Writer} → a.at ≡ 0 → Wrote a b (net_records table file rows items) → b.at ≡ length (flat (net_records table file rows items))
  measure z w = w.reached ∙ rw z (reach-fits (net_records table file rows items) 0 fits ∙ zero-add _)

  pub measured : {a b : Writer} → a.at ≡ 0 → Wrote a b (net_records table file rows items) → b.at ≤ net_room
  measured z w = let e = measure z w ∙ ap length is-net in let s = small in omega arith

  -- a short area, of which nothing was written
  pub too_short : (area : List ℕ) {a b : Writer} → a.at ≡ 0 → Wrote a b (net_records table file rows items) → length area < b.at
      → (refused area_short b.at ≡ (translated file area).answer) × (area ≡ (translated file area).area)
  unfolding translated net
  too_short area {b = b} z w l = let e : b.at ≡ length (net_bytes (net_of h.diagram)) = measure z w ∙ ap length is-net in
      rw (h.read, lt-ltb (length area) (length (net_bytes (net_of h.diagram))) (omega arith)) (ap (refused area_short) e, refl)

  -- an area that has room
  pub long-enough : {a b : Writer} → a.at ≡ 0 → length (flat (net_records table file rows items)) ≤ length a.area.now
      → Wrote a b (net_records table file rows items) → (accepted b.at ≡ (translated file a.area.now).answer) × (b.area.now ≡ (translated file a.area.now).area)
  unfolding translated net
  long-enough {a} {b} z l w =
      let n = room in rw (h.read, le-ltb (length a.area.now) (length (net_bytes (net_of h.diagram))) n) (ap accepted (measure z w ∙ ap length is-net), content)
    where
      room : length net ≤ length a.area.now
      room = rw (← is-net) l

      content : b.area.now ≡ net ++ drop (length net) a.area.now
      content = w.area ∙ rw z (laid-fits (net_records table file rows items) a.area.now 0 fits ∙ (ap (sets a.area.now 0) is-net
          ∙ (sets-eq net a.area.now 0 (omega (arith, room)) ∙ ap (λ (k : ℕ). net ++ drop k a.area.now) (zero-add (length net)))))

-- a refused file
pub turned-away : (file area : List ℕ) (e : Refusal) → DiagramOf file (Err e)
    → (refused (number e.reason) e.value ≡ (translated file area).answer) × (area ≡ (translated file area).area)
unfolding translated
turned-away file area e h = rw (refused-is file e h) (refl, refl)
