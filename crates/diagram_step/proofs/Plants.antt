-- A file's table with its copies, and the fresh state that goes with it: of a plant without triggers as they were read, of another with its copies.
use Rattle.std.specs.Prelude.{ℕ, ◌+◌, ◌*◌, ◌≤◌, ◌≡◌, ◌≢◌, true, List, [], length, take}
use Rattle.std.proofs.Common.{sym, ◌∙◌, ap, subst, arith}
use Rattle.std.proofs.Math.Seq.{take-length, length-take-le}
use lib.ListN.{length-take}
use borrow.Author.Tests.{ne_eqb, eq-eqb}
use Rattle.effbd.specs.Answers.{accepted, refused}
use Rattle.effbd.specs.Records.{are_bytes}
use Rattle.words.specs.Stores.{copied}
use Rattle.effbd.specs.Diagrams.{Diagram}
use Rattle.effbd.specs.Layout.{places}
use Rattle.effbd.specs.States.{state_words, fresh_words}
use Rattle.effbd.specs.Moves.{fresh_diagram}
use Rattle.diagram_table.specs.Cells.{some_trigger_in, counts_in}
use Rattle.diagram_table.specs.Held.{HoldsFile, HoldsPlant, FreshFront, FreshOf}
use Rattle.diagram.specs.FreshWords.{Freshened}
use Rattle.copies.specs.Promised.{WidenedPlant}
use Rattle.copies.proofs.Plants.{plain_plant}
use Rattle.fresh_copies.specs.Runs.{FreshMade}
use Rattle.fresh_copies.proofs.Freshness.{plain-fresh}
use Rattle.agreement.specs.AcceptedFiles.{held}
use Rattle.ranges.specs.RangeLaws.{length-tab}
use Rattle.diagram_moves.specs.Changes.{fresh_placed}
use Rattle.diagram_moves.proofs.FileMoves.{plant-places, fresh-is}

-- words in the place of others: all of them, or their first ones, cut
pub placed-else : (source l : List ℕ) → length l ≢ length source → fresh_placed (length source) source l ≡ refused 20 0
unfolding fresh_placed
placed-else source l ne = rw (ne_eqb (length l) (length source) ne)

pub placed-whole : (source l : List ℕ) {m : List ℕ} → length l ≡ length source → m ≡ copied source l → fresh_placed (length source) source l ≡ accepted m
unfolding fresh_placed
placed-whole source l e c = rw (eq-eqb (length l) (length source) e) (ap accepted (ap (λ (x : List ℕ). copied x l) (take-length source) ∙ sym c))

pub placed-cut : (size : ℕ) (source l : List ℕ) → size ≤ length source → fresh_placed (length (take size source)) (take size source) l ≡ fresh_placed size source l
unfolding fresh_placed
placed-cut size source l room =
    rw (take-length (take size source), length-take-le size source room)

-- words that begin with a fresh state are as long as it
room_of : (d : Diagram) (l : List ℕ) → FreshOf d l → places d ≤ length l
room_of d l f = let a : length (take (places d) l) ≡ places d = ap length f.words ∙ (unfold fresh_words state_words in length-tab (places d) _) in
    let b : length (take (places d) l) ≤ length l = simp length-take (omega arith) in omega arith

words_of : (d : Diagram) (l : List ℕ) (size : ℕ) → FreshOf d l → size ≡ places d → take size l ≡ fresh_words d
words_of d l size f e = ap (λ (n : ℕ). take n l) e ∙ f.words

module _ (file : List ℕ) (rows items : ℕ) (table : List ℕ) (h : HoldsFile file rows items table) where
  -- without triggers
  module _ {s : ℕ} (e : s ≡ some_trigger_in table) (none : s ≡ 0) where
    pub plain-table : HoldsPlant file rows items table
    plain-table = plain_plant file rows items table h (sym e ∙ none)

    plain_size : 3 * rows + items ≡ 3 * rows + counts_in table items
    unfolding counts_in
    plain_size = let z : some_trigger_in table ≡ 0 = sym e ∙ none in rw z

    pub plain-room : (fresh : List ℕ) → Freshened rows items table fresh → 3 * rows + items ≤ length fresh
    plain-room fresh f = omega (arith, (f.of h.diagram h.holds).long, h.holds.records.rows_are, h.holds.records.items_are)

    pub plain-state : (fresh : List ℕ) → Freshened rows items table fresh → FreshOf h.diagram fresh
    plain-state fresh f = plain-fresh h.diagram (λ k l. h.holds.records.no_trigger (sym e ∙ none) k (let i = h.holds.records.items_are in omega arith)) fresh
        (f.of h.diagram h.holds) (f.behind h.diagram h.holds)

    pub plain-placed : (fresh l : List ℕ) → Freshened rows items table fresh → fresh_placed (3 * rows + items) fresh l ≡ fresh_diagram file l
    unfolding plain-table plain_plant
    plain-placed fresh l f = fresh-is file l rows items table fresh (3 * rows + items) plain-table (plain-state fresh f) plain_size

    -- the words of the fresh state, as a part of what holds them
    pub plain-words : (fresh : List ℕ) → Freshened rows items table fresh → take (3 * rows + items) fresh ≡ fresh_words plain-table.held.diagram
    unfolding plain-table plain_plant
    plain-words fresh f = words_of h.diagram fresh (3 * rows + items) (plain-state fresh f) (plain_size ∙ plant-places file [] rows items table plain-table)

  -- with copies
  module _ (bytes : are_bytes file ≡ true) (wide : List ℕ) (w : WidenedPlant file rows items table wide) where
    pub wide-state : (plain fresh : List ℕ) → Freshened rows items table plain → FreshMade rows items plain wide fresh → FreshOf (w.plant h).held.diagram fresh
    wide-state plain fresh f m = let p = w.plant h in
        m.of p.held.diagram (held file p.held.diagram bytes p.held.read) p.held.holds p.copies (subst (λ (d : Diagram). FreshFront d plain) (sym (w.same h)) (f.of h.diagram h.holds))

    pub wide_room : (plain fresh : List ℕ) → Freshened rows items table plain → FreshMade rows items plain wide fresh → {c : ℕ} → c ≡ counts_in wide items → 3 * rows + c ≤ length fresh
    wide_room plain fresh f m e = let room = room_of (w.plant h).held.diagram fresh (wide-state plain fresh f m) in omega (arith, e, plant-places file [] rows items wide (w.plant h), room)

    pub wide-placed : (plain fresh l : List ℕ) → Freshened rows items table plain → FreshMade rows items plain wide fresh → {c : ℕ} → c ≡ counts_in wide items
        → fresh_placed (3 * rows + c) fresh l ≡ fresh_diagram file l
    wide-placed plain fresh l f m {c} e = fresh-is file l rows items wide fresh (3 * rows + c) (w.plant h) (wide-state plain fresh f m) (ap (λ (x : ℕ). 3 * rows + x) e)

    pub wide-words : (plain fresh : List ℕ) → Freshened rows items table plain → FreshMade rows items plain wide fresh → {c : ℕ} → c ≡ counts_in wide items
        → take (3 * rows + c) fresh ≡ fresh_words (w.plant h).held.diagram
    wide-words plain fresh f m {c} e = words_of (w.plant h).held.diagram fresh (3 * rows + c) (wide-state plain fresh f m) (ap (λ (x : ℕ). 3 * rows + x) e ∙ plant-places file [] rows items wide (w.plant h))
