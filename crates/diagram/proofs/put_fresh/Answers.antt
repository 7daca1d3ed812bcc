use Rattle.std.proofs.Common.{ℕ, ◌+◌, ◌*◌, ◌≡◌, refl, sym, ◌∙◌, ap, List, set, add-one}
use Rattle.diagram_table.specs.Cells.{shared_in}
use Rattle.diagram.specs.FreshWords.{counts_put}
use Rattle.diagram.proofs.put_fresh.Goals as goal

none : (rows : ℕ) (table state : List ℕ) → state ≡ counts_put rows 0 table state
unfolding counts_put
none rows table state = refl

turn : (rows item value : ℕ) (table start state next : List ℕ) → state ≡ counts_put rows item table start → value ≡ shared_in table item
    → next ≡ set state (3 * rows + item) value → next ≡ counts_put rows (item + 1) table start
unfolding counts_put
turn rows item value table start state next e v f =
    f ∙ (rw (e, v) refl ∙ ap (λ (n : ℕ). counts_put rows n table start) (sym (add-one item)))

pub loop-item-init : goal.loop-item-init
loop-item-init c = none c.args.rows c.args.table.now c.put.new.state

pub loop-item-preserved : goal.loop-item-preserved
loop-item-preserved c = let l = c.loop-item in
    turn c.args.rows l.item c.shared_count.result c.args.table.now c.put.new.state l.state c.put-in-loop-item.new.state l.invariant c.shared_count.ensures c.put-in-loop-item.ensures
