use Rattle.std.specs.Prelude.{ℕ, ◌+◌, ◌-◌, ◌≡◌, refl, List}
use Rattle.std.proofs.Common.{sym, ◌∙◌, ap, ap₂, arith, add-one}
use Rattle.diagram_structure.specs.Structure.{followed, structured}
use Rattle.diagram_structure.proofs.fill_rows.Goals as goal

turn : (rows row : ℕ) (start table next : List ℕ) → table ≡ structured rows row start → next ≡ followed rows row table → next ≡ structured rows (row + 1) start
unfolding structured
turn rows row start table next e f = f ∙ (ap (followed rows row) e ∙ ap (λ (n : ℕ). structured rows n start) (sym (add-one row)))

none : (rows : ℕ) (t : List ℕ) → t ≡ structured rows 0 t
unfolding structured
none rows t = refl

pub loop-row-init : goal.loop-row-init
loop-row-init c = none c.args.rows c.put_structure.new.table

pub loop-row-preserved : goal.loop-row-preserved
loop-row-preserved c = turn c.args.rows c.loop-row.row c.put_structure.new.table c.loop-row.table c.follow.new.table c.loop-row.invariant c.follow.ensures

pub returns : goal.returns
returns c =
    let n : c.loop-row.row ≡ c.args.rows - 1 = omega arith in
    c.loop-row.invariant ∙ ap₂ (structured c.args.rows) n c.put_structure.ensures
