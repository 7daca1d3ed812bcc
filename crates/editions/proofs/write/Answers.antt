use Rattle.std.proofs.Common.{◌≡◌, ℕ, ◌+◌, drop, sym, ap, ◌∙◌, arith, rules}
use Rattle.effbd.specs.Editions.{convert_from, telegram_count}
use Rattle.editions.specs.Conversions.{converted}
use Rattle.editions.proofs.Turns.{begun, ended}
use Rattle.editions.proofs.Calls.{ready, laid-out, number-fits, room-left, one_written}
use Rattle.editions.proofs.write.Goals as goal

pub loop-rest-init : goal.loop-rest-init
loop-rest-init g c = let a = c.args in let w = a.way.now in let s = g.met.C.Conversion.sizes in let t = g.met.C.Conversion.telegrams w in
    let r = ready a.area.now (converted g.C.Conversion.SIZE (g.C.Conversion.off w) (g.C.Conversion.made w) a.first a.run.now) c.requires in (
      begun g.C.Conversion.SIZE (g.C.Conversion.off w) (g.C.Conversion.made w) s.counts s.none g.C.Conversion.OUT t.whole t.becomes
          (converted g.C.Conversion.SIZE (g.C.Conversion.off w) (g.C.Conversion.made w) a.first a.run.now) a.area.now (a.first + 0) a.run.now r.bytes r.is r.room
          (ap (λ (n : ℕ). convert_from g.C.Conversion.SIZE (g.C.Conversion.off w) (g.C.Conversion.made w) n 0 (telegram_count g.C.Conversion.SIZE a.run.now) a.run.now) (let z : a.first + 0 ≡ a.first = omega arith in z)),
      λ i. omega (arith, c.type_inv.run i),
    )

pub overflow_add-number : goal.overflow_add-number
overflow_add-number g c = let a = c.args in let w = a.way.now in let l = c.loop-rest in
    let n = number-fits g.C.Conversion.SIZE g.C.Conversion.OUT g.met.C.Conversion.sizes (g.C.Conversion.off w) (g.C.Conversion.made w) (g.met.C.Conversion.telegrams w)
    (converted g.C.Conversion.SIZE (g.C.Conversion.off w) (g.C.Conversion.made w) a.first a.run.now) a.area.now a.first l.index l.at l.area l.rest.now l.invariant.0 l.invariant.1 (omega (arith, c.SIZE-size.ensures, c.loop-rest-test.true)) in omega arith

pub overflow_cast-number-in-loop-rest : goal.overflow_cast-number-in-loop-rest
overflow_cast-number-in-loop-rest g c = let a = c.args in let w = a.way.now in let l = c.loop-rest in
    let n = number-fits g.C.Conversion.SIZE g.C.Conversion.OUT g.met.C.Conversion.sizes (g.C.Conversion.off w) (g.C.Conversion.made w) (g.met.C.Conversion.telegrams w)
    (converted g.C.Conversion.SIZE (g.C.Conversion.off w) (g.C.Conversion.made w) a.first a.run.now) a.area.now a.first l.index l.at l.area l.rest.now l.invariant.0 l.invariant.1 (omega (arith, c.SIZE-size.ensures, c.loop-rest-test.true)) in omega arith

pub slice_bounds-write-count : goal.slice_bounds-write-count
slice_bounds-write-count g c = let a = c.args in let w = a.way.now in let l = c.loop-rest in
    let n = room-left g.C.Conversion.SIZE g.C.Conversion.OUT g.met.C.Conversion.sizes (g.C.Conversion.off w) (g.C.Conversion.made w) (g.met.C.Conversion.telegrams w)
    (converted g.C.Conversion.SIZE (g.C.Conversion.off w) (g.C.Conversion.made w) a.first a.run.now) a.area.now a.first l.index l.at l.area l.rest.now l.invariant.0 l.invariant.1 (omega (arith, c.SIZE-size.ensures, c.loop-rest-test.true)) in omega arith

pub overflow_add-index : goal.overflow_add-index
overflow_add-index g c = let a = c.args in let w = a.way.now in let l = c.loop-rest in
    let n = number-fits g.C.Conversion.SIZE g.C.Conversion.OUT g.met.C.Conversion.sizes (g.C.Conversion.off w) (g.C.Conversion.made w) (g.met.C.Conversion.telegrams w)
    (converted g.C.Conversion.SIZE (g.C.Conversion.off w) (g.C.Conversion.made w) a.first a.run.now) a.area.now a.first l.index l.at l.area l.rest.now l.invariant.0 l.invariant.1 (omega (arith, c.SIZE-size.ensures, c.loop-rest-test.true)) in omega arith

pub overflow_add-at : goal.overflow_add-at
overflow_add-at g c = let a = c.args in let w = a.way.now in let l = c.loop-rest in
    let n = room-left g.C.Conversion.SIZE g.C.Conversion.OUT g.met.C.Conversion.sizes (g.C.Conversion.off w) (g.C.Conversion.made w) (g.met.C.Conversion.telegrams w)
    (converted g.C.Conversion.SIZE (g.C.Conversion.off w) (g.C.Conversion.made w) a.first a.run.now) a.area.now a.first l.index l.at l.area l.rest.now l.invariant.0 l.invariant.1 (omega (arith, c.SIZE-size.ensures, c.loop-rest-test.true)) in let o = c.OUT-out.ensures in search rules

pub loop-rest-preserved : goal.loop-rest-preserved
loop-rest-preserved g c = let a = c.args in let w = a.way.now in let l = c.loop-rest in (
  one_written g.C.Conversion.SIZE g.C.Conversion.OUT g.met.C.Conversion.sizes (g.C.Conversion.off w) (g.C.Conversion.made w) (g.met.C.Conversion.telegrams w)
      (converted g.C.Conversion.SIZE (g.C.Conversion.off w) (g.C.Conversion.made w) a.first a.run.now) a.area.now a.first l.index l.at l.area l.rest.now l.invariant.0 l.invariant.1 (omega (arith, c.SIZE-size.ensures, c.loop-rest-test.true))
      c.OUT-out.result c.tail-rest.result.now c.write.new.area c.OUT-out.ensures (c.tail-rest.ensures ∙ ap (λ (n : ℕ). drop n l.rest.now) c.SIZE-size.ensures) c.write.ensures,
  λ i. omega (arith, c.type_inv.rest i),
)

pub returns : goal.returns
returns g c = let a = c.args in let w = a.way.now in let s = g.met.C.Conversion.sizes in let t = g.met.C.Conversion.telegrams w in let l = c.loop-rest in let i = l.invariant.0 in
    ended g.C.Conversion.SIZE (g.C.Conversion.off w) (g.C.Conversion.made w) s.counts s.none g.C.Conversion.OUT t.whole t.becomes
    (converted g.C.Conversion.SIZE (g.C.Conversion.off w) (g.C.Conversion.made w) a.first a.run.now) a.area.now l.area l.rest.now (a.first + l.index) l.at (omega (arith, c.SIZE-size.ensures, c.loop-rest-test.false)) i
    ∙ sym (laid-out a.area.now (converted g.C.Conversion.SIZE (g.C.Conversion.off w) (g.C.Conversion.made w) a.first a.run.now) i.bytes i.is i.room)
