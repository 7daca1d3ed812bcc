use Rattle.std.proofs.Common.{ℕ, ◌+◌, ◌∙◌, take, drop, ap, refl, length, length-drop, arith}
use Rattle.ranges.specs.Reasons.{number-some}
use Rattle.editions.specs.Checks.{checked}
use Rattle.editions.specs.Conversions.{converted}
use Rattle.editions.proofs.Turns.{check-begun, check-again, check-off, check_done, some-left, none_left}
use Rattle.editions.proofs.check.Goals as goal

pub loop-rest-init : goal.loop-rest-init
loop-rest-init g c = let s = g.met.C.Conversion.sizes in let w = c.args.way.now in
    (omega arith, check-begun g.C.Conversion.SIZE (g.C.Conversion.off w) (g.C.Conversion.made w) s.counts s.none c.args.first c.args.run.now)

pub returns-in-Some : goal.returns-in-Some
returns-in-Some g c = let s = g.met.C.Conversion.sizes in let w = c.args.way.now in let l = c.loop-rest in
    check-off g.C.Conversion.SIZE (g.C.Conversion.off w) (g.C.Conversion.made w) s.counts s.none (checked (converted g.C.Conversion.SIZE (g.C.Conversion.off w) (g.C.Conversion.made w) c.args.first c.args.run.now))
    c.args.first l.index _ l.rest.now c.front.result.now (c.front.ensures ∙ ap (λ (n : ℕ). take n c.loop-rest.rest.now) c.SIZE-size.ensures) c.in-Some.ensures (some-left _ _ c.is_empty.ensures c.loop-rest-test.true) l.invariant.1 c.stopped.result (number-some c.in-Some.reason) c.stopped.ensures

pub loop-rest-smaller : goal.loop-rest-smaller
loop-rest-smaller g c = let s = g.met.C.Conversion.sizes.some in
    omega (arith, c.SIZE-size.ensures, ap length c.tail-rest.ensures, length-drop c.SIZE-size.result c.loop-rest.rest.now, some-left _ _ c.is_empty.ensures c.loop-rest-test.true)

pub loop-rest-preserved : goal.loop-rest-preserved
loop-rest-preserved g c = let s = g.met.C.Conversion.sizes in let w = c.args.way.now in let l = c.loop-rest in
    let h = some-left _ _ c.is_empty.ensures c.loop-rest-test.true in let p = s.some in let i = l.invariant.0 in (
      omega (arith, c.SIZE-size.ensures, ap length c.tail-rest.ensures, length-drop c.SIZE-size.result l.rest.now),
      check-again g.C.Conversion.SIZE (g.C.Conversion.off w) (g.C.Conversion.made w) s.counts s.none (checked (converted g.C.Conversion.SIZE (g.C.Conversion.off w) (g.C.Conversion.made w) c.args.first c.args.run.now))
          c.args.first l.index 0 l.rest.now c.front.result.now (c.front.ensures ∙ ap (λ (n : ℕ). take n c.loop-rest.rest.now) c.SIZE-size.ensures) c.in_default.ensures h l.invariant.1 c.tail-rest.result.now refl (c.tail-rest.ensures ∙ ap (λ (n : ℕ). drop n c.loop-rest.rest.now) c.SIZE-size.ensures),
    )

pub returns : goal.returns
returns g c = let s = g.met.C.Conversion.sizes in let w = c.args.way.now in let l = c.loop-rest in
    check_done g.C.Conversion.SIZE (g.C.Conversion.off w) (g.C.Conversion.made w) s.counts s.none (checked (converted g.C.Conversion.SIZE (g.C.Conversion.off w) (g.C.Conversion.made w) c.args.first c.args.run.now))
    (c.args.first + l.index) l.index l.rest.now (none_left _ _ c.is_empty.ensures c.loop-rest-test.false) l.invariant.1
