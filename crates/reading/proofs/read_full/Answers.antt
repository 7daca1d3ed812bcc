use Rattle.std.proofs.Common.{rules, ◌+◌, ◌-◌, ◌++◌, arith, length, take, sym, ap, ◌∙◌, subst, le_refl}
use Rattle.std.proofs.lemmas.Slice.{take-put_mid_below}
use Rattle.std.specs.Io.KnownBytes.{Consumes}
use Rattle.std.proofs.KnownBytes.{Consumes-trans}
use Rattle.reading.proofs.Filling.{take_split, slice_range-put_mid}
use borrow.Rule.Slice.PartMut.{put_mid}
use Rattle.reading.proofs.read_full.Goals as goal

-- src/lib.rt:18:5
pub loop-done-preserved : goal.loop-done-preserved
loop-done-preserved g c =
    let from = c.loop-done.done in
    let room = length c.loop-done.buf - from in
    let within = c.loop-done.invariant.1 in
    let part = slice_range-put_mid from room c.in_ok-read.read c.loop-done.buf c.read.new.buf within c.in_ok-read.ensures.bound.0 in
    let joined = take_split from (from + c.in_ok-read.read) c.loop-done.buf (put_mid from room c.loop-done.buf c.read.new.buf) (omega arith) (take-put_mid_below _ _ _ _ _ (le_refl _) within) in
    (search rules, search rules, subst (Consumes _ _) (ap (λ l. take from c.loop-done.buf ++ l) (sym part) ∙ joined) (Consumes-trans _ _ _ _ _ c.loop-done.invariant.2 c.in_ok-read.ensures.bytes.0))
