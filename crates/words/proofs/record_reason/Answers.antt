use borrow.Author.Tests.{lt-ltb, le-ltb}
use Rattle.effbd.specs.Records.{fault_at}
use Rattle.words.proofs.record_reason.Goals as goal

pub returns-then-bytes-lt4 : goal.returns-then-bytes-lt4
unfolding fault_at
returns-then-bytes-lt4 c = rw (lt-ltb _ _ c.if-bytes-lt4.true)

pub returns-then-not-due : goal.returns-then-not-due
unfolding fault_at
returns-then-not-due c = rw (le-ltb _ _ c.if-bytes-lt4.false, c.if-not-due.true)

pub returns-then-not-right : goal.returns-then-not-right
unfolding fault_at
returns-then-not-right c = rw (le-ltb _ _ c.if-bytes-lt4.false, c.if-not-due.false, c.if-not-right.true)

pub returns-then-bytes-word : goal.returns-then-bytes-word
unfolding fault_at
returns-then-bytes-word c = rw (le-ltb _ _ c.if-bytes-lt4.false, c.if-not-due.false, c.if-not-right.false, ← c.word.ensures, lt-ltb _ _ c.if-bytes-word.true)

pub returns-then-not-fine : goal.returns-then-not-fine
unfolding fault_at
returns-then-not-fine c = rw (le-ltb _ _ c.if-bytes-lt4.false, c.if-not-due.false, c.if-not-right.false, ← c.word.ensures, le-ltb _ _ c.if-bytes-word.false, c.if-not-fine.true)

pub returns : goal.returns
unfolding fault_at
returns c = rw (le-ltb _ _ c.if-bytes-lt4.false, c.if-not-due.false, c.if-not-right.false, ← c.word.ensures, le-ltb _ _ c.if-bytes-word.false, c.if-not-fine.false)
