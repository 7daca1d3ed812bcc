use Rattle.starts.proofs.WindowTurns.{join-alone, join-late, join_more}
use Rattle.starts.proofs.spans.Window.join.Goals as goal
use Rattle.starts.proofs.spans.Window.join.Goals.{then-self-eq0-via-then-self-eq0, then-self-eq0-via-else-self-eq0+then-gap-ge-HOUR}

pub returns-then-self-eq0 : goal.returns-then-self-eq0
returns-then-self-eq0 c = elim c.then-self-eq0.branch [
  | then-self-eq0-via-then-self-eq0 w ↦ join-alone c.args.gaps.now c.args.self.now c.requires (λ n. absurd (n w.if-self-eq0.true))
  | then-self-eq0-via-else-self-eq0+then-gap-ge-HOUR w ↦ join-alone c.args.gaps.now c.args.self.now c.requires (λ n. w.if-gap-ge-HOUR.true)
]

pub follow-requires : goal.follow-requires
follow-requires c = join-late c.args.gaps.now c.args.self.now c.requires c.if-self-eq0.false _ _ c.put_gap-self.ensures.value c.put_gap-self.ensures.gaps_after

pub returns : goal.returns
returns c = join_more c.args.gaps.now c.args.self.now c.requires c.if-self-eq0.false _ _ c.put_gap-self.ensures.value c.put_gap-self.ensures.gaps_after _ c.follow.ensures
