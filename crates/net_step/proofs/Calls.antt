-- What a call comes to, by what the reader of the file answered.
use Prim.Native.Nat.{ℕ, ◌+◌, ◌*◌, ◌≤◌}
use mathlib.Core.Path.{◌≡◌, sym, ◌∙◌}
use mathlib.Core.Bool.{true}
use mathlib.Core.List.{List}
use native.Mathlib.Omega.{arith}
use lib.ListN.{length, take, drop, get_or, length-take, get_or-eq_default}
use lib.Seq.{get_or-take, length-take-le}
use lib.Dec.{ltb}
use borrow.Author.Tests.{eq-eqb, ne_eqb, ltb-true, ltb-false}
use Rattle.ranges.specs.Tests.{decide}
use Rattle.effbd.specs.Answers.{refused}
use Rattle.effbd.specs.Records.{are_bytes, word}
use Rattle.effbd.specs.Moves.{most_word}
use Rattle.effbd.specs.Nets.{read_net}
use Rattle.effbd.specs.Firing.{net_word_count, words_of, checked_net_move, step_net}
use Rattle.net_file.specs.Contents.{transitions_in, behind_places}
use Rattle.net_file.proofs.Accepted.{place-count}
use Rattle.net_file.proofs.Answers.{refused-inv, Read}
use Rattle.net_walk.proofs.Effects.{Words}
use Rattle.net_walk.proofs.FineArcs.{arcs-fine}
use Rattle.net_step.specs.Stepping.{moved_words}
use Rattle.net_step.proofs.Refines.{move-is}

pub step-refused : (file words : List ℕ) (code argument a b : ℕ) → refused a b ≡ words_of (read_net file) → step_net file code argument words ≡ refused a b
unfolding step_net
step-refused file words code argument a b e = rw (refused-inv file a b e)

module _ (file words : List ℕ) (size : ℕ) (read : Read file size) where
  pub step-length : (code argument : ℕ) → (length words ≡ size → ⊥) → step_net file code argument words ≡ refused 20 0
  unfolding step_net checked_net_move
  step-length code argument h = rw (read.says, ne_eqb (length words) (net_word_count read.net) (λ q. h (q ∙ read.counts)))

  mark-count : length read.net.marks ≡ word file 4
  mark-count = place-count file read.net read.holds

  marks-words : Words words → Words (take (length read.net.marks) words)
  marks-words w = record {
    each = λ p. decide (ltb p (length read.net.marks))
        (λ e. rw (get_or-take (length read.net.marks) words p 0 (ltb-true p (length read.net.marks) e)) (w.each p))
        (λ e. beyond p (ltb-false p (length read.net.marks) e));
  }
    where
      beyond : (p : ℕ) → length read.net.marks ≤ p → get_or (take (length read.net.marks) words) p 0 ≤ most_word
      beyond p l = rw (get_or-eq_default (take (length read.net.marks) words) 0 {n = p} (rw length-take (omega arith))) (omega arith)

  pub step-moves : are_bytes file ≡ true → (code argument places count : ℕ) (transitions : List ℕ) → length words ≡ size → Words words → places ≡ word file 4 → count ≡ word file 6 → transitions ≡ drop (8 + 6 * places) file
      → step_net file code argument words ≡ moved_words (transitions_in count transitions) code argument (take places words) (drop places words)
  unfolding step_net checked_net_move behind_places
  step-moves bytes code argument places count transitions l w ep ec et =
      rw (read.says, eq-eqb (length words) (net_word_count read.net) (l ∙ sym read.counts))
      (move-is (length read.net.marks) read.net.transitions (λ i m. arcs-fine file read.net bytes read.says i _ m)
      (take (length read.net.marks) words) (drop (length read.net.marks) words) (length-take-le (length read.net.marks) words (omega (arith, mark-count, l, read.adds))) (marks-words w) code argument
      ∙ (rw (mark-count, read.holds.transitions, et, ec, ep)))
