-- From what is answered behind the head to the answer of a file.
use Prim.Native.Nat.{ℕ, suc, ◌+◌}
use mathlib.Core.Path.{◌≡◌, refl, sym, ◌∙◌, ap}
use mathlib.Core.Logic.{◌≢◌}
use mathlib.Core.List.{List}
use native.Mathlib.Omega.{arith}
use lib.ListN.{length, drop, length-drop}
use Rattle.effbd.specs.Answers.{Outcome, accepted, refused, and_then, returning_zero}
use Rattle.effbd.specs.Records.{word, Got, read_many}
use Rattle.effbd.specs.Nets.{Net, mark_at, mark_fault, net_head_fault, Tail, read_tail, net_with, after_places, read_net}
use Rattle.effbd.specs.Firing.{net_word_count, words_of}
use Rattle.net_file.specs.Due.{start, own_length, verdict, places_verdict, answering, Lent, head_end}
use Rattle.ranges.specs.Outcomes.{unless-none, unless-refused}
use Rattle.net_file.proofs.Accepted.{head_read, net-read, word_count}

-- the verdict behind the head, with the number of words
inner : (marks : List ℕ) (o : Outcome Tail) (w : ℕ) → ((n : Net) → net_with marks o ≡ accepted n → net_word_count n ≡ w)
    → answering w (returning_zero o) ≡ and_then (net_with marks o) (λ n. accepted (net_word_count n))
inner marks (accepted t) w h = ap accepted (sym (h (record { marks = marks; transitions = t.transitions }) refl))
inner marks (refused a b) w h = refl

outer : (o : Outcome (Got (List ℕ))) (f : Got (List ℕ) → Outcome Tail) (w : ℕ)
    → ((n : Net) → and_then o (λ got. net_with got.value (f got)) ≡ accepted n → net_word_count n ≡ w)
    → answering w (and_then o (λ got. returning_zero (f got))) ≡ and_then (and_then o (λ got. net_with got.value (f got))) (λ n. accepted (net_word_count n))
outer (accepted got) f w h = inner got.value (f got) w h
outer (refused a b) f w h = refl

module _ (file : List ℕ) (wrong : ℕ) (ew : wrong ≡ net_head_fault file) where
  pub head-off : wrong ≢ 0 → refused wrong 0 ≡ words_of (read_net file)
  unfolding read_net words_of
  head-off h = ap (λ (n : ℕ). refused n 0) ew
      ∙ sym (ap (λ (o : Outcome Net). and_then o (λ n. accepted (net_word_count n))) (unless-refused (net_head_fault file) 0 _ (λ q. h (ew ∙ q))))

  module _ (none : wrong ≡ 0) (places transitions size : ℕ) (rest : List ℕ) (ep : places ≡ word file 4) (et : transitions ≡ word file 6)
      (es : size ≡ own_length file) (er : rest ≡ drop size file) where
    headed : read_net file ≡ and_then (read_many mark_fault mark_at (length file) (word file 4) (drop 8 file)) (after_places file)
    unfolding read_net
    headed = unless-none (net_head_fault file) 0 _ (sym ew ∙ none)

    behind : rest ≡ drop 8 file
    behind = er ∙ ap (λ (n : ℕ). drop n file) (es ∙ (head_read file (sym ew ∙ none)).own)

    pub head-lent : Lent (length file) places transitions head_end rest
    head-lent =
        let h = head_read file (sym ew ∙ none) in
        let l = h.long in
        rw (behind, ep, et) (record { places = h.places; more = h.transitions; inside = rw (length-drop 8 file) (omega arith); near = rw (length-drop 8 file) (omega arith) })

    pub head_done : (said : Outcome ℕ) → said ≡ answering (places + transitions) (places_verdict places (length file) transitions places rest) → said ≡ words_of (read_net file)
    unfolding words_of places_verdict verdict start after_places
    head_done said e = e ∙ rw (behind, ep, et)
        (outer (read_many mark_fault mark_at (length file) (word file 4) (drop 8 file))
        (λ got. read_tail (word file 4) (length file) (suc (length got.rest)) (word file 6) 38 0 0 got.rest) (word file 4 + word file 6)
        (λ n q. word_count file n (net-read file n (headed ∙ q))) ∙ ap (λ (o : Outcome Net). and_then o (λ n. accepted (net_word_count n))) (sym headed))
