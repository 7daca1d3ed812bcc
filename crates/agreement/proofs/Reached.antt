-- At every state reached by a list of moves both steppers say the same, and the state passes the check.
use Rattle.std.specs.Prelude.{ℕ, ◌+◌, ◌≡◌, refl, true, List, [], ◌∷◌, map, length, eqb}
use Rattle.std.proofs.Math.Path.{sym, ap, ap₂}
use Rattle.std.proofs.Common.{◌∙◌, subst, eq-eqb}
use Rattle.std.proofs.Math.ListN.{length-append, length-map}
use Rattle.std.proofs.Math.Seq.{take_at, drop_at}
use Rattle.effbd.specs.Answers.{Outcome, accepted, afterwards, is_accepted, refused}
use Rattle.effbd.specs.Diagrams.{Diagram, row_count}
use Rattle.effbd.specs.Firing.{NetState, behaviour_of, checked_net_move, fresh_net_words, net_move, net_state_of, net_word_count, net_words, net_words_outcome, step_net}
use Rattle.effbd.specs.Image.{image, image_words}
use Rattle.effbd.specs.Layout.{places}
use Rattle.effbd.specs.Moves.{Move, checked_move, move_of, move_words, step_diagram, words_outcome, no_move, step_row, wait_ticks}
use Rattle.effbd.specs.Nesting.{read_diagram}
use Rattle.effbd.specs.Nets.{net_bytes, read_net}
use Rattle.effbd.specs.Patterns.{names, net_of, transition_of}
use Rattle.effbd.specs.Ranges.{tabulate}
use Rattle.effbd.specs.Records.{are_bytes}
use Rattle.effbd.specs.States.{State, fresh_words, state_of, state_words}
use Rattle.agreement.specs.AcceptedFiles.{Held, held}
use Rattle.ranges.specs.Tests.{decide}
use Rattle.ranges.specs.RangeLaws.{length-tab}
use Rattle.agreement.specs.ByteLaws.{never}
use Rattle.agreement.proofs.Moves.{Words, row_asked}
use Rattle.agreement.specs.Named.{behaviour, flat_net, named_fresh, moves_from}
use Rattle.agreement.specs.NetFiles.{read_back}
use Rattle.agreement.proofs.NetSteps.{many-marks, table-steps}
use Rattle.agreement.proofs.StateCheck.{valid-proper}
use Rattle.agreement.proofs.StateWords.{Kept, start-image, start-kept, WordsAgree, words-agree}
use Rattle.agreement.proofs.WellFormed.{well-made}
use Rattle.agreement.specs.Refusals.{net_number, net_value}

zeros : {A B : Type 0} (f : A → B) (xs : List A) → tabulate {A = ℕ} (length (map f xs)) (λ x. 0) ≡ map (λ (x : A). 0) xs
zeros f [] = refl
zeros f (x ∷ xs) = ap (λ (l : List ℕ). 0 ∷ l) (zeros f xs)

module _ (d : Diagram) (h : Held d) where
  pub words : Words d
  words = record { lows = λ q. (h.each q).first; stocks = h.stocks }

  -- a state of the history
  pub record Good (l : List ℕ) : Type 0 where
    pub kept : Kept d h.acc words l
    pub long : length l ≡ places d

  image-marks : (l : List ℕ) → length (image d l).marks ≡ places d
  unfolding image flat_net
  image-marks l = length-tab (places d) _

  image-clocks : (l : List ℕ) → length (image d l).clocks ≡ length (names d (row_count d))
  unfolding image flat_net
  image-clocks l = length-map (names d (row_count d)) _

  pub many-trans : length (net_of d).transitions ≡ length (names d (row_count d))
  unfolding net_of
  many-trans = length-map (names d (row_count d)) (transition_of d)

  -- the words of an image are a state of the net, and read back to it
  pub image-long : (l : List ℕ) → length (image_words d l) ≡ net_word_count (net_of d)
  unfolding image_words
  image-long l = length-append (image d l).marks (image d l).clocks ∙ ap₂ (λ (x y : ℕ). x + y) (image-marks l ∙ sym (many-marks d)) (image-clocks l ∙ sym many-trans)

  pub image-back : (l : List ℕ) → net_state_of (length (net_of d).marks) (image_words d l) ≡ image d l
  unfolding image_words
  image-back l = λ j. record {
    marks = take_at (image d l).marks (image d l).clocks (length (net_of d).marks) (image-marks l ∙ sym (many-marks d)) j;
    clocks = drop_at (image d l).marks (image d l).clocks (length (net_of d).marks) (image-marks l ∙ sym (many-marks d)) j;
  }

  pub table_at : (m : Move) (l : List ℕ) → checked_net_move (net_of d) m (image_words d l) ≡ net_words_outcome (net_move (behaviour_of (net_of d)) m (image d l))
  unfolding checked_net_move
  table_at m l = rw (eq-eqb (length (image_words d l)) (net_word_count (net_of d)) (image-long l)) (ap (λ s. net_words_outcome (net_move (behaviour_of (net_of d)) m s)) (image-back l))

  diagram-at : (m : Move) (l : List ℕ) → Good l → checked_move d m l ≡ move_words d m l
  unfolding checked_move Kept
  diagram-at m l g = rw (eq-eqb (length l) (places d) g.long, valid-proper d (state_of d l) g.kept.valid)

  -- what both steppers say at a state of the history: both accept, the net at the image of the new state, or both refuse
  abbrev pub Both : State → ℕ → Outcome (List ℕ) → Outcome (List ℕ) → Type 0
  Both o r (accepted s) (accepted n) = (n ≡ image_words d s) × Good s
  Both o r (accepted s) (refused a b) = ⊥
  Both o r (refused a b) (accepted n) = ⊥
  Both o r (refused a b) (refused a' b') = (a' ≡ net_number a) × (b' ≡ net_value d o r a b)

  pub both : (m : Move) (l : List ℕ) → Good l → Both (state_of d l) (row_asked m) (move_words d m l) (checked_net_move (net_of d) m (image_words d l))
  both m l g = subst (λ x. Both (state_of d l) (row_asked m) (move_words d m l) x) (sym (table_at m l ∙ ap net_words_outcome (table-steps d m (image d l))))
      (go (move_words d m l) (net_move (behaviour d) m (image d l)) (words-agree d h.acc words m l g.kept))
    where
      go : (x : Outcome (List ℕ)) (y : Outcome NetState) → WordsAgree d h.acc words (state_of d l) (row_asked m) x y → Both (state_of d l) (row_asked m) x (net_words_outcome y)
      go (accepted s) (accepted y) w = (unfold image_words in ap net_words w.0, record { kept = w.1; long = w.2 })
      go (accepted s) (refused a b) w = absurd w
      go (refused a b) (accepted y) w = absurd w
      go (refused a b) (refused a' b') w = w

  -- the same moves; and an accepted one goes to the image
  pub same_of : (o : State) (r : ℕ) (x z : Outcome (List ℕ)) → Both o r x z → is_accepted x ≡ is_accepted z
  same_of o r (accepted s) (accepted n) b = refl
  same_of o r (accepted s) (refused a v) b = absurd b
  same_of o r (refused a v) (accepted n) b = absurd b
  same_of o r (refused a v) (refused a' v') b = refl

  pub on_of : (o : State) (r : ℕ) (x z : Outcome (List ℕ)) → Both o r x z → (s : List ℕ) → x ≡ accepted s → (z ≡ accepted (image_words d s)) × Good s
  on_of o r (accepted s) (accepted n) b s' p = let w : s ≡ s' = cc in subst (λ u. (accepted n ≡ accepted (image_words d u)) × Good u) w (ap accepted b.0, b.1)
  on_of o r (accepted s) (refused a v) b s' p = absurd b
  on_of o r (refused a v) z b s' p = never p

  pub fresh-good : Good (fresh_words d)
  unfolding fresh_words
  fresh-good = record { kept = start-kept d h.acc words; long = unfold state_words in length-tab (places d) _ }

  pub fresh-net : fresh_net_words (net_of d) ≡ image_words d (fresh_words d)
  unfolding fresh_net_words image_words fresh_words flat_net net_of
  fresh-net = ap net_words (λ j. record { marks = (net_of d).marks; clocks = clocks j }) ∙ ap net_words (start-image d h.acc words)
    where
      clocks : tabulate {A = ℕ} (length (net_of d).transitions) (λ x. 0) ≡ (flat_net d (named_fresh d)).clocks
      clocks = zeros (transition_of d) (names d (row_count d))

module _ (d : Diagram) (h : Held d) where
  -- the refusal of the net at the image, for a move that names row r
  pub refused-of : (r n v : ℕ) (m : Move) (l : List ℕ) → Good d h l → row_asked m ≡ r → move_words d m l ≡ refused n v
      → checked_net_move (net_of d) m (image_words d l) ≡ refused (net_number n) (net_value d (state_of d l) r n v)
  refused-of r n v m l g a z = go (move_words d m l) (checked_net_move (net_of d) m (image_words d l)) (both d h m l g) z
    where
      go : (x y : Outcome (List ℕ)) → Both d h (state_of d l) (row_asked m) x y → x ≡ refused n v → y ≡ refused (net_number n) (net_value d (state_of d l) r n v)
      go (accepted s) (accepted t) k q = never (sym q)
      go (accepted s) (refused i j) k q = absurd k
      go (refused i j) (accepted t) k q = absurd k
      go (refused i j) (refused i' j') k q =
          let p : i ≡ n = cc in let o : j ≡ v = cc in
          ap₂ (λ (x y : ℕ). refused x y) (k.0 ∙ ap net_number p) (k.1 ∙ (ap (λ x. net_value d (state_of d l) x i j) a ∙ ap₂ (λ (x y : ℕ). net_value d (state_of d l) r x y) p o))

module _ (file : List ℕ) (d : Diagram) (b : are_bytes file ≡ true) (e : read_diagram file ≡ accepted d) where
  abbrev h : Held d
  h = held file d b e

  abbrev net : List ℕ
  net = net_bytes (net_of d)

  net-reads : read_net net ≡ accepted (net_of d)
  net-reads = read_back (net_of d) (well-made d h)

  pub file-step : (code argument : ℕ) (l : List ℕ) → Good d h l → step_diagram file code argument l ≡ move_words d (move_of code argument) l
  unfolding step_diagram
  file-step code argument l g = rw e (diagram-at d h (move_of code argument) l g)

  pub net-step : (code argument : ℕ) (l : List ℕ) → step_net net code argument l ≡ checked_net_move (net_of d) (move_of code argument) l
  unfolding step_net
  net-step code argument l = rw net-reads

  pub same_at : (code argument : ℕ) (l : List ℕ) → Good d h l
      → is_accepted (move_words d (move_of code argument) l) ≡ is_accepted (checked_net_move (net_of d) (move_of code argument) (image_words d l))
  same_at code argument l g = same_of d h (state_of d l) (row_asked (move_of code argument)) (move_words d (move_of code argument) l) (checked_net_move (net_of d) (move_of code argument) (image_words d l)) (both d h (move_of code argument) l g)

  -- an accepted move goes to the image
  pub after-move : (code argument : ℕ) (l s : List ℕ) → Good d h l → move_words d (move_of code argument) l ≡ accepted s
      → (checked_net_move (net_of d) (move_of code argument) (image_words d l) ≡ accepted (image_words d s)) × Good d h s
  after-move code argument l s g e = on_of d h (state_of d l) (row_asked (move_of code argument)) (move_words d (move_of code argument) l) (checked_net_move (net_of d) (move_of code argument) (image_words d l)) (both d h (move_of code argument) l g) s e

  -- a list of moves from the fresh state
  step-good : (m : Move) (l : List ℕ) → Good d h l → Good d h (afterwards l (move_words d m l))
  step-good m l g = go (move_words d m l) (checked_net_move (net_of d) m (image_words d l)) (both d h m l g)
    where
      go : (x z : Outcome (List ℕ)) → Both d h (state_of d l) (row_asked m) x z → Good d h (afterwards l x)
      go (accepted s) (accepted n) k = k.1
      go (accepted s) (refused a v) k = absurd k
      go (refused a v) z k = g

  pub reached-good : (ms : List Move) (l : List ℕ) → Good d h l → Good d h (moves_from (move_words d) ms l)
  reached-good [] l g = g
  reached-good (m ∷ ms) l g = reached-good ms (afterwards l (move_words d m l)) (step-good m l g)

  net-step-image : (m : Move) (l : List ℕ) → Good d h l
      → afterwards (image_words d l) (checked_net_move (net_of d) m (image_words d l)) ≡ image_words d (afterwards l (move_words d m l))
  net-step-image m l g = go (move_words d m l) (checked_net_move (net_of d) m (image_words d l)) (both d h m l g)
    where
      go : (x z : Outcome (List ℕ)) → Both d h (state_of d l) (row_asked m) x z → afterwards (image_words d l) z ≡ image_words d (afterwards l x)
      go (accepted s) (accepted n) k = k.0
      go (accepted s) (refused a v) k = absurd k
      go (refused a v) (accepted n) k = absurd k
      go (refused a v) (refused a' v') k = refl

  pub net-follows : (ms : List Move) (l : List ℕ) → Good d h l → moves_from (checked_net_move (net_of d)) ms (image_words d l) ≡ image_words d (moves_from (move_words d) ms l)
  net-follows [] l g = refl
  net-follows (m ∷ ms) l g = ap (moves_from (checked_net_move (net_of d)) ms) (net-step-image m l g) ∙ net-follows ms (afterwards l (move_words d m l)) (step-good m l g)

  -- a refusal of the net follows from the diagram's; of a code that is no move the row does not matter
  pub refuses : (code argument n v : ℕ) (l : List ℕ) → Good d h l → move_words d (move_of code argument) l ≡ refused n v
      → checked_net_move (net_of d) (move_of code argument) (image_words d l) ≡ refused (net_number n) (net_value d (state_of d l) argument n v)
  refuses code argument n v l g z = decide (eqb code 1)
      (λ y. by_move (step_row argument) (unfold move_of in rw y) (refused-of d h argument n v (step_row argument) l g refl))
      (λ y. decide (eqb code 2)
      (λ x. by_move (wait_ticks argument) (unfold move_of in rw (y, x)) (refused-of d h argument n v (wait_ticks argument) l g refl))
      (λ x. by_move no_move (unfold move_of in rw (y, x)) odd))
    where
      Says : Move → Type 0
      Says m = move_words d m l ≡ refused n v → checked_net_move (net_of d) m (image_words d l) ≡ refused (net_number n) (net_value d (state_of d l) argument n v)

      by_move : (m : Move) → move_of code argument ≡ m → Says m → checked_net_move (net_of d) (move_of code argument) (image_words d l) ≡ refused (net_number n) (net_value d (state_of d l) argument n v)
      by_move m q k = subst Says (sym q) k z

      odd : Says no_move
      odd q = refused-of d h 0 n v no_move l g refl q ∙ subst (λ (x : ℕ). ◌≡◌ {A = Outcome (List ℕ)} (refused (net_number x) (net_value d (state_of d l) 0 x v)) (refused (net_number x) (net_value d (state_of d l) argument x v))) is-21 refl
        where
          says-21 : ◌≡◌ {A = Outcome (List ℕ)} (refused 21 0) (refused n v)
          says-21 = unfold move_words words_outcome in q

          is-21 : 21 ≡ n
          is-21 = let p = says-21 in cc
