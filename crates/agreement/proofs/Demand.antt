-- Demand 3: one claim over every list of calls, kept call by call.
use Prim.Native.Nat.{ℕ, suc, ◌+◌, ◌≤◌, ◌<◌, zero-le}
use Rattle.std.specs.Prelude.{◌≡◌, ◌≢◌, cond, ◌&&◌, take, leb, ltb}
use Rattle.std.proofs.Math.Path.{refl, sym, ap, ap₂, subst}
use Rattle.std.proofs.Common.{◌∙◌, add-one, length-append}
use Rattle.std.proofs.Math.Bool.{true, false}
use mathlib.Core.List.{List, [], ◌∷◌, ◌++◌}
use native.Mathlib.Omega.{arith}
use Rattle.std.proofs.Math.ListN.{length, get_or, drop, get_or-append}
use Rattle.std.proofs.Math.Seq.{get_or-append_seam}
use Rattle.std.proofs.Math.Dec.{eqb}
use borrow.Author.Tests.{ltb-true, ltb-false, leb-true, leb-false, eqb-true, eqb-false, lt-ltb, le-ltb, le-leb, lt-leb, eq-eqb, ne_eqb}
use Rattle.effbd.specs.Answers.{Outcome, accepted, is_accepted, refused, unless}
use Rattle.effbd.specs.BusEnds.{is_ours, is_telegram, number_at, offered, offered_as, station_at, taken, taken_as, telegram}
use Rattle.effbd.specs.Diagrams.{Diagram}
use Rattle.effbd.specs.Firing.{checked_net_move, step_net}
use Rattle.effbd.specs.History.{AllDeliverable, Call, Deliverable, Demand3, Ends, History, Seen, added_as, after_offer, due, due_all, foreign, fresh_ends, hand, has_room, last_state, no_history, offer, offer_due, past, past_all, run, run_all, seen, seen_all, state_at, wrote_before}
use Rattle.effbd.specs.Image.{image_words}
use Rattle.effbd.specs.Moves.{move_of, move_words}
use Rattle.effbd.specs.Nesting.{read_diagram}
use Rattle.effbd.specs.Nets.{net_bytes}
use Rattle.effbd.specs.Patterns.{net_of}
use Rattle.effbd.specs.Records.{are_bytes}
use Rattle.effbd.specs.States.{fresh_words}
use Rattle.agreement.specs.AcceptedFiles.{Held, held}
use Rattle.ranges.specs.Tests.{and_intro, clash, decide}
use Rattle.agreement.specs.Telegrams.{Telegram, telegram-back}
use Rattle.agreement.proofs.Reached.{fresh-good, fresh-net, file-step, after-move, Good, net-step, same_at}

module _ (file : List ℕ) (d : Diagram) (b : are_bytes file ≡ true) (e : read_diagram file ≡ accepted d) where
  abbrev h : Held d
  h = held file d b e

  abbrev net : List ℕ
  net = net_bytes (net_of d)

  module _ (station : ℕ) where
    -- the i-th telegram carries the move from state i to state i + 1
    record Link (p : History) (c : Ends) (i : ℕ) : Type 0 where
      code : ℕ
      argument : ℕ
      wrote : get_or c.wrote i [] ≡ telegram (suc i) station code argument
      moves : move_words d (move_of code argument) (state_at d station p i) ≡ accepted (state_at d station p (suc i))

    record True (p : History) (c : Ends) : Type 0 where
      many : length c.wrote ≡ length p.states
      good : (i : ℕ) → i ≤ length p.states → Good d h (state_at d station p i)
      linked : (i : ℕ) → i < length p.states → Link p c i
      behind : p.t ≤ length p.states
      leads : c.leader ≡ last_state d station p
      counts : c.count ≡ length p.states
      follows : c.follower ≡ image_words d (state_at d station p p.t)
      takes : c.taken ≡ p.t

    -- what one call keeps, and what was seen of it
    record One (q : History) (f : Ends) (saw want : Seen) : Type 0 where
      keeps : True q f
      as-due : saw ≡ want

    module _ (p : History) (c : Ends) (v : True p c) where
      module _ (s : List ℕ) (code argument : ℕ) (area : List ℕ) (z : move_words d (move_of code argument) (last_state d station p) ≡ accepted s) where
        p' : History
        p' = record { states = p.states ++ (s ∷ []); t = p.t }

        c' : Ends
        c' = record {
          leader = s;
          count = suc (length p.states);
          follower = c.follower;
          taken = c.taken;
          wrote = c.wrote ++ (take 14 (telegram (suc (length p.states)) station code argument ++ drop 14 area) ∷ []);
        }

        longer : length (p.states ++ (s ∷ [])) ≡ length p.states + 1
        longer = length-append p.states (s ∷ [])

        old : (i : ℕ) → i ≤ length p.states → state_at d station p' i ≡ state_at d station p i
        unfolding state_at p'
        old i l = get_or-append (fresh_words d ∷ p.states) (s ∷ []) [] i (omega arith)

        new : (i : ℕ) → i ≡ length p.states → state_at d station p' (suc i) ≡ s
        unfolding state_at p'
        new i l = ap (λ x. get_or (p.states ++ (s ∷ [])) x []) l ∙ get_or-append_seam p.states s [] []

        link-old : (i : ℕ) → i < length p.states → Link p' c' i
        unfolding c'
        link-old i l = let k = v.linked i l in record {
          code = k.code;
          argument = k.argument;
          wrote = get_or-append c.wrote _ [] i (rw v.many l) ∙ k.wrote;
          moves = rw (old i (omega arith), old (suc i) l) k.moves;
        }

        link-new : (i : ℕ) → i ≡ length p.states → Link p' c' i
        unfolding c' telegram
        link-new i l = record {
          code = code;
          argument = argument;
          wrote = ap (λ x. get_or (c.wrote ++ (take 14 (telegram (suc (length p.states)) station code argument ++ drop 14 area) ∷ [])) x []) (l ∙ sym v.many) ∙ (get_or-append_seam c.wrote _ [] [] ∙ ap (λ x. telegram (suc x) station code argument) (sym l));
          moves = rw (new i l, old i (omega arith), l) z;
        }

        added : True p' c'
        unfolding p' c'
        added = record {
          many = rw (length-append c.wrote (take 14 (telegram (suc (length p.states)) station code argument ++ drop 14 area) ∷ []), longer) (let a = v.many in omega arith);
          good = λ i l. decide (leb i (length p.states))
              (λ f. let k = leb-true i (length p.states) f in rw (old i k) (v.good i k))
              (λ f. let k = leb-false i (length p.states) f in let y = longer in let x : i ≡ suc (length p.states) = omega arith in
              rw (x, new (length p.states) refl) (after-move file d b e code argument (last_state d station p) s (v.good (length p.states) (omega arith)) z).1);
          linked = λ i l. decide (ltb i (length p.states))
              (λ f. link-old i (ltb-true i (length p.states) f))
              (λ f. let k = ltb-false i (length p.states) f in let y = longer in link-new i (omega arith));
          behind = let a = v.behind in let y = longer in omega arith;
          leads = sym (ap (λ x. state_at d station p' x) (let y = longer in let w : length (p.states ++ (s ∷ [])) ≡ suc (length p.states) = omega arith in w) ∙ new (length p.states) refl);
          counts = let y = longer in omega arith;
          follows = v.follows ∙ ap (image_words d) (sym (old p.t v.behind));
          takes = v.takes;
        }

      -- a call that changes nothing
      kept : True p (record { leader = last_state d station p; count = c.count; follower = c.follower; taken = c.taken; wrote = c.wrote })
      kept = record {
        many = v.many;
        good = v.good;
        linked = λ i l. let k = v.linked i l in record { code = k.code; argument = k.argument; wrote = k.wrote; moves = k.moves };
        behind = v.behind;
        leads = refl;
        counts = v.counts;
        follows = v.follows;
        takes = v.takes;
      }

      module _ (code argument : ℕ) (area : List ℕ) where
        offering-is : offered file c.leader c.count station code argument area
            ≡ offered_as (last_state d station p) (length p.states) station code argument area (move_words d (move_of code argument) (last_state d station p))
        unfolding offered
        offering-is = rw (v.leads, v.counts, file-step file d b e code argument (last_state d station p) (v.good (length p.states) (omega arith)))

        same_size : ltb (length p.states) (length p.states) ≡ false
        same_size = le-ltb (length p.states) (length p.states) (omega arith)

        -- nothing added: nothing written
        nothing : record { accepts = false; area = area } ≡ offer_due d station p p code argument area
        nothing = rw same_size

        -- added: the telegram, numbered with the states
        something : (s : List ℕ) → record { accepts = true; area = telegram (suc (length p.states)) station code argument ++ drop 14 area }
            ≡ offer_due d station p (record { states = p.states ++ (s ∷ []); t = p.t }) code argument area
        something s = rw (length-append p.states (s ∷ []), lt-ltb (length p.states) (length p.states + 1) (omega arith), add-one (length p.states))

        by_answer : (X : Outcome (List ℕ)) → move_words d (move_of code argument) (last_state d station p) ≡ X
            → One (added_as d station p (has_room d station p area) X) (after_offer file net station c (offered_as (last_state d station p) (length p.states) station code argument area X))
            (let o = offered_as (last_state d station p) (length p.states) station code argument area X in record { accepts = is_accepted o.answer; area = o.area })
            (offer_due d station p (added_as d station p (has_room d station p area) X) code argument area)
        unfolding p' c'
        by_answer (refused u w) z = record { keeps = kept; as-due = nothing }
        by_answer (accepted s) z = decide (ltb (length p.states) 4294967295)
            (λ e. decide (leb 14 (length area))
            (λ f. rw (e, f) (record { keeps = added s code argument area z; as-due = something s }))
            (λ f. rw (e, f) (record { keeps = kept; as-due = nothing })))
            (λ e. rw e (record { keeps = kept; as-due = nothing }))

        one-offer : One (past d station p (offer code argument area)) (run file net station c (offer code argument area))
            (seen file net station c (offer code argument area)) (due d station p (offer code argument area))
        unfolding past run seen due
        one-offer = rw offering-is (by_answer (move_words d (move_of code argument) (last_state d station p)) refl)

      -- bytes that are turned away, and raise nothing
      module _ (b' : List ℕ) where
        away : (u w : ℕ) → taken net c.follower c.taken station b' ≡ record { answer = refused u w; state = c.follower } → (is_ours station b' && eqb (number_at b') (suc p.t)) ≡ false
            → One (past d station p (hand b')) (run file net station c (hand b')) (seen file net station c (hand b')) (due d station p (hand b'))
        unfolding past run seen due
        away u w e f = rw (e, f, le-ltb p.t p.t (omega arith)) (record { keeps = v; as-due = refl })

        from-elsewhere : is_ours station b' ≡ false → One (past d station p (hand b')) (run file net station c (hand b')) (seen file net station c (hand b')) (due d station p (hand b'))
        from-elsewhere o = decide (is_telegram b')
            (λ y. away 31 (station_at b') (unfold taken in rw (y, not-here y)) (rw o))
            (λ y. away 30 0 (unfold taken in rw y) (rw o))
          where
            not-here : is_telegram b' ≡ true → eqb (station_at b') station ≡ false
            not-here y = decide (eqb (station_at b') station) (λ z. clash (and_intro y z) (unfold is_ours in o)) (λ z. z)

        module _ (i code argument : ℕ) (tg : Telegram (suc i) station code argument b') where
          ours-is : is_ours station b' ≡ true
          unfolding is_ours
          ours-is = and_intro tg.is_shaped (eq-eqb (station_at b') station tg.is_station)

          taking-is : taken net c.follower c.taken station b' ≡ taken_as c.follower c.taken
              (unless (cond (leb (suc i) c.taken) 32 0) c.taken (unless (cond (leb (suc i) (suc c.taken)) 0 33) c.taken (step_net net code argument c.follower)))
          unfolding taken
          taking-is = rw (tg.is_shaped, eq-eqb (station_at b') station tg.is_station, tg.is_number, tg.is_code, tg.is_argument)

          not-next : i ≢ p.t → (is_ours station b' && eqb (number_at b') (suc p.t)) ≡ false
          not-next q = rw (ours-is, tg.is_number, ne_eqb (suc i) (suc p.t) (omega arith))

          ours-old : i < p.t → One (past d station p (hand b')) (run file net station c (hand b')) (seen file net station c (hand b')) (due d station p (hand b'))
          ours-old l = away 32 c.taken (taking-is ∙ (let k = v.takes in rw (le-leb (suc i) c.taken (omega arith)))) (not-next (omega arith))

          ours-new : p.t < i → One (past d station p (hand b')) (run file net station c (hand b')) (seen file net station c (hand b')) (due d station p (hand b'))
          ours-new l = away 33 c.taken (taking-is ∙ (let k = v.takes in rw (lt-leb (suc i) c.taken (omega arith), lt-leb (suc i) (suc c.taken) (omega arith)))) (not-next (omega arith))

          raised : i ≡ p.t → i < length p.states → move_words d (move_of code argument) (state_at d station p i) ≡ accepted (state_at d station p (suc i))
              → One (past d station p (hand b')) (run file net station c (hand b')) (seen file net station c (hand b')) (due d station p (hand b'))
          unfolding past run seen due state_at
          raised q l m = rw (goes, ours-is, tg.is_number, eq-eqb (suc i) (suc p.t) (ap suc q), lt-ltb p.t (suc p.t) (omega arith)) (record {
            keeps = record {
              many = v.many;
              good = v.good;
              linked = λ j y. let k = v.linked j y in record { code = k.code; argument = k.argument; wrote = k.wrote; moves = k.moves };
              behind = omega arith;
              leads = v.leads;
              counts = v.counts;
              follows = ap (λ (y : ℕ). image_words d (state_at d station p (suc y))) q;
              takes = ap suc v.takes;
            };
            as-due = refl;
          })
            where
              stepped : step_net net code argument c.follower ≡ accepted (image_words d (state_at d station p (suc i)))
              stepped = net-step file d b e code argument c.follower ∙ (ap (λ (y : List ℕ). checked_net_move (net_of d) (move_of code argument) y) (v.follows ∙ ap (λ (y : ℕ). image_words d (state_at d station p y)) (sym q)) ∙ (after-move file d b e code argument (state_at d station p i) (state_at d station p (suc i)) (v.good i (omega arith)) m).0)

              goes : taken net c.follower c.taken station b' ≡ record { answer = accepted (suc c.taken); state = image_words d (state_at d station p (suc i)) }
              goes = taking-is ∙ (let k = v.takes in rw (lt-leb (suc i) c.taken (omega arith), le-leb (suc i) (suc c.taken) (omega arith), stepped))

        written-before : (i : ℕ) → i < length c.wrote → b' ≡ get_or c.wrote i [] → One (past d station p (hand b')) (run file net station c (hand b')) (seen file net station c (hand b')) (due d station p (hand b'))
        written-before i l q = decide (ltb i p.t)
            (λ y. ours-old i k.code k.argument tg (ltb-true i p.t y))
            (λ y. decide (eqb i p.t)
            (λ z. raised i k.code k.argument tg (eqb-true i p.t z) il k.moves)
            (λ z. let a = ltb-false i p.t y in let w : i ≢ p.t = eqb-false i p.t z in ours-new i k.code k.argument tg (omega arith)))
          where
            il : i < length p.states
            il = rw v.many at l

            k : Link p c i
            k = v.linked i il

            tg : Telegram (suc i) station k.code k.argument b'
            tg = rw (q, k.wrote) (telegram-back (suc i) station k.code k.argument)

    one-call : (p : History) (c : Ends) (x : Call) → True p c → Deliverable file net station c x
        → One (past d station p x) (run file net station c x) (seen file net station c x) (due d station p x)
    one-call p c (offer code argument area) v f = one-offer p c v code argument area
    one-call p c (hand b') v (wrote_before i l q) = written-before p c v b' i l q
    one-call p c (hand b') v (foreign o) = from-elsewhere p c v b' o

    all-calls : (xs : List Call) (p : History) (c : Ends) → True p c → AllDeliverable file net station c xs
        → True (past_all d station p xs) (run_all file net station c xs) × (seen_all file net station c xs ≡ due_all d station p xs)
    unfolding past_all run_all seen_all due_all
    all-calls [] p c v f = (v, refl)
    all-calls (x ∷ xs) p c v f =
        let o = one-call p c x v f.0 in
        let r = all-calls xs (past d station p x) (run file net station c x) o.keeps f.1 in
        (r.0, ap₂ (λ (a : Seen) (l : List Seen). a ∷ l) o.as-due r.1)

    at-start : True no_history (fresh_ends d)
    unfolding fresh_ends
    at-start = record {
      many = refl;
      good = λ i l. subst (λ y. Good d h (state_at d station no_history y)) (let z : 0 ≡ i = omega arith in z) (unfold state_at in fresh-good d h);
      linked = λ i l. absurd (omega arith);
      behind = zero-le;
      leads = unfold state_at in refl;
      counts = refl;
      follows = unfold state_at in fresh-net d h;
      takes = refl;
    }

    pub whole : (calls : List Call) → AllDeliverable file net station (fresh_ends d) calls → Demand3 file d station calls
    whole calls f =
        let r = all-calls calls no_history (fresh_ends d) at-start f in
        let v = r.0 in
        record {
          leader-state = v.leads;
          leader-count = v.counts;
          follower-count = v.takes;
          not-ahead = v.behind;
          follower-state = v.follows;
          calls-as-due = r.1;
          same-moves = λ i l code argument. ap is_accepted (file-step file d b e code argument _ (v.good i l)) ∙ (same_at file d b e code argument _ (v.good i l) ∙ ap is_accepted (sym (net-step file d b e code argument _)));
        }
