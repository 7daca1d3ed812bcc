-- The two readers: what holds as they go, and each way on from there.
use Rattle.std.specs.Prelude.{ℕ, zero, suc, ◌+◌, ◌≤◌, ◌<◌, ◌≡◌, refl, ◌≢◌, Bool, true, false, cond, ◌&&◌, ◌||◌, List, [], ◌∷◌, length, leb, ltb, eqb, Some, None, Result, Ok, Err}
use mathlib.Core.Logic.{◌⊎◌, inl, inr}
use Rattle.std.proofs.Common.{sym, ◌∙◌, ap, subst, arith, add-one, eqb-true}
use borrow.Author.Tests.{eqb-false, ltb-true, ltb-false, lt-leb, le-leb}
use Rattle.effbd.specs.declared.refusals.Refusal.{Refusal}
use Rattle.effbd.specs.declared.refusals.Reason.TheVariants.{NestingBroken, TooManyOpen}
use Rattle.effbd.specs.Answers.{Outcome, accepted, refused, unless, number, said}
use Rattle.effbd.specs.Diagrams.{Diagram, number_of, row_count, kind, is_kind, lp_open}
use Rattle.effbd.specs.Frames.{Frame}
use Rattle.effbd.specs.Nesting.{stack, in_scenario, own_scenario, some_open, nesting_fault, unless_row}
use Rattle.ranges.specs.Tests.{decide, and_left, and_right}
use Rattle.nesting.specs.declared.Part.{Part}
use Rattle.nesting.specs.declared.Part.TheVariants.{Opens, Turns, Closes, Stays}
use Rattle.nesting.specs.declared.Open.{Open}
use Rattle.nesting.specs.declared.RunEnd.{RunEnd}
use Rattle.nesting.specs.declared.RunEnd.TheVariants.{Judged, Turned, Closed}
use Rattle.nesting.specs.Runs.{part_of, kind_in, top_in, is_and_or, inside_in, scenario_in, loops_in, closes_in, last_fault, open_fault, Kinds, Shows, At, Clean, AllJudged, Reached, Ends, Run, Construct, RunEnded, RunWithin, RunRead, ConstructEnded, ConstructWithin, ConstructRead, NestingRead}
use Rattle.ranges.specs.Outcomes.{unless-refused}
use Rattle.ranges.specs.Reasons.{number-some}
use Rattle.agreement.specs.RowFaults.{rows-faultless, rows-faulty}
use Rattle.nesting.proofs.Rules.{fault_in, passing_by, opening, ending, stack-next, free-behind, free-next, kind-is, open-fault-is, fault-is, last-fault-is, bare-faulty}

clean-none : (d : Diagram) (a : ℕ) → Clean d a a
clean-none d a = record { fine = λ q l h. absurd (omega arith) }

clean-more : (d : Diagram) (a b : ℕ) → Clean d a b → nesting_fault d b ≡ 0 → Clean d a (b + 1)
clean-more d a b c e = record {
  fine = λ q l h. decide (eqb q b) (λ z. ap (nesting_fault d) (eqb-true q b z) ∙ e)
      (λ z. let ne : q ≢ b = eqb-false q b z in c.fine q l (omega arith));
}

clean-both : (d : Diagram) (a b c : ℕ) → Clean d a b → Clean d b c → Clean d a c
clean-both d a b c x y = record { fine = λ q l h. decide (ltb q b) (λ z. x.fine q l (ltb-true q b z)) (λ z. y.fine q (ltb-false q b z) h) }

judged-from : (d : Diagram) (a b number row : ℕ) → a ≤ b → Clean d a b → AllJudged d b number row → AllJudged d a number row
judged-from d a b number row l c j = record {
  good = λ e. clean-both d a b (row_count d) c (j.good e);
  bad = λ e. let w = j.bad e in let h : b ≤ row = w.0 in (omega arith, w.1, w.2, clean-both d a b row c w.3);
}

-- a refusal of row q for this fault; a row passes where it has none
pub record Refuses (fault q : ℕ) (e : Refusal) : Type 0 where
  pub reason : number e.reason ≡ fault
  pub row : e.value ≡ q

pub refuses : {fault q : ℕ} {r : Result (Unit {0}) Refusal} {e : Refusal} → said r ≡ unless fault q (accepted tt) → r ≡ Err e → Refuses fault q e
refuses {fault = zero} s z = cc
refuses {fault = suc n} s z = record { reason = cc; row = cc }

pub passes : {fault : ℕ} (q : ℕ) {r : Result (Unit {0}) Refusal} {u : Unit {0}} → said r ≡ unless fault q (accepted tt) → r ≡ Ok u → fault ≡ 0
passes {fault = zero} q s z = refl
passes {fault = suc n} q s z = cc

some-fault : {fault q : ℕ} {e : Refusal} → Refuses fault q e → fault ≢ 0
some-fault {e = e} w z = number-some e.reason (w.reason ∙ z)

-- a construct's frame above what is open around it
pub shows-inside : (d : Diagram) (rows : ℕ) (table : List ℕ) → Kinds d rows table → (fs : List Frame) (o : Open) (opened latest branches : ℕ) → Shows d fs o
    → Shows d (record { opened = opened; latest = latest; branches = branches } ∷ fs) (inside_in (kind_in table rows opened) opened branches o)
unfolding inside_in scenario_in loops_in
shows-inside d rows table k fs o opened latest branches s = record {
  depth = ap (λ (n : ℕ). n + 1) s.depth ∙ add-one (length fs);
  opened = refl;
  branches = refl;
  looped = rw (kind-is d rows table k opened, s.looped) (hidden (in_scenario d (record { opened = opened; latest = latest; branches = branches })));
  boxed = rw (kind-is d rows table k opened, s.boxed);
}
  where
    hidden : (b : Bool) → cond b false (is_kind d lp_open opened || some_open d lp_open (own_scenario d fs))
        ≡ some_open d lp_open (cond b [] (record { opened = opened; latest = latest; branches = branches } ∷ own_scenario d fs))
    hidden true = refl
    hidden false = refl

pub inside-depth : (k opened branches : ℕ) (inner o : Open) → inner ≡ inside_in k opened branches o → inner.depth ≡ o.depth + 1
unfolding inside_in
inside-depth k opened branches inner o e = ap (λ (x : Open). x.depth) e

-- what is open where these frames are reached
at-reached : (d : Diagram) (table : List ℕ) (rows a q : ℕ) (o : Open) (fs : List Frame) → Kinds d rows table → Shows d fs o → Reached d a q fs → At table rows q o d
at-reached d table rows a q o fs k s r = record { kinds = k; shows = subst (λ gs. Shows d gs o) (sym r.around) s; free = r.free }

reached-on : (d : Diagram) (a b q : ℕ) (fs : List Frame) → Clean d a b → Reached d b q fs → Reached d a q fs
reached-on d a b q fs c r = record { clean = clean-both d a b q c r.clean; around = r.around; free = r.free }

-- behind a row that opens nothing
passed : (d : Diagram) (part : Part) (a j : ℕ) (fs : List Frame) → opening part ≡ false → stack d a ≡ fs → Ends d part a j → Reached d a (j + 1) (passing_by part j fs)
passed d part a j fs h e x = record {
  clean = x.clean;
  around = stack-next d j part x.does ∙ ap (passing_by part j) (x.around ∙ e);
  free = free-next d j part x.does h;
}

-- ---- a run

-- a row's part, as the code finds it
pub part-is : {kind k : ℕ} {part p : Part} → part ≡ part_of kind → kind ≡ k → part ≡ p → part_of k ≡ p
part-is e f g = sym (e ∙ ap part_of f) ∙ g

-- rows from `from` on are read up to row q: none is at fault, and the same is open as at `from`
pub record RunState (table : List ℕ) (rows from : ℕ) (o : Open) (q : ℕ) : Type 0 where
  pub low : from ≤ q
  pub high : q < rows
  pub reached : (d : Diagram) → At table rows from o d → Reached d from q (stack d from)

pub run-start : (table : List ℕ) (rows from : ℕ) (o : Open) → from < rows → RunState table rows from o from
run-start table rows from o h = record { low = omega arith; high = h; reached = λ d a. record { clean = clean-none d from; around = refl; free = a.free } }

module _ (table : List ℕ) (rows from : ℕ) (o : Open) (q : ℕ) (st : RunState table rows from o q) where
  here : (d : Diagram) → At table rows from o d → At table rows q o d
  here d a = at-reached d table rows from q o (stack d from) a.kinds a.shows (st.reached d a)

  -- row q has this fault
  abbrev Faulty : ℕ → Type 0
  Faulty fault = (d : Diagram) → At table rows from o d → nesting_fault d q ≡ fault

  judged-here : (fault : ℕ) → Faulty fault → (e : Refusal) → Refuses fault q e → RunRead table rows from o (Err e)
  judged-here fault f e w = record {
    within = let h = st.high in omega (arith, w.row);
    ended = λ d a. subst (λ (n : ℕ). AllJudged d from n e.value) (sym w.reason) (subst (AllJudged d from fault) (sym w.row) (record {
      good = λ z. absurd (some-fault w z);
      bad = λ z. (st.low, omega (arith, a.kinds.count, st.high), f d a, (st.reached d a).clean);
    }));
  }

  clean-here : Faulty 0 → (d : Diagram) → At table rows from o d → Clean d from (q + 1)
  clean-here f d a = clean-more d from q (st.reached d a).clean (f d a)

  -- the last row
  module _ (l : rows ≤ q + 1) (fault : ℕ) (ef : fault ≡ last_fault (kind_in table rows q) (top_in table rows o)) where
    last : Faulty fault
    last d a = let w = here d a in last-fault-is d rows table a.kinds q o w.shows w.free (let h = st.high in omega arith) ∙ sym ef

    pub run-last : (e : Refusal) → Refuses fault q e → RunRead table rows from o (Err e)
    run-last = judged-here fault last

    pub run_end : fault ≡ 0 → RunRead table rows from o (Ok Judged)
    run_end z = record {
      within = tt;
      ended = λ d a. record {
        good = λ e. let n : q + 1 ≡ row_count d = omega (arith, a.kinds.count, st.high) in subst (Clean d from) n (clean-here (λ c b. last c b ∙ z) d a);
        bad = λ ne. absurd (ne refl);
      };
    }

  -- any other row, by its part
  module _ (l : q + 1 < rows) where
    module _ (part : Part) (e : part_of (kind_in table rows q) ≡ part) where
      inside : (fault : ℕ) → fault ≡ fault_in table rows q o part → Faulty fault
      inside fault ef d a = let w = here d a in fault-is d rows table a.kinds q o w.shows w.free part l e ∙ sym ef

      pub run-fault : (fault : ℕ) → fault ≡ fault_in table rows q o part → (e : Refusal) → Refuses fault q e → RunRead table rows from o (Err e)
      run-fault fault ef = judged-here fault (inside fault ef)

      does : (d : Diagram) → At table rows from o d → part_of (number_of (kind d q)) ≡ part
      does d a = ap part_of (sym (kind-is d rows table a.kinds q)) ∙ e

      module _ (fine : 0 ≡ fault_in table rows q o part) where
        clean-past : (d : Diagram) → At table rows from o d → Clean d from (q + 1)
        clean-past = clean-here (inside 0 fine)

        ends : (d : Diagram) → At table rows from o d → Ends d part from q
        ends d a = record { clean = clean-past d a; does = does d a; around = (st.reached d a).around }

    pub run-turned : part_of (kind_in table rows q) ≡ Turns → 0 ≡ fault_in table rows q o Turns → RunRead table rows from o (Ok (Turned q))
    run-turned e fine = record { within = (st.low, l); ended = ends Turns e fine }

    module _ (e : part_of (kind_in table rows q) ≡ Closes) where
      pub run-closed : closes_in (kind_in table rows q) (top_in table rows o) (leb 2 o.branches) ≡ true → RunRead table rows from o (Ok (Closed q))
      run-closed h = record { within = (st.low, l); ended = ends Closes e (rw h) }

      pub run-unclosed : closes_in (kind_in table rows q) (top_in table rows o) (leb 2 o.branches) ≡ false → RunRead table rows from o (Err (record { reason = NestingBroken; value = q }))
      run-unclosed h = run-fault Closes e 7 (rw h) _ (record { reason = refl; row = refl })

    pub run-stays : part_of (kind_in table rows q) ≡ Stays → 0 ≡ fault_in table rows q o Stays → RunState table rows from o (q + 1)
    run-stays e fine = record {
      low = let h = st.low in omega arith;
      high = l;
      reached = λ d a. passed d Stays from q (stack d from) refl refl (ends Stays e fine d a);
    }

    module _ (e : part_of (kind_in table rows q) ≡ Opens) where
      pub run-deep : 12 ≤ o.depth → RunRead table rows from o (Err (record { reason = TooManyOpen; value = q }))
      run-deep h = run-fault Opens e 9 (rw (le-leb 12 o.depth h)) _ (record { reason = refl; row = refl })

      module _ (h : o.depth < 12) (r : Construct) (read : ConstructRead table rows q o r) where
        fine : 0 ≡ fault_in table rows q o Opens
        fine = rw (lt-leb 12 o.depth h)

        inner : (d : Diagram) → At table rows from o d → ConstructEnded d q r
        inner d a = read.ended d (here d a) (does Opens e d a)

        pub run-over : (f : Refusal) → r ≡ Err f → RunRead table rows from o (Err f)
        run-over f j = record {
          within = subst (ConstructWithin q rows) j read.within;
          ended = λ d a. judged-from d from (q + 1) (number f.reason) f.value (let x = st.low in omega arith) (clean-past Opens e fine d a) (subst (ConstructEnded d q) j (inner d a));
        }

        pub run-judged : r ≡ Ok None → RunRead table rows from o (Ok Judged)
        run-judged j = record {
          within = tt;
          ended = λ d a. judged-from d from (q + 1) 0 0 (let x = st.low in omega arith) (clean-past Opens e fine d a) (subst (ConstructEnded d q) j (inner d a));
        }

        pub run_on : (close : ℕ) → r ≡ Ok (Some close) → RunState table rows from o (close + 1)
        run_on close j =
            let w : (q < close) × (close + 1 < rows) = subst (ConstructWithin q rows) j read.within in
            let x = w.0 in
            record {
              low = let y = st.low in omega arith;
              high = w.1;
              reached = λ d a. let y : Reached d (q + 1) (close + 1) (stack d q) = subst (ConstructEnded d q) j (inner d a) in
                  subst (Reached d from (close + 1)) (st.reached d a).around (reached-on d from (q + 1) (close + 1) (stack d q) (clean-past Opens e fine d a) y);
            }

-- ---- a construct

-- the frame of the construct that row `opened` opens, above what is open around it
abbrev framed : Diagram → (opened latest branches : ℕ) → List Frame
framed d opened latest branches = record { opened = opened; latest = latest; branches = branches } ∷ stack d opened

-- the construct that row `opened` opens is read up to row q: none is at fault, and it is the innermost, with so many BRANCH rows
pub record ConstructState (table : List ℕ) (rows opened : ℕ) (o : Open) (branches q : ℕ) : Type 0 where
  pub low : opened < q
  pub high : q < rows
  pub few : branches ≤ q
  pub latest : ℕ
  pub reached : (d : Diagram) → At table rows opened o d → part_of (number_of (kind d opened)) ≡ Opens → Reached d (opened + 1) q (framed d opened latest branches)

pushed : (d : Diagram) (opened : ℕ) → part_of (number_of (kind d opened)) ≡ Opens → stack d (opened + 1) ≡ framed d opened (opened + 1) 0
pushed d opened e = stack-next d opened Opens e ∙ ap (λ (n : ℕ). framed d opened n 0) (sym (add-one opened))

module _ (table : List ℕ) (rows opened : ℕ) (o : Open) (l : opened + 1 < rows) where
  and-or-is : (d : Diagram) → At table rows opened o d → {b : Bool} → is_and_or (kind_in table rows opened) ≡ b → is_and_or (number_of (kind d opened)) ≡ b
  and-or-is d a h = ap is_and_or (sym (kind-is d rows table a.kinds opened)) ∙ h

  -- an IT, LP or box
  pub construct-start : is_and_or (kind_in table rows opened) ≡ false → ConstructState table rows opened o 0 (opened + 1)
  construct-start h = record {
    low = omega arith;
    high = l;
    few = omega arith;
    latest = opened + 1;
    reached = λ d a e. record { clean = clean-none d (opened + 1); around = pushed d opened e; free = free-behind d opened (and-or-is d a h) };
  }

  -- an AND or OR: behind its first BRANCH
  module _ (h : is_and_or (kind_in table rows opened) ≡ true) (fault : ℕ) (ef : fault ≡ open_fault table rows (opened + 1) (kind_in table rows opened)) where
    at_open : (d : Diagram) → At table rows opened o d → part_of (number_of (kind d opened)) ≡ Opens → nesting_fault d (opened + 1) ≡ fault
    at_open d a e = open-fault-is d rows table a.kinds opened l h e ∙ sym ef

    follows-open : fault ≡ 0 → (eqb (kind_in table rows (opened + 1)) 18 && ltb (opened + 1 + 1) rows) ≡ true
    unfolding open_fault
    follows-open z = decide (eqb (kind_in table rows (opened + 1)) 18 && ltb (opened + 1 + 1) rows) (λ e. e) (λ e. absurd (let y : ◌≡◌ {A = ℕ} 0 7 = sym z ∙ (rw e at ef) in omega arith))

    pub construct-branched : fault ≡ 0 → ConstructState table rows opened o 1 (opened + 1 + 1)
    unfolding part_of
    construct-branched z =
        let f = follows-open z in
        record {
          low = omega arith;
          high = ltb-true (opened + 1 + 1) rows (and_right (eqb (kind_in table rows (opened + 1)) 18) (ltb (opened + 1 + 1) rows) f);
          few = omega arith;
          latest = opened + 1;
          reached = λ d a e. passed d Turns (opened + 1) (opened + 1) (framed d opened (opened + 1) 0) refl (pushed d opened e) (record {
            clean = clean-more d (opened + 1) (opened + 1) (clean-none d (opened + 1)) (at_open d a e ∙ z);
            does = ap part_of (sym (kind-is d rows table a.kinds (opened + 1)) ∙ eqb-true (kind_in table rows (opened + 1)) 18 (and_left (eqb (kind_in table rows (opened + 1)) 18) _ f));
            around = refl;
          });
        }

    pub construct-unbranched : (f : Refusal) → Refuses fault (opened + 1) f → ConstructRead table rows opened o (Err f)
    construct-unbranched f w = record {
      within = omega (arith, w.row);
      ended = λ d a e. subst (λ (n : ℕ). AllJudged d (opened + 1) n f.value) (sym w.reason) (subst (AllJudged d (opened + 1) fault) (sym w.row) (record {
        good = λ z. absurd (some-fault w z);
        bad = λ z. (omega arith, omega (arith, a.kinds.count), at_open d a e, clean-none d (opened + 1));
      }));
    }

module _ (table : List ℕ) (rows opened : ℕ) (o : Open) (branches q : ℕ) (st : ConstructState table rows opened o branches q) (r : Run)
    (read : RunRead table rows q (inside_in (kind_in table rows opened) opened branches o) r) where
  ran : (d : Diagram) → At table rows opened o d → part_of (number_of (kind d opened)) ≡ Opens → RunEnded d q r
  ran d a e = read.ended d (at-reached d table rows (opened + 1) q (inside_in (kind_in table rows opened) opened branches o) (framed d opened st.latest branches) a.kinds
      (shows-inside d rows table a.kinds (stack d opened) o opened st.latest branches a.shows) (st.reached d a e))

  pub construct-over : (f : Refusal) → r ≡ Err f → ConstructRead table rows opened o (Err f)
  construct-over f e = record {
    within = subst (RunWithin q rows) e read.within;
    ended = λ d a p. judged-from d (opened + 1) q (number f.reason) f.value (let h = st.low in omega arith) (st.reached d a p).clean (subst (RunEnded d q) e (ran d a p));
  }

  pub construct-judged : r ≡ Ok Judged → ConstructRead table rows opened o (Ok None)
  construct-judged e = record {
    within = tt;
    ended = λ d a p. judged-from d (opened + 1) q 0 0 (let h = st.low in omega arith) (st.reached d a p).clean (subst (RunEnded d q) e (ran d a p));
  }

  -- behind the BRANCH or close that ended the run
  behind : (d : Diagram) → At table rows opened o d → part_of (number_of (kind d opened)) ≡ Opens → (part : Part) (j : ℕ) → opening part ≡ false → Ends d part q j
      → Reached d (opened + 1) (j + 1) (passing_by part j (framed d opened st.latest branches))
  behind d a p part j h x = let w = st.reached d a p in
      reached-on d (opened + 1) q (j + 1) (passing_by part j (framed d opened st.latest branches)) w.clean (passed d part q j (framed d opened st.latest branches) h w.around x)

  pub construct-turned : (j : ℕ) → r ≡ Ok (Turned j) → ConstructState table rows opened o (branches + 1) (j + 1)
  construct-turned j e =
      let w : (q ≤ j) × (j + 1 < rows) = subst (RunWithin q rows) e read.within in
      let x = w.0 in
      record {
        low = let h = st.low in omega arith;
        high = w.1;
        few = let h = st.few in omega arith;
        latest = j;
        reached = λ d a p. subst (λ n. Reached d (opened + 1) (j + 1) (framed d opened j n)) (sym (add-one branches)) (behind d a p Turns j refl (subst (RunEnded d q) e (ran d a p)));
      }

  pub construct-closed : (j : ℕ) → r ≡ Ok (Closed j) → ConstructRead table rows opened o (Ok (Some j))
  construct-closed j e =
      let w : (q ≤ j) × (j + 1 < rows) = subst (RunWithin q rows) e read.within in
      let x = w.0 in
      record { within = (let h = st.low in omega arith, w.1); ended = λ d a p. behind d a p Closes j refl (subst (RunEnded d q) e (ran d a p)) }

-- ---- all rows

abbrev pub nothing : Open
nothing = record { depth = 0; opened = 0; branches = 0; looped = false; boxed = false }

judged-is : (d : Diagram) (number row : ℕ) → AllJudged d 0 number row → (on : Outcome Diagram) → unless_row d (nesting_fault d) on ≡ unless number row on
judged-is d number row j on = decide (eqb number 0)
    (λ e. let z = eqb-true number 0 e in rw z (rows-faultless d (nesting_fault d) (λ q l. (j.good z).fine q (omega arith) l) on))
    (λ e. let ne = eqb-false number 0 e in let w = j.bad ne in
    rows-faulty d (nesting_fault d) row w.1 (λ z. ne (sym w.2 ∙ z)) (λ q l. w.3.fine q (omega arith) l) on
    ∙ (ap (λ (n : ℕ). refused n row) w.2 ∙ sym (unless-refused number row on ne)))

pub no_rows : (table : List ℕ) (rows : ℕ) → rows ≡ 0 → NestingRead table rows (Ok tt)
no_rows table rows e = record {
  within = omega arith;
  none = λ z. refl;
  judged = λ d k. judged-is d 0 0 (record { good = λ z. record { fine = λ q l h. absurd (omega (arith, k.count)) }; bad = λ ne. absurd (ne refl) });
}

module _ (table : List ℕ) (rows : ℕ) (r : Run) (read : RunRead table rows 0 nothing r) where
  ran-all : (d : Diagram) → Kinds d rows table → RunEnded d 0 r
  unfolding stack
  ran-all d k = read.ended d (record { kinds = k; shows = record { depth = refl; opened = refl; branches = refl; looped = refl; boxed = refl }; free = refl })

  pub all-over : (f : Refusal) → r ≡ Err f → NestingRead table rows (Err f)
  all-over f e = record {
    within = subst (RunWithin 0 rows) e read.within;
    none = λ z. absurd (number-some f.reason z);
    judged = λ d k. judged-is d (number f.reason) f.value (subst (RunEnded d 0) e (ran-all d k));
  }

  pub all-judged : r ≡ Ok Judged → NestingRead table rows (Ok tt)
  all-judged e = record {
    within = omega arith;
    none = λ z. refl;
    judged = λ d k. judged-is d 0 0 (subst (RunEnded d 0) e (ran-all d k));
  }

  -- the whole table is no run that a BRANCH or a close ends
  never_ends : (part : Part) (j : ℕ) → ending part ≡ true → j + 1 < rows → ((d : Diagram) → Kinds d rows table → Ends d part 0 j) → NestingRead table rows (Err (record { reason = NestingBroken; value = j }))
  unfolding stack
  never_ends part j h l ends = record {
    within = omega arith;
    none = λ z. absurd (omega arith);
    judged = λ d k. let x = ends d k in
        let seven = bare-faulty d j x.around (ap ending x.does ∙ h) in
        let none = x.clean.fine j (omega arith) (omega arith) in absurd (omega arith);
  }

  never-turned : (j : ℕ) → r ≡ Ok (Turned j) → NestingRead table rows (Err (record { reason = NestingBroken; value = j }))
  never-turned j e = never_ends Turns j refl (subst (RunWithin 0 rows) e read.within).1 (λ d k. subst (RunEnded d 0) e (ran-all d k))

  never-closed : (j : ℕ) → r ≡ Ok (Closed j) → NestingRead table rows (Err (record { reason = NestingBroken; value = j }))
  never-closed j e = never_ends Closes j refl (subst (RunWithin 0 rows) e read.within).1 (λ d k. subst (RunEnded d 0) e (ran-all d k))

  pub never-ended : (x : RunEnd) (j : ℕ) → r ≡ Ok x → (x ≡ Turned j) ⊎ (x ≡ Closed j) → NestingRead table rows (Err (record { reason = NestingBroken; value = j }))
  never-ended x j e (inl t) = never-turned j cc
  never-ended x j e (inr t) = never-closed j cc
