-- The rules behind the walk, one after another: the structure that the first two go by, and what it leaves of the table.
use Rattle.std.specs.Prelude.{ℕ, suc, ◌-◌, ◌<◌, ◌≡◌, refl, ◌≢◌, true, false, List, ltb, Result, Ok}
use Rattle.std.proofs.Common.{sym, ◌∙◌, ap, subst, arith, eqb-true, eq-eqb}
use borrow.Author.Tests.{ltb-true, ltb-false}
use Rattle.effbd.specs.declared.refusals.Refusal.{Refusal}
use Rattle.effbd.specs.Answers.{Outcome, accepted, unless, said, refusal_number, refusal_value}
use Rattle.effbd.specs.Diagrams.{Diagram, box_open, box_exit, number_of, row_count, kind, is_kind}
use Rattle.effbd.specs.Nesting.{box, outlet_fault, not_one_to_one, scenario_fault, scenario_falls, unless_row}
use Rattle.effbd.specs.Ranges.{how_many}
use Rattle.ranges.specs.Tests.{decide, clash}
use Rattle.ranges.specs.Outcomes.{unless-refused}
use Rattle.agreement.specs.AcceptedFiles.{well-walked}
use Rattle.agreement.specs.Basics.{kind-past, same-eq}
use Rattle.agreement.specs.NestingLaws.{exit-of-box}
use Rattle.agreement.specs.RowFaults.{rows-clean, rows-faultless}
use Rattle.diagram_table.specs.Cells.{cell_of, kind_in}
use Rattle.nesting.specs.Runs.{Kinds}
use Rattle.loop_times.specs.Loops.{Faultless, LoopsRead}
use Rattle.diagram_structure.specs.Structure.{structured, put_structure, structure_filled}
use Rattle.diagram_structure.specs.Walked.{Walked}
use Rattle.diagram_structure.proofs.Columns.{Same, Sound, sound, close-is}
use Rattle.diagram_structure.proofs.Filled.{filled_is}
use Rattle.outlets.specs.Outlets.{is_box, has_box, OutletsRead}
use Rattle.outlets.proofs.Counting.{many-up, many-yes}
use Rattle.outlets.proofs.Passes.{walked-kept}
use Rattle.scenarios.specs.Scenarios.{ScenariosRead}
use Rattle.diagram_rules.specs.Rules.{Ready, Structured, BoxesRead, RulesRead}

-- ---- a table without a box
no-box : (t : List ℕ) (rows q : ℕ) → has_box t rows ≡ false → q < rows → kind_in t q ≢ 29
unfolding has_box is_box
no-box t rows q h l e =
    let a = many-yes q (is_box t) (eq-eqb (kind_in t q) 29 e) in
    let b = many-up (suc q) rows (is_box t) (omega arith) in
    let c = ltb-false 0 (how_many rows (is_box t)) h in absurd (omega arith)

module _ (d : Diagram) (rows : ℕ) (t : List ℕ) (w : Ready d rows t) where
  abbrev pass : List ℕ
  pass = structured rows (rows - 1) (put_structure rows 0 0 0 0 t)

  found : Sound d rows w.kinds.count w.fine w.few t (rows - 1) (rows - 1) pass
  found = sound d rows w.kinds.count w.fine w.few t w.long w.kinds.cell (rows - 1) (let a = w.some in omega arith)

  filled : structure_filled rows t ≡ pass
  filled = filled_is rows t w.long w.some w.few

  pass-walked : Walked d rows pass
  pass-walked = let s = found in let few = w.few in let some = w.some in record {
    long = s.same.long ∙ w.long;
    some = w.some;
    few = w.few;
    kinds = record { count = w.kinds.count; cell = λ q l. s.same.below q (omega arith) ∙ w.kinds.cell q l; first = λ q l. s.same.below (cell_of 1 q) (omega arith) ∙ w.kinds.first q l };
    fine = w.fine;
    owners = λ r l. s.owners r (omega arith);
    branches = λ r l. s.branches r (omega arith);
    closes = λ r l. close-is d rows w.kinds.count w.fine few t w.long w.kinds.cell (rows - 1) (omega arith) pass s r l;
    loops = λ r l e. s.loops r (omega arith);
  }

  pub walked : Walked d rows (structure_filled rows t)
  walked = subst (Walked d rows) (sym filled) pass-walked

  same : Same t (structure_filled rows t)
  same = subst (Same t) (sym filled) found.same

  not-open : has_box t rows ≡ false → (q : ℕ) → is_kind d box_open q ≡ false
  not-open h q = decide (is_kind d box_open q)
      (λ e. decide (ltb q rows)
      (λ l. absurd (no-box t rows q h (ltb-true q rows l) (w.kinds.cell q (ltb-true q rows l) ∙ eqb-true (number_of (kind d q)) 29 e)))
      (λ l. clash e (rw (kind-past d q (let x = ltb-false q rows l in let c = w.kinds.count in omega arith)))))
      (λ e. e)

  -- an EXIT has a box
  no-exit : has_box t rows ≡ false → (r : ℕ) → r < rows → is_kind d box_exit r ≡ true → ⊥
  no-exit h r l e =
      let acc = well-walked d w.fine (let a = w.some in let c = w.kinds.count in omega arith) in
      let b = exit-of-box d acc r (same-eq (kind d r) box_exit e) in
      clash (eq-eqb (number_of (kind d (box d r))) 29 (ap number_of b)) (not-open h (box d r))

  -- THEOREM: the structure pass is all that a plant without a box needs
  pub plain-structured : has_box t rows ≡ false → Structured d rows t (structure_filled rows t)
  plain-structured h = record {
    long = same.long;
    records = λ i l f. same.below i l;
    items = λ i l. same.above i l;
    owners = walked.owners;
    branches = walked.branches;
    closes = walked.closes;
    loops = walked.loops;
    outlets = λ r l e. absurd (no-exit h r l e);
    scenario_lasts = λ r l e. absurd (no-exit h r l e);
  }

  no-outlets : has_box t rows ≡ false → (q : ℕ) → q < row_count d → outlet_fault d q ≡ 0
  unfolding not_one_to_one
  no-outlets h q l = rw (not-open h q)

  no-scenarios : has_box t rows ≡ false → (q : ℕ) → q < row_count d → scenario_fault d q ≡ 0
  unfolding scenario_falls
  no-scenarios h q l = rw (not-open h q)

  module _ (u : List ℕ) (j : Result (Unit {0}) Refusal) (o : OutletsRead rows (structure_filled rows t) u j) where
    walked-read : Walked d rows u
    walked-read = walked-kept w.few o.kept d walked

    read-structured : refusal_number (said j) ≡ 0 → Structured d rows t u
    read-structured z = let few = w.few in let x = walked-read in record {
      long = o.kept.long ∙ same.long;
      records = λ i l f. o.kept.cell i (λ r m k. ((λ y. absurd (omega arith)), f r m (sym (same.below r (omega arith)) ∙ k))) ∙ same.below i l;
      items = λ i l. o.kept.cell i (λ r m k. ((λ y. absurd (omega arith)), (λ y. absurd (omega arith)))) ∙ same.above i l;
      owners = x.owners;
      branches = x.branches;
      closes = x.closes;
      loops = x.loops;
      outlets = λ r l e. (o.outlets z d walked r l e).0;
      scenario_lasts = λ r l e. (o.outlets z d walked r l e).1;
    }

-- ---- the boxes
module _ (rows : ℕ) (t : List ℕ) where
  pub boxes-none : has_box t rows ≡ false → BoxesRead rows t t (Ok tt)
  boxes-none h = record {
    within = omega arith;
    none = λ z. refl;
    boxless = λ e. refl;
    boxed = λ z e. clash e h;
    judged = λ d w on. rows-faultless d (outlet_fault d) (no-outlets d rows t w h) _ ∙ rows-faultless d (scenario_fault d) (no-scenarios d rows t w h) on;
  }

  module _ (some : has_box t rows ≡ true) (f : List ℕ) (ef : f ≡ structure_filled rows t) (u : List ℕ) (j : Result (Unit {0}) Refusal) (read : OutletsRead rows f u j) where
    o : OutletsRead rows (structure_filled rows t) u j
    o = subst (λ (x : List ℕ). OutletsRead rows x u j) ef read

    pub boxes-unmatched : refusal_number (said j) ≢ 0 → BoxesRead rows t u j
    boxes-unmatched ne = record {
      within = o.within;
      none = o.none;
      boxless = λ e. clash some e;
      boxed = λ z. absurd (ne z);
      judged = λ d w on. o.judged d (walked d rows t w) _ ∙ (unless-refused (refusal_number (said j)) (refusal_value (said j)) _ ne ∙ sym (unless-refused (refusal_number (said j)) (refusal_value (said j)) on ne));
    }

    pub boxes-read : refusal_number (said j) ≡ 0 → (i : Result (Unit {0}) Refusal) → ScenariosRead u rows i → BoxesRead rows t u i
    boxes-read z i s = record {
      within = s.within;
      none = s.none;
      boxless = λ e. clash some e;
      boxed = λ y e d w. read-structured d rows t w u j o z;
      judged = λ d w on. o.judged d (walked d rows t w) _ ∙ (ap (λ (n : ℕ). unless n (refusal_value (said j)) (unless_row d (scenario_fault d) on)) z ∙ s.judged d (walked-read d rows t w u j o) on);
    }

-- ---- and the loops
module _ (rows : ℕ) (t u : List ℕ) (j : Result (Unit {0}) Refusal) (b : BoxesRead rows t u j) where
  pub rules-boxes : refusal_number (said j) ≢ 0 → RulesRead rows t u j
  rules-boxes ne = record {
    within = b.within;
    none = b.none;
    boxless = b.boxless;
    boxed = b.boxed;
    judged = λ d w on. b.judged d w _ ∙ (unless-refused (refusal_number (said j)) (refusal_value (said j)) _ ne ∙ sym (unless-refused (refusal_number (said j)) (refusal_value (said j)) on ne));
  }

  pub rules-read : refusal_number (said j) ≡ 0 → (i : Result (Unit {0}) Refusal) → LoopsRead u rows i → RulesRead rows t u i
  rules-read z i s = record {
    within = s.within;
    none = s.none;
    boxless = b.boxless;
    boxed = λ y. b.boxed z;
    judged = λ d w on. passed d w _ ∙ s.judged d (kinds d w) (faultless d w) on;
  }
    where
      passed : (d : Diagram) → Ready d rows t → (on : Outcome Diagram) → unless_row d (outlet_fault d) (unless_row d (scenario_fault d) on) ≡ on
      passed d w on = b.judged d w on ∙ ap (λ (n : ℕ). unless n (refusal_value (said j)) on) z

      faultless : (d : Diagram) → Ready d rows t → Faultless d
      faultless d w = record { walk = w.fine; outlets = (rows-clean d (outlet_fault d) (unless_row d (scenario_fault d) (accepted d)) d (passed d w (accepted d))).0 }

      kinds : (d : Diagram) → Ready d rows t → Kinds d rows u
      kinds d w = decide (has_box t rows)
          (λ e. let s = b.boxed z e d w in let few = w.few in record {
            count = w.kinds.count;
            cell = λ q l. s.records q (omega arith) (λ r m k y. absurd (omega arith)) ∙ w.kinds.cell q l;
            first = λ q l. s.records (cell_of 1 q) (omega arith) (λ r m k y. absurd (omega arith)) ∙ w.kinds.first q l;
          })
          (λ e. subst (Kinds d rows) (sym (b.boxless e)) w.kinds)
