-- From what the readers leave to what the crate promises, and what later code takes from the promise.
use Prim.Native.Nat.{ℕ, zero, suc, ◌+◌, ◌-◌, ◌*◌, ◌/◌, ◌≤◌, ◌<◌, zero-le}
use mathlib.Core.Path.{◌≡◌, refl, sym, ◌∙◌, ap, ap₂, subst}
use mathlib.Core.Logic.{◌≢◌}
use mathlib.Core.Bool.{Bool, true, false, cond}
use mathlib.Core.List.{List, [], ◌∷◌}
use native.Mathlib.Omega.{arith}
use lib.ListN.{length, get_or, take, drop, length-take, length-drop, get_or-eq_default}
use lib.Dec.{eqb}
use lib.Seq.{get_or-take, take-nil}
use borrow.Author.Tests.{le-leb, eqb-true, eqb-false, eq-eqb}
use Rattle.std.specs.Prelude.{Result, Ok, Err}
use Rattle.effbd.specs.declared.refusals.Refusal.{Refusal}
use Rattle.effbd.specs.Answers.{Outcome, accepted, refused, unless, and_then, number, said, refusal_number, refusal_value}
use Rattle.effbd.specs.Records.{word, length_at, are_bytes}
use Rattle.effbd.specs.Diagrams.{most_rows, function, box_exit, end, number_of, same_kind, Use, Row, plain, Diagram, row_count, kind, is_kind, uses_at}
use Rattle.effbd.specs.Nesting.{nesting_fault, unless_row, nested, read_diagram, from_row, Part, part_in, uses_part_of, uses_part}
use Rattle.effbd.specs.Counts.{count_total}
use Rattle.effbd.specs.Layout.{places}
use Rattle.effbd.specs.States.{state_length}
use Rattle.row_records.specs.Rows.{Reached}
use Rattle.diagram.specs.declared.Diagram.{Diagram as Parse}
use Rattle.diagram_records.specs.Reading.{Tabled, Recorded}
use Rattle.nesting.specs.Runs.{Kinds, NestingRead}
use Rattle.diagram_structure.specs.Structure.{structure_filled}
use Rattle.outlets.specs.Outlets.{has_box}
use Rattle.diagram_rules.specs.Rules.{Ready, Structured, RulesRead}
use Rattle.diagram_rules.proofs.Behind.{plain-structured}
use Rattle.diagram_file.specs.Tables.{Judged, Filled, DiagramOf, PartIs}
use Rattle.diagram_table.specs.declared.Part.{Part as Lies}
use Rattle.diagram_table.specs.Cells.{cell_of, item_cell, some_trigger_cell, cell_total, some_trigger_in, uses_start_in, uses_number_in, uses_part_in, uses_bytes, uses_of, uses_in}
use Rattle.diagram_table.specs.Held.{Tabulated, Holds, HoldsUses, HoldsFile}
use Rattle.ranges.specs.Tests.{decide, clash}
use Rattle.ranges.specs.Outcomes.{unless-refused}
use Rattle.ranges.specs.Reasons.{number-some}
use Rattle.agreement.specs.AcceptedFiles.{held, nested-clear}
use Rattle.agreement.specs.RowFaults.{rows-clean, rows-faultless}
use Rattle.agreement.specs.Sources.{counts-are, no_copies}
use Rattle.copies.specs.Promised.{CopyTotal}
use Rattle.diagram_records.proofs.Files.{two-parts}
use Rattle.nesting.proofs.Stacks.{owner-low, loop-low, close-low}

-- a judgement of rows
abbrev pub Verdict : Type 0
Verdict = Result (Unit {0}) Refusal

refused-back : {A : Type 0} (x : Outcome A) (n v : ℕ) → n ≡ refusal_number x → v ≡ refusal_value x → n ≢ 0 → x ≡ refused n v
refused-back (accepted a) n v en ev ne = absurd (ne en)
refused-back (refused m w) n v en ev ne = ap₂ refused (sym en) (sym ev)

drop-take : (k n m : ℕ) (l : List ℕ) → n ≡ k + m → drop k (take n l) ≡ take m (drop k l)
drop-take zero n m l e = ap (λ (x : ℕ). take x l) (let z : n ≡ m = omega arith in z)
drop-take (suc k) zero m l e = absurd (omega arith)
drop-take (suc k) (suc n) m [] e = sym (take-nil m)
drop-take (suc k) (suc n) m (x ∷ l) e = drop-take k n m l (omega arith)

-- the uses of a row in a part of the file are those in the file from the part's start on
uses-within : (n : ℕ) (l : List ℕ) → uses_at n (take (6 * n) l) ≡ uses_at n l
unfolding uses_at
uses-within zero l = refl
uses-within (suc n) l =
    let six : 6 * suc n ≡ 6 + 6 * n = omega arith in
    ap₂ (λ (u : Use) (us : List Use). u ∷ us) (first six) (ap (uses_at n) (drop-take 6 (6 * suc n) (6 * n) l six) ∙ uses-within n (drop 6 l))
  where
    at : (i : ℕ) → i < 6 → get_or (take (6 * suc n) l) i 0 ≡ get_or l i 0
    at i h = get_or-take (6 * suc n) l i 0 (omega arith)

    first : 6 * suc n ≡ 6 + 6 * n → ◌≡◌ {A = Use} (record { item = word (take (6 * suc n) l) 0; take = word (take (6 * suc n) l) 2; give = word (take (6 * suc n) l) 4 }) (record { item = word l 0; take = word l 2; give = word l 4 })
    first six = rw (at 0 (omega arith), at 1 (omega arith), at 2 (omega arith), at 3 (omega arith), at 4 (omega arith), at 5 (omega arith))

uses-in : (t file : List ℕ) (r : ℕ) → uses_start_in t r + 6 * uses_number_in t r ≤ length file → uses_in t file r ≡ uses_at (uses_number_in t r) (drop (uses_start_in t r) file)
unfolding uses_bytes uses_of
uses-in t file r h =
    let n = uses_number_in t r in
    let l : length (take (6 * n) (drop (uses_start_in t r) file)) ≡ 6 * n = simp (length-take, length-drop) (omega arith) in
    let d : 6 * n / 6 ≡ n = omega arith in
    rw (le-leb (uses_start_in t r + 6 * uses_number_in t r) (length file) h, l, d) (uses-within n (drop (uses_start_in t r) file))

-- ---- a file is refused
refused-is : {file t : List ℕ} (n v : ℕ) → n ≢ 0 → read_diagram file ≡ refused n v → Judged file t n v
refused-is n v ne e = record { number-is = ap refusal_number (sym e); value-is = ap refusal_value (sym e); tabled = λ z. absurd (ne z); read = λ z. absurd (ne z); boxed = λ z. absurd (ne z) }

pub refused-records : {file t : List ℕ} {r : Reached} → Recorded file t r → r.fault ≢ 0 → Judged file t r.fault r.at
refused-records {file} {t} {r} w ne = refused-is r.fault r.at ne (two-parts file ∙ ap (λ x. and_then x nested) (w.refusal ne))

module _ {file t : List ℕ} (w : Tabled file t) where
  abbrev dia : Diagram
  dia = w.diagram

  pub few-rows : word file 6 ≤ most_rows
  few-rows = w.tabulated.few_rows

  pub some-row : 1 ≤ word file 6
  some-row = w.tabulated.some_row

  kinds-in : Kinds dia (word file 6) t
  kinds-in = record { count = w.tabulated.rows_are; cell = w.tabulated.kinds; first = w.tabulated.firsts }

  read-nested : read_diagram file ≡ nested dia
  read-nested = two-parts file ∙ ap (λ x. and_then x nested) w.read

  -- the walk
  module _ {j : Verdict} {rows : ℕ} (e : rows ≡ word file 6) (n : NestingRead t rows j) where
    walked : (on : Outcome Diagram) → unless_row dia (nesting_fault dia) on ≡ unless (refusal_number (said j)) (refusal_value (said j)) on
    walked = (subst (λ (x : ℕ). NestingRead t x j) e n).judged dia kinds-in

    pub refused-nesting : (refusal_number (said j)) ≢ 0 → Judged file t (refusal_number (said j)) (refusal_value (said j))
    unfolding nested
    refused-nesting ne = refused-is (refusal_number (said j)) (refusal_value (said j)) ne (read-nested ∙ (walked _ ∙ unless-refused (refusal_number (said j)) (refusal_value (said j)) _ ne))

    pub ready : (refusal_number (said j)) ≡ 0 → length t ≡ cell_total → Ready dia (word file 6) t
    ready z long = record { long = long; some = some-row; few = few-rows; kinds = kinds-in; fine = (rows-clean dia (nesting_fault dia) (accepted dia) dia (passed z _)).0 }
      where
        passed : (refusal_number (said j)) ≡ 0 → (on : Outcome Diagram) → unless_row dia (nesting_fault dia) on ≡ on
        passed z on = walked on ∙ ap (λ (x : ℕ). unless x (refusal_value (said j)) on) z

  -- the records' columns stay where the structure is filled in
  module _ {u : List ℕ} (s : Structured dia (word file 6) t u) where
    record-kept : (c r : ℕ) → c < 5 → c ≢ 2 → r < word file 6 → get_or u (cell_of c r) 0 ≡ get_or t (cell_of c r) 0
    record-kept c r l n b = let few = few-rows in s.records (cell_of c r) (omega arith) (λ q m k z. absurd (omega arith))

    second-kept : (r : ℕ) → r < word file 6 → is_kind dia box_exit r ≡ false → get_or u (cell_of 2 r) 0 ≡ get_or t (cell_of 2 r) 0
    second-kept r b n = let few = few-rows in s.records (cell_of 2 r) (omega arith)
        (λ q m k z. let y : r ≡ q = omega arith in clash (eq-eqb (number_of (kind dia r)) 31 (sym (w.tabulated.kinds r b) ∙ (ap (λ (x : ℕ). get_or t x 0) y ∙ k))) n)

    tabulated : Tabulated dia (word file 6) (word file 8) u
    tabulated =
        let b = w.tabulated in let few = few-rows in
        record {
          rows_are = b.rows_are;
          items_are = b.items_are;
          some_row = b.some_row;
          few_rows = b.few_rows;
          few_items = b.few_items;
          kinds = λ r l. s.records r (omega arith) (λ q m k z. absurd (omega arith)) ∙ b.kinds r l;
          firsts = λ r l. record-kept 1 r (omega arith) (λ z. absurd (omega arith)) l ∙ b.firsts r l;
          seconds = λ r l n. second-kept r l n ∙ b.seconds r l n;
          numbers = λ r l. record-kept 4 r (omega arith) (λ z. absurd (omega arith)) l ∙ b.numbers r l;
          counts = λ k l. s.items (item_cell 0 k) (omega arith) ∙ b.counts k l;
          triggers = λ k l. s.items (item_cell 1 k) (omega arith) ∙ b.triggers k l;
          no_trigger = λ e. b.no_trigger (sym (s.items some_trigger_cell (omega arith)) ∙ e);
        }

    offset : (r : ℕ) → r < row_count dia → uses_start_in u r ≡ uses_start_in t r
    offset r l = record-kept 3 r (omega arith) (λ z. absurd (omega arith)) (let e = w.tabulated.rows_are in omega arith)

    uses-number : (r : ℕ) → r < row_count dia → uses_number_in u r ≡ uses_number_in t r
    uses-number r l = record-kept 4 r (omega arith) (λ z. absurd (omega arith)) (let e = w.tabulated.rows_are in omega arith)

    tabled : Tabled file u
    tabled = let b = w.uses in record {
      diagram = dia;
      read = w.read;
      tabulated = tabulated;
      uses = record {
        offsets = λ r l. offset r l ∙ b.offsets r l;
        sizes = λ r l. ap (λ (x : ℕ). 6 * x) (uses-number r l) ∙ b.sizes r l;
        inside = λ r l. rw (offset r l, uses-number r l) (b.inside r l);
        uses = λ r l. rw (offset r l, uses-number r l) (b.uses r l);
      };
    }

    own-structured : Structured dia (word file 6) u u
    own-structured = record {
      long = refl;
      records = λ i l f. refl;
      items = λ i l. refl;
      owners = s.owners;
      branches = s.branches;
      closes = s.closes;
      loops = s.loops;
      outlets = s.outlets;
      scenario_lasts = s.scenario_lasts;
    }

  -- the rules behind the walk
  module _ {rows : ℕ} (e : rows ≡ word file 6) (d : Ready dia (word file 6) t) {i : Verdict} {u : List ℕ} (m : RulesRead rows t u i) where
    rules : RulesRead (word file 6) t u i
    rules = subst (λ (x : ℕ). RulesRead x t u i) e m

    judged : read_diagram file ≡ unless (refusal_number (said i)) (refusal_value (said i)) (accepted dia)
    unfolding nested
    judged = read-nested ∙ (rows-faultless dia (nesting_fault dia) d.fine _ ∙ rules.judged dia d (accepted dia))

    judged-fine : (refusal_number (said i)) ≡ 0 → read_diagram file ≡ accepted dia → Judged file u 0 0
    unfolding tabled
    judged-fine y r = decide (has_box t (word file 6))
        (λ b. let s = rules.boxed y b dia d in
        record { number-is = ap refusal_number (sym r); value-is = ap refusal_value (sym r); tabled = λ _. tabled s; read = λ _. r; boxed = λ _ _. own-structured s })
        (λ b. subst (λ (x : List ℕ). Judged file x 0 0) (sym (rules.boxless b))
        (record { number-is = ap refusal_number (sym r); value-is = ap refusal_value (sym r); tabled = λ _. w; read = λ _. r; boxed = λ _ h. clash h b }))

    pub judged-rules : Judged file u (refusal_number (said i)) (refusal_value (said i))
    judged-rules = decide (eqb (refusal_number (said i)) 0)
        (λ e. let y = eqb-true (refusal_number (said i)) 0 e in rw (y, m.none y) (judged-fine y (judged ∙ ap (λ (x : ℕ). unless x (refusal_value (said i)) (accepted dia)) y)))
        (λ e. let ne = eqb-false (refusal_number (said i)) 0 e in refused-is (refusal_number (said i)) (refusal_value (said i)) ne (judged ∙ unless-refused (refusal_number (said i)) (refusal_value (said i)) (accepted dia) ne))

  -- ---- the structure of an accepted file
  module _ (got : read_diagram file ≡ accepted dia) where
    acc : nested dia ≡ accepted dia
    acc = sym read-nested ∙ got

    pub ready_read : length t ≡ cell_total → Ready dia (word file 6) t
    ready_read long = record { long = long; some = some-row; few = few-rows; kinds = kinds-in; fine = (nested-clear dia dia acc).walk }

    holds : {u : List ℕ} → length t ≡ cell_total → Structured dia (word file 6) t u → Holds dia (word file 6) (word file 8) u
    holds long s = record {
      nests = acc;
      long = let z = s.long ∙ long in omega arith;
      records = tabulated s;
      owners = s.owners;
      branches = s.branches;
      closes = s.closes;
      loops = s.loops;
      outlets = s.outlets;
      scenario_lasts = s.scenario_lasts;
      owner_low = owner-low dia;
      loop_low = loop-low dia;
      close_low = λ r. rw w.tabulated.rows_are (close-low dia r);
    }

    part-is : (r : ℕ) → r < row_count dia → uses_part file r ≡ uses_part_in t r
    unfolding uses_part
    part-is r l = ap (uses_part_of file r) got ∙ go (is_kind dia function r) (uses_start_in t r) (6 * uses_number_in t r) (w.uses.offsets r l) (w.uses.sizes r l)
      where
        go : (c : Bool) (x y : ℕ) → x ≡ cond c (length file - length (from_row file r) + 8) 0 → y ≡ cond c (length_at (from_row file r) - 8) 0
            → ◌≡◌ {A = Part} (cond c (record { start = length file - length (from_row file r) + 8; size = length_at (from_row file r) - 8 }) (record { start = 0; size = 0 })) (record { start = x; size = y })
        go true x y p q = ap₂ (λ (a b : ℕ). record { start = a; size = b }) (sym p) (sym q)
        go false x y p q = ap₂ (λ (a b : ℕ). record { start = a; size = b }) (sym p) (sym q)

    holds-uses : {u : List ℕ} → Structured dia (word file 6) t u → HoldsUses file dia u
    holds-uses {u} s =
        let b = w.uses in
        let inside : (r : ℕ) → r < row_count dia → uses_start_in u r + 6 * uses_number_in u r ≤ length file = λ r l. rw (offset s r l, uses-number s r l) (b.inside r l) in
        record {
          uses = λ r l. uses-in u file r (inside r l) ∙ rw (offset s r l, uses-number s r l) (b.uses r l);
          part = λ r l. rw (offset s r l, uses-number s r l) (part-is r l);
          inside = inside;
        }

    structured-holds : {u : List ℕ} → length t ≡ cell_total → Structured dia (word file 6) t u → HoldsFile file (word file 6) (word file 8) u
    structured-holds long s = record { diagram = dia; read = got; holds = holds long s; uses = holds-uses s }

module _ {file t : List ℕ} {refusal value : ℕ} (w : Judged file t refusal value) where
  pub filled-refused : refusal ≢ 0 → Filled file t refusal value
  filled-refused ne = record { number-is = w.number-is; value-is = w.value-is; holds = λ z. absurd (ne z) }

  -- a row opens a box: the structure is there
  pub filled-boxed : {n : ℕ} → (z : refusal ≡ 0) → length t ≡ cell_total → n ≡ word file 6 → has_box t n ≡ true → Filled file t refusal value
  filled-boxed z long en h = record {
    number-is = w.number-is;
    value-is = w.value-is;
    holds = λ _. structured-holds (w.tabled z) (w.read z) long (w.boxed z (subst (λ (x : ℕ). has_box t x ≡ true) en h));
  }

  pub filled-plain : {n : ℕ} {u : List ℕ} → refusal ≡ 0 → length t ≡ cell_total → n ≡ word file 6 → has_box t n ≡ false → u ≡ structure_filled n t → Filled file u refusal value
  filled-plain z long en h eu = record {
    number-is = w.number-is;
    value-is = w.value-is;
    holds = λ _. subst (HoldsFile file (word file 6) (word file 8)) (sym (eu ∙ ap (λ (x : ℕ). structure_filled x t) en)) (structured-holds (w.tabled z) (w.read z) long
        (plain-structured (w.tabled z).diagram (word file 6) t (ready_read (w.tabled z) (w.read z) long) (subst (λ (x : ℕ). has_box t x ≡ false) en h)));
  }

  -- ---- a file's answer
  pub length-refused : refusal ≢ 0 → refused refusal value ≡ state_length file
  unfolding state_length
  length-refused ne = sym (ap (λ x. and_then x (λ d. accepted (places d))) (refused-back (read_diagram file) refusal value w.number-is w.value-is ne))

  module _ (z : refusal ≡ 0) {n m : ℕ} (en : n ≡ word file 6) (em : m ≡ word file 8) where
    -- the words of the state of a diagram with so many counts
    length-is : {c : ℕ} → c ≡ count_total (w.tabled z).diagram → accepted (3 * n + c) ≡ state_length file
    unfolding state_length
    length-is e =
        let b = (w.tabled z).tabulated in
        sym (ap (λ x. and_then x (λ d. accepted (places d))) (w.read z) ∙ ap₂ (λ (x y : ℕ). accepted (3 * x + y)) (sym (en ∙ b.rows_are)) (sym e))

    pub length-plain : {s : ℕ} → s ≡ some_trigger_in t → s ≡ 0 → accepted (3 * n + m) ≡ state_length file
    length-plain e none =
        let b = (w.tabled z).tabulated in
        length-is (em ∙ (b.items_are ∙ sym (no_copies (w.tabled z).diagram (λ k l. b.no_trigger (sym e ∙ none) k (let i = b.items_are in omega arith)))))

    pub length-copies : are_bytes file ≡ true → {c : ℕ} → CopyTotal file n m t c → accepted (3 * n + m + c) ≡ state_length file
    length-copies bytes {c} total =
        let d = (w.tabled z).diagram in let b = (w.tabled z).tabulated in let u = (w.tabled z).uses in
        let tab : Tabulated d n m t = subst (λ (x : ℕ). Tabulated d x m t) (sym en) (subst (λ (x : ℕ). Tabulated d (word file 6) x t) (sym em) b) in
        let many = total.of d (held file d bytes (w.read z)) tab (λ q l. uses-in t file q (u.inside q l) ∙ u.uses q l) in
        let sum : 3 * n + m + c ≡ 3 * n + (m + c) = omega arith in
        ap accepted sum ∙ length-is (omega (arith, em, b.items_are, many, counts-are d))

-- ---- what is read
pub parsed-refused : (file t : List ℕ) (e : Refusal) → Filled file t (number e.reason) e.value → DiagramOf file (Err e)
parsed-refused file t e f = record { number-is = f.number-is; value-is = f.value-is; rows = tt; items = tt; holds = tt }

pub parsed-is : (file t : List ℕ) (n m : ℕ) → Filled file t 0 0 → n ≡ word file 6 → m ≡ word file 8 → DiagramOf file (Ok (record { rows = n; items = m; table = t }))
parsed-is file t n m f en em = record {
  number-is = f.number-is;
  value-is = f.value-is;
  rows = en;
  items = em;
  holds = subst (λ (x : ℕ). HoldsFile file x m t) (sym en) (subst (λ (x : ℕ). HoldsFile file (word file 6) x t) (sym em) (f.holds refl));
}

-- ---- what later code takes from the promise
pub turned-away : (file : List ℕ) (e : Refusal) → DiagramOf file (Err e) → read_diagram file ≡ refused (number e.reason) e.value
turned-away file e w = refused-back (read_diagram file) (number e.reason) e.value w.number-is w.value-is (number-some e.reason)

-- the parts of the file
no-part : (file : List ℕ) (r : ℕ) → uses_part file r ≡ record { start = 0; size = 0 } → PartIs file (uses_part file r) (record { start = 0; size = 0 })
no-part file r e = rw e (record { start = refl; size = refl; inside = zero-le; near = (omega arith, omega arith) })

pub part-refused : (file : List ℕ) (e : Refusal) → DiagramOf file (Err e) → (r : ℕ) → PartIs file (uses_part file r) (record { start = 0; size = 0 })
unfolding uses_part
part-refused file e w r = no-part file r (ap (uses_part_of file r) (turned-away file e w))

module _ (file : List ℕ) (p : Parse) (w : DiagramOf file (Ok p)) where
  pub part_none : (r : ℕ) → p.rows ≤ r → PartIs file (uses_part file r) (record { start = 0; size = 0 })
  unfolding uses_part
  part_none r l =
      let h = w.holds in
      let past : row_count h.diagram ≤ r = omega (arith, h.holds.records.rows_are) in
      let k : is_kind h.diagram function r ≡ false = ap (λ (x : Row). same_kind x.kind function) (get_or-eq_default h.diagram.rows (plain end) past) in
      no-part file r (ap (uses_part_of file r) h.read
      ∙ ap (λ b. cond b (record { start = length file - length (from_row file r) + 8; size = length_at (from_row file r) - 8 }) (record { start = 0; size = 0 })) k)

  pub part-there : (r : ℕ) (q : Lies) → r < p.rows → (q.start ≡ uses_start_in p.table r) × (q.size ≡ 6 * uses_number_in p.table r) → (q.start < 65536) × (q.size < 393216)
      → PartIs file (uses_part file r) q
  part-there r q l e near =
      let h = w.holds in
      let i : r < row_count h.diagram = omega (arith, h.holds.records.rows_are) in
      let u = h.uses.part r i in
      record { start = e.0 ∙ sym (ap (λ (x : Part). x.start) u); size = e.1 ∙ sym (ap (λ (x : Part). x.size) u); inside = rw (e.0, e.1) (h.uses.inside r i); near = near }

-- the part that was cut
pub part_cut : (file : List ℕ) (part : Part) (q : Lies) → PartIs file part q → take (q.start + q.size - q.start) (drop q.start file) ≡ part_in file part
part_cut file part q w = let z : q.start + q.size - q.start ≡ q.size = omega arith in rw (z, w.start, w.size)
