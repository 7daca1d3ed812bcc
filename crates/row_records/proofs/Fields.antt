-- One row record: its uses, its length, its fields, its fault, its columns.
use Prim.Native.Nat.{ℕ, zero, suc, ◌+◌, ◌-◌, ◌*◌, ◌/◌, ◌≤◌, ◌<◌}
use mathlib.Core.Path.{◌≡◌, refl, sym, ◌∙◌, ap, ap₂}
use mathlib.Core.Logic.{◌≢◌}
use mathlib.Core.Bool.{Bool, true, false, not, cond, ◌&&◌}
use mathlib.Core.List.{List}
use native.Mathlib.Omega.{arith}
use lib.ListN.{length, drop}
use lib.Dec.{leb, ltb, eqb}
use borrow.Author.Tests.{lt-ltb, le-leb, lt-leb, ne_eqb}
use Rattle.effbd.specs.Records.{word, length_at, kind_at, kind_table, entry_in, length_of, fields_of, fault_at}
use Rattle.effbd.specs.Diagrams.{and_open, branch, and_close, or_open, or_close, it_open, it_close, lp_open, lp_close, loop_exit, end, box_open, box_close, box_exit, Use, Row, kind_of, uses_at, uses_fine, row_at, row_right, row_fine_as, row_fine, row_fault}
use Rattle.row_records.specs.Fields.{field_of, use_fine, is_row, function_right, function_fine, function_fault, turn_limit_fine}
use Rattle.row_records.specs.Rows.{uses_from, column, put_row, fill_row, use_fits, triggers_fit, trigger_fault}

positive : (x : ℕ) → not (eqb x 0) ≡ ltb 0 x
positive zero = refl
positive (suc n) = rw (ne_eqb (suc n) 0 (λ e. omega arith), lt-ltb 0 (suc n) (omega arith))

group : (a b c d : Bool) → (a && (b && (c && d))) ≡ ((a && (b && c)) && d)
group true true true d = refl
group true true false d = refl
group true false c d = refl
group false b c d = refl

pub uses-turn : (items from n : ℕ) (bytes : List ℕ) → uses_fine items from (uses_at (suc n) bytes)
    ≡ (use_fine items from (word bytes 0) (word bytes 2) (word bytes 4) && uses_fine items (suc (word bytes 0)) (uses_at n (drop 6 bytes)))
unfolding uses_fine uses_at use_fine
uses-turn items from n bytes = rw (positive (word bytes 2 + word bytes 4)) (group (leb from (word bytes 0)) (ltb (word bytes 0) items) (ltb 0 (word bytes 2 + word bytes 4)) (uses_fine items (suc (word bytes 0)) (uses_at n (drop 6 bytes))))

pub uses-none : (items from : ℕ) (bytes : List ℕ) → ◌≡◌ {A = Bool} true (uses_fine items from (uses_at 0 bytes))
unfolding uses_fine uses_at
uses-none items from bytes = refl

other : (a b c e f i j k m n o p q : Bool) (items : ℕ) (r : Row) → row_fine_as (cond a and_open (cond b branch (cond c and_close (cond e or_open (cond f or_close (cond false it_open (cond i it_close (cond j lp_open (cond k lp_close (cond m loop_exit (cond n branch (cond o box_open (cond p box_close (cond q box_exit end)))))))))))))) items r ≡ true
other true b c e f i j k m n o p q items r = refl
other false true c e f i j k m n o p q items r = refl
other false false true e f i j k m n o p q items r = refl
other false false false true f i j k m n o p q items r = refl
other false false false false true i j k m n o p q items r = refl
other false false false false false true j k m n o p q items r = refl
other false false false false false false true k m n o p q items r = refl
other false false false false false false false true m n o p q items r = refl
other false false false false false false false false true n o p q items r = refl
other false false false false false false false false false true o p q items r = refl
other false false false false false false false false false false true p q items r = refl
other false false false false false false false false false false false true q items r = refl
other false false false false false false false false false false false false true items r = refl
other false false false false false false false false false false false false false items r = refl

-- the table of kinds at a FUNCTION: where its fields end is where its uses begin, at the length that its kind gives
pub function-base : length_of 16 ≡ 8
unfolding length_of entry_in kind_table
function-base = refl

pub function-behind : 4 + 2 * fields_of 16 ≡ 8
unfolding fields_of entry_in kind_table
function-behind = refl

pub behind-base : {kind base behind : ℕ} → kind ≡ 16 → base ≡ length_of kind → behind ≡ 4 + 2 * fields_of kind → behind ≤ base
behind-base e eb eh = omega (arith, eb ∙ (ap length_of e ∙ function-base), eh ∙ (ap (λ (x : ℕ). 4 + 2 * fields_of x) e ∙ function-behind))

module _ (items : ℕ) (bytes : List ℕ) where
  -- a row's fault, from what one look at its kind picks
  fault-is : {r : ℕ} {due right fine : Bool} → due ≡ is_row (kind_at bytes) → right ≡ row_right items bytes → fine ≡ row_fine items (row_at bytes) → r ≡ fault_at bytes due right fine 5 → r ≡ row_fault items bytes
  unfolding row_fault is_row
  fault-is ed er ef e = e ∙ rw (ed, er, ef)

  right-not : {size n : ℕ} → size ≡ length_at bytes → n ≡ length_of (kind_at bytes) → kind_at bytes ≢ 16 → eqb size n ≡ row_right items bytes
  unfolding row_right
  right-not es en ne = rw (es, en, ne_eqb (kind_at bytes) 16 ne)

  fine-other : kind_at bytes ≢ 16 → kind_at bytes ≢ 22 → true ≡ row_fine items (row_at bytes)
  unfolding row_fine row_at kind_of
  fine-other p q = rw (ne_eqb (kind_at bytes) 16 p, ne_eqb (kind_at bytes) 22 q) (sym (other (eqb (kind_at bytes) 17) (eqb (kind_at bytes) 18) (eqb (kind_at bytes) 19) (eqb (kind_at bytes) 20) (eqb (kind_at bytes) 21) (eqb (kind_at bytes) 23) (eqb (kind_at bytes) 24) (eqb (kind_at bytes) 25) (eqb (kind_at bytes) 26) (eqb (kind_at bytes) 28) (eqb (kind_at bytes) 29) (eqb (kind_at bytes) 30) (eqb (kind_at bytes) 31) items _))

  module _ (base behind : ℕ) where
    -- where a FUNCTION is cut short its fields are not asked for
    pub function-cut : {size r : ℕ} {right : Bool} → size ≡ length_at bytes → right ≡ function_right size base items → length bytes < size → r ≡ fault_at bytes true right true 5
        → r ≡ function_fault base behind items bytes
    unfolding function_fault fault_at
    function-cut es er l e = let z : length bytes < length_at bytes = omega (arith, es, l) in e ∙ rw (er, es, lt-ltb (length bytes) (length_at bytes) z)

    pub function-whole : {size r : ℕ} {right fine : Bool} → size ≡ length_at bytes → right ≡ function_right size base items → fine ≡ function_fine base behind items bytes → r ≡ fault_at bytes true right fine 5
        → r ≡ function_fault base behind items bytes
    unfolding function_fault
    function-whole es er ef e = e ∙ rw (er, ef, es)

  pub function-fault : {kind base behind r : ℕ} → kind ≡ kind_at bytes → kind ≡ 16 → base ≡ length_of kind → behind ≡ 4 + 2 * fields_of kind → r ≡ function_fault base behind items bytes → r ≡ row_fault items bytes
  unfolding is_row function_right row_right row_fine row_at kind_of function_fine function_fault
  function-fault {kind} {base} {behind} {r} ek e eb eh er =
      let k : kind_at bytes ≡ 16 = sym ek ∙ e in
      let b : base ≡ 8 = eb ∙ (ap length_of e ∙ function-base) in
      let h : behind ≡ 8 = eh ∙ (ap (λ (x : ℕ). 4 + 2 * fields_of x) e ∙ function-behind) in
      let f : r ≡ function_fault 8 8 items bytes = er ∙ ap₂ (λ (x y : ℕ). function_fault x y items bytes) b h in
      fault-is (rw k) (rw k) (rw k) f

  pub limit-fault : {kind size n count r : ℕ} {fine : Bool} → kind ≡ kind_at bytes → size ≡ length_at bytes → kind ≡ 22 → n ≡ length_of kind → count ≡ word bytes 4 → fine ≡ turn_limit_fine count
      → r ≡ fault_at bytes true (eqb size n) fine 5 → r ≡ row_fault items bytes
  unfolding is_row row_fine row_at kind_of turn_limit_fine
  limit-fault ek es e en ec ef e5 =
      let k : kind_at bytes ≡ 22 = sym ek ∙ e in
      fault-is (rw k) (right-not es (en ∙ ap length_of ek) (λ q. let z : ◌≡◌ {A = ℕ} 16 22 = sym q ∙ k in omega arith)) (ef ∙ rw (k, ec)) e5

  pub other-fault : {kind size n r : ℕ} {due : Bool} → kind ≡ kind_at bytes → size ≡ length_at bytes → kind ≢ 16 → kind ≢ 22 → due ≡ is_row kind → n ≡ length_of kind
      → r ≡ fault_at bytes due (eqb size n) true 5 → r ≡ row_fault items bytes
  other-fault ek es p q ed en e5 =
      fault-is (ed ∙ ap is_row ek) (right-not es (en ∙ ap length_of ek) (λ x. p (ek ∙ x))) (fine-other (λ x. p (ek ∙ x)) (λ x. q (ek ∙ x))) e5

-- a row's columns
module _ (row at : ℕ) (bytes table : List ℕ) {kind fields first second : ℕ} (ek : kind ≡ kind_at bytes) (ef : fields ≡ fields_of kind)
    (e1 : first ≡ field_of fields 1 bytes) (e2 : second ≡ field_of fields 2 bytes) where
  pub function-row : {size base behind number : ℕ} {next : List ℕ} → kind ≡ 16 → size ≡ length_at bytes → base ≡ length_of kind → number ≡ (size - base) / 6 → behind ≡ 4 + 2 * fields_of kind
      → next ≡ put_row row kind first second (at + behind) number table → next ≡ fill_row row at bytes table
  unfolding fill_row column uses_from
  function-row e ez eb en eh f = let k : kind_at bytes ≡ 16 = sym ek ∙ e in f ∙ rw (e1, e2, ef, en, ez, eb, eh, e, k)

  pub killer-row : {next : List ℕ} → kind ≡ 28 → next ≡ put_row row 18 1 second 0 0 table → next ≡ fill_row row at bytes table
  unfolding fill_row column uses_from
  killer-row e f = let k : kind_at bytes ≡ 28 = sym ek ∙ e in f ∙ rw (e2, ef, e, k)

  pub other_row : {next : List ℕ} → kind ≢ 16 → kind ≢ 28 → next ≡ put_row row kind first second 0 0 table → next ≡ fill_row row at bytes table
  unfolding fill_row column uses_from
  other_row p q f = f ∙ rw (e1, e2, ef, ek, ne_eqb (kind_at bytes) 16 (λ x. p (ek ∙ x)), ne_eqb (kind_at bytes) 28 (λ x. q (ek ∙ x)))

module _ (items : ℕ) (bytes : List ℕ) where
  pub uses-stop : (from left item took gave : ℕ) → 0 < left → item ≡ word bytes 0 → took ≡ word bytes 2 → gave ≡ word bytes 4 → use_fine items from item took gave ≡ false
      → false ≡ uses_fine items from (uses_at left bytes)
  uses-stop from zero item took gave p a b c e = absurd (omega arith)
  uses-stop from (suc n) item took gave p a b c e = sym (uses-turn items from n bytes ∙ (let z : use_fine items from (word bytes 0) (word bytes 2) (word bytes 4) ≡ false = rw (← a, ← b, ← c) e in rw z))

  pub uses-go : (from left more item took gave : ℕ) (rest : List ℕ) → left ≡ suc more → item ≡ word bytes 0 → took ≡ word bytes 2 → gave ≡ word bytes 4 → use_fine items from item took gave ≡ true → rest ≡ drop 6 bytes
      → uses_fine items (item + 1) (uses_at more rest) ≡ uses_fine items from (uses_at left bytes)
  uses-go from left n item took gave rest p a b c e f =
      let i : item ≡ word bytes 0 = a in
      let z : use_fine items from (word bytes 0) (word bytes 2) (word bytes 4) ≡ true = rw (← a, ← b, ← c) e in
      let j : item + 1 ≡ suc (word bytes 0) = omega (arith, i) in
      rw (p, j, f) (sym (uses-turn items from n bytes ∙ (let y : (use_fine items from (word bytes 0) (word bytes 2) (word bytes 4) && uses_fine items (suc (word bytes 0)) (uses_at n (drop 6 bytes))) ≡ uses_fine items (suc (word bytes 0)) (uses_at n (drop 6 bytes)) = rw z in y)))

  module _ (base behind : ℕ) where
    pub function-bad : (second first : ℕ) → second ≡ word bytes 6 → first ≡ word bytes 4 → second < first → false ≡ function_fine base behind items bytes
    unfolding function_fine
    function-bad second first a b h = let z : leb (word bytes 4) (word bytes 6) ≡ false = rw (← a, ← b) (lt-leb first second h) in rw z

    pub function-good : (second first size n : ℕ) (t : List ℕ) (b : Bool) → second ≡ word bytes 6 → first ≡ word bytes 4 → first ≤ second → t ≡ drop behind bytes → size ≡ word bytes 0 → n ≡ (size - base) / 6
        → b ≡ uses_fine items 0 (uses_at n t) → b ≡ function_fine base behind items bytes
    unfolding function_fine
    function-good second first size n t b eh el h et es en eb =
        let z : leb (word bytes 4) (word bytes 6) ≡ true = rw (← eh, ← el) (le-leb first second h) in
        rw (z, eb, et, en, es)

-- a record whose length and kind are cut short
pub short : (bytes : List ℕ) (due right fine : Bool) (number : ℕ) → length bytes < 4 → 1 ≡ fault_at bytes due right fine number
unfolding fault_at
short bytes due right fine number l = rw (lt-ltb (length bytes) 4 l)

pub row-short : (items : ℕ) (bytes : List ℕ) → length bytes < 4 → 1 ≡ row_fault items bytes
unfolding row_fault
row-short items bytes = short bytes _ _ _ 5

-- 43: one use after another
abbrev use_at : List ℕ → Use
use_at bytes = record { item = word bytes 0; take = word bytes 2; give = word bytes 4 }

module _ (table bytes : List ℕ) where
  pub fits-stop : (left item took gave : ℕ) → 0 < left → item ≡ word bytes 0 → took ≡ word bytes 2 → gave ≡ word bytes 4 → false ≡ use_fits table (record { item = item; take = took; give = gave })
      → false ≡ triggers_fit table (uses_at left bytes)
  unfolding triggers_fit uses_at
  fits-stop zero item took gave p a b c e = absurd (omega arith)
  fits-stop (suc n) item took gave p a b c e = let z : use_fits table (use_at bytes) ≡ false = rw (← a, ← b, ← c) (sym e) in rw z

  pub fits-go : (left more item took gave : ℕ) (rest : List ℕ) → left ≡ suc more → item ≡ word bytes 0 → took ≡ word bytes 2 → gave ≡ word bytes 4 → true ≡ use_fits table (record { item = item; take = took; give = gave })
      → rest ≡ drop 6 bytes → triggers_fit table (uses_at more rest) ≡ triggers_fit table (uses_at left bytes)
  unfolding triggers_fit uses_at
  fits-go left n item took gave rest p a b c e f =
      let z : use_fits table (use_at bytes) ≡ true = rw (← a, ← b, ← c) (sym e) in
      rw (p, f, z)

  pub fits-over : (left : ℕ) → left ≡ 0 → true ≡ triggers_fit table (uses_at left bytes)
  unfolding triggers_fit uses_at
  fits-over left e = rw e

  -- a row without uses has no such fault
  pub no-uses : {kind : ℕ} → kind ≡ kind_at bytes → kind ≢ 16 → 0 ≡ trigger_fault table bytes
  unfolding trigger_fault row_at triggers_fit
  no-uses ek ne = rw (ne_eqb (kind_at bytes) 16 (λ z. ne (ek ∙ z)))

  module _ {kind size base n behind : ℕ} {uses : List ℕ} {fit : Bool} (ek : kind ≡ kind_at bytes) (e : kind ≡ 16) (es : size ≡ length_at bytes) (eb : base ≡ length_of kind) (en : n ≡ (size - base) / 6)
      (eh : behind ≡ 4 + 2 * fields_of kind) (eu : uses ≡ drop behind bytes) (ef : fit ≡ triggers_fit table (uses_at n uses)) where
    fit_is : fit ≡ triggers_fit table (row_at bytes).uses
    unfolding row_at
    fit_is =
        let k : kind_at bytes ≡ 16 = sym ek ∙ e in
        let b : base ≡ 8 = eb ∙ (ap length_of e ∙ function-base) in
        let h : behind ≡ 8 = eh ∙ (ap (λ (x : ℕ). 4 + 2 * fields_of x) e ∙ function-behind) in
        rw (k, ef, en, eu, es, b, h)

    pub fault-none : fit ≡ true → 0 ≡ trigger_fault table bytes
    unfolding trigger_fault
    fault-none z = rw (← fit_is, z)

    pub fault-some : fit ≡ false → 43 ≡ trigger_fault table bytes
    unfolding trigger_fault
    fault-some z = rw (← fit_is, z)
