-- One writer after another, and a loop of writers: what is written, before what is left to write, is the whole.
use Rattle.std.specs.Prelude.{ℕ, suc, ◌+◌, ◌≤◌, ◌≡◌, refl, List, [], ◌∷◌, ◌++◌, length, set}
use Rattle.std.proofs.Common.{sym, ◌∙◌, ap, subst, append_assoc, append-nil, arith, add-one, length-set, lt-ltb}
use Rattle.std.proofs.Math.Seq.{drop-nil}
use Rattle.effbd.specs.Annex.{over}
use Rattle.text.specs.declared.Text.{Text}
use Rattle.text.specs.Laid.{behind, lay, reach, Laid}

lay-append : (xs ys area : List ℕ) (at : ℕ) → lay area at (xs ++ ys) ≡ lay (lay area at xs) (reach at xs) ys
unfolding lay reach
lay-append [] ys area at = refl
lay-append (x ∷ xs) ys area at = lay-append xs ys (set area at x) (behind at)

reach-append : (xs ys : List ℕ) (at : ℕ) → reach at (xs ++ ys) ≡ reach (reach at xs) ys
unfolding reach
reach-append [] ys at = refl
reach-append (x ∷ xs) ys at = reach-append xs ys (behind at)

pub still : (text : Text) → Laid text text []
unfolding lay reach
still text = record { area = refl; reached = refl; lender = refl }

pub one : (before after : Text) (b : ℕ) → after.bytes.now ≡ set before.bytes.now before.at b → after.at ≡ behind before.at → after.bytes.ghost_name ≡ before.bytes.ghost_name → Laid before after (b ∷ [])
unfolding lay reach
one before after b e h g = record { area = e; reached = h; lender = g }

pub and_then : {a b c : Text} {xs ys : List ℕ} → Laid a b xs → Laid b c ys → Laid a c (xs ++ ys)
and_then {a} {b} {c} {xs} {ys} v w = record {
  area = w.area ∙ (ap (λ (l : List ℕ). lay l b.at ys) v.area ∙ (ap (λ (k : ℕ). lay (lay a.bytes.now a.at xs) k ys) v.reached ∙ sym (lay-append xs ys a.bytes.now a.at)));
  reached = w.reached ∙ (ap (λ (k : ℕ). reach k ys) v.reached ∙ sym (reach-append xs ys a.at));
  lender = w.lender ∙ v.lender;
}

pub same : {a b : Text} {xs ys : List ℕ} → xs ≡ ys → Laid a b xs → Laid a b ys
same {a} {b} e w = subst (λ (l : List ℕ). Laid a b l) e w

lay-length : (bytes area : List ℕ) (at : ℕ) → length (lay area at bytes) ≡ length area
unfolding lay
lay-length [] area at = refl
lay-length (b ∷ bytes) area at = lay-length bytes (set area at b) (behind at) ∙ length-set area at b

pub laid-length : {a b : Text} {xs : List ℕ} → Laid a b xs → length b.bytes.now ≡ length a.bytes.now
laid-length {a} {b} {xs} v = ap length v.area ∙ lay-length xs a.bytes.now a.at

pub record Ongoing (before after : Text) (left whole : List ℕ) : Type 0 where
  pub written : List ℕ
  pub laid : Laid before after written
  pub all : written ++ left ≡ whole

pub begun : (text : Text) (whole : List ℕ) → Ongoing text text whole whole
begun text whole = record { written = []; laid = still text; all = refl }

pub onward : {a b c : Text} {whole : List ℕ} (part left left' : List ℕ) → left ≡ part ++ left' → Ongoing a b left whole → Laid b c part → Ongoing a c left' whole
onward part left left' e o w = record {
  written = o.written ++ part;
  laid = and_then o.laid w;
  all = append_assoc o.written part left' ∙ (ap (λ (l : List ℕ). o.written ++ l) (sym e) ∙ o.all);
}

pub done : {a b : Text} {left whole : List ℕ} → left ≡ [] → Ongoing a b left whole → Laid a b whole
done e o = same (sym (append-nil o.written) ∙ (ap (λ (l : List ℕ). o.written ++ l) (sym e) ∙ o.all)) o.laid

pub ongoing-length : {a b : Text} {left whole : List ℕ} → Ongoing a b left whole → length b.bytes.now ≡ length a.bytes.now
ongoing-length o = laid-length o.laid

-- bytes laid from the start of an area, and how far they reach: plain, where they end before the positions stop
behind-next : (at : ℕ) → suc at ≤ 1000000000000 → behind at ≡ suc at
unfolding behind
behind-next at l = rw (lt-ltb at 1000000000000 l) (add-one at)

pub reaches : (bytes : List ℕ) (at : ℕ) → at + length bytes ≤ 1000000000000 → reach at bytes ≡ at + length bytes
unfolding reach
reaches [] at l = omega arith
reaches (b ∷ bytes) at l = ap (λ (k : ℕ). reach k bytes) (behind-next at (omega arith)) ∙ (reaches bytes (suc at) (omega arith) ∙ omega arith)

pub laid-size : {a b : Text} {xs : List ℕ} → a.at ≡ 0 → Laid a b xs → length xs ≤ 1000000000000 → b.at ≡ length xs
laid-size {a} {b} {xs} z v l = v.reached ∙ (ap (λ (k : ℕ). reach k xs) z ∙ (reaches xs 0 (omega arith) ∙ omega arith))

lay-none : (bytes : List ℕ) (at : ℕ) → lay [] at bytes ≡ []
unfolding lay
lay-none [] at = refl
lay-none (b ∷ bytes) at = lay-none bytes (behind at)

-- one position further on in an area with one byte more before it
lay-further : (bytes area : List ℕ) (x at : ℕ) → suc at + length bytes ≤ 1000000000000 → lay (x ∷ area) (suc at) bytes ≡ x ∷ lay area at bytes
unfolding lay
lay-further [] area x at l = refl
lay-further (b ∷ bytes) area x at l =
    ap (λ (k : ℕ). lay (x ∷ set area at b) k bytes) (behind-next (suc at) (omega arith) ∙ ap suc (sym (behind-next at (omega arith))))
    ∙ lay-further bytes (set area at b) x (behind at) (let e = behind-next at (omega arith) in omega arith)

pub lay-over : (area bytes : List ℕ) → length bytes ≤ 1000000000000 → lay area 0 bytes ≡ over area bytes
unfolding lay
lay-over [] bytes l = lay-none bytes 0 ∙ sym (drop-nil (length bytes))
lay-over (x ∷ area) [] l = refl
lay-over (x ∷ area) (b ∷ bytes) l = ap (λ (k : ℕ). lay (b ∷ area) k bytes) (behind-next 0 (omega arith))
    ∙ (lay-further bytes area b 0 (omega arith) ∙ ap (λ (r : List ℕ). b ∷ r) (lay-over area bytes (omega arith)))
