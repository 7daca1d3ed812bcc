-- Where a row stands among the branches of parallel constructs, and the laws of an accepted diagram's structure.
use Rattle.std.specs.Prelude.{ℕ, suc, ◌≡◌, refl, ◌≢◌, Bool, true, false, cond, List, [], ◌∷◌}
use Rattle.std.proofs.Common.{sym}
use Rattle.effbd.specs.Diagrams.{Diagram, and_close, and_open, box_exit, box_open, branch, end, is_kind, kind, loop_exit, lp_open, or_open}
use Rattle.effbd.specs.Frames.{Frame}
use Rattle.effbd.specs.Nesting.{box, branch_of, close, in_loop, is_close, is_open, loop, outlet, owner, scenario, stack}
use Rattle.effbd.specs.Ranges.{between, only}
use Rattle.effbd.specs.States.{ends_killer, entered_row}

module _ (d : Diagram) where
  abbrev pub opens : ℕ → Bool
  opens q = is_open d q

  -- the constructs around row q: a BRANCH stands in its own branch, a close outside its construct
  unfoldable pub around : ℕ → List Frame
  around q = cond (opens q) (stack d q) (stack d (suc q))

  -- the BRANCH of X among the frames, or 0
  unfoldable pub side_in : ℕ → List Frame → ℕ
  side_in X [] = 0
  side_in X (f ∷ fs) = cond (only X f.opened) (cond (is_kind d and_open X) f.latest 0) (side_in X fs)

  -- the branch of the AND open X that row q is in, or 0
  unfoldable pub side : ℕ → ℕ → ℕ
  side X q = side_in X (around q)

  -- r and q are in two branches of one AND
  pub record Par (r q : ℕ) : Type 0 where
    pub fork : ℕ
    pub left : side fork r ≢ 0
    pub right : side fork q ≢ 0
    pub differ : side fork r ≢ side fork q

  pub par-irr : (r : ℕ) → Par r r → ⊥
  par-irr r p = p.differ refl

  pub par-sym : (r q : ℕ) → Par r q → Par q r
  par-sym r q p = record { fork = p.fork; left = p.right; right = p.left; differ = λ e. p.differ (sym e) }

  -- a row that may be entered
  abbrev pub Fine : ℕ → Type 0
  Fine t = (kind d t ≢ and_close) × (kind d t ≡ branch → kind d (owner d t) ≡ and_open)

  pub record Laws : Type 0 where
    -- entering the next row stays in the branch
    pub seq : (r X : ℕ) → kind d r ≢ and_open → kind d r ≢ end → side X (entered_row d (suc r)) ≡ side X r
    pub lands : (q : ℕ) → Fine (entered_row d q)
    pub kin : (r : ℕ) → is_close d r ≡ true → opens (owner d r) ≡ true
    pub or_first : (o : ℕ) → kind d o ≡ or_open → (kind d (suc o) ≡ branch) × (owner d (suc o) ≡ o)
    -- a close stands where its open stands
    pub back : (r X : ℕ) → is_close d r ≡ true → side X (owner d r) ≡ side X r
    pub shut : (o : ℕ) → opens o ≡ true → (is_close d (close d o) ≡ true) × (owner d (close d o) ≡ o)
    -- branches
    pub other_in : (b X : ℕ) → kind d b ≡ branch → is_kind d and_open (owner d b) ≡ false → side X b ≡ side X (owner d b)
    pub and_in : (o b X : ℕ) → kind d o ≡ and_open → branch_of d o b ≡ true → X ≢ o → side X b ≡ side X o
    pub and_own : (o b : ℕ) → kind d o ≡ and_open → branch_of d o b ≡ true → (side o b ≡ b) × (b ≢ 0)
    pub self : (o : ℕ) → kind d o ≡ and_open → side o o ≡ 0
    pub first : (o : ℕ) → kind d o ≡ and_open → branch_of d o (suc o) ≡ true
    pub mine : (r : ℕ) → kind d r ≡ and_close → kind d (owner d r) ≡ and_open
    pub sided : (o x : ℕ) → side o x ≢ 0 → branch_of d o (side o x) ≡ true
    pub nest : (o x Y : ℕ) → side o x ≢ 0 → side Y o ≢ 0 → side Y x ≡ side Y o
    -- a row in a branch stands between its AND's open and close
    pub within : (o x : ℕ) → side o x ≢ 0 → between o (close d o) x ≡ true
    -- what follows an open row is inside: entering it ends no branch
    pub quiet : (o : ℕ) → opens o ≡ true → kind d o ≢ and_open → ends_killer d (suc o) ≡ false
    -- a branch that kills is ended by its AND's next BRANCH or close
    pub killer : (q : ℕ) → ends_killer d q ≡ true → (kind d (owner d q) ≡ and_open) × (branch_of d (owner d q) (entered_row d q) ≡ true)
    -- loops
    pub looped : (r : ℕ) → kind d r ≡ loop_exit → (kind d (loop d r) ≡ lp_open) × (in_loop d r r ≡ true)
    pub exit : (r x Y : ℕ) → kind d r ≡ loop_exit → in_loop d r x ≡ false → side Y r ≢ 0 → side Y x ≢ 0 → side Y r ≡ side Y (loop d r)
    -- boxes
    pub boxed : (r : ℕ) → kind d r ≡ box_exit → scenario d (box d r) r ≡ true
    pub led : (r : ℕ) → kind d r ≡ box_exit → (kind d (box d r) ≡ box_open) × (branch_of d (box d r) (outlet d r) ≡ true)
    pub escape : (r x Y : ℕ) → kind d r ≡ box_exit → scenario d (box d r) x ≡ false → side Y r ≢ 0 → side Y x ≢ 0 → side Y r ≡ side Y (box d r)
