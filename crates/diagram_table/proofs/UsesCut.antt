-- The part that `uses` cuts from the file.
use Prim.Native.Nat.{ℕ, ◌+◌, ◌-◌, ◌*◌, ◌≤◌, ◌<◌}
use mathlib.Core.Path.{◌≡◌}
use mathlib.Core.List.{List, []}
use native.Mathlib.Omega.{arith}
use lib.ListN.{length, take, drop}
use borrow.Author.Tests.{le-leb, lt-leb}
use Rattle.diagram_table.specs.Cells.{uses_start_in, uses_number_in, uses_bytes}

module _ (table file : List ℕ) (r : ℕ) {start size : ℕ} (es : start ≡ uses_start_in table r) (ez : size ≡ 6 * uses_number_in table r) where
  pub uses-there : start + size ≤ length file → take (start + size - start) (drop start file) ≡ uses_bytes table file r
  unfolding uses_bytes
  uses-there h =
      let z : start + size - start ≡ size = omega arith in
      rw (z, es, ez, le-leb (uses_start_in table r + 6 * uses_number_in table r) (length file) (rw (← es, ← ez) h))

  pub uses-missing : length file < start + size → [] ≡ uses_bytes table file r
  unfolding uses_bytes
  uses-missing h = rw (lt-leb (uses_start_in table r + 6 * uses_number_in table r) (length file) (rw (← es, ← ez) h))
