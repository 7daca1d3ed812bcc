-- Bytes laid one after another into a lent area; past its end they change nothing. Assumes nothing.
use Rattle.std.specs.Prelude.{ℕ, ◌+◌, ◌≡◌, cond, List, [], ◌∷◌, set, ltb}
use Rattle.text.specs.declared.Text.{Text}

-- the position behind `at`; it stops far above any text
unfoldable pub behind : ℕ → ℕ
behind at = cond (ltb at 1000000000000) (at + 1) at

unfoldable pub lay : List ℕ → ℕ → List ℕ → List ℕ
lay area at [] = area
lay area at (b ∷ bytes) = lay (set area at b) (behind at) bytes

unfoldable pub reach : ℕ → List ℕ → ℕ
reach at [] = at
reach at (b ∷ bytes) = reach (behind at) bytes

-- the bytes are laid into the text from its position on, the next byte is due behind them, and the lent bytes are still the caller's
pub record Laid (before after : Text) (bytes : List ℕ) : Type 0 where
  pub area : after.bytes.now ≡ lay before.bytes.now before.at bytes
  pub reached : after.at ≡ reach before.at bytes
  pub lender : after.bytes.ghost_name ≡ before.bytes.ghost_name
