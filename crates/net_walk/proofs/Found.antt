-- What a walk that looks for a number found, where a caller turns away when it found none.
use Rattle.std.proofs.Common.{◌≡◌, ℕ, ◌<◌, arith}
use Rattle.std.specs.Prelude.{Option, None, Some, Ok, Err, IfSome, unwrap_or, ok_or}
use Rattle.effbd.specs.declared.refusals.Refusal.{Refusal}

pub none_found : (o : Option ℕ) (none n : ℕ) (r e : Refusal) → unwrap_or o none ≡ n → Err r ≡ ok_or o e → (none ≡ n) × (r ≡ e)
none_found None none n r e h q = (h, cc)
none_found (Some x) none n r e h q = absurd cc

pub one_found : (o : Option ℕ) (none n x : ℕ) (e : Refusal) → unwrap_or o none ≡ n → IfSome o (λ j. j < none) → Ok x ≡ ok_or o e → (x ≡ n) × (x < none)
one_found None none n x e h l q = absurd cc
one_found (Some y) none n x e h l q = (cc, (let z : x ≡ y = cc in omega arith))
