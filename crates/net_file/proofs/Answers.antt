-- What the reader's answer says of the file: refused, or its net with the words of its state.
use Prim.Native.Nat.{ℕ, ◌+◌}
use mathlib.Core.Path.{◌≡◌, sym, ◌∙◌}
use mathlib.Core.List.{List}
use Rattle.effbd.specs.Answers.{Outcome, accepted, refused, and_then}
use Rattle.effbd.specs.Records.{word}
use Rattle.effbd.specs.Nets.{Net, read_net}
use Rattle.effbd.specs.Firing.{net_word_count, words_of}
use Rattle.agreement.specs.ByteLaws.{never, bind_inv}
use Rattle.net_file.proofs.Accepted.{NetRead, net-read, word_count}

-- a refused file
pub refused-inv : (file : List ℕ) (a b : ℕ) → refused a b ≡ words_of (read_net file) → read_net file ≡ refused a b
unfolding words_of
refused-inv file a b e = go (read_net file) e
  where
    go : (o : Outcome Net) → refused a b ≡ and_then o (λ n. accepted (net_word_count n)) → o ≡ refused a b
    go (accepted n) e = never e
    go (refused x y) e = cc

-- an accepted file: its net, what it holds, how many words its state has
pub record Read (file : List ℕ) (size : ℕ) : Type 0 where
  pub net : Net
  pub says : read_net file ≡ accepted net
  pub holds : NetRead file net
  pub counts : net_word_count net ≡ size
  pub adds : size ≡ word file 4 + word file 6

pub read_of : (file : List ℕ) (size : ℕ) → accepted size ≡ words_of (read_net file) → Read file size
unfolding words_of
read_of file size e =
    let i = bind_inv (read_net file) (λ n. accepted (net_word_count n)) size (sym e) in
    let r = net-read file i.0 i.1 in
    let c : net_word_count i.0 ≡ size = same i.2 in
    record { net = i.0; says = i.1; holds = r; counts = c; adds = sym c ∙ word_count file i.0 r }
  where
    same : {a b : ℕ} → accepted a ≡ accepted b → a ≡ b
    same q = cc
