-- A list of calls, call by call: the turn of the loop that makes them.
use Prim.Native.Nat.{ℕ, zero, suc, ◌+◌, ◌≤◌}
use mathlib.Core.Path.{◌≡◌, refl, sym, ◌∙◌, ap, ap₂}
use mathlib.Core.Bool.{true, false}
use mathlib.Core.List.{List, [], ◌∷◌, ◌++◌, append_assoc}
use native.Mathlib.Omega.{arith}
use lib.ListN.{length, take, drop}
use Rattle.effbd.specs.Records.{length_at}
use Rattle.effbd.specs.History.{Call, offer, hand, Ends, Seen, run, seen, run_all, seen_all}
use Rattle.calls.specs.CallList.{is_call, record_at, call_of, calls_in, after_call, list_after}
use Rattle.calls.specs.LiveEnds.{Live, live_after, live_seen, live_all, live_seen_all}

-- both ends without the bytes that went over the bus
abbrev pub live_of : Ends → Live
live_of e = record { leader = e.leader; sent = e.count; follower = e.follower; taken = e.taken }

module _ (file net : List ℕ) (station : ℕ) where
  live-run : (e : Ends) (x : Call) → live_of (run file net station e x) ≡ live_after file net station (live_of e) x
  unfolding run live_after
  live-run e (offer code argument area) = refl
  live-run e (hand bytes) = refl

  live-seen : (e : Ends) (x : Call) → seen file net station e x ≡ live_seen file net station (live_of e) x
  unfolding seen live_seen
  live-seen e (offer code argument area) = refl
  live-seen e (hand bytes) = refl

  pub live-run-all : (xs : List Call) (e : Ends) → live_of (run_all file net station e xs) ≡ live_all file net station (live_of e) xs
  unfolding run_all live_all
  live-run-all [] e = refl
  live-run-all (x ∷ xs) e = live-run-all xs (run file net station e x) ∙ ap (λ (v : Live). live_all file net station v xs) (live-run e x)

  pub live-seen-all : (xs : List Call) (e : Ends) → seen_all file net station e xs ≡ live_seen_all file net station (live_of e) xs
  unfolding seen_all live_seen_all
  live-seen-all [] e = refl
  live-seen-all (x ∷ xs) e = ap₂ (λ (a : Seen) (l : List Seen). a ∷ l) (live-seen e x)
      (live-seen-all xs (run file net station e x) ∙ ap (λ (v : Live). live_seen_all file net station v xs) (live-run e x))

  -- where the loop stands: `most` calls are left to make, of the bytes from `at` on; the list's end and its bytes afterwards are those of the whole
  pub record Making (v₀ : Live) (calls₀ : List ℕ) (most at : ℕ) (v : Live) (calls : List ℕ) : Type 0 where
    pub within : at ≤ length calls
    pub live : live_all file net station v₀ (calls_in (length calls₀) calls₀) ≡ live_all file net station v (calls_in most (drop at calls))
    pub list : list_after (length calls₀) (live_seen_all file net station v₀ (calls_in (length calls₀) calls₀)) calls₀
        ≡ take at calls ++ list_after most (live_seen_all file net station v (calls_in most (drop at calls))) (drop at calls)

  pub making-start : (v : Live) (calls : List ℕ) → Making v calls (length calls) 0 v calls
  making-start v calls = record { within = omega arith; live = refl; list = refl }

  -- the list has ended
  pub record Made (v₀ : Live) (calls₀ : List ℕ) (v : Live) (calls : List ℕ) : Type 0 where
    pub live : live_all file net station v₀ (calls_in (length calls₀) calls₀) ≡ v
    pub list : list_after (length calls₀) (live_seen_all file net station v₀ (calls_in (length calls₀) calls₀)) calls₀ ≡ calls

  rejoin : (at : ℕ) (calls : List ℕ) → take at calls ++ drop at calls ≡ calls
  rejoin zero calls = refl
  rejoin (suc at) [] = refl
  rejoin (suc at) (x ∷ calls) = ap (λ (l : List ℕ). x ∷ l) (rejoin at calls)

  pub made_all : (v₀ : Live) (calls₀ : List ℕ) (most at : ℕ) (v : Live) (calls : List ℕ) → Making v₀ calls₀ most at v calls → most ≡ 0 → Made v₀ calls₀ v calls
  unfolding calls_in live_all live_seen_all list_after
  made_all v₀ calls₀ zero at v calls m e = record { live = m.live; list = m.list ∙ rejoin at calls }
  made_all v₀ calls₀ (suc most) at v calls m e = absurd (omega arith)

  pub made-early : (v₀ : Live) (calls₀ : List ℕ) (most at : ℕ) (v : Live) (calls : List ℕ) → Making v₀ calls₀ most at v calls → is_call (drop at calls) ≡ false → Made v₀ calls₀ v calls
  unfolding calls_in live_all live_seen_all list_after
  made-early v₀ calls₀ zero at v calls m e = record { live = m.live; list = m.list ∙ rejoin at calls }
  made-early v₀ calls₀ (suc most) at v calls m e = record {
    live = rw e at m.live;
    list = (rw e at m.list) ∙ rejoin at calls;
  }

  -- one call of the loop: its record's bytes are replaced by what is seen of it, the rest stays
  pub making-turn : (v₀ : Live) (calls₀ : List ℕ) (most at : ℕ) (v v' : Live) (calls calls' : List ℕ) → Making v₀ calls₀ (suc most) at v calls
      → is_call (drop at calls) ≡ true → v' ≡ live_after file net station v (call_of (record_at (drop at calls)))
      → length calls' ≡ length calls → at + length_at (drop at calls) ≤ length calls
      → take (at + length_at (drop at calls)) calls' ≡ take at calls ++ after_call (record_at (drop at calls)) (live_seen file net station v (call_of (record_at (drop at calls))))
      → drop (at + length_at (drop at calls)) calls' ≡ drop (length_at (drop at calls)) (drop at calls)
      → Making v₀ calls₀ most (at + length_at (drop at calls)) v' calls'
  unfolding calls_in live_all live_seen_all list_after
  making-turn v₀ calls₀ most at v v' calls calls' m c e n l front back = record {
    within = omega arith;
    live = (rw c at m.live) ∙ ap₂ (λ (x : Live) (y : List ℕ). live_all file net station x (calls_in most y)) (sym e) (sym back);
    list = (rw (c, c) at m.list) ∙ (sym (append_assoc (take at calls) (after_call (record_at rest) (live_seen file net station v (call_of (record_at rest)))) _)
        ∙ ap₂ (λ (x y : List ℕ). x ++ y) (sym front)
        (ap₂ (λ (x : Live) (y : List ℕ). list_after most (live_seen_all file net station x (calls_in most y)) y) (sym e) (sym back)));
  }
    where
      rest : List ℕ
      rest = drop at calls
