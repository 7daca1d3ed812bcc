-- The window over the last hour: its loop's beginning, turn and end, a start that joins it, alone or not, and the most so far.
use Rattle.std.specs.Prelude.{ℕ, zero, suc, ◌+◌, ◌-◌, ◌≤◌, ◌<◌, ◌≡◌, ◌≢◌, Bool, true, false, cond, List, [], ◌∷◌, ◌++◌, length, get_or, eqb}
use Rattle.std.proofs.Common.{refl, sym, ◌∙◌, ap, ap₂, subst, arith}
use borrow.Author.Tests.{le-leb, lt-leb, lt-ltb, le-ltb}
use Rattle.effbd.specs.Starts.{hour}
use Rattle.log_laws.specs.SpanWalk.{reach, better}
use Rattle.starts.specs.Gaps.{gap_at, size_at, size_of, gap_put, times_in, last_in, end_in, starts_in}
use Rattle.starts.specs.Windows.{in_window, best_of, Held, Late, Following, Followed, Joining, Joined, Counted}
use Rattle.starts.specs.declared.spans.Window.{Window}
use Rattle.starts.proofs.GapLaws.{last-low, end_low, starts-many, reach-old, reach_now, put-times, put_last, put-end}

-- what is in a window that is not empty
held_low : (gaps : List ℕ) (to latest starts from since : ℕ) → Held gaps to latest starts from since → (since ≤ latest) × (from ≤ to)
held_low gaps to latest starts from since h = let e = h.leads in let f = h.ends in
    let z = last-low gaps h.others from since in let y = end_low gaps h.others from in (omega arith, omega arith)

-- what stays while starts leave the window
pub record Kept (w r : Window) : Type 0 where
  pub time : r.time ≡ w.time
  pub latest : r.latest ≡ w.latest
  pub to : r.to ≡ w.to
  pub best : best_of r ≡ best_of w

module _ (gaps : List ℕ) (w : Window) where
  pub follow-begins : Late gaps w → Following gaps w w.since w.starts w.from × Kept w w
  follow-begins h = (record { few = h.few; held = h.held; same = refl }, record { time = refl; latest = refl; to = refl; best = refl })

  module _ (r : Window) (k : Kept w r) (f : Following gaps w r.since r.starts r.from) where
    abbrev since : ℕ
    since = r.since

    abbrev starts : ℕ
    starts = r.starts

    abbrev from : ℕ
    from = r.from

    pub follow-low : (since ≤ r.time) × (from < 65536)
    follow-low = let z = held_low gaps w.to w.time starts from since f.held in let y = z.1 in let x = f.few in let t = k.time in (omega (arith, z.0), omega arith)

    -- one that is an hour old is not the latest
    module _ (now_old : hour ≤ r.time - since) where
      hour_old : hour ≤ w.time - since
      hour_old = let t = k.time in omega arith

      pub follow-some : 1 ≤ starts
      follow-some = let c = f.held.count in omega arith

      pub follow-fits : since + gap_at gaps from ≤ r.time
      follow-fits = let t = k.time in let z = go f.held.others f.held.leads in omega arith
        where
          go : (n : ℕ) → w.time ≡ last_in gaps n from since → since + gap_at gaps from ≤ w.time
          go zero e = absurd (unfold last_in in let z : w.time ≡ since = e in let o = hour_old in omega arith)
          go (suc n) e = unfold last_in in let z = last-low gaps n (from + size_at gaps from) (since + gap_at gaps from) in let y : w.time ≡ last_in gaps n (from + size_at gaps from) (since + gap_at gaps from) = e in omega arith

      pub follow-on : (next end : ℕ) → next ≡ gap_at gaps from → end ≡ from + size_at gaps from → Following gaps w (since + next) (starts - 1) end
      unfolding last_in end_in times_in starts_in
      follow-on next end a b = go f.held.others f.held.count f.held.ends f.held.leads
        where
          go : (n : ℕ) → starts ≡ suc n → w.to ≡ end_in gaps n from → w.time ≡ last_in gaps n from since → Following gaps w (since + next) (starts - 1) end
          go zero c d e = absurd (let z : w.time ≡ since = e in let o = hour_old in omega arith)
          go (suc n) c d e = rw (a, b) (record {
            few = f.few;
            held = record { others = n; count = omega arith; ends = d; leads = e };
            same = f.same ∙ (ap (λ (k : ℕ). reach w.time (starts_in gaps k from since)) c
                ∙ (rw (reach, le-leb (since + hour) w.time (let o = hour_old in omega arith)) refl
                ∙ sym (ap (λ (k : ℕ). reach w.time (starts_in gaps k (from + size_at gaps from) (since + gap_at gaps from))) (let z : starts - 1 ≡ suc n = omega arith in z))));
          })

    pub follow-ends : r.time - since < hour → Followed gaps w r
    unfolding starts_in
    follow-ends l = record {
      held = f.held;
      times = sym (f.same ∙ near f.held.others f.held.count);
      time = k.time;
      latest = k.latest;
      to = k.to;
      best = k.best;
    }
      where
        near : (n : ℕ) → starts ≡ suc n → reach w.time (starts_in gaps starts from since) ≡ starts_in gaps starts from since
        near n c = ap (λ (k : ℕ). reach w.time (starts_in gaps k from since)) c
            ∙ (rw (reach, lt-leb (since + hour) w.time (let z = follow-low.0 in let t = k.time in omega arith)) refl ∙ sym (ap (λ (k : ℕ). starts_in gaps k from since) c))

-- a start joins the window
module _ (gaps : List ℕ) (w : Window) (j : Joining gaps w) where
  -- the window is empty, or all in it are an hour old
  none-reached : (w.starts ≢ 0 → hour ≤ w.time - w.latest) → reach w.time (in_window gaps w) ≡ []
  unfolding starts_in
  none-reached far = go w.starts refl
    where
      go : (n : ℕ) → w.starts ≡ n → reach w.time (starts_in gaps n w.from w.since) ≡ []
      go zero e = refl
      go (suc n) e =
          let h = j.held (λ z. absurd (omega arith)) in
          let same : h.others ≡ n = (let c = h.count in omega arith) in
          let d = far (λ z. absurd (omega arith)) in
          let last : w.latest ≡ last_in gaps n w.from w.since = h.leads ∙ ap (λ (k : ℕ). last_in gaps k w.from w.since) same in
          reach-old gaps w.time n w.from w.since (let z = j.later in omega arith)

  pub join-alone : (w.starts ≢ 0 → hour ≤ w.time - w.latest)
      → Joined gaps gaps w (record { time = w.time; latest = w.time; since = w.time; starts = 1; from = w.to; to = w.to; most = w.most; at = w.at })
  join-alone far = record {
    entered = record {
      held = record { others = 0; count = refl; ends = unfold end_in in refl; leads = unfold last_in in refl };
      times = unfold starts_in times_in in sym (ap (λ (q : List ℕ). q ++ (w.time ∷ [])) (none-reached far));
      still = refl;
      now = refl;
      grown = omega arith;
      first = λ z. refl;
    };
    best = refl;
  }

  -- not alone: its gap is put behind the others
  module _ (some : w.starts ≢ 0) (to : ℕ) (next : List ℕ) (to_is : to ≡ w.to + size_of (w.time - w.latest)) (put : next ≡ gap_put gaps w.to (w.time - w.latest)) where
    abbrev gap : ℕ
    gap = w.time - w.latest

    abbrev joined : Window
    joined = record { time = w.time; latest = w.time; since = w.since; starts = w.starts + 1; from = w.from; to = to; most = w.most; at = w.at }

    abbrev old : Held gaps w.to w.latest w.starts w.from w.since
    old = j.held some

    sum : w.latest + gap ≡ w.time
    sum = let z = j.later in omega arith

    size-two : size_of gap ≤ 2
    size-two = go (eqb gap 0)
      where
        go : (b : Bool) → cond b 1 2 ≤ 2
        go true = omega arith
        go false = omega arith

    pub join-late : Late next joined
    join-late = record {
      few = let z = j.few in let y = size-two in omega arith;
      held = record {
        others = suc old.others;
        count = let z = old.count in omega arith;
        ends = to_is ∙ sym (ap (λ (g : List ℕ). end_in g (suc old.others) w.from) put ∙ put-end gaps w.to gap j.room old.others w.from (sym old.ends));
        leads = sym (ap (λ (g : List ℕ). last_in g (suc old.others) w.from w.since) put ∙ (put_last gaps w.to gap j.room old.others w.from w.since (sym old.ends) ∙ (ap (λ (x : ℕ). x + gap) (sym old.leads) ∙ sum)));
      };
    }

    -- the times in the window, and the present one
    more : in_window next joined ≡ in_window gaps w ++ (w.time ∷ [])
    unfolding starts_in
    more = ap (λ (n : ℕ). starts_in next n w.from w.since) (let z : w.starts + 1 ≡ suc (suc old.others) = (let y = old.count in omega arith) in z)
        ∙ (ap (λ (q : List ℕ). w.since ∷ q) (ap (λ (g : List ℕ). times_in g (suc old.others) w.from w.since) put
        ∙ (put-times gaps w.to gap j.room old.others w.from w.since (sym old.ends)
        ∙ ap (λ (x : ℕ). times_in gaps old.others w.from w.since ++ (x ∷ [])) (ap (λ (x : ℕ). x + gap) (sym old.leads) ∙ sum)))
        ∙ sym (ap (λ (n : ℕ). starts_in gaps n w.from w.since ++ (w.time ∷ [])) old.count))

    pub join_more : (r : Window) → Followed next joined r → Joined gaps next w r
    join_more r f = record {
      entered = record {
        held = subst (λ (t : ℕ). Held next t r.latest r.starts r.from r.since) (sym f.to) (subst (λ (t : ℕ). Held next to t r.starts r.from r.since) (sym f.latest) f.held);
        times = f.times ∙ (ap (reach w.time) more ∙ reach_now w.time (in_window gaps w));
        still = f.time;
        now = f.latest;
        grown = let z = f.to in let y = to_is in omega arith;
        first = λ z. absurd (some z);
      };
      best = f.best;
    }

-- more than the most so far, or not
module _ (before gaps : List ℕ) (w r : Window) (j : Joined before gaps w r) where
  many : length (in_window gaps r) ≡ r.starts
  many = starts-many gaps r.starts r.from r.since

  first-is : get_or (in_window gaps r) 0 0 ≡ r.since
  unfolding starts_in
  first-is = go j.entered.held.others j.entered.held.count
    where
      go : (n : ℕ) → r.starts ≡ suc n → get_or (in_window gaps r) 0 0 ≡ r.since
      go n c = ap (λ (k : ℕ). get_or (starts_in gaps k r.from r.since) 0 0) c

  pub count-more : r.most < r.starts → Counted before gaps w (record { time = r.time; latest = r.latest; since = r.since; starts = r.starts; from = r.from; to = r.to; most = r.starts; at = r.since })
  count-more l = record {
    entered = j.entered;
    best = sym (ap (better (in_window gaps r)) (sym j.best) ∙ (rw (lt-ltb r.most (length (in_window gaps r)) (let z = many in omega arith)) (ap₂ (λ (m a : ℕ). record { most = m; at = a }) many first-is)));
  }

  pub count_same : r.starts ≤ r.most → Counted before gaps w r
  count_same l = record {
    entered = j.entered;
    best = sym (ap (better (in_window gaps r)) (sym j.best) ∙ rw (le-ltb r.most (length (in_window gaps r)) (let z = many in omega arith)));
  }
