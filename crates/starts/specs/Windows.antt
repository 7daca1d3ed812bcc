-- What the window over the starts of the last hour keeps: its starts' times are those that its gaps lead to, and they are the starts that
-- one turn of crate log_laws' walk has between its two positions. Assumes nothing.
use Rattle.std.specs.Prelude.{ℕ, suc, ◌+◌, ◌-◌, ◌≤◌, ◌<◌, ◌≡◌, List, [], ◌∷◌, ◌++◌, ◌≢◌, length}
use Rattle.effbd.specs.Starts.{Busiest}
use Rattle.log_laws.specs.SpanWalk.{reach, better}
use Rattle.starts.specs.Gaps.{size_of, last_in, end_in, starts_in}
use Rattle.starts.specs.declared.spans.Window.{Window}

-- the times of the starts in a window, and the most so far
abbrev pub in_window : List ℕ → Window → List ℕ
in_window gaps w = starts_in gaps w.starts w.from w.since

abbrev pub best_of : Window → Busiest
best_of w = record { most = w.most; at = w.at }

-- gaps that end at byte `to` and lead to time `latest`
pub record Held (gaps : List ℕ) (to latest starts from since : ℕ) : Type 0 where
  pub others : ℕ
  pub count : starts ≡ suc others
  pub ends : to ≡ end_in gaps others from
  pub leads : latest ≡ last_in gaps others from since

-- the latest start is at the log's time
pub record Late (gaps : List ℕ) (w : Window) : Type 0 where
  pub few : w.to < 65536
  pub held : Held gaps w.to w.time w.starts w.from w.since

-- some that are an hour old have left the window
pub record Following (gaps : List ℕ) (w : Window) (since starts from : ℕ) : Type 0 where
  pub few : w.to < 65536
  pub held : Held gaps w.to w.time starts from since
  pub same : reach w.time (in_window gaps w) ≡ reach w.time (starts_in gaps starts from since)

-- all have
pub record Followed (gaps : List ℕ) (w r : Window) : Type 0 where
  pub held : Held gaps w.to w.time r.starts r.from r.since
  pub times : in_window gaps r ≡ reach w.time (in_window gaps w)
  pub time : r.time ≡ w.time
  pub latest : r.latest ≡ w.latest
  pub to : r.to ≡ w.to
  pub best : best_of r ≡ best_of w

-- a start may join
pub record Joining (gaps : List ℕ) (w : Window) : Type 0 where
  pub later : w.latest ≤ w.time
  pub room : w.to + 2 ≤ length gaps
  pub few : w.to + 2 < 65536
  pub many : w.starts < 65536
  pub held : w.starts ≢ 0 → Held gaps w.to w.latest w.starts w.from w.since

-- it is the latest start of a window with these times, in bytes that have grown by its gap
pub record Entered (before gaps : List ℕ) (w : Window) (time latest since starts from to : ℕ) : Type 0 where
  pub held : Held gaps to latest starts from since
  pub times : starts_in gaps starts from since ≡ reach w.time (in_window before w) ++ (w.time ∷ [])
  pub still : time ≡ w.time
  pub now : latest ≡ w.time
  pub grown : to ≤ w.to + size_of (w.time - w.latest)
  pub first : w.starts ≡ 0 → to ≡ w.to

-- it has joined
pub record Joined (before gaps : List ℕ) (w r : Window) : Type 0 where
  pub entered : Entered before gaps w r.time r.latest r.since r.starts r.from r.to
  pub best : best_of r ≡ best_of w

-- and is counted
pub record Counted (before gaps : List ℕ) (w r : Window) : Type 0 where
  pub entered : Entered before gaps w r.time r.latest r.since r.starts r.from r.to
  pub best : best_of r ≡ better (in_window gaps r) (best_of w)
