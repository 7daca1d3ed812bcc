-- How long the lines are; the columns of a line.
use Rattle.std.proofs.Common.{ℕ, zero, suc, ◌+◌, ◌*◌, ◌≤◌, ◌≡◌, refl, sym, ◌∙◌, ap, List, [], ◌∷◌, ◌++◌, append_assoc, arith, length, take, length-append, length-take-le, ltb, eqb}
use Rattle.effbd.specs.Answers.{Outcome, accepted, refused}
use Rattle.effbd.specs.BusEnds.{is_telegram, number_at, station_at}
use Rattle.effbd.specs.History.{Call, offer, hand}
use Rattle.effbd.specs.Annex.{number, numbers, line, refused_letters}
use Rattle.ends.specs.ReadyEnds.{leader_room, follower_room}
use Rattle.ranges.specs.Tests.{decide}
use Rattle.calls.specs.CallList.{call_of}
use Rattle.calls.specs.LiveEnds.{Live, live, live_answer, live_after, CallMade}
use Rattle.calls.specs.declared.Line.{Line}
use Rattle.calls.specs.declared.Ends.{Ends}
use Rattle.calls.proofs.Turns.{live-is}
use Rattle.text.specs.declared.Text.{Text}
use Rattle.text.specs.Laid.{Laid}
use Rattle.text.specs.LaidLaws.{and_then, same, laid-size, laid-length}
use Rattle.text.specs.NumberLengths.{number_short}
use Rattle.call_lines.specs.Lines.{move_text, bytes_text, call_text, reason, answer_text, fired_text, words_text, ends_text, spaces, gap, up_to, line_text, head_text, closing_text}

move-short : (code argument : ℕ) → length (move_text code argument) ≤ 46
unfolding move_text
move-short code argument = decide (eqb code 1)
    (λ e. rw e (simp length-append (omega (arith, number_short argument))))
    (λ e. rw e (decide (eqb code 2)
    (λ f. rw f (simp length-append (omega (arith, number_short argument))))
    (λ f. rw f (simp length-append (omega (arith, number_short code, number_short argument))))))

bytes-short : (bytes : List ℕ) → length (bytes_text bytes) ≤ 46
unfolding bytes_text
bytes-short bytes = decide (is_telegram bytes)
    (λ e. rw e (simp length-append (omega (arith, number_short (number_at bytes), number_short (station_at bytes)))))
    (λ e. rw e (simp length-append (omega (arith, number_short (length bytes)))))

call-short : (call : Call) → length (call_text call) ≤ 46
call-short (offer code argument area) = move-short code argument
call-short (hand bytes) = bytes-short bytes

reason-short : (n : ℕ) → length (reason n) ≤ 21
unfolding reason
reason-short n =
    decide (eqb n 10) (λ e. rw e (omega arith))
    (λ e. rw e (decide (eqb n 20) (λ e. rw e (omega arith))
    (λ e. rw e (decide (eqb n 21) (λ e. rw e (omega arith))
    (λ e. rw e (decide (eqb n 22) (λ e. rw e (omega arith))
    (λ e. rw e (decide (eqb n 23) (λ e. rw e (omega arith))
    (λ e. rw e (decide (eqb n 24) (λ e. rw e (omega arith))
    (λ e. rw e (decide (eqb n 25) (λ e. rw e (omega arith))
    (λ e. rw e (decide (eqb n 26) (λ e. rw e (omega arith))
    (λ e. rw e (decide (eqb n 27) (λ e. rw e (omega arith))
    (λ e. rw e (decide (eqb n 30) (λ e. rw e (omega arith))
    (λ e. rw e (decide (eqb n 31) (λ e. rw e (omega arith))
    (λ e. rw e (decide (eqb n 32) (λ e. rw e (omega arith))
    (λ e. rw e (decide (eqb n 33) (λ e. rw e (omega arith))
    (λ e. rw e (omega arith))))))))))))))))))))))))))

answer-short : (answer : Outcome ℕ) → length (answer_text answer) ≤ 50
answer-short (accepted count) = simp length-append (omega (arith, number_short count))
answer-short (refused n value) = simp length-append (omega (arith, number_short n, number_short value, reason-short n))

fired-short : (answer fired : Outcome ℕ) → length (fired_text answer fired) ≤ 20
fired-short (accepted count) (accepted t) = simp length-append (omega (arith, number_short t))
fired-short (accepted count) (refused n value) = omega arith
fired-short (refused n value) fired = omega arith

words-short : (words : List ℕ) → length (words_text words) ≤ 11 * length words
unfolding words_text
words-short [] = omega arith
words-short (w ∷ words) = let a = length-append (number w) (words_text words) in let b = number_short w in let c = words-short words in omega arith

spaces-long : (n : ℕ) → length (spaces n) ≡ n
unfolding spaces
spaces-long zero = refl
spaces-long (suc n) = ap suc (spaces-long n)

gap-short : (at column : ℕ) → gap at column ≤ column + 1
unfolding gap
gap-short at column = decide (ltb at column) (λ e. rw e (omega arith)) (λ e. rw e (omega arith))

column-short : (column : ℕ) (text : List ℕ) → length (up_to column text) ≤ length text + (column + 1)
column-short column text =
    let a = length-append text (spaces (gap (length text) column)) in let b = spaces-long (gap (length text) column) in let c = gap-short (length text) column in omega arith

-- the columns up to the ends
abbrev front : Call → (answer fired : Outcome ℕ) → List ℕ
front call answer fired = up_to 34 (call_text call) ++ (answer_text answer ++ fired_text answer fired)

front-short : (call : Call) (answer fired : Outcome ℕ) → length (front call answer fired) ≤ 151
front-short call answer fired =
    let a = length-append (up_to 34 (call_text call)) (answer_text answer ++ fired_text answer fired) in let b = column-short 34 (call_text call) in let c = call-short call in
    let d = answer-short answer in let e = length-append (answer_text answer) (fired_text answer fired) in let f = fired-short answer fired in omega arith

ends-short : (v : Live) → length (ends_text v) ≤ 52 + 11 * (length v.leader + length v.follower)
ends-short v = simp length-append (omega (arith, number_short v.sent, number_short v.taken, words-short v.leader, words-short v.follower))

line-short : (call : Call) (answer fired : Outcome ℕ) (v : Live) → length (line_text call answer fired v) ≤ 275 + 11 * (length v.leader + length v.follower)
unfolding line_text
line-short call answer fired v =
    let x = front call answer fired in
    let a = length-append (up_to 70 x ++ ends_text v) (10 ∷ []) in let b = length-append (up_to 70 x) (ends_text v) in
    let c = column-short 70 x in let d = front-short call answer fired in let e = ends-short v in omega arith

-- a text that fits its bytes is a part of them
pub written-part : {a b : Text} {xs : List ℕ} → Laid a b xs → b.at ≤ length a.bytes.now → b.at ≡ length (take b.at b.bytes.now)
written-part {b = b} w l = sym (length-take-le b.at b.bytes.now (omega (arith, laid-length w)))

-- a line that shows the states of every diagram and every net fits 32,768 bytes
pub line-fits : {a b : Text} (call : Call) (answer fired : Outcome ℕ) (v : Live) → length v.leader ≤ leader_room → length v.follower ≤ follower_room
    → a.at ≡ 0 → Laid a b (line_text call answer fired v) → b.at ≤ 32768
line-fits call answer fired v l f z w = let s = line-short call answer fired v in let e = laid-size z w (omega arith) in omega arith

-- the three columns of a line, one after the other
pub line-laid : {a b c d : Text} (call : Call) (answer fired : Outcome ℕ) (v : Live) → a.at ≡ 0 → Laid a b (call_text call)
    → Laid b c (spaces (gap b.at 34) ++ (answer_text answer ++ fired_text answer fired)) → Laid c d (spaces (gap c.at 70) ++ ends_text v ++ (10 ∷ []))
    → Laid a d (line_text call answer fired v)
unfolding line_text
line-laid {b = b} {c = c} call answer fired v z p q r =
    let i = laid-size z p (let s = call-short call in omega arith) in
    let first : (call_text call) ++ (spaces (gap b.at 34) ++ (answer_text answer ++ fired_text answer fired)) ≡ front call answer fired =
    ap (λ (x : ℕ). call_text call ++ (spaces (gap x 34) ++ (answer_text answer ++ fired_text answer fired))) i ∙ simp append_assoc in
    let laid = same first (and_then p q) in
    let j = laid-size z laid (let s = front-short call answer fired in omega arith) in
    same (ap (λ (x : ℕ). front call answer fired ++ (spaces (gap x 70) ++ ends_text v ++ (10 ∷ []))) j ∙ simp append_assoc) (and_then laid r)

-- the line of a call that was made
module _ {line : Line} {before after : Ends} {call call' : List ℕ} {answer : Outcome ℕ} (m : CallMade line before call after call' answer) where
  pub line-played : {a b : Text} {fired fires : Outcome ℕ} → fired ≡ fires → Laid a b (line_text (call_of call) answer fired (live after))
      → Laid a b (line_text (call_of call) (live_answer line.file.now line.net.now line.station (live before) (call_of call)) fires (live_after line.file.now line.net.now line.station (live before) (call_of call)))
  line-played e w = let c = m.called in
      same (rw (c.answer-is, e) (ap (line_text (call_of call) _ _) (live-is _ _ _ _ _ c.leader-holds c.sent_is c.follower-holds c.taken_is))) w

  played-fits : {a b : Text} (fires : Outcome ℕ) → length after.leader.now ≤ leader_room → length after.follower.now ≤ follower_room → a.at ≡ 0
      → Laid a b (line_text (call_of call) (live_answer line.file.now line.net.now line.station (live before) (call_of call)) fires (live_after line.file.now line.net.now line.station (live before) (call_of call)))
      → b.at ≤ 32768
  played-fits fires l f z w = let c = m.called in
      line-fits (call_of call) (live_answer line.file.now line.net.now line.station (live before) (call_of call)) fires (live_after line.file.now line.net.now line.station (live before) (call_of call))
      (let e = ap length c.leader-holds in omega arith) (let e = ap length c.follower-holds in omega arith) z w

  pub played-part : {a b : Text} (fires : Outcome ℕ) → length after.leader.now ≤ leader_room → length after.follower.now ≤ follower_room → a.at ≡ 0 → 32768 ≤ length a.bytes.now
      → Laid a b (line_text (call_of call) (live_answer line.file.now line.net.now line.station (live before) (call_of call)) fires (live_after line.file.now line.net.now line.station (live before) (call_of call)))
      → b.at ≡ length (take b.at b.bytes.now)
  played-part fires l f z n w = let k = played-fits fires l f z w in written-part w (omega arith)

-- the other lines
pub head-fits : {a b : Text} (bytes station leader follower : ℕ) → a.at ≡ 0 → Laid a b (head_text bytes station leader follower) → b.at ≤ 128
unfolding head_text
head-fits bytes station leader follower z w =
    let s : length (head_text bytes station leader follower) ≤ 128 = simp length-append (omega (arith, number_short bytes, number_short station, number_short leader, number_short follower)) in
    let e = laid-size z w (omega arith) in omega arith

closing-short : (sent taken : ℕ) → length (closing_text sent taken) ≤ 128
unfolding closing_text
closing-short sent taken = decide (ltb taken sent)
    (λ e. rw e (decide (eqb sent (taken + 1))
    (λ f. rw f (simp length-append (omega (arith, number_short sent))))
    (λ f. rw f (simp length-append (omega (arith, number_short sent, number_short (taken + 1)))))))
    (λ e. rw e (omega arith))

pub closing-fits : {a b : Text} (sent taken : ℕ) → a.at ≡ 0 → Laid a b (closing_text sent taken) → b.at ≤ 128
closing-fits sent taken z w = let s = closing-short sent taken in let e = laid-size z w (omega arith) in omega arith

pub refusal-fits : {a b : Text} (number value : ℕ) → a.at ≡ 0 → Laid a b (line refused_letters (number ∷ value ∷ [])) → b.at ≤ 32
unfolding numbers
refusal-fits n value z w =
    let s : length (line refused_letters (n ∷ value ∷ [])) ≤ 32 = simp length-append (omega (arith, number_short n, number_short value)) in
    let e = laid-size z w (omega arith) in omega arith
