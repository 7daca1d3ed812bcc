use Rattle.std.proofs.Common.{arith, refl, sym, ◌∙◌, ap}
use Rattle.std.proofs.Math.Seq.{length-take-le}
use Rattle.effbd.specs.Answers.{afterwards}
use Rattle.agreement.specs.ByteLaws.{bytes-are}
use Rattle.ends.proofs.Readied.{leader-few, follower-few, ends_fresh}
use Rattle.ends.proofs.fresh_ends.Goals as goal

pub slice_bounds-fresh-end : goal.slice_bounds-fresh-end
slice_bounds-fresh-end c = let a = c.args in
    let b = bytes-are a.file.now (λ i. omega (arith, c.type_inv.file i)) in
    let few = leader-few a.file.now a.net.now c.requires.net_of b _ (c.words_of-leader_words.ensures ∙ ap (afterwards 0) c.read.ensures) in omega (arith, few, c.requires.leader_room_in_bounds)

pub slice_bounds-fresh-end-2 : goal.slice_bounds-fresh-end-2
slice_bounds-fresh-end-2 c = let a = c.args in
    let b = bytes-are a.file.now (λ i. omega (arith, c.type_inv.file i)) in
    let few = leader-few a.file.now a.net.now c.requires.net_of b _ (c.words_of-leader_words.ensures ∙ ap (afterwards 0) c.read.ensures) in
    sym (length-take-le c.words_of-leader_words.result a.leader.now (omega (arith, few, c.requires.leader_room_in_bounds)))

pub slice_bounds-fresh-end-3 : goal.slice_bounds-fresh-end-3
slice_bounds-fresh-end-3 c = let a = c.args in
    let b = bytes-are a.file.now (λ i. omega (arith, c.type_inv.file i)) in
    let few = follower-few a.file.now a.net.now c.requires.net_of b _ (c.words_of-follower_words.ensures ∙ ap (afterwards 0) c.read-2.ensures) in omega (arith, few, c.requires.follower_room_in_bounds)

pub slice_bounds-fresh-end-4 : goal.slice_bounds-fresh-end-4
slice_bounds-fresh-end-4 c = let a = c.args in
    let b = bytes-are a.file.now (λ i. omega (arith, c.type_inv.file i)) in
    let few = follower-few a.file.now a.net.now c.requires.net_of b _ (c.words_of-follower_words.ensures ∙ ap (afterwards 0) c.read-2.ensures) in
    sym (length-take-le c.words_of-follower_words.result a.follower.now (omega (arith, few, c.requires.follower_room_in_bounds)))

pub returns : goal.returns
returns c = let a = c.args in
    let b = bytes-are a.file.now (λ i. omega (arith, c.type_inv.file i)) in
    ends_fresh a.file.now a.net.now c.requires.net_of b a.leader.now a.follower.now c.words_of-leader_words.result c.words_of-follower_words.result
    c.words_of-leader_words.result c.words_of-follower_words.result c.fresh.new.state c.fresh-2.new.state
    (c.words_of-leader_words.ensures ∙ ap (afterwards 0) c.read.ensures) (c.words_of-follower_words.ensures ∙ ap (afterwards 0) c.read-2.ensures) refl refl
    c.requires.leader_room_in_bounds c.requires.follower_room_in_bounds c.fresh.ensures.state_after c.fresh-2.ensures.state_after
