use Rattle.std.proofs.Common.{◌≡◌, ◌≤◌, ◌++◌, ◌+◌, ◌-◌, take, length, true, ap, ◌∙◌, arith}
use Rattle.std.proofs.lemmas.List.{take_all, length-drop}
use Rattle.lw_words.specs.Gathering.{with_bytes}
use Rattle.lw_words.proofs.GatheredMore.{gathered, gathered-push_all, gathered-push_cut, IsKept-append, IsKept-cut}
use Rattle.lw_words.proofs.gathering.Gathering.push_all.Goals as goal

pub invariant_of-self-then-kept-bytes : goal.invariant_of-self-then-kept-bytes
invariant_of-self-then-kept-bytes c =
    let old = c.self.inside.bytes.items in
    let start = c.self.inside.start in
    let n = c.min-kept.result in
    let full : length old - start + n ≡ 4095 = omega (arith, c.self.invariant.gathered.few, length-drop start old) in
    rw c.in_ok-extend_from_slice.ensures.ok
    (IsKept-cut old c.self.inside.ends.items start c.self.inside.long c.args.bytes.now n c.self.invariant c.if-kept-bytes.true full c.requires.ink c.requires.no_hash)

pub returns-then-kept-bytes : goal.returns-then-kept-bytes
returns-then-kept-bytes c =
    let old = c.self.inside.bytes.items in
    let start = c.self.inside.start in
    let n = c.min-kept.result in
    let full : length old - start + n ≡ 4095 = omega (arith, c.self.invariant.gathered.few, length-drop start old) in
    ap (λ bs. gathered bs c.self.inside.ends.items start true) c.in_ok-extend_from_slice.ensures.ok
    ∙ (gathered-push_cut old c.self.inside.ends.items start c.self.inside.long c.args.bytes.now n c.self.invariant c.if-kept-bytes.true full
    ∙ ap (with_bytes c.args.bytes.now) c.self.view_is)

pub invariant_of-self-else-kept-bytes : goal.invariant_of-self-else-kept-bytes
invariant_of-self-else-kept-bytes c =
    let old = c.self.inside.bytes.items in
    let start = c.self.inside.start in
    let bytes = c.args.bytes.now in
    let fit : length old - start + length bytes ≤ 4095 = omega (arith, c.self.invariant.gathered.few, length-drop start old) in
    let whole : take c.min-kept.result bytes ≡ bytes = take_all c.min-kept.result bytes c.if-kept-bytes.false in
    rw (c.in_ok-extend_from_slice.ensures.ok ∙ ap (λ bs. old ++ bs) whole)
    (IsKept-append old c.self.inside.ends.items start c.self.inside.long bytes c.self.invariant fit c.requires.ink c.requires.no_hash)

pub returns-else-kept-bytes : goal.returns-else-kept-bytes
returns-else-kept-bytes c =
    let old = c.self.inside.bytes.items in
    let start = c.self.inside.start in
    let bytes = c.args.bytes.now in
    let fit : length old - start + length bytes ≤ 4095 = omega (arith, c.self.invariant.gathered.few, length-drop start old) in
    let whole : take c.min-kept.result bytes ≡ bytes = take_all c.min-kept.result bytes c.if-kept-bytes.false in
    ap (λ bs. gathered bs c.self.inside.ends.items start c.self.inside.long) (c.in_ok-extend_from_slice.ensures.ok ∙ ap (λ bs. old ++ bs) whole)
    ∙ (gathered-push_all old c.self.inside.ends.items start c.self.inside.long bytes c.self.invariant fit
    ∙ ap (with_bytes bytes) c.self.view_is)
