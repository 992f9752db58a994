use Rattle.std.proofs.Common.{◌≡◌, ◌+◌, ℕ, rules, arith}
use Rattle.std.proofs.lemmas.List.Sorted.{IsPartitionPoint-from_clause}
use Rattle.lw_curves.specs.declared.point.Point.{Point}
use Rattle.lw_curves.proofs.Bisected.{is_by, rising_partitioned, none_by, last_in}
use Rattle.lw_curves.proofs.last_point.last_by.Goals as goal

pub returns-then-count-eq0 : goal.returns-then-count-eq0
returns-then-count-eq0 c rising =
    let ps = c.args.points.now in
    let by = c.in-Some.by in
    let count = c.partition_point-count.result in
    let split : ◌≡◌ {A = ℕ} (by + c.args.delay) c.args.time = omega (arith, c.in-Some.ensures) in
    let point = IsPartitionPoint-from_clause (is_by by) ps count c.partition_point-count.ensures.partitioned (rising_partitioned ps by rising) (λ a r q k. search rules) in
    none_by ps c.args.delay c.args.time by count split point c.if-count-eq0.true

pub returns : goal.returns
returns c rising =
    let ps = c.args.points.now in
    let by = c.in-Some.by in
    let count = c.partition_point-count.result in
    let d : Point = record { time = record { 0 = 0 }; area = 0 } in
    let split : ◌≡◌ {A = ℕ} (by + c.args.delay) c.args.time = omega (arith, c.in-Some.ensures) in
    let point = IsPartitionPoint-from_clause (is_by by) ps count c.partition_point-count.ensures.partitioned (rising_partitioned ps by rising) (λ a r q k. search rules) in
    last_in ps c.args.delay c.args.time by count split point d c.partition_point-count.ensures.bound c.if-count-eq0.false
