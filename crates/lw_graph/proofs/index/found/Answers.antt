use Rattle.std.proofs.Common.{◌^◌, ◌<◌, rules, get_or, ◌∙◌, ap}
use Rattle.std.proofs.lemmas.List.Sorted.{IsPartitionPoint-from_clause}
use Rattle.lw_graph.specs.declared.pair.Pair.{Pair}
use Rattle.lw_graph.specs.declared.index.Entry.{Entry}
use Rattle.lw_graph.proofs.Indexing.{index_partitioned, is_lower, none_after, none_there, same_by_key}
use Rattle.lw_graph.proofs.index.found.Goals.{then-entry-pair-via-then-entry-pair, then-entry-pair-via-else-entry-pair+then-entry-pair-2}
use Rattle.lw_graph.proofs.index.found.Goals as goal

pub returns-then-place-entries : goal.returns-then-place-entries
returns-then-place-entries c =
    let entries = c.args.entries.now in
    let wanted = c.key-wanted.result in
    let point = IsPartitionPoint-from_clause (is_lower wanted) entries c.partition_point-place.result c.partition_point-place.ensures.partitioned (index_partitioned entries wanted c.requires) (λ a r q k. search rules) in
    none_after entries wanted c.partition_point-place.result c.args.pair c.requires point c.key-wanted.ensures c.if-place-entries.true

pub returns-then-entry-pair : goal.returns-then-entry-pair
returns-then-entry-pair c =
    let entries = c.args.entries.now in
    let wanted = c.key-wanted.result in
    let place = c.partition_point-place.result in
    let none : Entry = record { pair = record { x = record { 0 = 0 }; y = record { 0 = 0 } }; class = record { 0 = 0 } } in
    let point = IsPartitionPoint-from_clause (is_lower wanted) entries place c.partition_point-place.ensures.partitioned (index_partitioned entries wanted c.requires) (λ a r q k. search rules) in
    let a : (get_or entries place none).pair.y.0 < 2 ^ 32 = search rules in
    let b : c.args.pair.y.0 < 2 ^ 32 = search rules in
    none_there entries wanted place c.args.pair c.requires point c.key-wanted.ensures none c.if-place-entries.false (λ s.
    let same = same_by_key (get_or entries place none).pair c.args.pair a b (s ∙ c.key-wanted.ensures) in
    elim c.then-entry-pair.branch [
      | then-entry-pair-via-then-entry-pair w ↦ w.if-entry-pair.true (ap (λ (p : Pair). p.x.0) same)
      | then-entry-pair-via-else-entry-pair+then-entry-pair-2 w ↦ w.if-entry-pair-2.true (ap (λ (p : Pair). p.y.0) same)
    ])
