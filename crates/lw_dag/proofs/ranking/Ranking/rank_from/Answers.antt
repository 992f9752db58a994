use Rattle.std.proofs.Common.{◌≡◌, ◌<◌, ◌+◌, ◌++◌, ◌∷◌, [], length, set, sym, ap, ◌∙◌, subst, arith, Contains, All, vec_len}
use Rattle.std.proofs.lemmas.List.{append-nil, get_or_default, get_or_read, nil_from_length}
use Rattle.std.proofs.lemmas.List.Elements.{Contains-push}
use Rattle.std.proofs.lemmas.Result.{IfOk-from_err}
use Rattle.lw_dag.specs.Graphs.{fanins_at}
use Rattle.lw_dag.specs.Ranking.{rank_at, IsRanking}
use Rattle.lw_dag.proofs.Ranks.{ranking_starts, ranking_taken, ranking_ends}
use Rattle.lw_dag.proofs.ranking.Ranking.rank_from.Goals as goal

pub bounds-graph-x : goal.bounds-graph-x
bounds-graph-x c =
    let popped : c.search.self.ready.items ≡ c.pop.new.self.items ++ c.in-Some.x ∷ [] = c.in-Some.ensures.items in
    (c.search.invariant.nodes c.in-Some.x (subst (λ l. Contains l c.in-Some.x) (sym popped) (Contains-push c.pop.new.self.items c.in-Some.x))).0

pub rank_all-requires : goal.rank_all-requires
rank_all-requires c =
    let graph = c.args.graph.now.nodes.now in
    let x = c.in-Some.x in
    let popped : c.search.self.ready.items ≡ c.pop.new.self.items ++ x ∷ [] = c.in-Some.ensures.items in
    let within : x < length graph = (c.search.invariant.nodes x (subst (λ l. Contains l x) (sym popped) (Contains-push c.pop.new.self.items x))).0 in
    let fanins : c.as_slice.result.now ≡ fanins_at graph x = c.as_slice.ensures ∙ get_or_default graph x c.index-graph-x.result [] within in
    let all : All (λ s. s < c.args.graph.now.inputs + length graph) (fanins_at graph x) = c.args.graph.now.small.graph x in
    let flags : length graph ≡ vec_len c.search.self.ranks = omega (arith, c.search.invariant.one_each) in
    record { some = c.requires.some; signals = subst (λ n. All (λ s. s < c.args.graph.now.inputs + n) c.as_slice.result.now) flags (subst (All (λ s. s < c.args.graph.now.inputs + length graph)) (sym fanins) all) }

pub search-preserved : goal.search-preserved
search-preserved c =
    let graph = c.args.graph.now.nodes.now in
    let x = c.in-Some.x in
    let popped : c.search.self.ready.items ≡ c.pop.new.self.items ++ x ∷ [] = c.in-Some.ensures.items in
    let within : x < length graph = (c.search.invariant.nodes x (subst (λ l. Contains l x) (sym popped) (Contains-push c.pop.new.self.items x))).0 in
    let fanins : c.as_slice.result.now ≡ fanins_at graph x = c.as_slice.ensures ∙ get_or_default graph x c.index-graph-x.result [] within in
    c.in_ok-rank_all.ensures.ranking graph (subst (IsRanking c.args.graph.now.inputs graph c.args.rank c.search.self.ranks.items c.pop.new.self.items) (sym fanins) (ranking_taken c.args.graph.now.inputs graph c.args.rank c.search.self.ranks.items c.search.self.ready.items c.pop.new.self.items x popped c.search.invariant))

pub returns-then-index-ne0 : goal.returns-then-index-ne0
returns-then-index-ne0 c = record { are = c.requires.before.are; low = λ x. omega (arith, c.requires.before.low x); done = c.requires.before.done }

pub returns-in_err-push : goal.returns-in_err-push
returns-in_err-push c = IfOk-from_err _ _ c.from_residual.ensures.0

pub search-init : goal.search-init
search-init c =
    let ranks = c.args.self.now.ranks.items in
    let within : c.args.p < length ranks = omega (arith, c.requires.before.are.one_each, c.requires.within) in
    let none : rank_at ranks c.args.p ≡ 0 = sym (get_or_read ranks c.args.p c.index.result.now within c.index.ensures 0) ∙ c.if-index-ne0.false in
    let only : c.push.new.self.items ≡ c.args.p ∷ [] = c.in_ok-push.ensures.items ∙ ap (λ l. l ++ c.args.p ∷ []) c.requires.before.done in
    subst (λ ready. IsRanking c.args.graph.now.inputs c.args.graph.now.nodes.now c.args.rank (set ranks c.args.p c.args.rank) ready []) (sym only)
    (ranking_starts c.args.graph.now.inputs c.args.graph.now.nodes.now c.args.rank ranks c.args.p c.requires.within none c.requires.before.are (λ x. omega (arith, c.requires.some, c.requires.before.low x)))

pub search-smaller : goal.search-smaller
search-smaller c = omega (arith, c.in_ok-rank_all.ensures.less, c.in-Some.ensures.len)

pub returns-in_err-rank_all : goal.returns-in_err-rank_all
returns-in_err-rank_all c = IfOk-from_err _ _ c.from_residual-in_err-rank_all.ensures.0

pub returns : goal.returns
returns c =
    let empty : c.search.self.ready.items ≡ [] = nil_from_length c.search.self.ready.items (omega (arith, c.in_default.ensures.cases.0)) in
    record {
      are = ranking_ends c.args.graph.now.inputs c.args.graph.now.nodes.now c.args.rank c.search.self.ranks.items (subst (λ ready. IsRanking c.args.graph.now.inputs c.args.graph.now.nodes.now c.args.rank c.search.self.ranks.items ready []) empty c.search.invariant);
      low = c.search.invariant.low;
      done = sym (append-nil c.pop.new.self.items) ∙ (sym c.in_default.ensures.items ∙ empty);
    }
