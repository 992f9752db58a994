use Rattle.std.proofs.Common.{◌≡◌, ◌<◌, ◌+◌, ◌++◌, ◌∷◌, [], false, length, refl, ap, sym, ◌∙◌, subst, arith, Contains, All, vec_len, inl}
use Rattle.std.proofs.lemmas.List.{get_or_default, get_or_read, nil_from_length}
use Rattle.std.proofs.lemmas.List.Elements.{Contains-push}
use Rattle.std.proofs.lemmas.Result.{IfOk-from_err}
use Rattle.lw_dag.specs.Graphs.{fanins_at}
use Rattle.lw_dag.specs.Searching.{IsSearching}
use Rattle.lw_dag.proofs.Searching.{searching_starts, searching_taken, searching_ends}
use Rattle.lw_dag.proofs.cycles.leads_to_itself.Goals as goal

pub bounds-graph-x : goal.bounds-graph-x
bounds-graph-x c =
    let popped : c.search.reached.ready.items ≡ c.pop.new.self.items ++ c.in-Some.x ∷ [] = c.in-Some.ensures.items in
    (c.search.invariant.nodes c.in-Some.x (subst (λ l. Contains l c.in-Some.x) (sym popped) (Contains-push c.pop.new.self.items c.in-Some.x))).0

pub note_all-requires : goal.note_all-requires
note_all-requires c =
    let graph = c.args.graph.now.nodes.now in
    let x = c.in-Some.x in
    let popped : c.search.reached.ready.items ≡ c.pop.new.self.items ++ x ∷ [] = c.in-Some.ensures.items in
    let within : x < length graph = (c.search.invariant.nodes x (subst (λ l. Contains l x) (sym popped) (Contains-push c.pop.new.self.items x))).0 in
    let fanins : c.as_slice.result.now ≡ fanins_at graph x = c.as_slice.ensures ∙ get_or_default graph x c.index-graph-x.result [] within in
    let all : All (λ s. s < c.args.graph.now.inputs + length graph) (fanins_at graph x) = c.args.graph.now.small.graph x in
    let flags : length graph ≡ vec_len c.search.reached.seen = omega (arith, c.search.invariant.flags) in
    subst (λ n. All (λ s. s < c.args.graph.now.inputs + n) c.as_slice.result.now) flags (subst (All (λ s. s < c.args.graph.now.inputs + length graph)) (sym fanins) all)

pub search-preserved : goal.search-preserved
search-preserved c =
    let graph = c.args.graph.now.nodes.now in
    let x = c.in-Some.x in
    let popped : c.search.reached.ready.items ≡ c.pop.new.self.items ++ x ∷ [] = c.in-Some.ensures.items in
    let within : x < length graph = (c.search.invariant.nodes x (subst (λ l. Contains l x) (sym popped) (Contains-push c.pop.new.self.items x))).0 in
    let fanins : c.as_slice.result.now ≡ fanins_at graph x = c.as_slice.ensures ∙ get_or_default graph x c.index-graph-x.result [] within in
    c.in_ok-note_all.ensures.searching graph c.args.p (subst (IsSearching c.args.graph.now.inputs graph c.args.p c.search.reached.seen.items c.pop.new.self.items) (sym fanins) (searching_taken c.args.graph.now.inputs graph c.args.p c.search.reached.seen.items c.search.reached.ready.items c.pop.new.self.items x c.args.graph.now.small.graph popped c.search.invariant))

pub returns : goal.returns
returns c =
    let graph = c.args.graph.now.nodes.now in
    let p = c.args.p in
    let seen = c.search.reached.seen.items in
    let empty : c.search.reached.ready.items ≡ [] = nil_from_length c.search.reached.ready.items (omega (arith, c.in_default.ensures.cases.0)) in
    let done = subst (λ l. IsSearching c.args.graph.now.inputs graph p seen l []) empty c.search.invariant in
    let within : p < length seen = omega (arith, c.search.invariant.flags) in
    let read = get_or_read seen p c.index.result.now within c.index.ensures false in
    (λ is. done.reached p (sym read ∙ is), λ path. read ∙ searching_ends c.args.graph.now.inputs graph p seen done p (c.args.graph.now.inputs + p) p path (inl refl) refl)

pub returns-in_err-seen : goal.returns-in_err-seen
returns-in_err-seen c = IfOk-from_err _ _ c.from_residual.ensures.0

pub returns-in_err-push : goal.returns-in_err-push
returns-in_err-push c = IfOk-from_err _ _ c.from_residual-in_err-push.ensures.0

pub returns-in_err-note_all : goal.returns-in_err-note_all
returns-in_err-note_all c = IfOk-from_err _ _ c.from_residual-in_err-note_all.ensures.0

pub search-init : goal.search-init
search-init c =
    let graph = c.args.graph.now.nodes.now in
    let p = c.args.p in
    let none = sym (c.in_ok-seen.ensures.items_if_clones_equal (λ y e. e)) in
    let only : p ∷ [] ≡ c.push.new.self.items = sym (c.in_ok-push.ensures.items ∙ ap (λ l. l ++ p ∷ []) c.new-ready.ensures.items) in
    subst (λ ready. IsSearching c.args.graph.now.inputs graph p c.in_ok-seen.seen.items ready []) only
    (subst (λ seen. IsSearching c.args.graph.now.inputs graph p seen (p ∷ []) []) none (searching_starts c.args.graph.now.inputs graph p c.requires))

pub search-smaller : goal.search-smaller
search-smaller c = omega (arith, c.in_ok-note_all.ensures.less, c.in-Some.ensures.len)
