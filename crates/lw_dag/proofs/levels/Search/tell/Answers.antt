use Rattle.std.proofs.Common.{◌≡◌, ◌<◌, ◌+◌, ◌++◌, ◌∷◌, [], All, List, Some, ℕ, length, sym, ◌∙◌, subst, arith, Contains}
use Rattle.std.proofs.lemmas.Bool.{false≢true}
use Rattle.std.proofs.lemmas.List.{append-nil, get_or_read, nil_from_length}
use Rattle.std.proofs.lemmas.List.Elements.{All-contains, All-pop, All-same, Contains-push}
use Rattle.std.proofs.lemmas.Result.{IfOk-from_err}
use Rattle.lw_dag.specs.Rising.{waiting_at, IsRising}
use Rattle.lw_dag.proofs.Rising.{rising_told}
use Rattle.lw_dag.proofs.levels.Search.tell.Goals as goal

-- the signal that is to be told is one of the signals
told_within : (n : ℕ) (ready rest : List ℕ) (s : ℕ) → ready ≡ rest ++ s ∷ [] → All (λ t. t < n) ready → s < n
told_within n ready rest s popped all = (All-pop (λ t. t < n) ready rest (Some s) popped all).1

pub returns-in_default-clause-after : goal.returns-in_default-clause-after
returns-in_default-clause-after c =
    let l = c.args.self.now in
    record {
      rising = subst (λ ready. IsRising c.args.graph.now.inputs c.args.graph.now.nodes.now l.heights.items l.waiting.items ready []) (c.in_default.ensures.items ∙ append-nil c.pop.new.self.items) c.requires.rising;
      ordered = c.requires.ordered;
    }

pub returns-in_default-clause-less : goal.returns-in_default-clause-less
returns-in_default-clause-less c = λ is. absurd (false≢true is)

pub returns-in_default-clause-done : goal.returns-in_default-clause-done
returns-in_default-clause-done c = λ is.
    let ready = c.args.self.now.ready.items in
    sym (append-nil c.pop.new.self.items) ∙ (sym c.in_default.ensures.items ∙ nil_from_length ready (omega (arith, c.in_default.ensures.cases.0)))

pub index_mut-requires : goal.index_mut-requires
index_mut-requires c =
    let l = c.args.self.now in
    let n = c.args.graph.now.inputs + length c.args.graph.now.nodes.now in
    omega (arith, l.waiting.ok.0, c.requires.rising.lists, told_within n l.ready.items c.pop.new.self.items c.in-Some.s c.in-Some.ensures.items c.requires.rising.signals)

pub settle_all-requires-clause-nodes : goal.settle_all-requires-clause-nodes
settle_all-requires-clause-nodes c =
    let l = c.args.self.now in
    let s = c.in-Some.s in
    let n = c.args.graph.now.inputs + length c.args.graph.now.nodes.now in
    let in_waiting : s < length l.waiting.items = omega (arith, c.requires.rising.lists, told_within n l.ready.items c.pop.new.self.items s c.in-Some.ensures.items c.requires.rising.signals) in
    let old = c.as_slice.ensures ∙ (c.replace-nodes.ensures.value ∙ get_or_read l.waiting.items s c.index_mut.result.now in_waiting c.index_mut.ensures.value []) in
    All-same (λ j. j < length c.args.graph.now.nodes.now) _ _ old (c.requires.rising.nodes s)

pub settle_all-requires-clause-before : goal.settle_all-requires-clause-before
settle_all-requires-clause-before c =
    let l = c.args.self.now in
    let s = c.in-Some.s in
    let rest = c.pop.new.self.items in
    let popped : l.ready.items ≡ rest ++ s ∷ [] = c.in-Some.ensures.items in
    let among : Contains l.ready.items s = subst (λ r. Contains r s) (sym popped) (Contains-push rest s) in
    let within : s < c.args.graph.now.inputs + length c.args.graph.now.nodes.now = All-contains (λ t. t < c.args.graph.now.inputs + length c.args.graph.now.nodes.now) l.ready.items s c.requires.rising.signals among in
    let in_waiting : s < length l.waiting.items = omega (arith, c.requires.rising.lists) in
    let old : c.as_slice.result.now ≡ waiting_at l.waiting.items s = c.as_slice.ensures ∙ (c.replace-nodes.ensures.value ∙ get_or_read l.waiting.items s c.index_mut.result.now in_waiting c.index_mut.ensures.value []) in
    record {
      rising = rw (c.replace-nodes.ensures.after, c.empty.ensures, old) (rising_told c.args.graph.now.inputs c.args.graph.now.nodes.now l.heights.items l.waiting.items l.ready.items rest s c.requires.rising popped);
      ordered = c.requires.ordered;
    }

pub returns-in_err-settle_all : goal.returns-in_err-settle_all
returns-in_err-settle_all c =
    let failed = c.from_residual.ensures.0 in
    record { after = IfOk-from_err _ _ failed; less = IfOk-from_err _ _ failed; done = IfOk-from_err _ _ failed }

pub returns-clause-after : goal.returns-clause-after
returns-clause-after c = c.in_ok-settle_all.ensures.levelling

pub returns-clause-less : goal.returns-clause-less
returns-clause-less c = λ told. omega (arith, c.in_ok-settle_all.ensures.less, c.in-Some.ensures.len)

pub returns-clause-done : goal.returns-clause-done
returns-clause-done c = λ is. absurd (false≢true (sym is))
