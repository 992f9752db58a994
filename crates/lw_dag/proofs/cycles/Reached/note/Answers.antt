use Rattle.std.proofs.Common.{◌≡◌, ◌<◌, ◌-◌, ℕ, ◌∷◌, false, length, get_or, refl, sym, ap, ◌∙◌, arith}
use Rattle.std.proofs.lemmas.List.{get_or_read}
use Rattle.std.proofs.lemmas.Result.{IfOk-from_err}
use Rattle.lw_dag.specs.Searching.{is_seen}
use Rattle.lw_dag.proofs.Searching.{searching_known, searching_noted, unseen-set}
use Rattle.lw_dag.proofs.cycles.Reached.note.Goals as goal

pub index-requires : goal.index-requires
index-requires c = omega (arith, c.requires, c.if-s-inputs.false)

pub returns-then-s-inputs : goal.returns-then-s-inputs
returns-then-s-inputs c = λ later. record {
  searching = λ graph p searching. searching_known c.args.inputs graph p c.args.self.now.seen.items c.args.self.now.ready.items (c.args.s ∷ later) 0 c.args.s (omega arith) refl searching (λ y is. absurd (omega (arith, c.if-s-inputs.true, is)));
  less = omega arith;
  len = refl;
}

pub returns-then-index : goal.returns-then-index
returns-then-index c =
    let s = c.args.s in
    let seen = c.args.self.now.seen.items in
    let node : ℕ = s - c.args.inputs in
    let within : node < length seen = omega (arith, c.args.self.now.seen.ok.0, c.requires, c.if-s-inputs.false) in
    let read = get_or_read seen node c.index.result.now within c.index.ensures false in
    λ later. record {
      searching = λ graph p searching. searching_known c.args.inputs graph p seen c.args.self.now.ready.items (s ∷ later) 0 s (omega arith) refl searching (λ y is. let e : y ≡ node = omega (arith, is, c.if-s-inputs.false) in ap (is_seen seen) e ∙ (sym read ∙ c.if-index.true));
      less = omega arith;
      len = refl;
    }

pub returns-in_err-push : goal.returns-in_err-push
returns-in_err-push c = IfOk-from_err _ _ c.from_residual.ensures.0

pub returns : goal.returns
returns c =
    let s = c.args.s in
    let seen = c.args.self.now.seen.items in
    let node : ℕ = s - c.args.inputs in
    let within : node < length seen = omega (arith, c.args.self.now.seen.ok.0, c.requires, c.if-s-inputs.false) in
    let none : get_or seen node false ≡ false = sym (get_or_read seen node c.index.result.now within c.index.ensures false) ∙ c.if-index.false in
    λ later. record {
      searching = λ graph p searching. rw c.in_ok-push.ensures.items (searching_noted c.args.inputs graph p seen c.args.self.now.ready.items (s ∷ later) 0 s (omega arith) refl searching node (omega (arith, c.if-s-inputs.false)));
      less = omega (arith, c.in_ok-push.ensures.len, unseen-set seen node within none);
      len = refl;
    }
