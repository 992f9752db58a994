use Rattle.std.proofs.Common.{◌≡◌, ℕ, ◌+◌, ◌-◌, sym, subst, arith}
use Rattle.lw_choices.specs.Tasks.{task}
use Rattle.lw_choices.specs.Rows.{IsListing}
use Rattle.lw_choices.proofs.Growing.{input_listed}
use Rattle.lw_choices.proofs.choices.list_inputs.Goals as goal

pub loop-input-init : goal.loop-input-init
loop-input-init c = record {
  low = omega (arith, c.inputs-input.ensures.inputs);
  listing = λ pats cells starts is. subst (λ k. IsListing (task c.args.graph.now pats cells starts) k 0 c.args.rows.now) (sym c.inputs-input.ensures.inputs) is;
}

pub loop-input-preserved : goal.loop-input-preserved
loop-input-preserved c =
    let input = c.loop-input.input - 1 in
    let one : ◌≡◌ {A = ℕ} c.loop-input.input (input + 1) = omega (arith, c.loop-input-test.true) in
    record {
      low = omega (arith, c.loop-input.invariant.low);
      listing = λ pats cells starts is.
          let s = task c.args.graph.now pats cells starts in
          let xs = c.loop-input.rows in
          let here = subst (λ k. IsListing s k 0 xs) one (c.loop-input.invariant.listing pats cells starts is) in
          let next = input_listed s input 0 c.leaf.result.0 xs c.leaf.ensures.class c.leaf.ensures.within here in
          subst (IsListing s input 0) (sym c.in_ok-push_input.ensures) next;
    }

pub returns : goal.returns
returns c pats cells starts is =
    let over : ◌≡◌ {A = ℕ} c.loop-input.input 0 = omega (arith, c.loop-input-test.false) in
    subst (λ k. IsListing (task c.args.graph.now pats cells starts) k 0 c.loop-input.rows) over (c.loop-input.invariant.listing pats cells starts is)
