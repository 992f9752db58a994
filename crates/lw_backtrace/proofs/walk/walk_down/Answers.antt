use Rattle.std.proofs.Common.{◌∙◌, List, Option, ℕ, length, ap, sym, subst₂}
use Rattle.lw_laws.specs.Graphs.{Graph}
use Rattle.lw_facts.proofs.Results.{ok_both}
use Rattle.lw_backtrace.specs.Walks.{AreInputsTo}
use Rattle.lw_backtrace.proofs.walk.walk_down.Goals as goal

pub returns : goal.returns
returns c =
    ok_both c.walk_either.result c.walk_either.ensures c.walk_either.ensures (λ w f g. λ s are graph cells. f s c.args.targets.now are (record {
      inputs = subst₂ (λ (h : Graph) (is : List (Option ℕ)). AreInputsTo h (length h.leaves) is) (sym graph) (sym c.deref.ensures.value) c.in_ok-inputs.ensures;
      count = c.inputs.ensures.inputs ∙ ap (λ (h : Graph). length h.leaves) (sym graph);
      cells = cells;
      roots = sym c.as_slice.ensures;
      times = sym c.as_slice-2.ensures;
    }))
