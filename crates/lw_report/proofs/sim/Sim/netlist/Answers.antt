use Prim.{search}
use Rattle.std.proofs.Common.{ℕ, List, All, length, sym, ap, subst, ◌∙◌}
use Rattle.std.proofs.lemmas.List.{with_items_is}
use Rattle.lw_io.proofs.Putting.{text_ends}
use Rattle.lw_report.specs.Blocks.{IsBlock, vectors_in}
use Rattle.lw_report.specs.Simulated.{IsNetlistSimulation}
use Rattle.lw_report.proofs.sim.Sim.netlist.Goals as goal

pub put_netlist-requires-clause-words : goal.put_netlist-requires-clause-words
put_netlist-requires-clause-words g c = record {
  over = c.requires.over;
  one_each = ap (λ (ws : List ℕ). length ws) c.deref_mut.ensures.value ∙ c.requires.fits.made;
}

pub put_netlist-requires-clause-blocks : goal.put_netlist-requires-clause-blocks
put_netlist-requires-clause-blocks g c =
    let sized = subst (All (IsBlock c.args.vectors.now.inputs)) (sym c.blocks-2.ensures.blocks) c.blocks-2.ensures.sized in
    subst (λ n. All (IsBlock n) c.blocks-2.result.now) c.requires.fits.inputs sized

pub returns-clause-values : goal.returns-clause-values
returns-clause-values g c =
    let put = c.put_netlist.ensures in
    let end = text_ends c.new-out.ensures put.writes c.end.ensures search in
    record {
      text = λ lines stands. record {
        text = put.text;
        is = subst (λ vs. IsNetlistSimulation c.args.lib.now c.args.netlist.now vs put.text) (ap vectors_in c.blocks-2.ensures.blocks ∙ stands.kept c.requires.fits.good) put.is;
        ok = end.ok;
        failed = end.failed;
      };
      cause = end.cause;
    }

pub returns-clause-made : goal.returns-clause-made
returns-clause-made g c =
    let v = c.args.self.now.nets in
    let lent = ap (λ (ws : List ℕ). length ws) c.deref_mut.ensures.value in
    let size = c.put_netlist.auto.nets ∙ lent in
    ap (λ (ws : List ℕ). length ws) (with_items_is v c.put_netlist.new.nets (size ∙ sym v.ok.0)) ∙ size
