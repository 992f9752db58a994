use Prim.{search}
use Rattle.std.proofs.Common.{ℕ, List, All, length, sym, ap, subst, ◌∙◌}
use Rattle.std.proofs.lemmas.List.{with_items_is}
use Rattle.lw_io.proofs.Putting.{text_ends}
use Rattle.lw_report.specs.Blocks.{IsBlock, vectors_in}
use Rattle.lw_report.specs.Simulated.{IsNetworkSimulation}
use Rattle.lw_report.proofs.sim.Sim.network.Goals as goal

pub put_network-requires-clause-made : goal.put_network-requires-clause-made
put_network-requires-clause-made g c = ap (λ (ws : List ℕ). length ws) c.deref_mut.ensures.value ∙ c.requires.made

pub put_network-requires-clause-blocks : goal.put_network-requires-clause-blocks
put_network-requires-clause-blocks g c =
    let sized = subst (All (IsBlock c.args.vectors.now.inputs)) (sym c.blocks-2.ensures.blocks) c.blocks-2.ensures.sized in
    subst (λ n. All (IsBlock n) c.blocks-2.result.now) c.requires.inputs sized

pub returns-clause-values : goal.returns-clause-values
returns-clause-values g c =
    let put = c.put_network.ensures in
    let end = text_ends c.new-out.ensures put.writes c.end.ensures search in
    record {
      text = λ lines stands. record {
        text = put.text;
        is = subst (λ vs. IsNetworkSimulation c.args.net.now vs put.text) (ap vectors_in c.blocks-2.ensures.blocks ∙ stands.kept c.requires.good) put.is;
        ok = end.ok;
        failed = end.failed;
      };
      cause = end.cause;
    }

pub returns-clause-made : goal.returns-clause-made
returns-clause-made g c =
    let v = c.args.self.now.nets in
    let lent = ap (λ (ws : List ℕ). length ws) c.deref_mut.ensures.value in
    let size = c.put_network.auto.nets ∙ lent in
    ap (λ (ws : List ℕ). length ws) (with_items_is v c.put_network.new.nets (size ∙ sym v.ok.0)) ∙ size
