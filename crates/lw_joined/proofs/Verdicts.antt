-- The verdict on a netlist over the graph of several networks.
use Rattle.std.proofs.Common.{◌≡◌, List, Result, Ok, Err, IfOk, length, map, ap, sym, ◌∙◌, subst}
use Rattle.std.proofs.lemmas.List.{length-map}
use Rattle.lw_pool.specs.declared.id.ClassId.{ClassId}
use Rattle.lw_pool.specs.Numbers.{numbers}
use Rattle.lw_laws.specs.Covers.{Pattern}
use Rattle.lw_net.specs.Networks.{NetworkParts, output_port}
use Rattle.lw_genlib.specs.Cells.{CellParts}
use Rattle.lw_pattern.specs.Libraries.{library_patterns}
use Rattle.lw_blif.specs.declared.parsed.Parsed.{Parsed}
use Rattle.lw_mapped.specs.declared.closing.Mapped.{Mapped}
use Rattle.lw_check.specs.declared.verdict.Verdict.{Verdict}
use Rattle.lw_check.specs.Verdicts.{IsVerdict}
use Rattle.lw_joined.specs.declared.choices.Joined.{Joined}
use Rattle.lw_joined.specs.Choices.{IsJoined}
use Rattle.lw_joined.specs.Covering.{HasVerdict}

-- there is a root for each output
pub one_root : (net : NetworkParts) (j : Joined) → IsJoined net j → length j.choices.roots ≡ length net.outputs
one_root net j is =
    let outputs = map (output_port net) net.outputs in
    let same : length (numbers j.choices.roots) ≡ length outputs = ap length is.roots ∙ length-map outputs _ in
    sym (length-map j.choices.roots (λ (k : ClassId). k.0)) ∙ (same ∙ length-map net.outputs (output_port net))

-- the patterns are the library's
pub judged : {E : Type 0} (cells : List CellParts) (model : Parsed) (j : Joined) (m : Mapped) (pats : List Pattern) → pats ≡ library_patterns cells → (r : Result Verdict E) → IfOk r (IsVerdict model.network model.frame model.starts cells j.choices.graph pats j.choices.roots m) → IfOk r (HasVerdict cells model j m)
judged cells model j m pats same (Ok v) is = subst (λ (ps : List Pattern). IsVerdict model.network model.frame model.starts cells j.choices.graph ps j.choices.roots m v) same is
judged cells model j m pats same (Err e) is = tt
