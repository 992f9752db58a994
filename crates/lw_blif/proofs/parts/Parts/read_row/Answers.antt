use Rattle.std.proofs.Common.{◌≡◌, Some, None, sym, ap, ◌∙◌}
use Rattle.lw_blif.specs.Readers.{row_fault_of}
use Rattle.lw_blif.proofs.Keeping.{fit-row}
use Rattle.lw_blif.proofs.parts.Parts.read_row.Goals as goal

pub add_row-requires : goal.add_row-requires
add_row-requires c =
    (fit-row c.in-Some-node.node c.args.words.now
    (ap (λ n. row_fault_of n c.args.words.now) (sym c.in-Some-node.is) ∙ (sym c.row_fault.ensures ∙ c.in_default.is))).shape

pub returns-in-Some : goal.returns-in-Some
returns-in-Some c = record {
  fault = sym c.in-Some.is ∙ c.row_fault.ensures;
  row = λ e. let wrong : Some c.in-Some.kind ≡ None = e in cc;
}
