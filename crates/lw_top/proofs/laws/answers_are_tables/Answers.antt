use Rattle.std.proofs.Common.{subst, sym}
use Rattle.lw_map.specs.Tabled.{IsTablesTextOf}
use Rattle.lw_top.specs.Words.{tabling}
use Rattle.lw_top.proofs.Asked.{asked_text, names_read}
use Rattle.lw_top.proofs.InRange.{command_in_range}
use Rattle.lw_files.proofs.Kept.{model_kept}
use Rattle.lw_top.proofs.TableAnswers.{tabulated, readable_names}
use Rattle.lw_top.proofs.laws.answers_are_tables.Goals as goal

pub returns : goal.returns
returns c = λ words files text asks answer.
    let command = tabling asks.leaves asks.options asks.network in
    let range = command_in_range words command asks.form in
    let t = tabulated asks.leaves asks.options asks.network files text (asked_text words files command text asks.form answer) in
    let kept = model_kept asks.network files t.model t.read in
    let names = readable_names t.model (names_read asks.network files t.model t.read) kept in
    record {
      leaves = asks.leaves;
      options = asks.options;
      network = asks.network;
      form = asks.form;
      model = t.model;
      read = t.read;
      tables = subst (IsTablesTextOf asks.options asks.leaves t.model.network t.model.frame) (sym t.comes.says)
          (c.tabled_texts_are_mappings.ensures asks.options asks.leaves t.model.network t.model.frame t.comes.net range.1 range.0 t.comes.within kept.network kept.names_differ kept.fits.inputs kept.fits.outputs names t.comes.tabled);
    }
