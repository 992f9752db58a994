use Rattle.std.proofs.Common.{◌≡◌, ◌∙◌, Bool, List, Some, sym, subst, arith}
use Rattle.std.specs.Prelude.{is_some}
use Rattle.lw_io.specs.declared.file.File.{File}
use Rattle.lw_io.specs.Files.{bytes_of}
use Rattle.lw_equal_top.specs.declared.source.Source.{Source}
use Rattle.lw_equal_top.specs.Compared.{IsAnswerFor}
use Rattle.lw_equal_top.specs.Reading.{SourcesRefused}
use Rattle.lw_equal_top.specs.Requests.{plain_comparison}
use Rattle.lw_equal_top.specs.Sources.{AreRead}
use Rattle.lw_equal_top.proofs.Paired.{have_values}
use Rattle.lw_equal_top.proofs.Reasons.{an_answer, as_known, no_source}
use Rattle.lw_equal_top.proofs.outcome.compare_files.Goals as goal

pub returns-in-Err : goal.returns-in-Err
returns-in-Err g c =
    let told = g.F.Shelf.files in
    let faults = g.F.Shelf.faults in
    let asked = plain_comparison c.args.comparison in
    let cells = c.in_ok-library.library in
    let first = c.in_ok-library.ensures in
    let then = c.in-Err.ensures.reads in
    let before = first.later in
    let after = then.later in
    let known : c.is_some-known.result ≡ is_some asked.library = c.is_some-known.ensures ∙ sym (as_known (λ word. word.now) c.args.comparison.library) in
    let reads = subst (λ (b : Bool). SourcesRefused (told c.read_cells.new.shelf) (faults c.read_cells.new.shelf) (faults c.read_sources.new.shelf) b cells asked.files c.in-Err.refusal) known then.reads in
    record {
      files = then.files ∙ first.files;
      later = omega (arith, before, after);
      comes = no_source (told c.args.shelf.now) (faults c.args.shelf.now) (faults c.read_sources.new.shelf) asked cells first.reads (told c.read_cells.new.shelf) (faults c.read_cells.new.shelf) c.in-Err.refusal first.files first.later reads;
      said = tt;
    }

pub returns-in-Ok-compare_sources : goal.returns-in-Ok-compare_sources
returns-in-Ok-compare_sources g c =
    let told = g.F.Shelf.files in
    let faults = g.F.Shelf.faults in
    let asked = plain_comparison c.args.comparison in
    let cells = c.in_ok-library.library in
    let first = c.in_ok-library.ensures in
    let then = c.in-Ok.ensures.reads in
    let before = first.later in
    let after = then.later in
    let sources = c.in-Ok.sources.items in
    let answer = c.in-Ok-compare_sources.outcome.answer in
    let known : c.is_some-known.result ≡ is_some asked.library = c.is_some-known.ensures ∙ sym (as_known (λ word. word.now) c.args.comparison.library) in
    let read : (files : List File) → told c.args.shelf.now ≡ Some files → AreRead (is_some asked.library) cells asked.files (bytes_of files) sources = λ files are.
    subst (λ (b : Bool). AreRead b cells asked.files (bytes_of files) sources) known (then.reads.0 files (first.files ∙ are)) in
    let right = subst (λ (ss : List Source). IsAnswerFor cells ss answer) c.deref.ensures.value c.in-Ok-compare_sources.ensures in
    record {
      files = then.files ∙ first.files;
      later = omega (arith, before, after);
      comes = an_answer (told c.args.shelf.now) (faults c.args.shelf.now) (faults c.read_sources.new.shelf) asked cells first.reads sources read answer right;
      said = have_values cells sources answer right;
    }
