use Rattle.std.proofs.Common.{◌∙◌, ◌+◌, List, Ok, length, map, take, string_bytes, All, ap, subst, sym, arith}
use Rattle.std.proofs.lemmas.List.{length_push}
use Rattle.std.proofs.lemmas.List.Elements.{All-push}
use Rattle.lw_io.specs.Files.{bytes_of}
use Rattle.lw_files.specs.Reading as file
use Rattle.lw_equal_top.specs.declared.source.Source.{Source}
use Rattle.lw_equal_top.specs.Sources.{AreRead, IsSource, ReadsSource}
use Rattle.lw_equal_top.proofs.Reasons.{one_more_read, one_refused}
use Rattle.lw_equal_top.proofs.reading.read_sources.Goals as goal

pub returns-in-Err-clause-reads : goal.returns-in-Err-clause-reads
returns-in-Err-clause-reads g c =
    let told = g.F.Shelf.files in
    let faults = g.F.Shelf.faults in
    let was = c.names.invariant in
    let read = c.in-Err.ensures.reads in
    let word = c.index-names-place.result in
    let here = ap string_bytes c.index-names-place.is in
    let reason = subst (λ name. file.HasReason (told c.names.shelf) (faults c.names.shelf) (faults c.read_source.new.shelf) (ReadsSource c.args.known c.args.library.now name) c.in-Err.fault) (c.as_str.ensures.value ∙ here) read.reads in
    record {
      files = read.files ∙ was.files;
      later = let first = was.later in let then = read.later in omega (arith, first, then);
      reads = rw c.of_file.ensures (one_refused string_bytes c.args.names.now c.names.place word c.names-test.true (told c.args.shelf.now) (told c.names.shelf) (faults c.args.shelf.now) (faults c.names.shelf) (faults c.read_source.new.shelf) c.args.known c.args.library.now c.names.sources.items c.in-Err.fault was.files was.later was.are reason);
    }

pub names-preserved : goal.names-preserved
names-preserved g c =
    let told = g.F.Shelf.files in
    let was = c.names.invariant in
    let read = c.in-Ok.ensures.reads in
    let word = c.index-names-place.result in
    let here = ap string_bytes c.index-names-place.is in
    let sources = c.names.sources.items in
    let source = c.in-Ok.source in
    let pushed = sym c.in_ok-add-in-Ok.ensures in
    record {
      files = read.files ∙ was.files;
      later = let first = was.later in let then = read.later in omega (arith, first, then);
      are = λ files known.
          let is = subst (λ name. ReadsSource c.args.known c.args.library.now name (bytes_of files) (Ok source)) (c.as_str.ensures.value ∙ here) (read.reads files (was.files ∙ known)) in
          subst (λ (ss : List Source). AreRead c.args.known c.args.library.now (take (c.names.place + 1) (map string_bytes c.args.names.now)) (bytes_of files) ss) pushed
          (one_more_read string_bytes c.args.names.now c.names.place word c.names-test.true c.args.known c.args.library.now (bytes_of files) sources source (was.are files known) is);
      count = let more = length_push sources source in let long = ap length c.in_ok-add-in-Ok.ensures in let count = was.count in omega (arith, more, long, count);
      all = subst (All (IsSource c.args.library.now)) pushed (All-push (IsSource c.args.library.now) sources source was.all c.in-Ok.ensures.source);
    }
