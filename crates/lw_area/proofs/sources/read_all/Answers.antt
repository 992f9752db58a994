use Rattle.std.proofs.Common.{◌≡◌, ◌∙◌, ℕ, List, [], Ok, length, map, slice_index_or, string_bytes, refl, sym, subst, subst₂, arith}
use Rattle.std.proofs.lemmas.List.{length-map, length-take-le}
use Rattle.std.proofs.lemmas.Result.{err_from_is_err_and}
use Rattle.lw_io.specs.Files.{bytes_of}
use Rattle.lw_net.specs.Networks.{input_names}
use Rattle.lw_area.specs.Sources.{IsFurtherTo, ReadsFurther, ReadsOne}
use Rattle.lw_area.specs.declared.sources.Further.{Further}
use Rattle.lw_area.proofs.Further.{AreRead, all_more, all_read, none_read, one_read, one_refused, word_first}
use Rattle.lw_area.proofs.Steps.{moved}
use Rattle.lw_area.proofs.sources.read_all.Goals as goal

pub files-init : goal.files-init
files-init g c = record {
  files = refl;
  later = omega arith;
  fit = λ k d lt. absurd (omega arith);
  read = λ files known. subst (λ (fs : List Further). AreRead (input_names c.args.network.now) (map string_bytes c.args.names.now) 0 fs (bytes_of files)) (sym c.new-further.ensures.items) (none_read (input_names c.args.network.now) (map string_bytes c.args.names.now) (bytes_of files));
}

pub files-preserved : goal.files-preserved
files-preserved g c =
    let net = c.args.network.now in
    let names = input_names net in
    let words = map string_bytes c.args.names.now in
    let inv = c.files.invariant in
    let reads = c.in_ok-one.ensures.reads in
    let count = length-map c.args.names.now string_bytes in
    let named = c.inputs.ensures.kept.named in
    let inputs : length names ≡ net.inputs = length-take-le net.inputs net.names (omega arith) in
    record {
      files = reads.files ∙ inv.files;
      later = omega (arith, inv.later, reads.later);
      fit = rw c.in_ok-put.ensures (all_more (IsFurtherTo net.inputs) c.files.further.items c.in_ok-one.one inv.fit (subst (λ (n : ℕ). IsFurtherTo n c.in_ok-one.one) inputs (rw c.in_ok-inputs.ensures at c.in_ok-one.ensures.fits)));
      read = λ files known.
          rw c.in_ok-put.ensures (one_read names words c.files.place (slice_index_or words c.files.place []) (word_first words c.files.place (omega (arith, count, c.files-test.true))) c.files.further.items (bytes_of files) (inv.read files known) c.in_ok-one.one
          (subst₂ (λ ns w. ReadsOne ns c.files.place w (bytes_of files) (Ok c.in_ok-one.one)) c.in_ok-inputs.ensures c.name_at.ensures (reads.comes files (inv.files ∙ known))));
    }

pub returns-clause-reads : goal.returns-clause-reads
returns-clause-reads g c =
    let words = map string_bytes c.args.names.now in
    let inv = c.files.invariant in
    let count = length-map c.args.names.now string_bytes in
    record {
      files = inv.files;
      later = inv.later;
      comes = λ files known. all_read (input_names c.args.network.now) words c.files.place c.files.further.items (bytes_of files) (omega (arith, count, c.files-test.false, c.files.auto.place-end)) (inv.read files known);
    }

pub returns-clause-fit : goal.returns-clause-fit
returns-clause-fit g c = c.files.invariant.fit

pub returns-in_err-one-clause-reads : goal.returns-in_err-one-clause-reads
returns-in_err-one-clause-reads g c =
    let p = err_from_is_err_and c.from_residual-in_err-one.result c.from_residual-in_err-one.ensures.1 in
    let names = input_names c.args.network.now in
    let words = map string_bytes c.args.names.now in
    let inv = c.files.invariant in
    let reads = c.in_err-one.ensures.reads in
    let count = length-map c.args.names.now string_bytes in
    rw (p.1, p.2) (record {
      files = reads.files ∙ inv.files;
      later = omega (arith, inv.later, reads.later);
      comes =
          moved (g.F.Shelf.files c.args.shelf.now) (g.F.Shelf.faults c.args.shelf.now) (g.F.Shelf.faults c.files.shelf) (g.F.Shelf.faults c.read_further.new.shelf) (ReadsOne names c.files.place (slice_index_or words c.files.place [])) (ReadsFurther names 0 words) inv.later
          (λ e files known is. one_refused names words c.files.place (slice_index_or words c.files.place []) (word_first words c.files.place (omega (arith, count, c.files-test.true))) c.files.further.items (bytes_of files) (inv.read files known) e is) _
          (rw (inv.files, c.in_ok-inputs.ensures, c.name_at.ensures) at reads.comes);
    })
