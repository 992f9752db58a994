-- What lines come to is kept.
use Rattle.std.proofs.Common.{ℕ, ◌≡◌, ◌<◌, ◌≤◌, ◌⊎◌, inl, inr, List, length, map, take, get_or, Option, Some, None, Ok, All, refl, ap, sym, ◌∙◌, subst, arith, length-append, length-take}
use Rattle.std.specs.Prelude.{slice_index_or}
use Rattle.std.specs.List.{flat_map, AllByRecursion as Each}
use Rattle.std.specs.Option.{IfSome}
use Rattle.std.proofs.lemmas.Bool.{cases_lt}
use Rattle.std.proofs.lemmas.List.{length-map, get_or-take, get_or_past}
use Rattle.std.proofs.lemmas.List.Elements.{All-from_get_or, All-map}
use Rattle.lw_words.specs.Lines.{LogicalLine}
use Rattle.lw_fixed.specs.declared.micro.Micro.{Micro}
use Rattle.lw_pool.specs.declared.id.ClassId.{ClassId}
use Rattle.lw_frame.specs.Frames.{output_of}
use Rattle.lw_frame.specs.Starts.{IsEarly}
use Rattle.lw_genlib.specs.Cells.{CellParts, IsLibrary}
use Rattle.lw_netlist.specs.declared.gate.Gate.{Gate}
use Rattle.lw_netlist.specs.Netlists.{IsNetlist}
use Rattle.lw_netlist.specs.Plain.{IsOver}
use Rattle.lw_mapped.specs.declared.closing.Mapped.{Mapped}
use Rattle.lw_mapped.specs.declared.saying.Saying.{Saying}
use Rattle.lw_mapped.specs.Alike.{AreSameMapped}
use Rattle.lw_mapped.specs.Closings.{HasFewGates}
use Rattle.lw_mapped.specs.Fitting.{IsMapped}
use Rattle.lw_mapped.specs.LineFaults.{FaultAt, lines_read, lines_say, text_fault}
use Rattle.lw_mapped.specs.Limits.{word_limit}
use Rattle.lw_mapped.specs.Parsed.{IsFit, IsLabel}
use Rattle.lw_mapped.specs.Readable.{IsReadableCertificate}
use Rattle.lw_mapped.specs.Said.{inputs_in, latches_in, nets_in, class_among}
use Rattle.lw_mapped.specs.Standing.{word_count}
use Rattle.lw_mapped.specs.Texts.{net_name}
use Rattle.lw_mapped.specs.Unmapped.{ComesTo, IsSaid, IsUnmapped, draft_said}
use Rattle.lw_mapped.proofs.CellGates.{lines-of-cells}
use Rattle.lw_mapped.proofs.Fitted.{parts-fit}
use Rattle.lw_mapped.proofs.Kept.{closed-netlist, closed-over}
use Rattle.lw_mapped.proofs.Limits.{class-within, label-within, lines-within, starts-early}
use Rattle.lw_mapped.proofs.Sizes.{lines-fit, read-fits}
use Rattle.lw_mapped.proofs.Weights.{few-gates}
use Rattle.lw_laws.specs.Graphs.{most_classes}

-- what comes to a netlist has no fault
pub comes-said : (first : Option FaultAt) (said : List Saying) (mapped : Mapped) → ComesTo first said (Ok mapped) → IsSaid said mapped
comes-said None said mapped comes = comes
comes-said (Some fault) said mapped comes = absurd comes

-- What is said within its limits.
module _ (said : List Saying) (mapped : Mapped) (is : IsSaid said mapped) (fit : Each IsFit said) where
  label-is : (class : ℕ) (label : Micro) → slice_index_or mapped.cert.labels class None ≡ Some label → (class < most_classes) × IsLabel label
  label-is class label e = label-within said class label fit (sym (is.labels class) ∙ e)

  one-class : length mapped.cert.nets ≡ length mapped.netlist.gates
  one-class = ap length is.nets ∙ length-map mapped.netlist.gates (λ (gate : Gate). class_among (flat_map nets_in said) (net_name mapped.netlist.names gate.out))

  said-certificate : IsReadableCertificate (length mapped.netlist.gates) mapped.cert
  said-certificate = record {
    labels = label-is;
    one_each = one-class;
    classes =
        subst (All (λ class. IfSome class (λ (c : ClassId). c.0 < most_classes))) (sym is.nets)
        (All-map (λ class. IfSome class (λ (c : ClassId). c.0 < most_classes)) (λ (gate : Gate). class_among (flat_map nets_in said) (net_name mapped.netlist.names gate.out)) mapped.netlist.gates
        (λ k d lt. class-within said (net_name mapped.netlist.names (get_or mapped.netlist.gates k d).out) fit));
  }

  label-if : (class : ℕ) → IfSome (slice_index_or mapped.cert.labels class None) IsLabel
  label-if class = by_label (slice_index_or mapped.cert.labels class None) refl
    where
      by_label : (o : Option Micro) → slice_index_or mapped.cert.labels class None ≡ o → IfSome o IsLabel
      by_label None e = tt
      by_label (Some label) e = (label-is class label e).1

  said-mapped : length mapped.cert.labels ≤ most_classes → IsMapped mapped
  said-mapped few =
      parts-fit said mapped is
      (record { classes = few; labels = All-from_get_or (λ (label : Option Micro). IfSome label IsLabel) mapped.cert.labels None (λ k below. label-if k) })
      (subst (All IsEarly) (sym is.starts) (starts-early said (flat_map inputs_in said) (length (flat_map latches_in said)) fit))

-- A certificate without the places past the last class.

abbrev trimmed : Mapped → Mapped
trimmed mapped = record {
  netlist = mapped.netlist;
  frame = mapped.frame;
  starts = mapped.starts;
  cert = record { labels = take most_classes mapped.cert.labels; nets = mapped.cert.nets };
}

trim-label : (most : ℕ) (labels : List (Option Micro)) → ((class : ℕ) (label : Micro) → slice_index_or labels class None ≡ Some label → class < most) → (class : ℕ) → slice_index_or labels class None ≡ slice_index_or (take most labels) class None
trim-label most labels few class = by_place (cases_lt class most)
  where
    none : most ≤ class → (o : Option Micro) → slice_index_or labels class None ≡ o → slice_index_or labels class None ≡ None
    none le None e = e
    none le (Some label) e = absurd (omega (arith, few class label e, le))

    by_place : (class < most) ⊎ (most ≤ class) → slice_index_or labels class None ≡ slice_index_or (take most labels) class None
    by_place (inl lt) = sym (get_or-take most labels class None lt)
    by_place (inr le) = none le (slice_index_or labels class None) refl ∙ sym (get_or_past (take most labels) class None (omega (arith, length-take most labels, le)))

module _ (said : List Saying) (mapped : Mapped) (is : IsSaid said mapped) (fit : Each IsFit said) where
  same-label : (class : ℕ) → slice_index_or mapped.cert.labels class None ≡ slice_index_or (take most_classes mapped.cert.labels) class None
  same-label = trim-label most_classes mapped.cert.labels (λ class label e. (label-is said mapped is fit class label e).0)

  trimmed-said : IsSaid said (trimmed mapped)
  trimmed-said = record { netlist = is.netlist; frame = is.frame; starts = is.starts; labels = λ class. sym (same-label class) ∙ is.labels class; nets = is.nets }

  said-trimmed : (same : Mapped) × AreSameMapped mapped same × IsMapped same
  said-trimmed = (
    trimmed mapped,
    record { netlist = refl; frame = refl; starts = refl; certificates = record { labels = same-label; nets = refl } },
    said-mapped said (trimmed mapped) trimmed-said fit (omega (arith, length-take most_classes mapped.cert.labels)),
  )

-- What lines come to.
module _ (cells : List CellParts) (lines : List LogicalLine) (mapped : Mapped) (comes : IsUnmapped cells lines (Ok mapped)) where
  abbrev what : List Saying
  what = lines_say cells (lines_read lines)

  is-said : IsSaid what mapped
  is-said = comes-said (text_fault cells lines) what mapped comes

  within : Each IsFit what
  within = lines-within cells (lines_read lines)

  pub read-netlist : word_count lines < word_limit → IsNetlist mapped.netlist
  read-netlist few =
      let latches = flat_map latches_in what in
      closed-netlist (draft_said what) mapped.netlist is-said.netlist
      (omega (arith, few, lines-fit cells (lines_read lines), read-fits lines, length-append (flat_map inputs_in what) (map output_of latches), length-map latches output_of))

  pub read-over : IsOver cells mapped.netlist
  read-over = closed-over (draft_said what) mapped.netlist is-said.netlist cells (lines-of-cells cells (lines_read lines))

  pub read-mapped : length mapped.cert.labels ≤ most_classes → IsMapped mapped
  read-mapped = said-mapped what mapped is-said within

  pub read-trimmed : (same : Mapped) × AreSameMapped mapped same × IsMapped same
  read-trimmed = said-trimmed what mapped is-said within

  pub read-certificate : IsReadableCertificate (length mapped.netlist.gates) mapped.cert
  read-certificate = said-certificate what mapped is-said within

  pub read-few : IsLibrary cells → HasFewGates lines mapped
  read-few lib = few-gates cells lines (Ok mapped) lib is-said
