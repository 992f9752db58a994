-- What was written with its certificate is accepted by a check over the same library and network.
use Rattle.std.proofs.Common.{ℕ, ◌≤◌, ◌≡◌, inl, true, false, Bool, List, [], ◌∷◌, length, Option, Some, None, Ok, refl, ap, ap₂, ◌∙◌, subst}
use Rattle.lw_mapped.specs.declared.certificate.Certificate.{Certificate}
use Rattle.lw_mapped.specs.Alike.{AreSameMapped}
use Rattle.lw_mapped.specs.Readable.{read_of}
use Rattle.lw_mapped.specs.Texts.{mapped_text}
use Rattle.lw_mapped.proofs.ReadBack.{reads-back}
use Rattle.lw_blif.specs.declared.parsed.Parsed.{Parsed}
use Rattle.lw_laws.specs.Headline.{MapsForms}
use Rattle.lw_laws.specs.Listings.{Listing, listing_of}
use Rattle.lw_laws.specs.Networks.{Network}
use Rattle.lw_laws.specs.Occurring.{occurring_forms, split_count}
use Rattle.lw_laws.specs.Signals.{Signal}
use Rattle.lw_net.specs.Networks.{IsNetwork, NetworkParts, input_names}
use Rattle.lw_net.specs.Plain as network
use Rattle.lw_net.specs.Ports.{ports_of}
use Rattle.lw_genlib.specs.Cells.{CellParts}
use Rattle.lw_genlib.specs.Tables.{timing_of, truth_of_cells}
use Rattle.lw_form.specs.Limits.{most_bases}
use Rattle.lw_assoc.specs.Splits.{most_splits}
use Rattle.lw_pattern.specs.Libraries.{library_patterns}
use Rattle.lw_netlist.specs.Plain as netlist
use Rattle.lw_netlist.specs.Plain.{mapped_ports}
use Rattle.lw_map.specs.Mapped.{IsWithinLimits}
use Rattle.lw_joined.specs.declared.uniting.Other.{Other}
use Rattle.lw_joined.specs.Joins.{joined_listing}
use Rattle.lw_joined.specs.Unions.{united}
use Rattle.lw_joined.proofs.Alone.{no_links, plain_alone}
use Rattle.lw_area.specs.declared.sources.Further.{Further}
use Rattle.lw_files.specs.Steps.{Files}
use Rattle.lw_files.proofs.Kept.{cells_kept, model_kept}
use Rattle.lw_top.specs.Answers.{IsAnswer, IsCheckAnswer, asked_for}
use Rattle.lw_top.specs.Checks.{yes_text}
use Rattle.lw_top.specs.Words.{checking}
use Rattle.lw_top.proofs.Asked.{names_read}
use Rattle.lw_top.proofs.InRange.{command_in_range}
use Rattle.lw_answers.proofs.Accepted.{library_again, network_again, text_there}
use Rattle.lw_area.specs.declared.words.Deadline.TheVariants.{Each}
use Rattle.lw_area.specs.Checked.{IsCheckOf}
use Rattle.lw_area.specs.Promises.{IsRecoveryOf}
use Rattle.lw_area.specs.Recovered.{IsAskedFor, IsCertificateOver, IsSpaceOf, Space, form_in, listing_in}
use Rattle.lw_area.specs.Sources.{ReadsFurther, others_in}
use Rattle.lw_area.specs.Words.{Settings, Task}
use Rattle.lw_area.proofs.CertifiedWords.{certified_each}
use Rattle.lw_area.proofs.Checkable.{IsOverListing, accepted, readable}
use Rattle.lw_area.proofs.Fastest.{fastest_mapping}

-- one network without links is mapped over its own forms
module _ (settings : Settings) (net : NetworkParts) (kept : IsNetwork net) (further : List Further) (none : further ≡ []) (unlinked : settings.linked ≡ false) (space : Space) (over : IsSpaceOf settings net further space) where
  union_alone : network.plain over.union ≡ network.plain net
  union_alone = ap network.plain (over.united.is ∙ by over.united.others (subst (λ (fs : List Further). others_in fs over.united.others) none over.united.are) over.united.taken) ∙ plain_alone net kept
    where
      by : (others : List Other) → others_in [] others → (taken : List Bool) → united net others taken ≡ united net [] []
      by [] are taken = refl
      by (o ∷ others) are taken = absurd are

  pub own_listing : listing_in settings space ≡ listing_of settings.options.width (network.plain net)
  own_listing =
      ap₂ (λ (u : Network) (links : List Signal). joined_listing settings.options.width u links) (over.is_union ∙ union_alone) (over.unlinked unlinked)
      ∙ no_links settings.options.width (network.plain net)

  pub own_within : IsWithinLimits settings.options net
  own_within = record {
    forms = subst (λ (u : Network). length (occurring_forms settings.options.width u) ≤ most_bases) union_alone over.within.forms;
    splits = subst (λ (u : Network). split_count settings.options.mode (occurring_forms settings.options.width u) ≤ most_splits) union_alone over.within.splits;
  }

-- no further network is read where none is named
none_further : (names : List (List ℕ)) (words : List (List ℕ)) (files : Files) (further : List Further) → words ≡ [] → ReadsFurther names 0 words files (Ok further) → further ≡ []
none_further names [] files further e is = is
none_further names (word ∷ words) files further e is = cc

module _ (task : Task) (files : Files) (text : List ℕ) (r : IsRecoveryOf task files text) where
  abbrev cells : List CellParts
  cells = r.read.cells

  abbrev model : Parsed
  model = r.read.model

  -- what is known over a listing
  abbrev Known : Certificate → Listing → Type 0
  Known certificate o =
      (p : IsOverListing task.settings cells model.network model.starts o r.is.netlist) × IsCertificateOver cells model.starts p.matches.graph p.matches.gates certificate
      × MapsForms task.settings.options.mode task.settings.options.width o.signals (form_in task.settings model.network) (network.plain model.network) (ports_of model.network) (library_patterns cells) (timing_of cells model.starts) (truth_of_cells cells) (netlist.plain r.is.netlist) (mapped_ports r.is.netlist)

  known : task.settings.deadline ≡ Each → (certificate : Certificate) → IsCertificateOver cells model.starts r.is.recovered.matches.graph r.is.recovered.matches.gates certificate → Known certificate (listing_in task.settings r.is.space)
  known each certificate asked = (
    record { kept = r.is.recovered.kept; model_name = r.is.recovered.model_name; covers = r.is.recovered.covers; matches = r.is.recovered.matches; by_depth = r.is.recovered.by_depth },
    asked,
    fastest_mapping task files text each r,
  )

  module _ (words checks : List (List ℕ)) (others : Files) (c : IsCheckOf words task files text checks others) where
    by_certificate : (o : Option Certificate) → IsAskedFor cells model.starts r.is.recovered.matches.graph r.is.recovered.matches.gates true o → text ≡ mapped_text cells r.is.netlist model.frame model.starts o → IsCheckAnswer task.settings.options c.library c.network c.mapped others (Ok yes_text)
    by_certificate None asked written = absurd asked
    by_certificate (Some certificate) asked written =
        let options = task.settings.options in
        let n = r.is.netlist in
        let own = mapped_text cells n model.frame model.starts (Some certificate) in
        let whole = read_of n model.frame model.starts (Some certificate) in
        let same : AreSameMapped whole whole = record { netlist = refl; frame = refl; starts = refl; certificates = record { labels = λ class. refl; nets = refl } } in
        let wide = command_in_range checks (checking options c.library c.network c.mapped) c.form in
        let kept = model_kept task.network files model r.read.network_is in
        let named = names_read task.network files model r.read.network_is in
        let lib = cells_kept task.library files cells r.read.library_is in
        let none = none_further (input_names model.network) task.more files r.read.further c.alone r.read.further_are in
        let within = own_within task.settings model.network kept.network r.read.further none c.unlinked r.is.space r.is.over in
        let (is, asked_alone, maps) = subst (Known certificate) (own_listing task.settings model.network kept.network r.read.further none c.unlinked r.is.space r.is.over) (known (certified_each task c.certified words c.asks) certificate asked) in
        let can_be_read = readable task.settings cells model wide kept lib within n is certificate asked_alone named (c.apart cells r.read.library_is) in
        let read = reads-back cells n model.frame model.starts (Some certificate) can_be_read whole same in
        let text_read = text_there c.mapped own others (c.written ∙ ap Some written) (subst (λ (t : List ℕ). length t ≤ 67108864) written c.few) in
        let yes = accepted task.settings cells model wide kept lib within n is certificate asked_alone maps in
        let library = library_again task.library c.library files others cells c.same_library r.read.library_is in
        let network = network_again task.network c.network files others model c.same_network r.read.network_is in
        inl (cells, library, inl (model, network, inl (whole, inl (own, text_read, read), (refl, yes))))

pub written_accepted : (words checks : List (List ℕ)) (task : Task) (files others : Files) (text : List ℕ) → IsCheckOf words task files text checks others → IsRecoveryOf task files text → IsAnswer checks others (Ok yes_text)
written_accepted words checks task files others text c r =
    inl (
      checking task.settings.options c.library c.network c.mapped,
      ap asked_for c.form,
      by_certificate task files text r words checks others c r.is.certificate
          (subst (λ (b : Bool). IsAskedFor r.read.cells r.read.model.starts r.is.recovered.matches.graph r.is.recovered.matches.gates b r.is.certificate) c.certified r.is.asked) r.is.written,
    )
