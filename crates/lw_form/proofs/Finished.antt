-- The finished list of the forms of a network.
use Rattle.std.proofs.Common.{◌≡◌, ◌+◌, ◌≤◌, ℕ, suc, List, [], ◌∷◌, length, map, Some, slice_get, refl, ap, ap₂, sym, ◌∙◌, arith}
use Rattle.std.proofs.lemmas.List.{length-map}
use Rattle.lw_net.specs.Networks.{NetworkParts, IsNetwork}
use Rattle.lw_net.specs.Plain.{plain, plain_node}
use Rattle.lw_laws.specs.Networks.{Network}
use Rattle.lw_laws.specs.Listings.{Listing, listing_of, IsListed as IsListedForm}
use Rattle.lw_laws.specs.Forms.{Form}
use Rattle.lw_laws.specs.Listings.{IsListing}
use Rattle.lw_laws.specs.Mapped.{forms_of}
use Rattle.lw_laws.specs.Numbering.{numbered_base, sop_number, fac_number}
use Rattle.lw_laws.specs.NumberedForms as laws
use Rattle.lw_laws.specs.NumberedForms.{NumberedForms}
use Rattle.lw_laws.specs.NumberedForms.Base.{base_and}
use Rattle.lw_laws.specs.Occurring.{occurring_forms}
use Rattle.lw_laws.specs.Signals.{Signal, signals_of}
use Rattle.lw_laws.proofs.Listed.{occurring_is_listing}
use Rattle.lw_form.specs.Kept.{AreForms}
use Rattle.lw_form.specs.Limits.{most_operands}
use Rattle.lw_form.specs.Listed.{base_at, bases_of, IsListed}
use Rattle.lw_form.specs.Nets.{signals_at, AreListed}
use Rattle.lw_form.specs.Renumbered.{renumber, ArePlaced, AreOfListing}
use Rattle.lw_form.specs.Tables.{AreBelow, AreMade, Table, made}
use Rattle.lw_form.proofs.KeptForms.{forms_kept}
use Rattle.lw_form.proofs.Numbers.{is_placed, renumbers}
use Rattle.lw_form.proofs.SampleValues.{before_below}
use Rattle.lw_pool.specs.Numbers.{most_signals}

same_record : (i j : ℕ) (a b : List laws.Base) (s t f g : List ℕ) → i ≡ j → a ≡ b → s ≡ t → f ≡ g → ◌≡◌ {A = NumberedForms} (record { inputs = i; bases = a; sops = s; facs = f }) (record { inputs = j; bases = b; sops = t; facs = g })
same_record i j a b s t f g ei ea es ef =
    ap {B = NumberedForms} (λ x. record { inputs = x; bases = a; sops = s; facs = f }) ei
    ∙ (ap {B = NumberedForms} (λ x. record { inputs = j; bases = x; sops = s; facs = f }) ea
    ∙ (ap {B = NumberedForms} (λ x. record { inputs = j; bases = b; sops = x; facs = f }) es ∙ ap {B = NumberedForms} (λ x. record { inputs = j; bases = b; sops = t; facs = x }) ef))

module _ (forms : List Form) (are : AreMade forms) (listed places : List ℕ) (is : IsListed forms listed places) (o : Listing) (lists : IsListing o) (bases : o.bases ≡ bases_of forms listed) where
  pub sops_placed : (sops facs : List ℕ) → AreBelow (length forms) sops → length sops ≡ length facs → ((s : ℕ) (x : Signal) → slice_get (signals_at forms sops facs) s ≡ Some x → IsListedForm o x.sop × IsListedForm o x.fac) → ArePlaced places sops
  sops_placed [] facs b e h = tt
  sops_placed (s ∷ sops) [] b e h = absurd (omega arith)
  sops_placed (s ∷ sops) (f ∷ facs) (p, b) e h = let (k, at) = (h 0 _ refl).0 in (is_placed forms are listed places is o lists bases s k p at, sops_placed sops facs b (omega arith) (λ j x d. h (suc j) x d))

  pub facs_placed : (sops facs : List ℕ) → AreBelow (length forms) facs → length sops ≡ length facs → ((s : ℕ) (x : Signal) → slice_get (signals_at forms sops facs) s ≡ Some x → IsListedForm o x.sop × IsListedForm o x.fac) → ArePlaced places facs
  facs_placed [] [] b e h = tt
  facs_placed [] (f ∷ facs) b e h = absurd (omega arith)
  facs_placed (s ∷ sops) [] b e h = tt
  facs_placed (s ∷ sops) (f ∷ facs) (p, b) e h = let (k, at) = (h 0 _ refl).1 in (is_placed forms are listed places is o lists bases f k p at, facs_placed sops facs b (omega arith) (λ j x d. h (suc j) x d))

  pub sops_numbered : (sops facs : List ℕ) → AreBelow (length forms) sops → length sops ≡ length facs → ((s : ℕ) (x : Signal) → slice_get (signals_at forms sops facs) s ≡ Some x → IsListedForm o x.sop × IsListedForm o x.fac) → map (renumber places) sops ≡ map (sop_number o.bases) (signals_at forms sops facs)
  sops_numbered [] facs b e h = refl
  sops_numbered (s ∷ sops) [] b e h = absurd (omega arith)
  sops_numbered (s ∷ sops) (f ∷ facs) (p, b) e h = let (k, at) = (h 0 _ refl).0 in ap₂ (λ x xs. x ∷ xs) (renumbers forms are listed places is o lists bases s k p at) (sops_numbered sops facs b (omega arith) (λ j x d. h (suc j) x d))

  pub facs_numbered : (sops facs : List ℕ) → AreBelow (length forms) facs → length sops ≡ length facs → ((s : ℕ) (x : Signal) → slice_get (signals_at forms sops facs) s ≡ Some x → IsListedForm o x.sop × IsListedForm o x.fac) → map (renumber places) facs ≡ map (fac_number o.bases) (signals_at forms sops facs)
  facs_numbered [] [] b e h = refl
  facs_numbered [] (f ∷ facs) b e h = absurd (omega arith)
  facs_numbered (s ∷ sops) [] b e h = absurd (omega arith)
  facs_numbered (s ∷ sops) (f ∷ facs) (p, b) e h = let (k, at) = (h 0 _ refl).1 in ap₂ (λ x xs. x ∷ xs) (renumbers forms are listed places is o lists bases f k p at) (facs_numbered sops facs b (omega arith) (λ j x d. h (suc j) x d))

module _ (width : ℕ) (wide : 2 ≤ width) (net : Network) (t : Table) (are : AreMade (made t)) (listed places sops facs : List ℕ) (w : AreListed t listed places sops facs (signals_of width net)) where
  lists : IsListing (listing_of width net)
  lists = occurring_is_listing width wide net

  bases_are : occurring_forms width net ≡ bases_of (made t) listed
  bases_are = sym w.bases

  pub of_listing : AreOfListing (made t) listed
  of_listing = (listing_of width net, lists, bases_are)

  occur : (s : ℕ) (x : Signal) → slice_get (signals_at (made t) sops facs) s ≡ Some x → IsListedForm (listing_of width net) x.sop × IsListedForm (listing_of width net) x.fac
  occur s x e = lists.signals s x (ap (λ l. slice_get l s) (sym w.signals_are) ∙ e)

  pub all_sops_placed : ArePlaced places sops
  all_sops_placed = sops_placed (made t) are listed places w.listed_is (listing_of width net) lists bases_are sops facs w.sops_below w.one_each occur

  pub all_facs_placed : ArePlaced places facs
  all_facs_placed = facs_placed (made t) are listed places w.listed_is (listing_of width net) lists bases_are sops facs w.facs_below w.one_each occur

  pub finished : (inputs : ℕ) (bases : List laws.Base) (new_sops new_facs : List ℕ) → inputs ≡ net.inputs → bases ≡ map (numbered_base (bases_of (made t) listed)) (bases_of (made t) listed) → new_sops ≡ map (renumber places) sops → new_facs ≡ map (renumber places) facs → ◌≡◌ {A = NumberedForms} (record { inputs = inputs; bases = bases; sops = new_sops; facs = new_facs }) (forms_of width net)
  finished inputs bases new_sops new_facs ei eb es ef =
      same_record inputs net.inputs bases (map (numbered_base (occurring_forms width net)) (occurring_forms width net)) new_sops (map (sop_number (occurring_forms width net)) (signals_of width net)) new_facs (map (fac_number (occurring_forms width net)) (signals_of width net))
      ei
      (eb ∙ ap (λ bs. map (numbered_base bs) bs) w.bases)
      (es ∙ (sops_numbered (made t) are listed places w.listed_is (listing_of width net) lists bases_are sops facs w.sops_below w.one_each occur ∙ ap (map (sop_number (occurring_forms width net))) w.signals_are))
      (ef ∙ (facs_numbered (made t) are listed places w.listed_is (listing_of width net) lists bases_are sops facs w.facs_below w.one_each occur ∙ ap (map (fac_number (occurring_forms width net))) w.signals_are))

  pub network_kept : width ≤ most_operands → net.inputs + length net.nodes ≤ most_signals → AreForms (forms_of width net)
  network_kept narrow few = forms_kept width net wide narrow few (let a = ap length w.bases in let b = length-map listed (base_at (made t)) in let c = w.listed_is.few in omega arith)

pub few_nets : (net : NetworkParts) → IsNetwork net → (plain net).inputs + length (plain net).nodes ≤ most_signals
few_nets net is = let l = length-map net.nodes plain_node in let n = is.named in let f = is.few in omega arith

pub bases_before : (forms : NumberedForms) (bases : List laws.Base) → forms.bases ≡ bases → AreForms forms → (b : ℕ) (fs : List ℕ) → slice_get bases b ≡ Some (base_and fs) → AreBelow b fs
bases_before forms bases e kept b fs at = before_below b fs (kept.numbered.ands b fs (ap (λ l. slice_get l b) e ∙ at)).operands
