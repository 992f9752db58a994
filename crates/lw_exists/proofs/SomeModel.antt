-- The model of a text, or a fault of it, cannot fail to be there.
use Rattle.std.proofs.Common.{ℕ, ◌<◌, ◌≡◌, ◌⊎◌, inl, inr, List, [], length, map, Option, Some, None, Result, Ok, Err, slice_index_or, refl, sym, ◌∙◌, subst, arith}
use Rattle.std.proofs.lemmas.List.{length-map}
use Rattle.std.proofs.lemmas.Option.{slice_get_within, slice_get-get_or, get_or_from_slice_get}
use Rattle.lw_facts.proofs.Lists.{contained_at}
use Rattle.lw_laws.proofs.Numbers.{slice_get_map}
use Rattle.lw_words.specs.Lines.{LogicalLine}
use Rattle.lw_net.specs.declared.draft.Draft.{Draft}
use Rattle.lw_net.specs.declared.fault.NetFault.{NetFault}
use Rattle.lw_net.specs.declared.fault.NetFault.TheVariants as whole
use Rattle.lw_net.specs.Networks.{NetworkParts}
use Rattle.lw_net.specs.Closing.{IsDraft, out_of, first_undefined, Reaches, HasNoCycle, IsFirstOnCycle, AreSignalDepths, by_depth, network_in, IsClosed}
use Rattle.lw_net.specs.Closing.Reaches.{by_fanin, by_path}
use Rattle.lw_blif.specs.declared.parsed.Parsed.{Parsed}
use Rattle.lw_blif.specs.declared.fault.BlifFault.{BlifFault}
use Rattle.lw_blif.specs.declared.fault.BlifFault.TheVariants as fault
use Rattle.lw_blif.specs.LineFaults.{FaultAt, first_fault, lines_read}
use Rattle.lw_blif.specs.Drafts.{draft_of, frame_on, starts_on}
use Rattle.lw_blif.specs.BlifNetworks.{HasWholeFault, ComesTo}
use Rattle.lw_blif.proofs.Sound.{lines-draft}
use Rattle.lw_files.specs.declared.fault.FileFault.{FileFault}
use Rattle.lw_files.specs.declared.fault.FileFault.TheVariants.{Network, Undefined, Cycle}
use Rattle.lw_files.specs.Steps.{Files}
use Rattle.lw_files.specs.Sources.{text_of, lines_in, HasModel, ReadsModel}
use Rattle.lw_exists.specs.Weakly.{Weakly}
use Rattle.lw_exists.proofs.Weak.{sure, and_then, weaker, weak_decided, IsFirstBelow, first_below}
use Rattle.lw_exists.proofs.SomeDepths.{some_depths}

module _ (draft : Draft) (is : IsDraft draft) where
  abbrev outs : List (List ℕ)
  outs = map out_of draft.nodes

  abbrev name_of : ℕ → List ℕ
  name_of k = slice_index_or outs k []

  abbrev IsOnCycle : ℕ → Type 0
  IsOnCycle k = Reaches draft.nodes (name_of k) (name_of k)

  -- what reaches something is driven by a node
  source : {from to : List ℕ} → Reaches draft.nodes from to → (k : ℕ) × (k < length draft.nodes) × (name_of k ≡ from)
  source (by_fanin node among named on) =
      let (k, at) = contained_at draft.nodes node among in
      (k, slice_get_within draft.nodes k node at, get_or_from_slice_get outs k node.out [] (slice_get_map out_of draft.nodes k node at) ∙ named)
  source (by_path node among named on rest) =
      let (k, at) = contained_at draft.nodes node among in
      (k, slice_get_within draft.nodes k node at, get_or_from_slice_get outs k node.out [] (slice_get_map out_of draft.nodes k node at) ∙ named)

  abbrev Closes : Type 0
  Closes = ((net : NetworkParts) × IsClosed draft net) ⊎ ((f : NetFault) × HasWholeFault draft f)

  module _ (defined : first_undefined draft ≡ None) where
    on_cycle : (m : ℕ) → m < length draft.nodes → IsOnCycle m → ((k : ℕ) → k < m → IsOnCycle k → ⊥) → IsFirstOnCycle draft.nodes (name_of m)
    on_cycle m lt cycle first = record {
      place = m;
      within = lt;
      named = slice_get-get_or outs m [] (let n = length-map draft.nodes out_of in omega arith);
      cycle = cycle;
      first = λ j other before at path. first j before (subst (λ (name : List ℕ). Reaches draft.nodes name name) (sym (get_or_from_slice_get outs j other [] at)) path);
    }

    closed : HasNoCycle draft.nodes → (depth : List ℕ → ℕ) × AreSignalDepths draft depth → Closes
    closed none (depth, depths) =
        inl (network_in draft (by_depth depth draft.nodes), record { defined = defined; no_cycle = none; depth = depth; depths = depths; network = refl })

    by_first : ((m : ℕ) × IsFirstBelow IsOnCycle (length draft.nodes) m) ⊎ ((k : ℕ) → k < length draft.nodes → IsOnCycle k → ⊥) → Weakly Closes
    by_first (inl (m, (lt, cycle, first))) = sure (inr (whole.Cycle (name_of m), (defined, on_cycle m lt cycle first)))
    by_first (inr none) = weaker (closed no_cycle) (some_depths draft is.signals no_cycle)
      where
        no_cycle : HasNoCycle draft.nodes
        no_cycle name path =
            let (k, lt, same) = source path in
            none k lt (subst (λ (n : List ℕ). Reaches draft.nodes n n) (sym same) path)

  by_undefined : (o : Option (List ℕ)) → first_undefined draft ≡ o → Weakly Closes
  by_undefined (Some name) e = sure (inr (whole.Undefined name, e))
  by_undefined None e = and_then (weak_decided IsOnCycle (length draft.nodes)) (λ d. by_first e (first_below IsOnCycle (length draft.nodes) d))

  some_closed : Weakly (((net : NetworkParts) × IsClosed draft net) ⊎ ((f : NetFault) × HasWholeFault draft f))
  some_closed = by_undefined (first_undefined draft) refl

module _ (bytes : List ℕ) (files : Files) where
  abbrev lines : List LogicalLine
  lines = lines_read (lines_in bytes)

  abbrev HasSome : Type 0
  HasSome = (r : Result Parsed FileFault) × HasModel bytes files r

  at_fault : (o : Option FaultAt) → first_fault [] lines ≡ o → (r : Result Parsed BlifFault) → ComesTo o lines r → ComesTo (first_fault [] lines) lines r
  at_fault o e r is = subst (λ (p : Option FaultAt). ComesTo p lines r) (sym e) is

  by_closing : first_fault [] lines ≡ None → ((net : NetworkParts) × IsClosed (draft_of lines) net) ⊎ ((f : NetFault) × HasWholeFault (draft_of lines) f) → HasSome
  by_closing e (inl (net, c)) =
      let model : Parsed = record { network = net; frame = frame_on lines; starts = starts_on lines } in
      (Ok model, at_fault None e (Ok model) (record { network = c; frame = refl; starts = refl }))
  by_closing e (inr (whole.Undefined name, h)) = (Err (Undefined name), at_fault None e (Err (fault.Whole (whole.Undefined name))) h)
  by_closing e (inr (whole.Cycle name, h)) = (Err (Cycle name), at_fault None e (Err (fault.Whole (whole.Cycle name))) h)
  by_closing e (inr (whole.Memory, h)) = absurd h

  by_line : (o : Option FaultAt) → first_fault [] lines ≡ o → Weakly HasSome
  by_line (Some first) e = sure (Err (Network first.number first.kind), at_fault (Some first) e (Err (fault.Line first.number first.kind)) refl)
  by_line None e = weaker (by_closing e) (some_closed (draft_of lines) (lines-draft lines e))

  some_has_model : Weakly ((r : Result Parsed FileFault) × HasModel bytes files r)
  some_has_model = by_line (first_fault [] lines) refl

pub some_model : (name : List ℕ) (files : Files) → Weakly ((r : Result Parsed FileFault) × ReadsModel name files r)
some_model name files = by_text (text_of name files) refl
  where
    by_text : (r : Result (List ℕ) FileFault) → text_of name files ≡ r → Weakly ((r : Result Parsed FileFault) × ReadsModel name files r)
    by_text (Ok bytes) e = weaker (λ (r, is). (r, inl (bytes, e, is))) (some_has_model bytes files)
    by_text (Err f) e = sure (Err f, inr (f, e, refl))
