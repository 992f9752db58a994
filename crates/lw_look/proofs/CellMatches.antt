-- Whether a match is one at its class, by its pattern's cell and the class at which the pattern stands.
use Rattle.std.proofs.Common.{◌<◌, ◌≡◌, ◌↔◌, length, Option, Some, None, slice_get, ap, sym, ◌∙◌, subst}
use Rattle.std.proofs.lemmas.List.{length-map}
use Rattle.std.proofs.lemmas.Option.{same_Some, slice_get_within}
use Rattle.lw_facts.proofs.Lists.{at_contained}
use Rattle.lw_pool.specs.declared.id.ClassId.{ClassId}
use Rattle.lw_pool.specs.Numbers.{numbers}
use Rattle.lw_laws.specs.Covers.{Pattern}
use Rattle.lw_laws.specs.Extracts.{IsMatchBy}
use Rattle.lw_laws.specs.Graphs.{Stands}
use Rattle.lw_laws.proofs.Numbers.{slice_get_map}
use Rattle.lw_genlib.specs.Cells.{CellParts}
use Rattle.lw_genlib.specs.Tables.{cell_delays, delays_of_cells, millionths}
use Rattle.lw_cost.specs.Least.{AreOfCells}
use Rattle.lw_cost.specs.Values.{plain_match}
use Rattle.lw_check.specs.Standing.{StandsAlone}
use Rattle.lw_extract.specs.declared.choosing.Chosen.{Chosen}
use Rattle.lw_look.specs.declared.look.Look.{Look}
use Rattle.lw_look.specs.Lists.{IsMatchOfCell, pin_counts}

module _ (l : Look) (x : Chosen) (p : Pattern) (at : slice_get l.pats.now x.found.pat.0 ≡ Some p) where
  -- the pattern's cell is one of the library
  pub cell_within : AreOfCells (pin_counts l) l.pats.now → p.cell < length l.lib.now
  cell_within of_cells =
      let is = of_cells p (at_contained l.pats.now x.found.pat.0 p at) in
      let inside = slice_get_within (pin_counts l) p.cell is.pin_count is.has in
      subst (λ n. p.cell < n) (length-map (delays_of_cells l.lib.now) length ∙ length-map l.lib.now cell_delays) inside

  module _ (cell : CellParts) (cell_at : slice_get l.lib.now p.cell ≡ Some cell) (one_each : length cell.delays ≡ length cell.pins) where
    pins_of_cell : slice_get (pin_counts l) p.cell ≡ Some (length cell.pins)
    pins_of_cell =
        slice_get_map length (delays_of_cells l.lib.now) p.cell (cell_delays cell) (slice_get_map cell_delays l.lib.now p.cell cell cell_at)
        ∙ ap Some (length-map cell.delays millionths ∙ one_each)

    -- a match has a class for each pin of the cell
    pub as_many : IsMatchOfCell l x → length cell.pins ≡ length x.found.pins
    as_many (q, is) =
        let same : q ≡ p = same_Some q p (sym is.listed ∙ at) in
        let pins : slice_get (pin_counts l) p.cell ≡ Some (length (numbers x.found.pins)) = subst (λ (r : Pattern). slice_get (pin_counts l) r.cell ≡ Some (length (numbers x.found.pins))) same is.pins in
        same_Some (length cell.pins) (length (numbers x.found.pins)) (sym pins_of_cell ∙ pins) ∙ length-map x.found.pins (λ (c : ClassId). c.0)

    -- and stands where its pattern does
    pub stands_there : length cell.pins ≡ length x.found.pins → (found : Option ClassId) → StandsAlone l.graph.now (numbers x.found.pins) p.tree found → (found ≡ Some x.class) ↔ IsMatchOfCell l x
    stands_there many found alone = (λ same. forward (subst (StandsAlone l.graph.now (numbers x.found.pins) p.tree) same alone), λ (q, is). backward found alone (stands_by q is))
      where
        forward : StandsAlone l.graph.now (numbers x.found.pins) p.tree (Some x.class) → IsMatchOfCell l x
        forward (stands, only, inside) = (
          p,
          record {
            listed = at;
            pins = pins_of_cell ∙ ap Some (many ∙ sym (length-map x.found.pins (λ (c : ClassId). c.0)));
            stands = stands;
          },
        )

        stands_by : (q : Pattern) → IsMatchBy l.graph.now (pin_counts l) l.pats.now x.class.0 (plain_match x.found) q → Stands l.graph.now (numbers x.found.pins) p.tree x.class.0
        stands_by q is =
            let same : q ≡ p = same_Some q p (sym is.listed ∙ at) in
            subst (λ (r : Pattern). Stands l.graph.now (numbers x.found.pins) r.tree x.class.0) same is.stands

        backward : (o : Option ClassId) → StandsAlone l.graph.now (numbers x.found.pins) p.tree o → Stands l.graph.now (numbers x.found.pins) p.tree x.class.0 → o ≡ Some x.class
        backward None none stands = absurd (none x.class.0 stands)
        backward (Some c) (here, only, inside) stands = let same : c.0 ≡ x.class.0 = sym (only x.class.0 stands) in λ i. Some (record { 0 = same i })
