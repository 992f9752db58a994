use Rattle.std.proofs.Common.{◌≡◌, ◌+◌, ◌<◌, ℕ, zero, suc, List, [], ◌∷◌, length, drop, Some, slice_get, refl, sym, ap, ◌∙◌, subst, arith}
use Rattle.std.proofs.lemmas.Option.{same_Some}
use Rattle.std.specs.List.{AllByRecursion, AllZip}
use Rattle.lw_laws.proofs.Mapping.{sop_occurs, sop_value_is}
use Rattle.lw_laws.specs.Graphs.{Graph}
use Rattle.lw_laws.specs.Headline.{Port}
use Rattle.lw_laws.specs.Mapped.{root_class}
use Rattle.lw_laws.specs.MappedNetlists.{root_classes}
use Rattle.lw_laws.specs.Networks.{Network}
use Rattle.lw_laws.specs.Signals.{sop_at, signals_of}
use Rattle.lw_pool.specs.declared.id.ClassId.{ClassId}
use Rattle.lw_pool.specs.declared.id.NetId.{NetId}
use Rattle.lw_lut.specs.Covers.{tree_of, depth_of, IsLeastDepth}
use Rattle.lw_lut_text.specs.Meaning.{HasRoot, IsRootAt}
use Rattle.lw_lut_text.proofs.laws.tables_have_least_depths.Goals as goal
use Rattle.lw_pool.specs.Numbers.{numbers}

-- what follows for each output from what holds of the root and the net at its place
by_place : (width : ℕ) (from : Network) (g : Graph) (Q : ℕ → NetId → Type 0) (R : Port → NetId → Type 0) → ((p : Port) (s : NetId) → p.net < from.inputs + length from.nodes → Q (root_class width from g p.net) s → R p s) → (outer : List Port) (roots : List ClassId) (nets : List NetId) → AllByRecursion (λ (p : Port). p.net < from.inputs + length from.nodes) outer → numbers roots ≡ root_classes width from g outer → length nets ≡ length roots → ((k : ℕ) (root : ClassId) (s : NetId) → slice_get roots k ≡ Some root → slice_get nets k ≡ Some s → Q root.0 s) → AllZip R outer nets
by_place width from g Q R to [] [] [] low same one each = tt
by_place width from g Q R to [] [] (s ∷ nets) low same one each = absurd (omega (arith, one))
by_place width from g Q R to [] (root ∷ roots) nets low same one each = cc
by_place width from g Q R to (p ∷ outer) [] nets low same one each = cc
by_place width from g Q R to (p ∷ outer) (root ∷ roots) [] low same one each = absurd (omega (arith, one))
by_place width from g Q R to (p ∷ outer) (root ∷ roots) (s ∷ nets) low same one each =
    let first : root.0 ≡ root_class width from g p.net = same_Some root.0 (root_class width from g p.net) (ap (λ (cs : List ℕ). slice_get cs 0) same) in
    let rest : numbers roots ≡ root_classes width from g outer = ap (λ (cs : List ℕ). drop 1 cs) same in
    (to p s low.0 (subst (λ c. Q c s) first (each zero root s refl refl)), by_place width from g Q R to outer roots nets low.1 rest (omega (arith, one)) (λ k q t. each (suc k) q t))

pub returns : goal.returns
returns c = λ mode width from outer g most lists ports net wide order has is least same network.
    by_place width from g (IsRootAt g most lists.depths net) (λ p s. HasRoot mode width from most net p.net s) (λ p s lt root.
    let f = sop_at (signals_of width from) p.net in
    let occurs = sop_occurs width wide from p.net lt in
    record {
      value = λ x values mapped right also.
          sop_value_is width wide from order x values right p.net lt
          ∙ (ap Some (sym (c.graphs_have_the_values.ensures mode width from g x wide is f (tree_of root.by) occurs root.unfolds))
          ∙ sym (root.value x mapped also));
      depth = λ ds are. (depth_of root.by, root.depth ds are, c.class_depths_are_form_depths.ensures.least mode width from g wide is most f (depth_of root.by) occurs (subst (λ o. IsLeastDepth g most (root_class width from g p.net) o) root.least (least.least (root_class width from g p.net))));
    }) outer.outputs ports.roots net.outputs has same network.one_root network.each
