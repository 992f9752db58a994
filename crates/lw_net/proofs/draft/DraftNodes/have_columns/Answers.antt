use Rattle.std.proofs.Common.{◌≡◌, ℕ, List, length, All, sym, subst, ◌∙◌}
use Rattle.std.proofs.lemmas.List.{length-map}
use Rattle.lw_net.specs.declared.draft.DraftNode.{DraftNode}
use Rattle.lw_net.specs.declared.written.NumberedNode.{NumberedNode}
use Rattle.lw_net.specs.Written.{name_at}
use Rattle.lw_net.proofs.Writing.{named_all, all_named}
use Rattle.lw_net.proofs.draft.DraftNodes.have_columns.Goals as goal

abbrev HasColumns : NumberedNode → Type 0
HasColumns node = All (λ (row : List ℕ). length row ≡ length node.fanins) node.rows

abbrev HasNamedColumns : DraftNode → Type 0
HasNamedColumns node = All (λ (row : List ℕ). length row ≡ length node.fanins) node.rows

pub returns : goal.returns
returns c =
    let keys = c.self.inside.names.keys in
    let nodes = c.self.inside.nodes.items in
    let list : c.deref.result.now ≡ nodes = c.deref.ensures.value in (
      λ is. subst (All HasNamedColumns) c.self.view_is (named_all keys nodes HasColumns HasNamedColumns (λ node h k d lt. h k d lt ∙ sym (length-map node.fanins (name_at keys))) (subst (All HasColumns) list (c.nodes_have_columns.ensures.0 is))),
      λ all. c.nodes_have_columns.ensures.1 (subst (All HasColumns) (sym list) (all_named keys nodes HasColumns HasNamedColumns (λ node h k d lt. h k d lt ∙ length-map node.fanins (name_at keys)) (subst (All HasNamedColumns) (sym c.self.view_is) all))),
    )
