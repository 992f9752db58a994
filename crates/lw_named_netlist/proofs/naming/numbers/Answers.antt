use Rattle.std.proofs.Common.{◌≡◌, ◌<◌, ℕ, List, [], None, Some, length, get_or, ap, sym, subst, ◌∙◌, arith}
use Rattle.std.proofs.lemmas.List.{get_or-replicate, length-replicate, take_at}
use Rattle.std.proofs.lemmas.Option.{get_or_from_slice_get}
use Rattle.lw_named_netlist.specs.Chains.{LinksNames}
use Rattle.lw_named_netlist.proofs.Names.{once_distinct}
use Rattle.lw_named_netlist.proofs.naming.numbers.Goals as goal

pub new-requires : goal.new-requires
new-requires c =
    let names = c.args.names in
    let heads = c.link.new.heads in
    let next = c.link.new.next in
    let done : LinksNames names c.link.new.apart.entries heads next None = subst (LinksNames names c.link.new.apart.entries heads next) c.in_default.is c.in_ok-twice.ensures.linked in
    let all_heads : length heads ≡ c.in_ok-heads.heads.len = omega (arith, c.link.ensures.heads, ap length c.deref_mut.ensures.value, c.in_ok-heads.heads.ok.0) in
    let all_next : length next ≡ c.in_ok-next.next.len = omega (arith, c.link.ensures.next, ap length c.deref_mut-2.ensures.value, c.in_ok-next.next.ok.0) in
    rw (take_at heads _ c.in_ok-heads.heads.len all_heads, take_at next _ c.in_ok-next.next.len all_next) (record {
      distinct = once_distinct names (done.once);
      chains = done.chains;
      places = omega (arith, all_next, c.in_ok-next.next.ok.0, c.in_ok-next.ensures.len, c.len-3.ensures);
      some = omega (arith, all_heads, c.in_ok-heads.heads.ok.0, c.in_ok-heads.ensures.len);
    })

pub get-requires : goal.get-requires
get-requires c =
    let done : LinksNames c.args.names c.link.new.apart.entries c.link.new.heads c.link.new.next (Some c.in-Some.place) =
    subst (LinksNames c.args.names c.link.new.apart.entries c.link.new.heads c.link.new.next) c.in-Some.is c.in_ok-twice.ensures.linked in
    done.within

pub returns-in-Some : goal.returns-in-Some
returns-in-Some c =
    let done : LinksNames c.args.names c.link.new.apart.entries c.link.new.heads c.link.new.next (Some c.in-Some.place) =
    subst (LinksNames c.args.names c.link.new.apart.entries c.link.new.heads c.link.new.next) c.in-Some.is c.in_ok-twice.ensures.linked in
    done.twice ∙ ap Some (get_or_from_slice_get c.args.names c.in-Some.place c.get.result.now [] c.get.ensures.name ∙ sym c.in_ok-name.ensures)

pub link-requires : goal.link-requires
link-requires c = record {
  few = omega (arith, c.len.ensures, c.if-len.false);
  some = omega (arith, ap length c.deref_mut.ensures.value, c.in_ok-heads.heads.ok.0, c.in_ok-heads.ensures.len);
  places = omega (arith, ap length c.deref_mut-2.ensures.value, c.in_ok-next.next.ok.0, c.in_ok-next.ensures.len, c.len-3.ensures);
  none = λ b lt.
      let is = c.deref_mut.ensures.value ∙ c.in_ok-heads.ensures.items_if_clones_equal (λ y e. e) in
      ap (λ (l : List ℕ). get_or l b 0) is ∙ get_or-replicate {A = ℕ} _ b 0 0 (subst (λ n. b < n) (ap length is ∙ length-replicate {A = ℕ} _ 0) lt);
}
