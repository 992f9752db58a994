use Rattle.std.proofs.Common.{◌++◌, ◌∷◌, [], map, All, Contains, sym, ap, ap₂, subst, ◌∙◌, append_assoc}
use Rattle.std.proofs.lemmas.List.Elements.{All-head, All-tail}
use Rattle.std.specs.Vec.Iter.{into_iter_items}
use Rattle.lw_named_netlist.specs.Closing.{port_at}
use Rattle.lw_named_netlist.proofs.closing.ports.Goals as goal

pub port-requires-clause-known : goal.port-requires-clause-known
port-requires-clause-known c =
    All-head (Contains c.args.signals.now) c.in-Some.name (into_iter_items c.next.new.self)
    (subst (All (Contains c.args.signals.now)) c.in-Some.ensures.items c.names.invariant.known)

pub names-preserved : goal.names-preserved
names-preserved c =
    let rest = into_iter_items c.next.new.self in
    let done = c.names.done.items in
    record {
      so_far = λ net is.
          ap (λ ds. ds ++ map (port_at net) rest) c.in_ok-push.ensures.items
          ∙ (append_assoc done (c.port.result ∷ []) (map (port_at net) rest)
          ∙ (ap (λ n. done ++ n ∷ map (port_at net) rest) (c.port.ensures net is)
          ∙ (ap (λ xs. done ++ map (port_at net) xs) (sym c.in-Some.ensures.items) ∙ c.names.invariant.so_far net is)));
      known = All-tail (Contains c.args.signals.now) c.in-Some.name rest
          (subst (All (Contains c.args.signals.now)) c.in-Some.ensures.items c.names.invariant.known);
    }

pub names-init : goal.names-init
names-init c = record {
  so_far = λ net tell. ap₂ (λ a b. a ++ map (port_at net) b) c.in_ok-done.ensures.items c.into_iter-left.ensures.rest;
  known = subst (All (Contains c.args.signals.now)) (sym c.into_iter-left.ensures.rest) c.requires.known;
}
