use Rattle.std.proofs.Common.{◌∷◌, ◌++◌, [], arith}
use Rattle.std.proofs.lemmas.Result.{IfOk-from_err}
use Rattle.lw_form.specs.Nets.{signal_at, IsSignalFault}
use Rattle.lw_form.specs.Tables.{made}
use Rattle.lw_form.proofs.Joining.{more_twice, more_length}
use Rattle.lw_form.proofs.Signalled.{net_listed, second_fault, first_fault}
use Rattle.lw_form.proofs.ListedForms.{err_is}
use Rattle.lw_form.proofs.occurring.Occurring.add_net.Goals as goal

pub add-requires-clause-listed : goal.add-requires-clause-listed
add-requires-clause-listed c = let (signals, w) = c.requires.listed in w.listed_is

pub returns-in_err-add-clause-fault : goal.returns-in_err-add-clause-fault
returns-in_err-add-clause-fault c =
    err_is (IsSignalFault c.args.self.now (λ signals. signals ++ signal_at (made c.args.self.now.table) c.args.sop c.args.fac ∷ []))
    c.from_residual.result c.in_err-add.field-0.0 c.from_residual.ensures.1
    (λ signals w. first_fault c.args.self.now.table c.args.self.now.listing.listed.items c.args.self.now.listing.places.items c.args.self.now.sops.items c.args.self.now.facs.items signals c.args.sop c.args.fac w c.in_err-add.field-0.0 c.in_err-add.ensures.fault)

pub returns-in_err-add-2-clause-fault : goal.returns-in_err-add-2-clause-fault
returns-in_err-add-2-clause-fault c =
    err_is (IsSignalFault c.args.self.now (λ signals. signals ++ signal_at (made c.args.self.now.table) c.args.sop c.args.fac ∷ []))
    c.from_residual-in_err-add-2.result c.in_err-add-2.field-0.0 c.from_residual-in_err-add-2.ensures.1
    (λ signals w. second_fault c.args.self.now.table c.add.new.table c.add.new.table c.args.self.now.listing.listed.items c.args.self.now.listing.places.items c.add.new.self.listed.items c.add.new.self.places.items c.add.new.self.listed.items c.add.new.self.places.items c.args.self.now.sops.items c.args.self.now.facs.items [] [] signals c.args.sop c.args.fac w c.requires.sop c.requires.fac c.in_ok-add.ensures.listed.more c.in_ok-add.ensures.listed.bases c.in_err-add-2.field-0.0 c.in_err-add-2.ensures.fault)

pub returns-clause-adds : goal.returns-clause-adds
returns-clause-adds c = record {
  more = more_twice (made c.args.self.now.table) (made c.add.new.table) (made c.add-2.new.table) c.in_ok-add.ensures.listed.more c.in_ok-add-2.ensures.listed.more;
  listed = λ signals w. net_listed c.args.self.now.table c.add.new.table c.add-2.new.table c.args.self.now.listing.listed.items c.args.self.now.listing.places.items c.add.new.self.listed.items c.add.new.self.places.items c.add-2.new.self.listed.items c.add-2.new.self.places.items c.args.self.now.sops.items c.args.self.now.facs.items c.note.new.forms.items c.note-2.new.forms.items signals c.args.sop c.args.fac w c.requires.sop c.requires.fac c.in_ok-add.ensures.listed.more c.in_ok-add.ensures.listed.bases c.in_ok-add-2.ensures.listed.more c.in_ok-add-2.ensures.listed.listed c.in_ok-add-2.ensures.listed.bases c.in_ok-note.ensures c.in_ok-note-2.ensures;
}

pub add-requires-clause-within : goal.add-requires-clause-within
add-requires-clause-within c = c.requires.sop

pub add-requires-2-clause-listed : goal.add-requires-2-clause-listed
add-requires-2-clause-listed c = c.in_ok-add.ensures.listed.listed

pub add-requires-2-clause-within : goal.add-requires-2-clause-within
add-requires-2-clause-within c = let lt = c.requires.fac in let le = more_length (made c.args.self.now.table) (made c.add.new.table) c.in_ok-add.ensures.listed.more in omega arith

pub returns-clause-fault : goal.returns-clause-fault
returns-clause-fault c = tt

pub returns-in_err-add-clause-adds : goal.returns-in_err-add-clause-adds
returns-in_err-add-clause-adds c = IfOk-from_err _ _ c.from_residual.ensures.0

pub returns-in_err-add-2-clause-adds : goal.returns-in_err-add-2-clause-adds
returns-in_err-add-2-clause-adds c = IfOk-from_err _ _ c.from_residual-in_err-add-2.ensures.0

pub returns-in_err-note-clause-adds : goal.returns-in_err-note-clause-adds
returns-in_err-note-clause-adds c = IfOk-from_err _ _ c.from_residual-in_err-note.ensures.0

pub returns-in_err-note-2-clause-adds : goal.returns-in_err-note-2-clause-adds
returns-in_err-note-2-clause-adds c = IfOk-from_err _ _ c.from_residual-in_err-note-2.ensures.0
