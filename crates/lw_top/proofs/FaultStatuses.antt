-- The statuses that no fault of a file has.
use Rattle.std.proofs.Common.{◌≡◌, ℕ, arith}
use Rattle.lw_files.specs.declared.fault.FileFault.{FileFault}
use Rattle.lw_files.specs.declared.fault.FileFault.TheVariants.{Unread}
use Rattle.lw_files.specs.Faults.{fault_status}

pub fault_is_not_done : (fault : FileFault) → 0 ≡ fault_status fault → ⊥
fault_is_not_done Unread e = omega (arith, e)
fault_is_not_done other e = omega (arith, e)

pub fault_names_no_output : (fault : FileFault) → 6 ≡ fault_status fault → ⊥
fault_names_no_output Unread e = omega (arith, e)
fault_names_no_output other e = omega (arith, e)
