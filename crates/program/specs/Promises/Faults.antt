-- The faults of operations as reasons.
use Rattle.value.specs.declared.Fault.{Fault}
use Rattle.value.specs.declared.Fault.TheVariants as fault
use Rattle.program.specs.declared.reply.Reason.{Reason}
use Rattle.program.specs.declared.reply.Reason.TheVariants.{OutOfRange, ZeroDivisor}

-- the fault of an operation as a reason
abbrev pub fault_reason : Fault → Reason
fault_reason fault.OutOfRange = OutOfRange
fault_reason fault.ZeroDivisor = ZeroDivisor
