-- What contracts see of a closure that isn't there.
use Rattle.std.specs.Prelude.{◌≡◌, ℕ, Result, IfErr, IfSome}
use Rattle.vk_base.specs.Stops.{stop_fault_in}
use Rattle.vk_base.specs.declared.stops.Stop.{Stop}
use Rattle.vk_worklist.specs.declared.faults.CloseFault.{CloseFault}
use Rattle.vk_worklist.specs.declared.faults.CloseFault.TheVariants.{Facts}

-- where the answer is a fault, it is that there are more facts than so many, and then this holds
abbrev pub OnFault : {A : Type 0} → Result A (Stop CloseFault) → ℕ → Type 0 → Type 0
OnFault result most P = IfErr result (λ e. IfSome (stop_fault_in e) (λ fault. (fault ≡ Facts most) × P))
