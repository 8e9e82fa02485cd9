-- What C gets for a frame that is not forwarded.
use Rattle.std.proofs.Common.{ℕ, ℤ, pos, ◌≡◌, ◌≤◌, ◌<◌, ◌∙◌, List, [], SFits, Some, inr, length, of_z, refl, subst, sym, to_z, w32}
use Rattle.std.proofs.lemmas.Int.{to_z-of_z}
use Rattle.app_router.specs.Forward.{fault_of}
use Rattle.ip_wire.specs.Ethernet.{ethernet_of}
use Rattle.ip_wire.specs.Types.{EthernetAddress}
use Rattle.ip_wire.specs.declared.HeaderFault.{HeaderFault}
use Rattle.ip_wire.specs.declared.HeaderFault.TheVariants.{NotIp}
use Rattle.c_structs.specs.Written.{max_len}
use Rattle.c_routing.proofs.Within.{within-itself, within-nothing}
use Rattle.c_routing.specs.Forwarded.{Forwards}
use Rattle.c_routing.specs.Rejections.{of_header, rejection_code}

nothing : fault_of [] ≡ Some NotIp
unfolding ethernet_of
nothing = refl

-- a frame that is too long is no frame
pub too-long : (frame : List ℕ) (src dst : EthernetAddress) (answer : ℤ) → max_len < length frame → answer ≡ pos 2 → SFits w32 answer
    → Forwards frame frame src dst (to_z w32 (of_z w32 answer))
too-long frame src dst answer long is fits =
    inr (NotIp, to_z-of_z w32 answer fits ∙ is, subst (λ l. fault_of l ≡ Some NotIp) (sym (within-nothing frame long)) nothing, refl)

pub not-forwarded : (frame new : List ℕ) (src dst : EthernetAddress) (fault : HeaderFault) (answer : ℤ) → length frame ≤ max_len
    → answer ≡ pos (rejection_code (of_header fault)) → SFits w32 answer → fault_of frame ≡ Some fault → new ≡ frame
    → Forwards frame new src dst (to_z w32 (of_z w32 answer))
not-forwarded frame new src dst fault answer short is fits why stays =
    inr (fault, to_z-of_z w32 answer fits ∙ is, subst (λ l. fault_of l ≡ Some fault) (sym (within-itself frame short)) why, stays)
