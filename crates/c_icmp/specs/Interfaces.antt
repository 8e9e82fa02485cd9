-- The addresses of an interface as structs of C, and replies that are written.
-- Pinned by: `judge`, `worked/icmp`, `worked/hosts`, `AnsweredOnce`
use Rattle.std.specs.Prelude.{ℕ, ℤ, pos, ◌≡◌, ◌<◌, ◌≤◌, ◌⊎◌, Bool, List, length, Option, None, Some}
use Rattle.std.specs.Option.{option_and_then}
use Rattle.app_host.specs.Message.{values_of}
use Rattle.app_host.specs.declared.interface.Interface.{Interface}
use Rattle.app_host.specs.declared.message.MessageFrame.{MessageFrame}
use Rattle.ip_wire.specs.Frame.{Carried}
use Rattle.ip_wire.specs.Reply.{IsWritten, reply_len}
use Rattle.ip_wire.specs.Types.{EthernetRepr, IpAddress}
use Rattle.ip_wire.specs.declared.IpAddress.TheVariants.{Ipv4, Ipv6}
use Rattle.c_structs.specs.Addresses.{ip_of}
use Rattle.c_structs.specs.Written.{failure_code, max_len}
use Rattle.c_structs.specs.declared.failures.Failure.TheVariants as failure
use Rattle.c_structs.specs.declared.types.Addr.{Addr}

-- the interface with these addresses, if the first is an IPv4 address and the second an IPv6 address
abbrev pub interface_with : List ℕ → Bool → IpAddress → IpAddress → Option Interface
interface_with hardware is_router (Ipv4 ipv4) (Ipv6 ipv6) = Some (record {
  hardware_addr = record { 0 = hardware };
  ipv4_addr = ipv4;
  ipv6_addr = ipv6;
  is_router = is_router;
})
interface_with hardware is_router (Ipv4 ipv4) (Ipv4 other) = None
interface_with hardware is_router (Ipv6 ipv6) other = None

-- the interface with the addresses in these structs, if the first is an IPv4 address and the second an IPv6 address
abbrev pub interface_of : Addr → Addr → List ℕ → Bool → Option Interface
interface_of first second hardware is_router =
    option_and_then (λ ipv4. option_and_then (λ ipv6. interface_with hardware is_router ipv4 ipv6) (ip_of second)) (ip_of first)

-- the reply is written to the front of the slice, with the DSCP of replies with its values, and its length is returned;
-- or a failure if it does not fit, or 0 if there is none
abbrev pub WritesReply : (Carried → ℕ) → (EthernetRepr → Carried → Type 0) → List ℕ → List ℕ → ℤ → Type 0
WritesReply dscp IsReply old new answer =
    ((len : ℕ) × (answer ≡ pos len) × (length old ≤ max_len) × IsWritten dscp IsReply old new len)
    ⊎ (((answer ≡ failure_code failure.NoRoom) × (new ≡ old)
    × ((header : EthernetRepr) × (carried : Carried) × IsReply header carried × ((length old < reply_len carried) ⊎ (max_len < length old))))
    ⊎ ((answer ≡ pos 0) × (new ≡ old) × ((header : EthernetRepr) (carried : Carried) → ¬ IsReply header carried)))

-- The reply to a frame is written. If the frame is longer than `max_len`, a failure is returned instead.
pub record WritesReplyTo (frame : List ℕ) (dscp : Carried → ℕ) (IsReply : EthernetRepr → Carried → Type 0) (old new : List ℕ) (answer : ℤ) : Type 0 where
  pub usable : length frame ≤ max_len → WritesReply dscp IsReply old new answer
  pub too_long : max_len < length frame → (answer ≡ failure_code failure.NoHeader) × (new ≡ old)

-- the frame has this Ethernet header, and carries these values
abbrev pub HasMessage : MessageFrame → EthernetRepr → Carried → Type 0
HasMessage f header carried = (f.header ≡ header) × (values_of f ≡ carried)
