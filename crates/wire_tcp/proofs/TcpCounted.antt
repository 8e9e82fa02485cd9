-- The sequence numbers that a segment uses, and those that its value uses.
use Rattle.std.proofs.Common.{ℕ, ◌≡◌, ◌↔◌, ◌+◌, ◌-◌, nat_eq, Bool, IsTrue, List, [], length, ap, ◌∙◌, arith, length-drop}
use Rattle.std.proofs.lemmas.Bool.Decides.{nat_tests}
use Rattle.std.proofs.lemmas.Grind.{common_steps}
use mathlib.Core.Bool.{beq}
use Rattle.wire_addr.specs.declared.ip_address.IpAddress.{IpAddress}
use Rattle.net_base.specs.Field.{field}
use Rattle.wire_tcp.specs.Tcp.{header_len, segment_len}
use Rattle.wire_tcp.specs.TcpRepr.{HasControl, IsQuiet, Reads, TcpHeader}
use Rattle.wire_tcp_options.specs.TcpSeq.{control_len}
use Rattle.wire_tcp_options.specs.declared.tcp.control.TcpControl.{TcpControl}
use Rattle.wire_tcp_options.specs.declared.tcp.control.TcpControl.TheVariants as control

-- SYN and FIN are the controls that count
flags-counted : (bytes : List ℕ) (asked : TcpControl) → HasControl bytes asked → control_len asked ≡ field bytes 110 1 + field bytes 111 1
flags-counted bytes asked h = grind (arith, common_steps, nat_tests)

payload-counted : (bytes : List ℕ) (src dst : IpAddress) (verified : Bool) (v : TcpHeader) (payload : List ℕ) → Reads bytes src dst verified v payload → length payload ≡ length bytes - header_len bytes
payload-counted bytes src dst verified v payload r = ap length r.body ∙ length-drop (header_len bytes) bytes

-- a value uses as many sequence numbers as its segment
pub counted : (bytes : List ℕ) (src dst : IpAddress) (verified : Bool) (v : TcpHeader) (payload : List ℕ) → Reads bytes src dst verified v payload → length payload + control_len v.control ≡ segment_len bytes
counted bytes src dst verified v payload r = omega (arith, payload-counted bytes src dst verified v payload r, flags-counted bytes v.control r.control)

-- a control is quiet where it uses no number and is not RST
quiet : (bytes : List ℕ) (asked : TcpControl) → HasControl bytes asked → IsQuiet asked → field bytes 110 1 + field bytes 111 1 + field bytes 109 1 ≡ 0
quiet bytes asked h h3 = grind arith

is_quiet : (bytes : List ℕ) (asked : TcpControl) → HasControl bytes asked → field bytes 110 1 + field bytes 111 1 + field bytes 109 1 ≡ 0 → IsQuiet asked
is_quiet bytes asked h none = grind (arith, common_steps, nat_tests)

-- a value is empty where its segment uses no number and has no RST
pub empty : (bytes : List ℕ) (src dst : IpAddress) (verified : Bool) (v : TcpHeader) (payload : List ℕ) → Reads bytes src dst verified v payload
    → ((payload ≡ []) × IsQuiet v.control) ↔ (segment_len bytes + field bytes 109 1 ≡ 0)
empty bytes src dst verified v payload r =
    let size = payload-counted bytes src dst verified v payload r in (
      λ e. omega (arith, size, ap length e.0, quiet bytes v.control r.control e.1),
      λ none. (let no_byte : length payload ≡ 0 = omega (arith, size, none) in grind (arith, common_steps), is_quiet bytes v.control r.control (omega (arith, none))),
    )

-- a test for 0 answers as another test that holds in the same cases
pub agree : (a : Bool) (n : ℕ) → (IsTrue a → n ≡ 0) → (n ≡ 0 → IsTrue a) → IsTrue (beq a (nat_eq n 0))
agree a n to from = grind arith
