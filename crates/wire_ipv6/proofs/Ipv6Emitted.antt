-- The bytes of a header after the setters.
use Rattle.std.proofs.Common.{ℕ, ◌≡◌, ◌≤◌, ◌<◌, List, ◌++◌, length, drop, arith}
use Rattle.net_base.specs.Field.{with_field, with_range}
use Rattle.net_base.proofs.Cells.{cells-all, cells-drop}
use Rattle.wire_addr.specs.Protocol.{number_of}
use Rattle.wire_ipv6.specs.Ipv6.{bytes_of}
use Rattle.wire_ipv6.specs.declared.ipv6.repr.Ipv6Repr.{Ipv6Repr}

-- the value has a header: its numbers fit their fields, and each address has sixteen bytes
pub record IsInRange (v : Ipv6Repr) : Type 0 where
  pub src_addr : length v.src_addr ≡ 16
  pub dst_addr : length v.dst_addr ≡ 16
  pub next_header : number_of v.next_header < 256
  pub payload_len : v.payload_len ≤ 65535
  pub hop_limit : v.hop_limit < 256

-- the writes of `emit`, in order
abbrev pub written : List ℕ → Ipv6Repr → List ℕ
written old v =
    let a = with_field old 0 32 0x60000000 in
    let b = with_field (with_field (with_field a 32 16 v.payload_len) 56 8 v.hop_limit) 48 8 (number_of v.next_header) in
    with_range (with_range b 8 24 v.src_addr) 24 40 v.dst_addr

-- the writes of `emit` give the header, followed by the bytes that were after it
pub written-bytes_of : (old : List ℕ) (v : Ipv6Repr) → 40 ≤ length old → IsInRange v → written old v ≡ bytes_of v ++ drop 40 old
written-bytes_of old v room h =
    rw (cells-all 16 v.src_addr h.src_addr, cells-all 16 v.dst_addr h.dst_addr, cells-drop 40 old room) (grind arith)
