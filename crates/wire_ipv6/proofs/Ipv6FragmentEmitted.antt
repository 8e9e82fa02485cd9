-- The bytes of a fragment header after the setters, and the value that they parse as.
use Rattle.std.proofs.Common.{ℕ, ◌≡◌, ◌+◌, ◌*◌, ◌%◌, ◌≤◌, ◌<◌, ◌^◌, ◌↔◌, Bool, true, false, IsTrue, List, ◌++◌, length, drop, refl, arith}
use Rattle.byteorder.specs.Endian.{big_bytes}
use Rattle.net_base.specs.Field.{field, with_field}
use Rattle.net_base.proofs.Cells.{cells-drop}
use Rattle.wire_ipv6.specs.Ipv6Fragment.{Reads, bytes_of, flag, normal}
use Rattle.wire_ipv6.specs.declared.ipv6fragment.repr.Ipv6FragmentRepr.{Ipv6FragmentRepr}

-- the four writes of `emit` give the header, followed by the bytes that were after it
pub with_header : (old : List ℕ) (offset more ident : ℕ) → more < 2 → 6 ≤ length old
    → with_field (with_field (with_field (with_field old 13 2 0) 0 13 offset) 15 1 more) 16 32 ident
    ≡ (big_bytes 2 (offset % 2 ^ 13 * 8 + more) ++ big_bytes 4 ident) ++ drop 6 old
with_header old offset more ident h room = rw (cells-drop 6 old room) (grind arith)

-- the number of a flag has one bit, which is set exactly if the flag is
pub flag-small : (set : Bool) → flag set < 2
flag-small true = omega arith
flag-small false = omega arith

flag-set : (set : Bool) → IsTrue set ↔ (flag set ≡ 1)
flag-set true = (λ on. refl, λ on. refl)
flag-set false = (λ on. cc, λ on. cc)

-- an emitted header parses as the normal form of its value
pub reads_bytes_of : (v : Ipv6FragmentRepr) (rest : List ℕ) → v.ident < 2 ^ 32 → Reads (bytes_of v ++ rest) (normal v)
reads_bytes_of v rest h =
    let small = flag-small v.more_frags in
    let read : field (bytes_of v ++ rest) 15 1 ≡ flag v.more_frags = omega arith in
    record {
      whole = omega arith;
      frag_offset = omega arith;
      more_frags = rw read (flag-set v.more_frags);
      ident = omega arith;
    }
