-- ICMP messages that are written from the structs of C.
-- Pinned by: `worked/icmp`, `judge`
use Rattle.std.specs.Prelude.{ℕ, nat_le, Bool, List, length, Option}
use Rattle.std.specs.Option.{option_and_then}
use Rattle.wire_icmp.specs.Icmp.{emitted}
use Rattle.wire_icmp.specs.declared.icmp.header.IcmpHeader.{IcmpHeader}
use Rattle.c_structs.specs.Addresses.{pair_of}
use Rattle.c_write.specs.Headers.{only_if}
use Rattle.c_structs.specs.declared.types.Addr.{Addr}
use Rattle.c_structs.specs.declared.types.Icmp.{Icmp}

-- the values of the header in a struct
abbrev pub header_value : Icmp → IcmpHeader
header_value h = record { msg_type = h.msg_type; msg_code = h.code; word = h.word }

-- the longest payload: header and payload fit into an IPv6 packet
abbrev pub max_payload_len : ℕ
max_payload_len = 65527

-- the bytes of a message between two addresses, if an IP packet can carry it
abbrev pub icmp_bytes : Icmp → Addr → Addr → List ℕ → Bool → Option (List ℕ)
icmp_bytes h src dst payload computed =
    option_and_then (λ pair. only_if (nat_le (length payload) max_payload_len) (emitted (header_value h) payload pair.0 pair.1 computed)) (pair_of src dst)
