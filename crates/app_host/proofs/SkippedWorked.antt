-- A frame that Scapy packed, before and after a host skips its destination options (RFC 8200, section 4), and packets whose
-- extension headers are not skipped.
use Rattle.std.proofs.Common.{◌≡◌, None, [], ◌∷◌, refl}
use Rattle.app_host.specs.Ipv6Fault.{fault_of}
use Rattle.ip_wire.specs.Ethernet.{ethernet_of}
use Rattle.ip_wire.specs.Ipv6.{ipv6_of}
use Rattle.wire_extensions.specs.Chain.{chain_of, stepped}
use Rattle.app_host.specs.Skipped.{skipped, without_extensions}

-- an echo request after PadN of 5 bytes and an option of type 0x1e: the next header is 58, and the length 13
pinged : without_extensions (2 ∷ 0 ∷ 0 ∷ 0 ∷ 0 ∷ 2 ∷ 2 ∷ 0 ∷ 0 ∷ 0 ∷ 0 ∷ 1 ∷ 134 ∷ 221 ∷ 96 ∷ 0 ∷ 0 ∷ 0 ∷ 0 ∷ 29 ∷ 60 ∷ 64 ∷ 32 ∷ 1 ∷ 13 ∷ 184 ∷ 0 ∷ 0 ∷ 0 ∷ 0 ∷ 0 ∷ 0 ∷ 0 ∷ 0 ∷ 0 ∷ 0 ∷ 0 ∷ 1 ∷ 32 ∷ 1 ∷ 13 ∷ 184 ∷ 0 ∷ 0 ∷ 0 ∷ 0 ∷ 0 ∷ 0 ∷ 0 ∷ 0 ∷ 0 ∷ 0 ∷ 0 ∷ 2 ∷ 58 ∷ 1 ∷ 1 ∷ 3 ∷ 0 ∷ 0 ∷ 0 ∷ 30 ∷ 6 ∷ 1 ∷ 2 ∷ 3 ∷ 4 ∷ 5 ∷ 6 ∷ 0 ∷ 128 ∷ 0 ∷ 42 ∷ 134 ∷ 181 ∷ 227 ∷ 0 ∷ 7 ∷ 104 ∷ 101 ∷ 108 ∷ 108 ∷ 111 ∷ [])
    ≡ (2 ∷ 0 ∷ 0 ∷ 0 ∷ 0 ∷ 2 ∷ 2 ∷ 0 ∷ 0 ∷ 0 ∷ 0 ∷ 1 ∷ 134 ∷ 221 ∷ 96 ∷ 0 ∷ 0 ∷ 0 ∷ 0 ∷ 13 ∷ 58 ∷ 64 ∷ 32 ∷ 1 ∷ 13 ∷ 184 ∷ 0 ∷ 0 ∷ 0 ∷ 0 ∷ 0 ∷ 0 ∷ 0 ∷ 0 ∷ 0 ∷ 0 ∷ 0 ∷ 1 ∷ 32 ∷ 1 ∷ 13 ∷ 184 ∷ 0 ∷ 0 ∷ 0 ∷ 0 ∷ 0 ∷ 0 ∷ 0 ∷ 0 ∷ 0 ∷ 0 ∷ 0 ∷ 2 ∷ 128 ∷ 0 ∷ 42 ∷ 134 ∷ 181 ∷ 227 ∷ 0 ∷ 7 ∷ 104 ∷ 101 ∷ 108 ∷ 108 ∷ 111 ∷ [])
unfolding without_extensions ethernet_of ipv6_of skipped fault_of chain_of stepped
pinged = refl

-- an option of type 0x5e, and one of type 0x9e
silent : skipped 60 (58 ∷ 0 ∷ 94 ∷ 2 ∷ 0 ∷ 0 ∷ 1 ∷ 0 ∷ 128 ∷ 0 ∷ []) ≡ None
unfolding skipped fault_of chain_of stepped
silent = refl

reported : skipped 60 (58 ∷ 0 ∷ 158 ∷ 2 ∷ 0 ∷ 0 ∷ 1 ∷ 0 ∷ 128 ∷ 0 ∷ []) ≡ None
unfolding skipped fault_of chain_of stepped
reported = refl

-- the first fragment of a packet, and the last (RFC 8200, section 4.5)
first : skipped 44 (58 ∷ 0 ∷ 0 ∷ 1 ∷ 0 ∷ 0 ∷ 0 ∷ 9 ∷ 128 ∷ 0 ∷ 0 ∷ 0 ∷ 0 ∷ 7 ∷ 0 ∷ 1 ∷ []) ≡ None
unfolding skipped fault_of chain_of stepped
first = refl

last : skipped 44 (58 ∷ 0 ∷ 0 ∷ 8 ∷ 0 ∷ 0 ∷ 0 ∷ 9 ∷ 128 ∷ 0 ∷ []) ≡ None
unfolding skipped fault_of chain_of stepped
last = refl

-- a neighbour solicitation after PadN
solicited : skipped 60 (58 ∷ 0 ∷ 1 ∷ 4 ∷ 0 ∷ 0 ∷ 0 ∷ 0 ∷ 135 ∷ 0 ∷ []) ≡ None
unfolding skipped fault_of chain_of stepped
solicited = refl
