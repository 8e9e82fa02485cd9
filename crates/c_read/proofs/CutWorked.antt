-- What is stored of concrete bytes that were captured.
use Rattle.std.proofs.Common.{ℕ, ◌≡◌, ◌++◌, List, [], ◌∷◌, refl, take}
use Rattle.ip_wire.specs.TcpRepr.{tcp_of}
use Rattle.c_structs.specs.declared.types.FrameFields.{FrameFields}
use Rattle.c_read.specs.Captured.{captured_headers, captured_of}

-- the headers of a UDP packet over IPv4 with 4 bytes of payload
abbrev udp_headers : List ℕ
udp_headers =
    (2 ∷ 0 ∷ 0 ∷ 0 ∷ 0 ∷ 2 ∷ 2 ∷ 0 ∷ 0 ∷ 0 ∷ 0 ∷ 1 ∷ 8 ∷ 0 ∷ [])
    ++ (69 ∷ 0 ∷ 0 ∷ 32 ∷ 0 ∷ 0 ∷ 64 ∷ 0 ∷ 64 ∷ 17 ∷ 183 ∷ 121 ∷ 192 ∷ 168 ∷ 1 ∷ 1 ∷ 192 ∷ 168 ∷ 1 ∷ 2 ∷ [])
    ++ (191 ∷ 0 ∷ 0 ∷ 53 ∷ 0 ∷ 12 ∷ 18 ∷ 52 ∷ [])

-- the headers of a TCP segment over IPv4 with 4 bytes of options, of which 2 are there, and 4 bytes of payload
abbrev tcp_headers : List ℕ
tcp_headers =
    (2 ∷ 0 ∷ 0 ∷ 0 ∷ 0 ∷ 2 ∷ 2 ∷ 0 ∷ 0 ∷ 0 ∷ 0 ∷ 1 ∷ 8 ∷ 0 ∷ [])
    ++ (69 ∷ 0 ∷ 0 ∷ 48 ∷ 0 ∷ 0 ∷ 64 ∷ 0 ∷ 64 ∷ 6 ∷ 183 ∷ 116 ∷ 192 ∷ 168 ∷ 1 ∷ 1 ∷ 192 ∷ 168 ∷ 1 ∷ 2 ∷ [])
    ++ (191 ∷ 0 ∷ 0 ∷ 53 ∷ 0 ∷ 0 ∷ 0 ∷ 1 ∷ 0 ∷ 0 ∷ 0 ∷ 2 ∷ 96 ∷ 16 ∷ 4 ∷ 0 ∷ 18 ∷ 52 ∷ 0 ∷ 0 ∷ 2 ∷ 4 ∷ [])

-- the fields that a cut decides
record Stored (f : FrameFields) (reason network transport rejected port offset len captured checksum : ℕ) : Type 0 where
  of_reason : f.reason ≡ reason
  of_network : f.network ≡ network
  of_transport : f.transport ≡ transport
  of_rejected : f.rejected ≡ rejected
  of_port : f.dst.port ≡ port
  of_offset : f.payload_offset ≡ offset
  of_len : f.payload_len ≡ len
  of_captured : f.payload_captured ≡ captured
  of_checksum : f.transport_checksum ≡ checksum

-- only the payload is missing
payload-cut : Stored (captured_of udp_headers 4) 0 2 1 0 53 42 4 0 5
unfolding captured_of captured_headers
payload-cut = record { of_reason = refl; of_network = refl; of_transport = refl; of_rejected = refl; of_port = refl; of_offset = refl; of_len = refl; of_captured = refl; of_checksum = refl }

-- a part of the payload is missing
payload-part : Stored (captured_of (udp_headers ++ (1 ∷ 2 ∷ 3 ∷ [])) 1) 0 2 1 0 53 42 4 3 5
unfolding captured_of captured_headers
payload-part = record { of_reason = refl; of_network = refl; of_transport = refl; of_rejected = refl; of_port = refl; of_offset = refl; of_len = refl; of_captured = refl; of_checksum = refl }

-- the UDP header is cut
udp-cut : Stored (captured_of (take 38 udp_headers) 8) 8 2 0 0 0 34 12 4 0
unfolding captured_of captured_headers
udp-cut = record { of_reason = refl; of_network = refl; of_transport = refl; of_rejected = refl; of_port = refl; of_offset = refl; of_len = refl; of_captured = refl; of_checksum = refl }

-- the IPv4 header is cut
ipv4-cut : Stored (captured_of (take 30 udp_headers) 16) 8 0 0 0 0 14 32 16 0
unfolding captured_of captured_headers
ipv4-cut = record { of_reason = refl; of_network = refl; of_transport = refl; of_rejected = refl; of_port = refl; of_offset = refl; of_len = refl; of_captured = refl; of_checksum = refl }

-- the frame itself is too short for an IPv4 header
ipv4-short : Stored (captured_of (take 30 udp_headers) 2) 1 0 0 0 0 14 18 16 0
unfolding captured_of captured_headers
ipv4-short = record { of_reason = refl; of_network = refl; of_transport = refl; of_rejected = refl; of_port = refl; of_offset = refl; of_len = refl; of_captured = refl; of_checksum = refl }

-- TCP options are cut
options-cut : Stored (captured_of tcp_headers 6) 8 2 0 2 53 34 28 22 5
unfolding captured_of captured_headers tcp_of
options-cut = record { of_reason = refl; of_network = refl; of_transport = refl; of_rejected = refl; of_port = refl; of_offset = refl; of_len = refl; of_captured = refl; of_checksum = refl }
