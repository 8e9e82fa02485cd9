-- Packets that came over few routers (RFC 5082).
-- Pinned by: `apps/hop_guard`
use Rattle.std.specs.Prelude.{ℕ, ◌+◌, ◌≤◌, List, MatchOption}
use Rattle.ip_wire.specs.Frame.{all_checked}
use Rattle.ip_wire.specs.Ip.{hop_limit_of}
use Rattle.ip_wire.specs.Packet.{packet_of}

-- the frame carries a packet with valid checksums, sent with hop limit 255 over at most `hops` routers
abbrev pub IsNear : ℕ → List ℕ → Type 0
IsNear hops bytes = MatchOption (packet_of all_checked bytes) ⊥ (λ (link, header, inner). 255 ≤ hop_limit_of header + hops)
