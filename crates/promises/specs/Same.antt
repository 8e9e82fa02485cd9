-- When `==` returns true for values that borrow: two references are equal if the borrowed bytes are.
-- Pinned by: `apps/calls`, `promises/equality`
use Rattle.std.specs.Prelude.{Bool, ◌≡◌, ◌↔◌, ⊤, true}
use Rattle.ip_wire.specs.Ipv4 as ipv4
use Rattle.ip_wire.specs.TcpRepr as tcp
use Rattle.ip_wire.specs.declared.Carried.{Carried}
use Rattle.ip_wire.specs.declared.Carried.TheVariants as carried
use Rattle.ip_wire.specs.declared.Frame.{Frame}
use Rattle.ip_wire.specs.declared.TcpOption.{TcpOption}
use Rattle.ip_wire.specs.declared.TcpOption.TheVariants as option
use Rattle.ip_wire.specs.declared.TcpRepr.{TcpRepr}
use Rattle.ip_wire.specs.declared.Transport.{Transport}
use Rattle.ip_wire.specs.declared.Transport.TheVariants as transport

-- `==` returns true exactly for values with this relation
abbrev pub Compares : {T : Type 0} → (T → T → Type 0) → (T → T → Bool) → Type 0
Compares {T} Same eq = (a b : T) → (eq a b ≡ true) ↔ Same a b

-- the options have the same kind and the same data
abbrev pub SameOption : TcpOption → TcpOption → Type 0
SameOption option.EndOfList option.EndOfList = ⊤
SameOption option.NoOperation option.NoOperation = ⊤
SameOption (option.MaxSegmentSize m) (option.MaxSegmentSize n) = m ≡ n
SameOption (option.WindowScale m) (option.WindowScale n) = m ≡ n
SameOption option.SackPermitted option.SackPermitted = ⊤
SameOption (option.SackRange p) (option.SackRange q) = p ≡ q
SameOption (option.TimeStamp m e) (option.TimeStamp n f) = (m ≡ n) × (e ≡ f)
SameOption (option.Unknown k p) (option.Unknown l q) = (k ≡ l) × (p.now ≡ q.now)
SameOption _ _ = ⊥

-- the segments have equal headers and payloads
abbrev pub SameSegment : TcpRepr → TcpRepr → Type 0
SameSegment v w = (tcp.header_of v ≡ tcp.header_of w) × (v.payload.now ≡ w.payload.now)

-- the transports have the same variant, equal headers and equal bytes
abbrev pub SameTransport : Transport → Transport → Type 0
SameTransport (transport.Udp v p) (transport.Udp w q) = (v ≡ w) × (p.now ≡ q.now)
SameTransport (transport.Tcp v) (transport.Tcp w) = SameSegment v w
SameTransport (transport.Other p) (transport.Other q) = p.now ≡ q.now
SameTransport (transport.Unread p) (transport.Unread q) = p.now ≡ q.now
SameTransport _ _ = ⊥

-- the payloads of frames have the same variant, equal headers and equal bytes
abbrev pub SameCarried : Carried → Carried → Type 0
SameCarried (carried.Arp v) (carried.Arp w) = v ≡ w
SameCarried (carried.Packet v t) (carried.Packet w u) = (v ≡ w) × SameTransport t u
SameCarried (carried.Fragment p) (carried.Fragment q) = ipv4.packet_bytes p ≡ ipv4.packet_bytes q
SameCarried (carried.Unread p) (carried.Unread q) = p.now ≡ q.now
SameCarried _ _ = ⊥

-- the frames have equal Ethernet headers and the same payload
abbrev pub SameFrame : Frame → Frame → Type 0
SameFrame f g = (f.header ≡ g.header) × SameCarried f.carried g.carried
