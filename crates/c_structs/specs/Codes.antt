-- The numbers of the enums of `include/ip_wire.h`.
-- Pinned by: `worked/read`
use Rattle.std.specs.Prelude.{ℕ}
use Rattle.c_structs.specs.declared.codes.NetworkKind.{NetworkKind}
use Rattle.c_structs.specs.declared.codes.NetworkKind.TheVariants as network
use Rattle.c_structs.specs.declared.codes.Reason.{Reason}
use Rattle.c_structs.specs.declared.codes.Reason.TheVariants as reason
use Rattle.c_structs.specs.declared.codes.TransportKind.{TransportKind}
use Rattle.c_structs.specs.declared.codes.TransportKind.TheVariants as transport
use Rattle.c_structs.specs.declared.codes.Verdict.{Verdict}
use Rattle.c_structs.specs.declared.codes.Verdict.TheVariants as verdict

-- the number of a reason why a header is rejected (`enum lk_reason`)
abbrev pub reason_code : Reason → ℕ
reason_code reason.Read = 0
reason_code reason.TooShort = 1
reason_code reason.BadVersion = 2
reason_code reason.BadLength = 3
reason_code reason.OtherArp = 4
reason_code reason.PortZero = 5
reason_code reason.BadFlags = 6
reason_code reason.BadOptions = 7
reason_code reason.HeaderCut = 8
reason_code reason.UnknownLink = 9
reason_code reason.HopsLeft = 10
reason_code reason.BadOrder = 11

-- the number of a network protocol (`enum lk_network`)
abbrev pub network_code : NetworkKind → ℕ
network_code network.None = 0
network_code network.Arp = 1
network_code network.Ipv4 = 2
network_code network.Ipv6 = 3

-- the number of a transport protocol (`enum lk_transport`)
abbrev pub transport_code : TransportKind → ℕ
transport_code transport.None = 0
transport_code transport.Udp = 1
transport_code transport.Tcp = 2
transport_code transport.Icmp = 3

-- the number of what a checksum says (`enum lk_verdict`)
abbrev pub verdict_code : Verdict → ℕ
verdict_code verdict.None = 0
verdict_code verdict.Right = 1
verdict_code verdict.Wrong = 2
verdict_code verdict.LeftOut = 3
verdict_code verdict.LeftToDevice = 4
verdict_code verdict.ChecksumCut = 5
