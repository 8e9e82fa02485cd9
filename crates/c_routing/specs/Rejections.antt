-- The numbers of `enum lk_rejection` in `include/ip_wire.h`.
-- Pinned by: `worked/route`, `worked/nat`
use Rattle.std.specs.Prelude.{ℕ, None, Option, Some}
use Rattle.c_routing.specs.declared.rejections.Rejection.{Rejection}
use Rattle.c_routing.specs.declared.rejections.Rejection.TheVariants as rejection
use Rattle.app_nat.specs.declared.translation.Rejection.{Rejection as NatRejection}
use Rattle.app_nat.specs.declared.translation.Rejection.TheVariants as nat
use Rattle.app_router.specs.declared.source.SourceFault.{SourceFault}
use Rattle.app_router.specs.declared.source.SourceFault.TheVariants as source
use Rattle.ip_wire.specs.declared.HeaderFault.{HeaderFault}
use Rattle.ip_wire.specs.declared.HeaderFault.TheVariants as header

-- the number of a rejection
abbrev pub rejection_code : Rejection → ℕ
rejection_code rejection.NotRejected = 0
rejection_code rejection.NoIpv4 = 1
rejection_code rejection.NotIp = 2
rejection_code rejection.BadHeader = 3
rejection_code rejection.WrongChecksum = 4
rejection_code rejection.Expired = 5
rejection_code rejection.Fragment = 6
rejection_code rejection.OtherProtocol = 7
rejection_code rejection.BadTransport = 8
rejection_code rejection.ZeroPort = 9
rejection_code rejection.NoMapping = 10
rejection_code rejection.NoFreePort = 11
rejection_code rejection.Martian = 12
rejection_code rejection.NoRoute = 13
rejection_code rejection.OtherInterface = 14

-- the rejection for a fault of an IP header
abbrev pub of_header : HeaderFault → Rejection
of_header header.NotIp = rejection.NotIp
of_header header.BadHeader = rejection.BadHeader
of_header header.WrongChecksum = rejection.WrongChecksum
of_header header.Expired = rejection.Expired

-- the rejection for a reason why a NAT does not translate a frame
abbrev pub of_nat : NatRejection → Rejection
of_nat nat.NotIpv4 = rejection.NotIp
of_nat nat.BadHeader = rejection.BadHeader
of_nat nat.WrongChecksum = rejection.WrongChecksum
of_nat nat.Fragment = rejection.Fragment
of_nat nat.OtherProtocol = rejection.OtherProtocol
of_nat nat.BadTransport = rejection.BadTransport
of_nat nat.ZeroPort = rejection.ZeroPort
of_nat nat.NoMapping = rejection.NoMapping
of_nat nat.NoFreePort = rejection.NoFreePort

-- the rejection for a fault of a source address
abbrev pub of_source : SourceFault → Rejection
of_source source.Martian = rejection.Martian
of_source source.NoRoute = rejection.NoRoute
of_source source.OtherInterface = rejection.OtherInterface

-- the number of the fault of a source address; 0 if it has none
abbrev pub source_code : Option SourceFault → ℕ
source_code None = rejection_code rejection.NotRejected
source_code (Some fault) = rejection_code (of_source fault)
