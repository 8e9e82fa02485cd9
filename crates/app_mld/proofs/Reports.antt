-- The checksum of a report.
use Rattle.std.proofs.Common.{ℕ, ◌≡◌, ◌∙◌, ◌+◌, ◌-◌, List, true, ap, arith, refl}
use Rattle.ip_wire.specs.Types.{IpAddress}
use Rattle.ip_wire.proofs.Residues.{residue-complement}
use Rattle.ip_wire.proofs.WordLists.{sum-words-append}
use Rattle.ip_wire.specs.WordSum.{residue}
use Rattle.wire_icmp.proofs.IcmpReadsBack.{sum-words-header}
use Rattle.wire_icmp.proofs.IcmpSums.{AreWhole, total, total-parts}
use Rattle.wire_icmp.specs.Icmp.{Verifies, emitted, header_bytes, message_with}
use Rattle.wire_icmp.specs.declared.icmp.header.IcmpHeader.{IcmpHeader}

-- an emitted checksum is correct
pub verified : (h : IcmpHeader) (payload : List ℕ) (src dst : IpAddress) → AreWhole src dst → Verifies src dst (emitted h payload src dst true)
verified h payload src dst whole =
    let zeroed = total src dst (message_with h payload 0) in
    let checksum = 65535 - residue zeroed in
    let is : total src dst (message_with h payload checksum) ≡ zeroed + checksum = omega (
      arith,
      total-parts src dst (message_with h payload checksum) whole,
      total-parts src dst (message_with h payload 0) whole,
      sum-words-append (header_bytes h checksum) payload refl,
      sum-words-append (header_bytes h 0) payload refl,
      sum-words-header h checksum (omega arith),
    ) in
    ap residue is ∙ residue-complement zeroed
