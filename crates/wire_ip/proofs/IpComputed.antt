-- The computed value of an IP header is the value that it parses as.
use Rattle.std.proofs.Common.{ℕ, ◌≡◌, ◌↔◌, Bool, List, Option, Some, None, Result, Ok, Err, refl, subst}
use Rattle.std.proofs.lemmas.Option.{option_and_then_some}
use Rattle.std.specs.Prelude.{IsErr, option_map}
use Rattle.std.specs.Result.{result_ok}
use Rattle.net_base.specs.declared.error.Error.{Error}
use Rattle.wire_addr.proofs.Versions.{IsOfVersion-packet_version, packet_version-IsOfVersion}
use Rattle.wire_addr.specs.IpVersion.{packet_version}
use Rattle.wire_addr.specs.declared.ip_version.IpVersion.{IpVersion}
use Rattle.wire_addr.specs.declared.ip_version.IpVersion.TheVariants as version
use Rattle.wire_ipv4.proofs.Ipv4Computed.{ipv4_of-Reads}
use Rattle.wire_ipv4.specs.Ipv4.{ipv4_of}
use Rattle.wire_ipv4.specs.declared.ipv4.repr.Ipv4Repr.{Ipv4Repr}
use Rattle.wire_ipv6.proofs.Ipv6Computed.{ipv6_of-Reads}
use Rattle.wire_ip.specs.Ip.{Reads, ReadsHeader, header_of_version, ip_of, version_of}
use Rattle.wire_ipv6.specs.Ipv6.{ipv6_of}
use Rattle.wire_ip.specs.declared.ip.repr.IpRepr.{IpRepr}
use Rattle.wire_ip.specs.declared.ip.repr.IpRepr.TheVariants.{Ipv4, Ipv6}
use Rattle.wire_ipv6.specs.declared.ipv6.repr.Ipv6Repr.{Ipv6Repr}
use Rattle.net_base.proofs.Readings.{option_map-Some}

-- a value that parses by the rules of a version has that version
pub header_of_version-Some : (verified : Bool) (bytes : List ℕ) (number : IpVersion) (v : IpRepr) → header_of_version verified bytes number ≡ Some v
    → (version_of v ≡ number) × ReadsHeader bytes verified v
header_of_version-Some verified bytes version.Ipv4 v e =
    let (w, read, is) = option_map-Some Ipv4 (ipv4_of verified bytes) v e in
    subst (λ v. (version_of v ≡ version.Ipv4) × ReadsHeader bytes verified v) is (refl, (ipv4_of-Reads verified bytes w).0 read)
header_of_version-Some verified bytes version.Ipv6 v e =
    let (w, read, is) = option_map-Some Ipv6 (ipv6_of bytes) v e in
    subst (λ v. (version_of v ≡ version.Ipv6) × ReadsHeader bytes verified v) is (refl, (ipv6_of-Reads bytes w).0 read)

ip_of-Some : (verified : Bool) (bytes : List ℕ) (v : IpRepr) → ip_of verified bytes ≡ Some v → Reads bytes verified v
unfolding ip_of
ip_of-Some verified bytes v e =
    option_and_then_some (header_of_version verified bytes) (packet_version bytes) v e (λ number is read.
    let (same, header) = header_of_version-Some verified bytes number v read in
    record { version = packet_version-IsOfVersion bytes (version_of v) (rw same is); header = header })

-- a value that bytes parse as is the computed one
pub Reads_ip_of : (verified : Bool) (bytes : List ℕ) (v : IpRepr) → Reads bytes verified v → ip_of verified bytes ≡ Some v
unfolding ip_of
Reads_ip_of verified bytes (Ipv4 v) r = rw (IsOfVersion-packet_version bytes version.Ipv4 r.version, (ipv4_of-Reads verified bytes v).1 r.header) refl
Reads_ip_of verified bytes (Ipv6 v) r = rw (IsOfVersion-packet_version bytes version.Ipv6 r.version, (ipv6_of-Reads bytes v).1 r.header) refl

-- bytes parse as a value exactly if it is the computed one
pub ip_of_Reads : (verified : Bool) (bytes : List ℕ) (v : IpRepr) → (ip_of verified bytes ≡ Some v) ↔ Reads bytes verified v
ip_of_Reads verified bytes v = (ip_of-Some verified bytes v, Reads_ip_of verified bytes v)

-- the value of bytes, by their version
pub ip_of_Ipv4 : (verified : Bool) (bytes : List ℕ) (value : Option Ipv4Repr) → packet_version bytes ≡ Some version.Ipv4 → ipv4_of verified bytes ≡ value
    → ip_of verified bytes ≡ option_map Ipv4 value
unfolding ip_of
ip_of_Ipv4 verified bytes value is read = rw (is, read) refl

-- the computed value of bytes with version 6 is that of IPv6
pub ip_of_Ipv6 : (verified : Bool) (bytes : List ℕ) (value : Option Ipv6Repr) → packet_version bytes ≡ Some version.Ipv6 → ipv6_of bytes ≡ value
    → ip_of verified bytes ≡ option_map Ipv6 value
unfolding ip_of
ip_of_Ipv6 verified bytes value is read = rw (is, read) refl

-- bytes with another version number have no computed value
pub ip_of_None : (verified : Bool) (bytes : List ℕ) → packet_version bytes ≡ None → ip_of verified bytes ≡ None
unfolding ip_of
ip_of_None verified bytes is = rw is refl

-- a result that is the computed value, if there is one, is exactly the value that the bytes parse as
pub record Answers (verified : Bool) (bytes : List ℕ) (answer : Result IpRepr Error) : Type 0 where
  pub reads : (v : IpRepr) → (answer ≡ Ok v) ↔ Reads bytes verified v
  pub value : ip_of verified bytes ≡ result_ok answer

-- `Ok` with the computed value is the right result
pub answers-Ok : (verified : Bool) (bytes : List ℕ) (w : IpRepr) → ip_of verified bytes ≡ Some w → Answers verified bytes (Ok w)
answers-Ok verified bytes w read = record {
  reads = λ v. (λ e. (ip_of_Reads verified bytes v).0 (cc), λ r. let other = Reads_ip_of verified bytes v r in cc);
  value = read;
}

-- `Err` is the right result if there is no computed value
pub answers-Err : (verified : Bool) (bytes : List ℕ) (answer : Result IpRepr Error) → IsErr answer → ip_of verified bytes ≡ None → Answers verified bytes answer
answers-Err verified bytes (Ok w) rejected none = absurd (cc)
answers-Err verified bytes (Err error) rejected none = record {
  reads = λ v. (λ e. absurd (cc), λ r. let other = Reads_ip_of verified bytes v r in absurd (cc));
  value = none;
}
