-- An emitted message parses as the value from which it was emitted, and is no longer than one that was parsed.
use Rattle.std.proofs.Common.{ℕ, ◌≡◌, ◌≤◌, ◌<◌, ◌+◌, ◌-◌, ◌%◌, Bool, true, false, IsTrue, List, [], ◌∷◌, ◌++◌, Option, Some, None, ◌==◌, if◌then◌else◌, drop, length, length-append, length-drop, slice_index, sum, take, refl, sym, ap, ◌∙◌, arith}
use Rattle.std.proofs.lemmas.Bool.Decides.{Decides-eqb}
use Rattle.std.proofs.lemmas.List.{append-nil, length-take}
use Rattle.std.proofs.Math.Seq.{drop-append_seam, take-append_seam}
use Rattle.std.specs.List.{concat}
use Rattle.std.proofs.lemmas.Option.{same_Some}
use Rattle.wire_addr.specs.declared.ethernet_address.EthernetAddress.{EthernetAddress}
use Rattle.wire_checksum.proofs.Residues.{residue-complement}
use Rattle.wire_checksum.proofs.WordLists.{sum-words-append}
use Rattle.wire_checksum.specs.PseudoHeader.{pseudo_header_bytes, with_pseudo_header}
use Rattle.wire_checksum.specs.WordSum.{residue, words}
use Rattle.wire_addr.specs.declared.ip_address.IpAddress.TheVariants as address
use Rattle.wire_addr.specs.declared.ip_protocol.IpProtocol.TheVariants as protocol
use Rattle.net_base.specs.Field.{field}
use Rattle.wire_icmp.proofs.IcmpReadsBack.{sum-words-header}
use Rattle.wire_icmp.specs.Icmp.{Verifies, emitted, header_bytes, message_with}
use Rattle.wire_icmp.specs.declared.icmp.header.IcmpHeader.{IcmpHeader}
use Rattle.wire_icmp.specs.NdOption.{AreOptions, HasLladdr, IsLladdr, first_of}
use Rattle.wire_icmp.specs.Ndisc.{HasFlags, IsAllowed, Reads, address_in, body_of, bytes_of, header_of, option_bytes, option_type, target_of, type_of}
use Rattle.wire_icmp.specs.declared.ndisc.repr.NdiscNeighborFlags.{NdiscNeighborFlags}
use Rattle.wire_icmp.specs.declared.ndisc.repr.NdiscRepr.{NdiscRepr}
use Rattle.wire_icmp.specs.declared.ndisc.repr.NdiscRepr.TheVariants.{NeighborSolicit, NeighborAdvert}

-- the addresses have their lengths
pub record IsInRange (v : NdiscRepr) (src dst : List ℕ) : Type 0 where
  pub src_bytes : length src ≡ 16
  pub dst_bytes : length dst ≡ 16
  pub target : length (target_of v) ≡ 16
  pub lladdr : (address : EthernetAddress) → address_in v ≡ Some address → length address.0 ≡ 6

-- ---- the checksum

sum-words-checksum : (h : IcmpHeader) (src dst payload : List ℕ) (checksum : ℕ) → length src ≡ 16 → length dst ≡ 16 → checksum < 65536
    → sum (words (with_pseudo_header (address.Ipv6 src) (address.Ipv6 dst) protocol.Icmpv6 (message_with h payload checksum)))
    ≡ sum (words (with_pseudo_header (address.Ipv6 src) (address.Ipv6 dst) protocol.Icmpv6 (message_with h payload 0))) + checksum
sum-words-checksum h src dst payload checksum s d fits =
    let pseudo = pseudo_header_bytes src dst protocol.Icmpv6 (length (message_with h payload 0)) in
    let even : length pseudo % 2 ≡ 0 = simp length-append (omega (arith, s, d)) in
    sum-words-append pseudo (message_with h payload checksum) even
    ∙ omega (
      arith,
      sum-words-append pseudo (message_with h payload 0) even,
      sum-words-append (header_bytes h 0) payload refl,
      sum-words-append (header_bytes h checksum) payload refl,
      sum-words-header h checksum fits,
    )

emitted-verifies : (h : IcmpHeader) (src dst payload : List ℕ) → length src ≡ 16 → length dst ≡ 16
    → Verifies (address.Ipv6 src) (address.Ipv6 dst) (emitted h payload (address.Ipv6 src) (address.Ipv6 dst) true)
emitted-verifies h src dst payload s d =
    let total = sum (words (with_pseudo_header (address.Ipv6 src) (address.Ipv6 dst) protocol.Icmpv6 (message_with h payload 0))) in
    ap residue (sum-words-checksum h src dst payload (65535 - residue total) s d (omega arith)) ∙ residue-complement total

verified-verifies : (v : NdiscRepr) (src dst : List ℕ) (computed verified : Bool) → length src ≡ 16 → length dst ≡ 16 → (IsTrue verified → IsTrue computed)
    → IsTrue verified → Verifies (address.Ipv6 src) (address.Ipv6 dst) (bytes_of v src dst computed)
verified-verifies v src dst true verified s d sound on = emitted-verifies (header_of v) src dst (body_of v) s d
verified-verifies v src dst false verified s d sound on = let no : IsTrue false = sound on in absurd (cc)

-- ---- the fields

written-flags : (router solicited override_ : Bool) (target : List ℕ) (lladdr : Option EthernetAddress) (checksum : ℕ)
    → let flags : NdiscNeighborFlags = record { router = router; solicited = solicited; override_ = override_ } in
    HasFlags (message_with (header_of (NeighborAdvert flags target lladdr)) (body_of (NeighborAdvert flags target lladdr)) checksum) (NeighborAdvert flags target lladdr)
written-flags true true true target lladdr checksum = refl
written-flags true true false target lladdr checksum = refl
written-flags true false true target lladdr checksum = refl
written-flags true false false target lladdr checksum = refl
written-flags false true true target lladdr checksum = refl
written-flags false true false target lladdr checksum = refl
written-flags false false true target lladdr checksum = refl
written-flags false false false target lladdr checksum = refl

message-flags : (v : NdiscRepr) (checksum : ℕ) → HasFlags (message_with (header_of v) (body_of v) checksum) v
message-flags (NeighborSolicit target lladdr) checksum = tt
message-flags (NeighborAdvert flags target lladdr) checksum = written-flags flags.router flags.solicited flags.override_ target lladdr checksum

message-type : (v : NdiscRepr) (checksum : ℕ) → field (message_with (header_of v) (body_of v) checksum) 0 8 ≡ type_of v
message-type (NeighborSolicit target lladdr) checksum = refl
message-type (NeighborAdvert flags target lladdr) checksum = refl

message-code : (v : NdiscRepr) (checksum : ℕ) → field (message_with (header_of v) (body_of v) checksum) 8 8 ≡ 0
message-code (NeighborSolicit target lladdr) checksum = refl
message-code (NeighborAdvert flags target lladdr) checksum = refl

-- only an option with an address
option-lladdr : (type : ℕ) (lladdr : Option EthernetAddress) → ((address : EthernetAddress) → lladdr ≡ Some address → length address.0 ≡ 6)
    → HasLladdr (option_bytes type lladdr) type lladdr
option-lladdr type None long = ([], record { each = tt; joined = refl }, refl)
option-lladdr type (Some address) long =
    let six = long address refl in
    let option = type ∷ 1 ∷ address.0 in
    (option ∷ [], record { each = (record { some = omega arith; whole = omega (arith, six) }, tt); joined = sym (append-nil option) }, rw ((Decides-eqb type type).1 refl) (omega (arith, six), refl))

-- the message parses
reads-message : (v : NdiscRepr) (src dst : List ℕ) (checksum : ℕ) (verified : Bool) → IsInRange v src dst → IsAllowed v src dst
    → (IsTrue verified → Verifies (address.Ipv6 src) (address.Ipv6 dst) (message_with (header_of v) (body_of v) checksum))
    → Reads (message_with (header_of v) (body_of v) checksum) src dst 255 verified v
reads-message v src dst checksum verified fits allowed sound =
    let target = target_of v in
    let option = option_bytes (option_type v) (address_in v) in
    let sixteen : take 16 (target ++ option) ≡ target = ap (λ (n : ℕ). take n (target ++ option)) (sym fits.target) ∙ take-append_seam target option in
    let rest : drop 16 (target ++ option) ≡ option = ap (λ (n : ℕ). drop n (target ++ option)) (sym fits.target) ∙ drop-append_seam target option in
    record {
      least = omega (arith, fits.target, length-append target option);
      hops = refl;
      checksum = sound;
      type = message-type v checksum;
      code = message-code v checksum;
      flags = message-flags v checksum;
      target = sym sixteen;
      lladdr = rw rest (option-lladdr (option_type v) (address_in v) fits.lladdr);
      allowed = allowed;
    }

pub reads_bytes_of : (v : NdiscRepr) (src dst : List ℕ) (computed verified : Bool) → IsInRange v src dst → IsAllowed v src dst → (IsTrue verified → IsTrue computed)
    → Reads (bytes_of v src dst computed) src dst 255 verified v
reads_bytes_of v src dst computed verified fits allowed sound =
    reads-message v src dst _ verified fits allowed (verified-verifies v src dst computed verified fits.src_bytes fits.dst_bytes sound)

-- ---- lengths

-- an option is no longer than all options
first_of-length : (type : ℕ) (options : List (List ℕ)) (option : List ℕ) → first_of type options ≡ Some option → length option ≤ length (concat options)
first_of-length type [] option is = absurd (cc)
first_of-length type (o ∷ options) option is = by (slice_index o 0 == type) refl is (first_of-length type options option)
  where
    by : (b : Bool) → (slice_index o 0 == type) ≡ b → (if b then Some o else first_of type options) ≡ Some option
        → (first_of type options ≡ Some option → length option ≤ length (concat options)) → length option ≤ length (o ++ concat options)
    by true e is inner = let same : o ≡ option = same_Some o option is in rw (← same) (omega (arith, length-append o (concat options)))
    by false e is inner = omega (arith, inner is, length-append o (concat options))

-- an option that was found is as long as the one that is written
option-shorter : (type : ℕ) (bytes : List ℕ) (lladdr : Option EthernetAddress) → HasLladdr bytes type lladdr → length (option_bytes type lladdr) ≤ length bytes
option-shorter type bytes None has = omega arith
option-shorter type bytes (Some address) has = by (first_of type has.0) has.2 refl
  where
    options : List (List ℕ)
    options = has.0

    are : AreOptions bytes options
    are = has.1

    by : (found : Option (List ℕ)) → IsLladdr found (Some address) → first_of type options ≡ found → length (type ∷ 1 ∷ address.0) ≤ length bytes
    by None is e = absurd (cc)
    by (Some option) (eight, same) e =
        let octets : address.0 ≡ drop 2 option = ap (λ (a : EthernetAddress). a.0) (same_Some _ _ same) in
        let within = first_of-length type options option e in
        rw (octets, are.joined) (omega (arith, eight, within, length-drop 2 option))

pub bytes_of_shorter : (v : NdiscRepr) (bytes src dst : List ℕ) (hop_limit : ℕ) (verified computed : Bool) → Reads bytes src dst hop_limit verified v
    → length (bytes_of v src dst computed) ≤ length bytes
bytes_of_shorter v bytes src dst hop_limit verified computed r =
    let option = option_bytes (option_type v) (address_in v) in
    let within = option-shorter (option_type v) (drop 24 bytes) (address_in v) r.lladdr in
    let sixteen : length (target_of v) ≤ 16 = rw r.target (omega (arith, length-take 16 (drop 8 bytes))) in
    omega (arith, within, sixteen, r.least, length-drop 24 bytes, length-append (target_of v) option)
