-- Errors in frames.
use Rattle.std.proofs.Common.{ℕ, ◌≡◌, ◌↔◌, ◌∙◌, ◌≤◌, ◌+◌, inl, inr, Bool, IsTrue, List, Some, None, drop, false, length, length-take, min, not, refl, ap, subst, true, arith}
use Rattle.std.specs.Borrow.{Bor}
use Rattle.ip_wire.specs.Ethernet as ethernet
use Rattle.ip_wire.specs.Frame.{Carried, other, packet, type_of}
use Rattle.ip_wire.specs.Ip.{Reads, dst_addr_of, header_before, max_payload_len, src_addr_of, version_of}
use Rattle.ip_wire.specs.Ipv4 as ipv4
use Rattle.ip_wire.specs.Ipv6 as ipv6
use Rattle.ip_wire.specs.Types.{EthernetRepr, IpRepr, Ipv4, Ipv6, Ipv6Repr}
use Rattle.ip_wire.specs.declared.IpVersion.TheVariants as version
use Rattle.wire_icmp.specs.Icmp.{bytes_of, protocol_of}
use Rattle.wire_icmp.specs.declared.IcmpRepr.{IcmpRepr}
use Rattle.app_host.proofs.Ipv6Chains.{leads_once}
use Rattle.app_host.proofs.Messages.{icmp_values, sendable_icmp, values_icmp}
use Rattle.app_host.specs.IcmpError.{CarriesNoError, IsBetweenHosts, IsErrorTo, IsIcmpError, IsToGroup, IsToReceiver, IsToldOf, IsToldOfHeaders, header_from, quoted}
use Rattle.app_host.specs.Ipv6Chain.{LeadsNowhere, LeadsTo}
use Rattle.app_host.specs.Message.{Gives, message_frame}
use Rattle.app_host.specs.declared.icmp_error.About.{About}
use Rattle.app_host.specs.declared.icmp_error.About.TheVariants.{Fragments, Groups, Hosts}
use Rattle.app_host.specs.declared.interface.Interface.{Interface}
use Rattle.app_host.specs.declared.message.Message.TheVariants.{Icmp}

-- an error may be sent if the upper-layer protocol carries none
told_after : (p n : ℕ) (m bytes : List ℕ) (b : Bool) → LeadsTo p m n bytes → (IsTrue b ↔ IsIcmpError version.Ipv6 p m) → IsTrue (not b) ↔ CarriesNoError n bytes
told_after p n m bytes true leads is = (
  λ on. absurd cc,
  λ (q, k, others, none).
      let same = leads_once leads others in
      absurd (none (subst (λ x. IsIcmpError version.Ipv6 x k) same.0 (subst (λ x. IsIcmpError version.Ipv6 p x) same.1 (is.0 refl)))),
)
told_after p n m bytes false leads is = (λ on. (p, m, leads, λ error. let on : false ≡ true = is.1 error in absurd cc), λ may. refl)

pub told_by : (about : About) (p n : ℕ) (m bytes : List ℕ) (b : Bool) → LeadsTo p m n bytes → (IsTrue b ↔ IsIcmpError version.Ipv6 p m)
    → IsTrue (not b) ↔ IsToldOfHeaders about n bytes
told_by Hosts p n m bytes b leads is = told_after p n m bytes b leads is
told_by Groups p n m bytes b leads is = told_after p n m bytes b leads is
told_by Fragments p n m bytes b leads is =
    let same = told_after p n m bytes b leads is in (
      λ on. inl (same.0 on),
      λ may. elim may [
        | inl told ↦ same.1 told
        | inr none ↦ absurd (none p m leads)
      ],
    )

-- if there is none, an error is sent about a fragment only
pub told_nowhere : (about : About) (n : ℕ) (bytes : List ℕ) (b : Bool) → LeadsNowhere n bytes → (IsTrue b ↔ (about ≡ Fragments)) → IsTrue b ↔ IsToldOfHeaders about n bytes
told_nowhere Hosts n bytes b none is = (λ on. absurd (let same = is.0 on in cc), λ (p, m, leads, told). absurd (none p m leads))
told_nowhere Groups n bytes b none is = (λ on. absurd (let same = is.0 on in cc), λ (p, m, leads, told). absurd (none p m leads))
told_nowhere Fragments n bytes b none is = (λ on. inr none, λ may. is.1 refl)

-- a packet that goes from one other host to one host goes to a receiver
pub to-host : (about : About) (ours : Interface) (link : EthernetRepr) (v : IpRepr) → IsBetweenHosts ours link v → IsToReceiver about ours link v
to-host Groups ours link (Ipv6 v) hosts = inl hosts
to-host Groups ours link (Ipv4 v) hosts = hosts
to-host Hosts ours link v hosts = hosts
to-host Fragments ours link v hosts = hosts

-- so does one to a group of ours, and no other packet
pub to-group : (b : Bool) (ours : Interface) (link : EthernetRepr) (v : Ipv6Repr) → ¬ IsBetweenHosts ours link (Ipv6 v) → (IsTrue b ↔ IsToGroup ours link v)
    → IsTrue b ↔ IsToReceiver Groups ours link (Ipv6 v)
to-group b ours link v none is = (
  λ on. inr (is.0 on),
  λ to. elim to [
    | inl hosts ↦ absurd (none hosts)
    | inr group ↦ is.1 group
  ],
)

-- a frame without an Ethernet header, or without an IP header, gets no error
pub no_link : (about : About) (ours : Interface) (frame : List ℕ) (message : IcmpRepr) → ((link : EthernetRepr) → ¬ ethernet.Reads frame link) → Gives (IsErrorTo about ours frame message) None
no_link about ours frame message none h c (v, e) = none e.asked_link e.reads_link

pub no_header : (about : About) (ours : Interface) (frame : List ℕ) (message : IcmpRepr) → ((v : IpRepr) → ¬ Reads (drop 14 frame) true v) → Gives (IsErrorTo about ours frame message) None
no_header about ours frame message none h c (v, e) = none v e.reads

-- nor does one that does not go to a receiver, or that may not be told of
pub untold : (about : About) (ours : Interface) (frame : List ℕ) (message : IcmpRepr) (link : EthernetRepr) (v : IpRepr) → ((l : EthernetRepr) → ethernet.Reads frame l → l ≡ link)
    → ((w : IpRepr) → Reads (drop 14 frame) true w → w ≡ v) → ¬ (IsToReceiver about ours link v × IsToldOf about v (drop 14 frame)) → Gives (IsErrorTo about ours frame message) None
untold about ours frame message link v one_link one_header none h c (w, e) =
    let same = one_header w e.reads in
    none (subst (IsToReceiver about ours link) same (subst (λ l. IsToReceiver about ours l w) (one_link e.asked_link e.reads_link) e.hosts), subst (λ x. IsToldOf about x (drop 14 frame)) same e.told_of)

-- a quote is short
within : (ours : Interface) (v : IpRepr) (bytes : List ℕ) → 8 + length (quoted (version_of v) bytes) ≤ max_payload_len (header_from ours v)
within ours (Ipv4 v) bytes = omega (arith, length-take (min 548 (ipv4.total_len bytes)) bytes)
within ours (Ipv6 v) bytes = omega (arith, length-take (min 1232 (ipv6.total_len bytes)) bytes)

same-type : (ours : Interface) (v : IpRepr) → type_of (header_from ours v) ≡ type_of v
same-type ours (Ipv4 v) = refl
same-type ours (Ipv6 v) = refl

-- what the frame with an error carries
abbrev pub error_values : Interface → IpRepr → IcmpRepr → List ℕ → Carried
error_values ours v message quote =
    let back = header_from ours v in
    let bytes = bytes_of message quote (src_addr_of back) (dst_addr_of back) true in
    packet (header_before back (protocol_of (version_of v)) (length bytes)) (other bytes)

same-values : (ours : Interface) (v : IpRepr) (message : IcmpRepr) (quote : List ℕ)
    → icmp_values (header_from ours v) message quote (src_addr_of (header_from ours v)) (dst_addr_of (header_from ours v)) ≡ error_values ours v message quote
same-values ours (Ipv4 v) message quote = refl
same-values ours (Ipv6 v) message quote = refl

-- any other gets one
pub told : (about : About) (ours : Interface) (frame : List ℕ) (message : IcmpRepr) (link : EthernetRepr) (v : IpRepr) (quote : Bor (List ℕ)) → ethernet.Reads frame link → Reads (drop 14 frame) true v
    → IsToReceiver about ours link v → IsToldOf about v (drop 14 frame) → quote.now ≡ quoted (version_of v) (drop 14 frame)
    → Gives (IsErrorTo about ours frame message) (Some (message_frame ours.hardware_addr link.src_addr (header_from ours v) (Icmp message quote)))
told about ours frame message link v quote reads_link reads hosts told_of quotes =
    let back = header_from ours v in
    let len : 8 + length quote.now ≤ max_payload_len back = omega (arith, ap length quotes, within ours v (drop 14 frame)) in (
      sendable_icmp ours.hardware_addr link.src_addr back message quote len,
      (
        v,
        record {
          asked_link = link;
          reads_link = reads_link;
          reads = reads;
          hosts = hosts;
          told_of = told_of;
          link = ap (λ t. record { src_addr = ours.hardware_addr; dst_addr = link.src_addr; ethertype = t }) (same-type ours v);
          tells = values_icmp ours.hardware_addr link.src_addr back message quote ∙ same-values ours v message quote.now ∙ ap (error_values ours v message) quotes;
        },
      ),
    )
