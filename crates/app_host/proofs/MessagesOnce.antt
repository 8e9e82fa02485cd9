-- A frame has at most one echo reply, one advertisement, one error with a message, and one parameter problem.
use Rattle.std.proofs.Common.{ℕ, ◌≡◌, ◌∙◌, inl, inr, Bool, List, Option, arith, drop, length, sym, ap, subst, true}
use Rattle.app_host.proofs.IcmpErrors.{error_values}
use Rattle.app_host.proofs.RepliesOnce.{IsOne}
use Rattle.app_host.specs.IcmpEcho.{IsIcmpEcho}
use Rattle.app_host.specs.IcmpError.{IsError, IsErrorTo, quoted}
use Rattle.app_host.specs.Interface.{header_back}
use Rattle.app_host.specs.Ipv6Fault.{fault_of}
use Rattle.app_host.specs.Neighbour.{IsAnsweredTo, IsNeighbourReply, advert_header, advert_of}
use Rattle.app_host.specs.ParameterProblem.{IsParameterProblem}
use Rattle.app_host.specs.declared.icmp_error.About.{About}
use Rattle.app_host.specs.declared.icmp_error.About.TheVariants.{Hosts}
use Rattle.app_host.specs.declared.interface.Interface.{Interface}
use Rattle.app_host.specs.declared.ipv6_fault.Fault.TheVariants.{Reported}
use Rattle.ip_wire.proofs.EthernetComputed.{Reads-is}
use Rattle.ip_wire.proofs.Ipv4Computed as ipv4
use Rattle.ip_wire.proofs.Ipv6Computed as ipv6
use Rattle.ip_wire.proofs.ReadsOnce.{computed-one}
use Rattle.ip_wire.specs.Ethernet as ethernet
use Rattle.ip_wire.specs.Frame.{Carried, other, packet, type_of}
use Rattle.ip_wire.specs.Ip.{Reads, dst_addr_of, header_before, src_addr_of, version_of}
use Rattle.ip_wire.specs.Protocol.{number_of}
use Rattle.ip_wire.specs.Types.{EthernetAddress, EthernetRepr, IpRepr, Ipv4, Ipv6, Ipv6Repr}
use Rattle.ip_wire.specs.declared.EthernetProtocol.TheVariants as ethertype
use Rattle.wire_icmp.specs.Icmp as icmp
use Rattle.wire_icmp.specs.Icmp.{protocol_of}
use Rattle.wire_icmp.specs.declared.IcmpRepr.{IcmpRepr}
use Rattle.wire_icmp.specs.declared.IcmpRepr.TheVariants.{EchoReply, EchoRequest, ParamProblem}
use Rattle.wire_icmp.proofs.NdiscComputed.{ndisc_of_Reads}
use Rattle.wire_icmp.specs.Ndisc as ndisc
use Rattle.wire_icmp.specs.declared.NdiscRepr.TheVariants.{NeighborSolicit}

-- ---- errors

pub link-once : (frame : List ℕ) (a b : EthernetRepr) → ethernet.Reads frame a → ethernet.Reads frame b → a ≡ b
link-once frame a b r s = Reads-is frame a r ∙ sym (Reads-is frame b s)

pub header-once : (bytes : List ℕ) (v w : IpRepr) → Reads bytes true v → Reads bytes true w → v ≡ w
header-once bytes (Ipv4 v) (Ipv4 w) r s = ap Ipv4 (ipv4.Reads-is true bytes v r.header ∙ sym (ipv4.Reads-is true bytes w s.header))
header-once bytes (Ipv6 v) (Ipv6 w) r s = ap Ipv6 (ipv6.Reads-is bytes v r.header ∙ sym (ipv6.Reads-is bytes w s.header))
header-once bytes (Ipv4 v) (Ipv6 w) r s = absurd (omega (arith, r.version.number, s.version.number))
header-once bytes (Ipv6 v) (Ipv4 w) r s = absurd (omega (arith, r.version.number, s.version.number))

pub error-to-once : (about : About) (ours : Interface) (frame : List ℕ) (message : IcmpRepr) → IsOne (IsErrorTo about ours frame message)
error-to-once about ours frame message h k c d (v, e) (w, g) =
    let same : v ≡ w = header-once (drop 14 frame) v w e.reads g.reads in
    let link : e.asked_link ≡ g.asked_link = link-once frame e.asked_link g.asked_link e.reads_link g.reads_link in (
      e.link ∙ (λ i. record { src_addr = ours.hardware_addr; dst_addr = (link i).src_addr; ethertype = type_of (same i) }) ∙ sym g.link,
      e.tells ∙ ap (λ x. error_values ours x message (quoted (version_of x) (drop 14 frame))) same ∙ sym g.tells,
    )

pub error-once : (ours : Interface) (frame : List ℕ) (message : IcmpRepr) → IsOne (IsError ours frame message)
error-once ours frame message = error-to-once Hosts ours frame message

-- the first fault of a packet is one
pub problem-once : (ours : Interface) (frame : List ℕ) (asked : Carried) → IsOne (IsParameterProblem ours frame asked)
problem-once ours frame asked h k c d e g =
    let first = e.asks in
    let second = g.asks in
    let asks : packet (Ipv6 e.ip) (other e.payload) ≡ packet (Ipv6 g.ip) (other g.payload) = cc in
    let ip : e.ip ≡ g.ip = cc in
    let payload : e.payload ≡ g.payload = cc in
    let fault : Reported e.code e.pointer e.about ≡ Reported g.code g.pointer g.about =
    computed-one _ _ _ (sym (λ i. fault_of (number_of (ip i).next_header) (payload i)) ∙ e.fault) g.fault
    in
    let code : e.code ≡ g.code = cc in
    let pointer : e.pointer ≡ g.pointer = cc in
    let about : e.about ≡ g.about = cc in
    let tells : IsErrorTo g.about ours frame (ParamProblem g.code g.pointer) h c =
    subst (λ t. IsErrorTo t ours frame (ParamProblem g.code g.pointer) h c) about
    (subst (λ p. IsErrorTo e.about ours frame (ParamProblem g.code p) h c) pointer (subst (λ n. IsErrorTo e.about ours frame (ParamProblem n e.pointer) h c) code e.tells))
    in
    error-to-once g.about ours frame (ParamProblem g.code g.pointer) h k c d tells g.tells

-- ---- echo replies

abbrev pub echo_reply_values : IpRepr → ℕ → ℕ → List ℕ → Carried
echo_reply_values v ident seq_no payload =
    let reply = icmp.bytes_of (EchoReply ident seq_no) payload (dst_addr_of v) (src_addr_of v) true in
    packet (header_before (header_back v) (protocol_of (version_of v)) (length reply)) (other reply)

pub icmp-echo-once : (ours : Interface) (asked_header : EthernetRepr) (asked : Carried) → IsOne (IsIcmpEcho ours asked_header asked)
icmp-echo-once ours asked_header asked h k c d e g =
    let first = e.asks in
    let second = g.asks in
    let asks : packet e.ip (other e.request) ≡ packet g.ip (other g.request) = cc in
    let ip : e.ip ≡ g.ip = cc in
    let bytes : e.request ≡ g.request = cc in
    let reads =
    subst (λ x. icmp.Reads g.request (src_addr_of x) (dst_addr_of x) true (EchoRequest e.ident e.seq_no) e.payload) ip
    (subst (λ b. icmp.Reads b (src_addr_of e.ip) (dst_addr_of e.ip) true (EchoRequest e.ident e.seq_no) e.payload) bytes e.reads)
    in
    let value : EchoRequest e.ident e.seq_no ≡ EchoRequest g.ident g.seq_no = computed-one _ _ _ reads.message g.reads.message in
    let ident : e.ident ≡ g.ident = cc in
    let seq_no : e.seq_no ≡ g.seq_no = cc in
    let payload : e.payload ≡ g.payload = reads.body ∙ sym g.reads.body in (
      e.link ∙ ap (λ v. record { src_addr = ours.hardware_addr; dst_addr = asked_header.src_addr; ethertype = type_of v }) ip ∙ sym g.link,
      e.replies ∙ (λ i. echo_reply_values (ip i) (ident i) (seq_no i) (payload i)) ∙ sym g.replies,
    )

-- ---- advertisements

abbrev pub advert_values : Interface → List ℕ → Bool → Carried
advert_values ours dst solicited =
    let bytes = ndisc.bytes_of (advert_of ours solicited) ours.ipv6_addr dst true in
    packet (Ipv6 (record (advert_header ours dst) { payload_len = length bytes })) (other bytes)

to-once : (ours : Interface) (link : EthernetRepr) (ip : Ipv6Repr) (named : Option EthernetAddress) (a b : EthernetAddress) (c d : List ℕ) (s t : Bool)
    → IsAnsweredTo ours link ip named a c s → IsAnsweredTo ours link ip named b d t → (a ≡ b) × (c ≡ d) × (s ≡ t)
to-once ours link ip named a b c d s t (inl (none, to, hardware, sol)) (inl (none', to', hardware', sol')) =
    let octets : a.0 ≡ b.0 = hardware ∙ sym hardware' in ((λ i. record { 0 = octets i }), to ∙ sym to', sol ∙ sym sol')
to-once ours link ip named a b c d s t (inl (none, to, hardware, sol)) (inr (valid, to', hardware', unicast', sol')) = absurd (valid (inl (inl none)))
to-once ours link ip named a b c d s t (inr (valid, to', hardware', unicast', sol')) (inl (none, to, hardware, sol)) = absurd (valid (inl (inl none)))
to-once ours link ip named a b c d s t (inr (valid, to, hardware, unicast, sol)) (inr (valid', to', hardware', unicast', sol')) =
    (hardware ∙ sym hardware', to ∙ sym to', sol ∙ sym sol')

pub neighbour-once : (ours : Interface) (asked_header : EthernetRepr) (asked : Carried) → IsOne (IsNeighbourReply ours asked_header asked)
neighbour-once ours asked_header asked h k c d e g =
    let first = e.asks in
    let second = g.asks in
    let asks : packet (Ipv6 e.ip) (other e.request) ≡ packet (Ipv6 g.ip) (other g.request) = cc in
    let ip : e.ip ≡ g.ip = cc in
    let bytes : e.request ≡ g.request = cc in
    let x = g.ip in
    let one = NeighborSolicit ours.ipv6_addr e.named in
    let two = NeighborSolicit ours.ipv6_addr g.named in
    let reads =
    subst (λ (y : Ipv6Repr). ndisc.Reads g.request y.src_addr y.dst_addr y.hop_limit true one) ip
    (subst (λ b. ndisc.Reads b e.ip.src_addr e.ip.dst_addr e.ip.hop_limit true one) bytes e.reads)
    in
    let value : one ≡ two =
    computed-one (ndisc.ndisc_of x.src_addr x.dst_addr x.hop_limit true g.request) one two
    ((ndisc_of_Reads x.src_addr x.dst_addr x.hop_limit true g.request one).1 reads) ((ndisc_of_Reads x.src_addr x.dst_addr x.hop_limit true g.request two).1 g.reads)
    in
    let named : e.named ≡ g.named = cc in
    let to = subst (λ n. IsAnsweredTo ours asked_header x n e.hardware e.dst e.solicited) named (subst (λ y. IsAnsweredTo ours asked_header y e.named e.hardware e.dst e.solicited) ip e.to) in
    let same = to-once ours asked_header x g.named e.hardware g.hardware e.dst g.dst e.solicited g.solicited to g.to in (
      e.link ∙ ap (λ s. record { src_addr = ours.hardware_addr; dst_addr = s; ethertype = ethertype.Ipv6 }) same.0 ∙ sym g.link,
      e.tells ∙ (λ i. advert_values ours (same.1 i) (same.2 i)) ∙ sym g.tells,
    )
