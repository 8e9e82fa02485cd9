-- Echo replies and errors in frames.
use Rattle.std.proofs.Common.{ℕ, ◌≡◌, ◌∙◌, ◌<◌, ◌≤◌, ◌+◌, ◌↔◌, List, Option, Some, None, Result, Ok, length, refl, ap, subst, true, arith}
use Rattle.std.specs.Borrow.{Bor}
use Rattle.ip_wire.specs.Frame as frame
use Rattle.ip_wire.specs.Frame.{all_checked, other, packet}
use Rattle.ip_wire.specs.FrameValue.{carried_of}
use Rattle.ip_wire.specs.Ip.{dst_addr_of, header_before, max_payload_len, next_header_of, src_addr_of, version_of}
use Rattle.ip_wire.specs.Types.{EthernetRepr, IpRepr, Ipv4, Ipv6}
use Rattle.ip_wire.proofs.Parsed.{ToFrame}
use Rattle.ip_wire.specs.IpAddress as address
use Rattle.ip_wire.specs.declared.Frame.{Frame}
use Rattle.ip_wire.specs.Checksum.{verifies}
use Rattle.wire_icmp.specs.Icmp.{Reads, bytes_of, choice_of, payload_of, protocol_of}
use Rattle.wire_icmp.specs.declared.IcmpRepr.{IcmpRepr}
use Rattle.wire_icmp.specs.declared.IcmpRepr.TheVariants.{EchoReply, EchoRequest}
use Rattle.app_host.proofs.Echoes.{same_type}
use Rattle.app_host.proofs.Messages.{icmp_values, sendable_icmp, values_icmp}
use Rattle.app_host.specs.IcmpEcho.{IsIcmpEcho}
use Rattle.app_host.specs.Interface.{IsForUs, header_back}
use Rattle.app_host.specs.Message.{Gives, message_frame}
use Rattle.app_host.specs.declared.interface.Interface.{Interface}
use Rattle.app_host.specs.declared.message.Message.TheVariants.{Icmp}
use Rattle.app_host.specs.declared.message.MessageFrame.{MessageFrame}

same-max : (v : IpRepr) → max_payload_len (header_back v) ≡ max_payload_len v
same-max (Ipv4 v) = refl
same-max (Ipv6 v) = refl

-- what the reply to an echo request carries
echo_values : (v : IpRepr) (ident seq_no : ℕ) (payload : List ℕ) → icmp_values (header_back v) (EchoReply ident seq_no) payload (src_addr_of (header_back v)) (dst_addr_of (header_back v))
    ≡ (let reply = bytes_of (EchoReply ident seq_no) payload (dst_addr_of v) (src_addr_of v) true in packet (header_before (header_back v) (protocol_of (version_of v)) (length reply)) (other reply))
echo_values (Ipv4 v) ident seq_no payload = refl
echo_values (Ipv6 v) ident seq_no payload = refl

-- the reply to an echo request
pub echoed : (ours : Interface) (link : EthernetRepr) (v : IpRepr) (request : List ℕ) (ident seq_no : ℕ) (payload : Bor (List ℕ)) (octets : List ℕ)
    → next_header_of v ≡ protocol_of (version_of v) → Reads request (src_addr_of v) (dst_addr_of v) true (EchoRequest ident seq_no) octets → payload.now ≡ octets
    → 8 + length octets ≤ length request → IsForUs ours link v → length request ≤ max_payload_len v
    → Gives (IsIcmpEcho ours link (packet v (other request))) (Some (message_frame ours.hardware_addr link.src_addr (header_back v) (Icmp (EchoReply ident seq_no) payload)))
echoed ours link v request ident seq_no payload octets protocol reads has short for_us fits =
    let len : 8 + length payload.now ≤ max_payload_len (header_back v) = omega (arith, ap length has, short, fits, same-max v) in (
      sendable_icmp ours.hardware_addr link.src_addr (header_back v) (EchoReply ident seq_no) payload len,
      record {
        ip = v;
        ident = ident;
        seq_no = seq_no;
        payload = octets;
        request = request;
        asks = refl;
        protocol = protocol;
        reads = reads;
        for_us = for_us;
        fits = fits;
        link = ap (λ t. record { src_addr = ours.hardware_addr; dst_addr = link.src_addr; ethertype = t }) (same_type v);
        replies = values_icmp ours.hardware_addr link.src_addr (header_back v) (EchoReply ident seq_no) payload
            ∙ echo_values v ident seq_no payload.now
            ∙ ap (λ l. let reply = bytes_of (EchoReply ident seq_no) l (dst_addr_of v) (src_addr_of v) true in packet (header_before (header_back v) (protocol_of (version_of v)) (length reply)) (other reply)) has;
      },
    )

-- a packet that is no echo request has no reply
pub no_echo : (ours : Interface) (link : EthernetRepr) (v : IpRepr) (request : List ℕ)
    → ((ident seq_no : ℕ) (payload : List ℕ) → next_header_of v ≡ protocol_of (version_of v) → IsForUs ours link v → length request ≤ max_payload_len v
    → ¬ Reads request (src_addr_of v) (dst_addr_of v) true (EchoRequest ident seq_no) payload)
    → Gives (IsIcmpEcho ours link (packet v (other request))) None
no_echo ours link v request none header carried e =
    let asks = e.asks in
    let ip : e.ip ≡ v = cc in
    let bytes : e.request ≡ request = cc in
    none e.ident e.seq_no e.payload (subst (λ x. next_header_of x ≡ protocol_of (version_of x)) ip e.protocol) (subst (IsForUs ours link) ip e.for_us)
    (subst (λ x. length x ≤ max_payload_len v) bytes (subst (λ x. length e.request ≤ max_payload_len x) ip e.fits))
    (subst (λ b. Reads b (src_addr_of v) (dst_addr_of v) true (EchoRequest e.ident e.seq_no) e.payload) bytes
    (subst (λ x. Reads e.request (src_addr_of x) (dst_addr_of x) true (EchoRequest e.ident e.seq_no) e.payload) ip e.reads))

-- a packet whose payload parses as another message, or as none, has no reply
pub no_request : {E : Type 0} (ours : Interface) (link : EthernetRepr) (v : IpRepr) (request : List ℕ) (result : Result IcmpRepr E)
    → ((x : IcmpRepr) → (result ≡ Ok x) ↔ Reads request (src_addr_of v) (dst_addr_of v) true x (payload_of request)) → ((ident seq_no : ℕ) → ¬ (result ≡ Ok (EchoRequest ident seq_no)))
    → Gives (IsIcmpEcho ours link (packet v (other request))) None
no_request ours link v request result reads none =
    no_echo ours link v request (λ ident seq_no payload protocol for_us fits r. none ident seq_no
    ((reads (EchoRequest ident seq_no)).1 (subst (Reads request (src_addr_of v) (dst_addr_of v) true (EchoRequest ident seq_no)) r.body r)))

-- the checksum is verified
pub verified : (v : IpRepr) → verifies (choice_of (address.version_of (src_addr_of v)) all_checked) ≡ true
verified (Ipv4 v) = refl
verified (Ipv6 v) = refl

-- the reply to what a frame carries is the reply to the frame
pub in_frame : (R : EthernetRepr → frame.Carried → EthernetRepr → frame.Carried → Type 0) (request : Frame) (asked : frame.Carried) (result : Option MessageFrame)
    → carried_of request.carried ≡ Some asked → Gives (R request.header asked) result → Gives (ToFrame R request) result
in_frame R request asked None is none = λ h c (found, same, r). let one : found ≡ asked = cc in none h c (subst (λ a. R request.header a h c) one r)
in_frame R request asked (Some f) is (sendable, r) = (sendable, (asked, is, r))

-- the reply with another DSCP
pub with-dscp : (R : EthernetRepr → frame.Carried → Type 0) (f : MessageFrame) (n : ℕ) → n < 64 → Gives R (Some f) → Gives R (Some (record f { dscp = n }))
with-dscp R f n small (s, r) =
    (record { ethertype = s.ethertype; protocol = s.protocol; len = s.len; written = s.written; fits = s.fits; version = s.version; dscp = small }, r)
