-- Echo replies, advertisements and errors have no reply.
use Rattle.std.proofs.Common.{ℕ, ◌≡◌, ◌≢◌, ◌∙◌, Bool, List, Option, Some, arith, false, refl, sym, ap, subst, true}
use Rattle.std.specs.Prelude.{◌==◌, ◌&&◌, if◌then◌else◌}
use Rattle.app_host.proofs.IcmpErrors.{error_values}
use Rattle.app_host.proofs.Ipv6Faults.{no-fault}
use Rattle.app_host.proofs.MessagesOnce.{advert_values, echo_reply_values}
use Rattle.app_host.specs.IcmpEcho.{IsIcmpEcho}
use Rattle.app_host.specs.Ipv6Fault.{fault_of}
use Rattle.app_host.specs.Neighbour.{IsNeighbourReply}
use Rattle.app_host.specs.ParameterProblem.{IsParameterProblem}
use Rattle.app_host.specs.declared.interface.Interface.{Interface}
use Rattle.app_host.specs.declared.ipv6_fault.Fault.TheVariants.{Reported}
use Rattle.ip_wire.specs.Field.{field}
use Rattle.ip_wire.specs.Frame.{Carried, other, packet}
use Rattle.ip_wire.specs.Ip.{dst_addr_of, next_header_of, src_addr_of, version_of}
use Rattle.ip_wire.specs.Protocol.{number_of}
use Rattle.ip_wire.specs.Types.{EthernetRepr, IpRepr, IpVersion, Ipv4, Ipv6, Ipv6Repr}
use Rattle.ip_wire.specs.declared.IpVersion.TheVariants as version
use Rattle.wire_icmp.specs.Icmp.{Reads, is_query, message_of, protocol_of}
use Rattle.wire_icmp.specs.declared.IcmpRepr.{IcmpRepr}
use Rattle.wire_icmp.specs.declared.IcmpRepr.TheVariants.{DstUnreachable, EchoRequest, ParamProblem}
use Rattle.wire_icmp.specs.declared.Unreachable.{Unreachable}

-- ---- the type of an echo request

abbrev pub is_request : IpVersion → ℕ → Bool
is_request version.Ipv4 type = type == 8
is_request version.Ipv6 type = type == 128

skip : (b : Bool) (x y : IcmpRepr) (o : Option IcmpRepr) → ¬ (x ≡ y) → (if b then Some x else o) ≡ Some y → o ≡ Some y
skip true x y o apart e = absurd (let same : x ≡ y = cc in apart same)
skip false x y o apart e = e

skip-false : (a b : Bool) (x y : IcmpRepr) (o : Option IcmpRepr) → a ≡ false → (if a && b then Some x else o) ≡ Some y → o ≡ Some y
skip-false true b x y o is e = absurd (cc)
skip-false false b x y o is e = e

no-request-ipv4 : (type code word ident seq_no : ℕ) → (type == 8) ≡ false → ¬ (message_of version.Ipv4 type code word ≡ Some (EchoRequest ident seq_no))
no-request-ipv4 type code word ident seq_no not e =
    let a = skip (type == 0 && code == 0) _ (EchoRequest ident seq_no) _ (λ q. absurd (cc)) e in
    let b = skip (type == 3 && code == 4) _ (EchoRequest ident seq_no) _ (λ q. absurd (cc)) a in
    let c = skip (type == 3) _ (EchoRequest ident seq_no) _ (λ q. absurd (cc)) b in
    let d = skip-false (type == 8) (code == 0) _ (EchoRequest ident seq_no) _ not c in
    let f = skip (type == 11) _ (EchoRequest ident seq_no) _ (λ q. absurd (cc)) d in
    let g = skip (type == 12) _ (EchoRequest ident seq_no) _ (λ q. absurd (cc)) f in
    absurd (cc)

no-request-ipv6 : (type code word ident seq_no : ℕ) → (type == 128) ≡ false → ¬ (message_of version.Ipv6 type code word ≡ Some (EchoRequest ident seq_no))
no-request-ipv6 type code word ident seq_no not e =
    let a = skip (type == 1) _ (EchoRequest ident seq_no) _ (λ q. absurd (cc)) e in
    let b = skip (type == 2) _ (EchoRequest ident seq_no) _ (λ q. absurd (cc)) a in
    let c = skip (type == 3) _ (EchoRequest ident seq_no) _ (λ q. absurd (cc)) b in
    let d = skip (type == 4) _ (EchoRequest ident seq_no) _ (λ q. absurd (cc)) c in
    let f = skip-false (type == 128) (code == 0) _ (EchoRequest ident seq_no) _ not d in
    let g = skip (type == 129 && code == 0) _ (EchoRequest ident seq_no) _ (λ q. absurd (cc)) f in
    absurd (cc)

no-request : (v : IpRepr) (m : List ℕ) (ident seq_no : ℕ) (payload : List ℕ) → is_request (version_of v) (field m 0 8) ≡ false
    → ¬ Reads m (src_addr_of v) (dst_addr_of v) true (EchoRequest ident seq_no) payload
no-request (Ipv4 v) m ident seq_no payload not r = no-request-ipv4 (field m 0 8) (field m 8 8) (field m 32 32) ident seq_no not r.message
no-request (Ipv6 v) m ident seq_no payload not r = no-request-ipv6 (field m 0 8) (field m 8 8) (field m 32 32) ident seq_no not r.message

-- no query is an echo request
not-query : (v : IpVersion) (type : ℕ) → is_query v type ≡ false → is_request v type ≡ false
not-query version.Ipv4 type e = grind arith
not-query version.Ipv6 type e = grind arith

-- ---- packets without a reply

-- a message of ICMP is carried, and is neither an echo request nor a neighbour solicitation
abbrev pub IsSilent : Carried → Type 0
IsSilent c =
    (v : IpRepr) × (m : List ℕ) × (c ≡ packet v (other m)) × (is_request (version_of v) (field m 0 8) ≡ false) × (version_of v ≡ version.Ipv6 → field m 0 8 ≢ 135)
    × (next_header_of v ≡ protocol_of (version_of v))

pub silent-echo : (ours : Interface) (asked_header header : EthernetRepr) (asked c : Carried) → IsSilent asked → ¬ IsIcmpEcho ours asked_header asked header c
silent-echo ours asked_header header asked c (v, m, is, not, other_type, protocol) e =
    let asks = e.asks in
    let ip : e.ip ≡ v = cc in
    let bytes : e.request ≡ m = cc in
    no-request v m e.ident e.seq_no e.payload not
    (subst (λ x. Reads m (src_addr_of x) (dst_addr_of x) true (EchoRequest e.ident e.seq_no) e.payload) ip
    (subst (λ b. Reads b (src_addr_of e.ip) (dst_addr_of e.ip) true (EchoRequest e.ident e.seq_no) e.payload) bytes e.reads))

pub silent-neighbour : (ours : Interface) (asked_header header : EthernetRepr) (asked c : Carried) → IsSilent asked → ¬ IsNeighbourReply ours asked_header asked header c
silent-neighbour ours asked_header header asked c (v, m, is, not, other_type, protocol) e =
    let asks = e.asks in
    let ip : Ipv6 e.ip ≡ v = cc in
    let bytes : e.request ≡ m = cc in
    other_type (ap version_of (sym ip)) (ap (λ b. field b 0 8) (sym bytes) ∙ e.reads.type)

-- nor is it a packet with a fault in its extension headers
pub icmp-faultless : (ours : Interface) (bytes : List ℕ) (header : EthernetRepr) (asked c : Carried) (v : IpRepr) (m : List ℕ) → asked ≡ packet v (other m)
    → next_header_of v ≡ protocol_of (version_of v) → ¬ IsParameterProblem ours bytes asked header c
icmp-faultless ours bytes header asked c (Ipv4 v) m is protocol e = absurd (let asks = e.asks in cc)
icmp-faultless ours bytes header asked c (Ipv6 v) m is protocol e =
    let asks = e.asks in
    let ip : e.ip ≡ v = cc in
    let number : number_of e.ip.next_header ≡ 58 = ap (λ (x : Ipv6Repr). number_of x.next_header) ip ∙ ap number_of protocol in
    absurd (let none = no-fault e.payload in let some = subst (λ n. fault_of n e.payload ≡ Some (Reported e.code e.pointer e.about)) number e.fault in cc)

-- ---- the replies

pub echo-silent : (v : IpRepr) (ident seq_no : ℕ) (payload : List ℕ) → IsSilent (echo_reply_values v ident seq_no payload)
echo-silent (Ipv4 v) ident seq_no payload = (_, _, refl, refl, (λ six. absurd (cc)), refl)
echo-silent (Ipv6 v) ident seq_no payload = (_, _, refl, refl, (λ six e. let n : 129 ≡ 135 = e in omega (arith, n)), refl)

pub advert-silent : (ours : Interface) (dst : List ℕ) (solicited : Bool) → IsSilent (advert_values ours dst solicited)
advert-silent ours dst solicited = (_, _, refl, refl, (λ six e. let n : 136 ≡ 135 = e in omega (arith, n)), refl)

-- an ICMP error: a message that is no query
abbrev pub IsErrorCarried : Carried → Type 0
IsErrorCarried c = (v : IpRepr) × (m : List ℕ) × (c ≡ packet v (other m)) × (next_header_of v ≡ protocol_of (version_of v)) × (is_query (version_of v) (field m 0 8) ≡ false)

pub error-silent : (c : Carried) → IsErrorCarried c → IsSilent c
error-silent c (v, m, is, protocol, not) = (v, m, is, not-query (version_of v) (field m 0 8) not, (λ six e. absurd (let query : is_query version.Ipv6 135 ≡ false = subst (λ t. is_query version.Ipv6 t ≡ false) e (subst (λ w. is_query w (field m 0 8) ≡ false) six not) in cc)), protocol)

pub unreachable-error : (ours : Interface) (v : IpRepr) (reason : Unreachable) (quote : List ℕ) → IsErrorCarried (error_values ours v (DstUnreachable reason) quote)
unreachable-error ours (Ipv4 v) reason quote = (_, _, refl, refl, refl)
unreachable-error ours (Ipv6 v) reason quote = (_, _, refl, refl, refl)

pub problem-error : (ours : Interface) (v : IpRepr) (code pointer : ℕ) (quote : List ℕ) → IsErrorCarried (error_values ours v (ParamProblem code pointer) quote)
problem-error ours (Ipv4 v) code pointer quote = (_, _, refl, refl, refl)
problem-error ours (Ipv6 v) code pointer quote = (_, _, refl, refl, refl)

-- an echo request is no solicitation
pub no-solicited : (ours : Interface) (asked_header other_header h k : EthernetRepr) (asked c d : Carried) → IsIcmpEcho ours asked_header asked h c → ¬ IsNeighbourReply ours other_header asked k d
no-solicited ours asked_header other_header h k asked c d e g =
    let first = e.asks in
    let second = g.asks in
    let ip : e.ip ≡ Ipv6 g.ip = cc in
    let bytes : e.request ≡ g.request = cc in
    no-request (Ipv6 g.ip) g.request e.ident e.seq_no e.payload (subst (λ t. is_request version.Ipv6 t ≡ false) (sym g.reads.type) refl)
    (subst (λ x. Reads g.request (src_addr_of x) (dst_addr_of x) true (EchoRequest e.ident e.seq_no) e.payload) ip
    (subst (λ b. Reads b (src_addr_of e.ip) (dst_addr_of e.ip) true (EchoRequest e.ident e.seq_no) e.payload) bytes e.reads))
