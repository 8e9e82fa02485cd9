-- What ICMP messages parse as, also with another identifier, and that a packet carries one transport.
use Rattle.std.proofs.Common.{ℕ, ◌≡◌, ◌∙◌, ◌⊎◌, ◌&&◌, ◌≤◌, ◌/◌, ◌%◌, ◌==◌, not, is_some, if◌then◌else◌, inl, inr, Bool, true, false, List, Option, Some, None, length, refl, sym, ap, arith}
use Rattle.std.proofs.lemmas.Bool.Decides.{nat_tests}
use Rattle.std.proofs.lemmas.Option.{same_Some}
use Rattle.ip_wire.proofs.ReadsOnce.{transport-once}
use Rattle.ip_wire.proofs.Spelled.{AreBytes}
use Rattle.ip_wire.specs.Field.{field}
use Rattle.ip_wire.specs.Frame as whole
use Rattle.ip_wire.specs.Frame.{ReadsTransport, all_checked}
use Rattle.ip_wire.specs.Types.{Ipv4, Ipv4Repr}
use Rattle.ip_wire.specs.WordSum.{sum_of_bytes}
use Rattle.ip_wire.specs.declared.IpAddress.TheVariants as address
use Rattle.ip_wire.specs.declared.IpProtocol.TheVariants as protocol
use Rattle.app_nat.proofs.EchoEnds.{IsIdentified}
use Rattle.app_nat.specs.Nat.{Describes, ReadsMessage, ReadsPorts, Rewrites, Transport, datagram, echo_kind, reply, request, segment, with_addr}
use Rattle.app_nat.specs.declared.packet.Kind.{Kind}
use Rattle.app_nat.specs.declared.packet.Kind.TheVariants as kind
use Rattle.app_nat.specs.declared.packet.Packet.{Packet}
use Rattle.app_edit.specs.declared.side.Side.{Side}
use Rattle.app_edit.specs.declared.side.Side.TheVariants.{Source, Destination}
use Rattle.ip_wire.specs.declared.IpVersion.TheVariants as version
use Rattle.wire_icmp.specs.Icmp as icmp
use Rattle.wire_icmp.specs.Icmp.{exceeded_by, message_of, payload_of, unreachable_by}
use Rattle.wire_icmp.specs.declared.icmp.repr.IcmpRepr.{IcmpRepr}
use Rattle.wire_icmp.specs.declared.icmp.repr.IcmpRepr.TheVariants.{EchoRequest, EchoReply, DstUnreachable, PktTooBig, TimeExceeded, ParamProblem}

-- ---- the value of an echo message

-- the message of a code and a second word, by the tests of the type and the code
abbrev by_tests : Bool → Bool → Bool → Bool → Bool → Bool → ℕ → ℕ → Option IcmpRepr
by_tests a b c d e f code word =
    if a then Some (EchoReply (word / 65536) (word % 65536))
    else (if b then Some (PktTooBig (word % 65536))
    else (if c then Some (DstUnreachable (unreachable_by version.Ipv4 code))
    else (if d then Some (EchoRequest (word / 65536) (word % 65536))
    else (if e then Some (TimeExceeded (exceeded_by code))
    else (if f then Some (ParamProblem code (word / 16777216)) else None)))))

-- the numbers of an echo message
abbrev ident-of : Option IcmpRepr → ℕ
ident-of (Some (EchoRequest ident seq_no)) = ident
ident-of (Some (EchoReply ident seq_no)) = ident
ident-of _ = 0

abbrev seq_no-of : Option IcmpRepr → ℕ
seq_no-of (Some (EchoRequest ident seq_no)) = seq_no
seq_no-of (Some (EchoReply ident seq_no)) = seq_no
seq_no-of _ = 0

-- the identifier is the upper half of the word, and another upper half gives another identifier
record IsEcho (old new : Option IcmpRepr) (make : ℕ → ℕ → IcmpRepr) (w x ident seq_no : ℕ) : Type 0 where
  upper : ident ≡ w / 65536
  again : new ≡ Some (make (x / 65536) seq_no)

request-tests : (a b c d e f : Bool) (code w x ident seq_no : ℕ) → x % 65536 ≡ w % 65536 → by_tests a b c d e f code w ≡ Some (EchoRequest ident seq_no)
    → IsEcho (by_tests a b c d e f code w) (by_tests a b c d e f code x) EchoRequest w x ident seq_no
request-tests true b c d e f code w x ident seq_no same is = absurd (cc)
request-tests false true c d e f code w x ident seq_no same is = absurd (cc)
request-tests false false true d e f code w x ident seq_no same is = absurd (cc)
request-tests false false false true e f code w x ident seq_no same is =
    record { upper = sym (ap ident-of is); again = ap (λ (k : ℕ). Some (EchoRequest (x / 65536) k)) (same ∙ ap seq_no-of is) }
request-tests false false false false true f code w x ident seq_no same is = absurd (cc)
request-tests false false false false false true code w x ident seq_no same is = absurd (cc)
request-tests false false false false false false code w x ident seq_no same is = absurd (cc)

reply-tests : (a b c d e f : Bool) (code w x ident seq_no : ℕ) → x % 65536 ≡ w % 65536 → by_tests a b c d e f code w ≡ Some (EchoReply ident seq_no)
    → IsEcho (by_tests a b c d e f code w) (by_tests a b c d e f code x) EchoReply w x ident seq_no
reply-tests true b c d e f code w x ident seq_no same is =
    record { upper = sym (ap ident-of is); again = ap (λ (k : ℕ). Some (EchoReply (x / 65536) k)) (same ∙ ap seq_no-of is) }
reply-tests false true c d e f code w x ident seq_no same is = absurd (cc)
reply-tests false false true d e f code w x ident seq_no same is = absurd (cc)
reply-tests false false false true e f code w x ident seq_no same is = absurd (cc)
reply-tests false false false false true f code w x ident seq_no same is = absurd (cc)
reply-tests false false false false false true code w x ident seq_no same is = absurd (cc)
reply-tests false false false false false false code w x ident seq_no same is = absurd (cc)

request-word : (type code w x ident seq_no : ℕ) → x % 65536 ≡ w % 65536 → message_of version.Ipv4 type code w ≡ Some (EchoRequest ident seq_no)
    → IsEcho (message_of version.Ipv4 type code w) (message_of version.Ipv4 type code x) EchoRequest w x ident seq_no
request-word type code w x ident seq_no =
    request-tests (type == 0 && code == 0) (type == 3 && code == 4) (type == 3) (type == 8 && code == 0) (type == 11) (type == 12) code w x ident seq_no

reply-word : (type code w x ident seq_no : ℕ) → x % 65536 ≡ w % 65536 → message_of version.Ipv4 type code w ≡ Some (EchoReply ident seq_no)
    → IsEcho (message_of version.Ipv4 type code w) (message_of version.Ipv4 type code x) EchoReply w x ident seq_no
reply-word type code w x ident seq_no =
    reply-tests (type == 0 && code == 0) (type == 3 && code == 4) (type == 3) (type == 8 && code == 0) (type == 11) (type == 12) code w x ident seq_no

-- the upper half of the second word is the identifier's field
upper-half : (bytes : List ℕ) → AreBytes bytes → field bytes 32 32 / 65536 ≡ field bytes 32 16
upper-half bytes are = omega (arith, are 4, are 5, are 6, are 7)

pub request-ident : (bytes : List ℕ) (v : Ipv4Repr) (ident seq_no : ℕ) (payload : List ℕ) → AreBytes bytes → ReadsMessage v bytes (EchoRequest ident seq_no) payload
    → ident ≡ field bytes 32 16
request-ident bytes v ident seq_no payload are r =
    (request-word (field bytes 0 8) (field bytes 8 8) (field bytes 32 32) (field bytes 32 32) ident seq_no refl r.1.message).upper ∙ upper-half bytes are

pub reply-ident : (bytes : List ℕ) (v : Ipv4Repr) (ident seq_no : ℕ) (payload : List ℕ) → AreBytes bytes → ReadsMessage v bytes (EchoReply ident seq_no) payload
    → ident ≡ field bytes 32 16
reply-ident bytes v ident seq_no payload are r =
    (reply-word (field bytes 0 8) (field bytes 8 8) (field bytes 32 32) (field bytes 32 32) ident seq_no refl r.1.message).upper ∙ upper-half bytes are

-- ---- another identifier

-- the message with the same type and code and the word of the new bytes is the one with the new identifier
renamed : (make : ℕ → ℕ → IcmpRepr) (old new src dst src' dst' payload : List ℕ) (ident port seq_no : ℕ) → IsIdentified old new port
    → IsEcho (message_of version.Ipv4 (field old 0 8) (field old 8 8) (field old 32 32)) (message_of version.Ipv4 (field old 0 8) (field old 8 8) (field new 32 32)) make
    (field old 32 32) (field new 32 32) ident seq_no
    → icmp.Reads old (address.Ipv4 src) (address.Ipv4 dst) true (make ident seq_no) payload
    → icmp.Reads new (address.Ipv4 src') (address.Ipv4 dst') true (make port seq_no) payload
renamed make old new src dst src' dst' payload ident port seq_no is echo r = record {
  least = omega (arith, is.long, r.least);
  checksum = λ _. is.sum;
  message =
      (λ i. message_of version.Ipv4 (is.type i) (is.code i) (field new 32 32))
      ∙ echo.again ∙ ap (λ (k : ℕ). Some (make k seq_no)) is.upper;
  body = r.body ∙ sym is.payload;
}

request-renamed : (v w : Ipv4Repr) (old new payload : List ℕ) (ident port seq_no : ℕ) → w.next_header ≡ v.next_header → IsIdentified old new port
    → ReadsMessage v old (EchoRequest ident seq_no) payload → ReadsMessage w new (EchoRequest port seq_no) payload
request-renamed v w old new payload ident port seq_no named is r = (
  named ∙ r.0,
  renamed EchoRequest old new v.src_addr v.dst_addr w.src_addr w.dst_addr payload ident port seq_no is
      (request-word (field old 0 8) (field old 8 8) (field old 32 32) (field new 32 32) ident seq_no is.lower r.1.message) r.1,
)

reply-renamed : (v w : Ipv4Repr) (old new payload : List ℕ) (ident port seq_no : ℕ) → w.next_header ≡ v.next_header → IsIdentified old new port
    → ReadsMessage v old (EchoReply ident seq_no) payload → ReadsMessage w new (EchoReply port seq_no) payload
reply-renamed v w old new payload ident port seq_no named is r = (
  named ∙ r.0,
  renamed EchoReply old new v.src_addr v.dst_addr w.src_addr w.dst_addr payload ident port seq_no is
      (reply-word (field old 0 8) (field old 8 8) (field old 32 32) (field new 32 32) ident seq_no is.lower r.1.message) r.1,
)

-- another address leaves the protocol of a header
pub same-protocol : (side : Side) (addr : List ℕ) (v : Ipv4Repr) → (with_addr side addr v).next_header ≡ v.next_header
same-protocol Source addr v = refl
same-protocol Destination addr v = refl

-- an echo message gets its identifier
pub rewrites-echo : (v : Ipv4Repr) (old new : List ℕ) (side : Side) (addr : List ℕ) (port : ℕ) → v.next_header ≡ protocol.Icmp → IsIdentified old new port
    → (t : Transport) → Rewrites v old new side addr port t
rewrites-echo v old new side addr port named is (datagram u payload) a r = let differs : protocol.Icmp ≡ protocol.Udp = sym named ∙ r.0 in absurd (cc)
rewrites-echo v old new side addr port named is (segment u payload) a r = let differs : protocol.Icmp ≡ protocol.Tcp = sym named ∙ r.0 in absurd (cc)
rewrites-echo v old new side addr port named is (request ident seq_no payload) a r =
    request-renamed v (with_addr side addr v) old new payload ident port seq_no (same-protocol side addr v) is r
rewrites-echo v old new side addr port named is (reply ident seq_no payload) a r =
    reply-renamed v (with_addr side addr v) old new payload ident port seq_no (same-protocol side addr v) is r

-- ---- one transport

-- the transport that a receiver without ICMP parses, and the one that a message is
abbrev of-plain : whole.Transport → Transport
of-plain (whole.datagram v payload) = datagram v payload
of-plain (whole.segment v payload) = segment v payload
of-plain (whole.other payload) = request 0 0 payload

abbrev of-message : Option IcmpRepr → List ℕ → Transport
of-message (Some (EchoRequest ident seq_no)) payload = request ident seq_no payload
of-message (Some (EchoReply ident seq_no)) payload = reply ident seq_no payload
of-message _ payload = request 0 0 payload

plain-once : (v : Ipv4Repr) (bytes : List ℕ) (t u : whole.Transport) → ReadsTransport all_checked (Ipv4 v) bytes t → ReadsTransport all_checked (Ipv4 v) bytes u
    → of-plain t ≡ of-plain u
plain-once v bytes t u a b = ap of-plain (transport-once all_checked v.next_header (address.Ipv4 v.src_addr) (address.Ipv4 v.dst_addr) bytes t u a b)

message-once : (v : Ipv4Repr) (bytes : List ℕ) (m n : IcmpRepr) (d e : List ℕ) → ReadsMessage v bytes m d → ReadsMessage v bytes n e
    → of-message (Some m) d ≡ of-message (Some n) e
message-once v bytes m n d e a b = λ i. of-message ((sym a.1.message ∙ b.1.message) i) ((a.1.body ∙ sym b.1.body) i)

-- a payload parses as one transport
pub ports-once : (v : Ipv4Repr) (bytes : List ℕ) (t u : Transport) → ReadsPorts v bytes t → ReadsPorts v bytes u → t ≡ u
ports-once v bytes (datagram p d) (datagram q e) a b = plain-once v bytes (whole.datagram p d) (whole.datagram q e) a b
ports-once v bytes (datagram p d) (segment q e) a b = plain-once v bytes (whole.datagram p d) (whole.segment q e) a b
ports-once v bytes (datagram p d) (request i s e) a b = let differs : protocol.Udp ≡ protocol.Icmp = sym a.0 ∙ b.0 in absurd (cc)
ports-once v bytes (datagram p d) (reply i s e) a b = let differs : protocol.Udp ≡ protocol.Icmp = sym a.0 ∙ b.0 in absurd (cc)
ports-once v bytes (segment p d) (datagram q e) a b = plain-once v bytes (whole.segment p d) (whole.datagram q e) a b
ports-once v bytes (segment p d) (segment q e) a b = plain-once v bytes (whole.segment p d) (whole.segment q e) a b
ports-once v bytes (segment p d) (request i s e) a b = let differs : protocol.Tcp ≡ protocol.Icmp = sym a.0 ∙ b.0 in absurd (cc)
ports-once v bytes (segment p d) (reply i s e) a b = let differs : protocol.Tcp ≡ protocol.Icmp = sym a.0 ∙ b.0 in absurd (cc)
ports-once v bytes (request i s d) (datagram q e) a b = let differs : protocol.Udp ≡ protocol.Icmp = sym b.0 ∙ a.0 in absurd (cc)
ports-once v bytes (request i s d) (segment q e) a b = let differs : protocol.Tcp ≡ protocol.Icmp = sym b.0 ∙ a.0 in absurd (cc)
ports-once v bytes (request i s d) (request j t e) a b = message-once v bytes (EchoRequest i s) (EchoRequest j t) d e a b
ports-once v bytes (request i s d) (reply j t e) a b = message-once v bytes (EchoRequest i s) (EchoReply j t) d e a b
ports-once v bytes (reply i s d) (datagram q e) a b = let differs : protocol.Udp ≡ protocol.Icmp = sym b.0 ∙ a.0 in absurd (cc)
ports-once v bytes (reply i s d) (segment q e) a b = let differs : protocol.Tcp ≡ protocol.Icmp = sym b.0 ∙ a.0 in absurd (cc)
ports-once v bytes (reply i s d) (request j t e) a b = message-once v bytes (EchoReply i s) (EchoRequest j t) d e a b
ports-once v bytes (reply i s d) (reply j t e) a b = message-once v bytes (EchoReply i s) (EchoReply j t) d e a b

-- ---- ICMP messages

-- the payload of an ICMP packet does not parse as UDP or TCP, and any bytes are another protocol's
pub plain-other : (v : Ipv4Repr) (bytes : List ℕ) → v.next_header ≡ protocol.Icmp → ReadsTransport all_checked (Ipv4 v) bytes (whole.other bytes)
plain-other v bytes named = (
  λ is. let differs : protocol.Udp ≡ protocol.Icmp = sym is ∙ named in cc,
  λ is. let differs : protocol.Tcp ≡ protocol.Icmp = sym is ∙ named in cc,
  refl,
)

-- ---- messages that are echoes

-- whether a value is an echo
abbrev pub echo-value : Option IcmpRepr → Bool
echo-value None = false
echo-value (Some m) = not (icmp.is_error m)

other-tests : (b c e f : Bool) (code word : ℕ) → echo-value (by_tests false b c false e f code word) ≡ false
other-tests true c e f code word = refl
other-tests false true e f code word = refl
other-tests false false true f code word = refl
other-tests false false false true code word = refl
other-tests false false false false code word = refl

-- the type and the code of a message say whether its value is an echo
echo-by : (type code word : ℕ) → echo-value (message_of version.Ipv4 type code word) ≡ is_some (echo_kind type code)
echo-by type code word = by (type == 8 && code == 0) (type == 0 && code == 0) refl refl
  where
    by : (asks replies : Bool) → (type == 8 && code == 0) ≡ asks → (type == 0 && code == 0) ≡ replies
        → echo-value (message_of version.Ipv4 type code word) ≡ is_some (echo_kind type code)
    by true replies a b =
        let is : type ≡ 8 = grind (arith, nat_tests) in
        let no_code : code ≡ 0 = grind (arith, nat_tests) in
        rw (is, no_code) refl
    by false true a b =
        let is : type ≡ 0 = grind (arith, nat_tests) in
        let no_code : code ≡ 0 = grind (arith, nat_tests) in
        rw (is, no_code) refl
    by false false a b = rw (a, b) (other-tests (type == 3 && code == 4) (type == 3) (type == 11) (type == 12) code word)

-- an echo that parses has the type and the code of one
pub echo-named : (bytes src dst : List ℕ) (verified : Bool) (m : IcmpRepr) (payload : List ℕ) → icmp.Reads bytes (address.Ipv4 src) (address.Ipv4 dst) verified m payload
    → icmp.is_error m ≡ false → is_some (echo_kind (field bytes 0 8) (field bytes 8 8)) ≡ true
echo-named bytes src dst verified m payload r echo =
    sym (echo-by (field bytes 0 8) (field bytes 8 8) (field bytes 32 32)) ∙ ap echo-value r.message ∙ ap not echo

-- the kind of an echo, by the tests of its type and code
by-kind : (asks replies : Bool) (k : Kind) → (if asks then Some kind.EchoRequest else (if replies then Some kind.EchoReply else None)) ≡ Some k
    → (asks ≡ true) × (k ≡ kind.EchoRequest) ⊎ (replies ≡ true) × (k ≡ kind.EchoReply)
by-kind true replies k is = inl (refl, sym (same_Some kind.EchoRequest k is))
by-kind false true k is = inr (refl, sym (same_Some kind.EchoReply k is))
by-kind false false k is = absurd (cc)

-- a message of this kind parses, if it is long enough and has its checksum
pub read-echo : (v : Ipv4Repr) (bytes : List ℕ) (k : Kind) (p : Packet) → AreBytes bytes → v.next_header ≡ protocol.Icmp
    → echo_kind (field bytes 0 8) (field bytes 8 8) ≡ Some k → 8 ≤ length bytes → sum_of_bytes bytes ≡ 65535
    → p.src_port ≡ field bytes 32 16 → p.dst_port ≡ field bytes 32 16 → p.kind ≡ k → (t : Transport) × ReadsPorts v bytes t × Describes p t
read-echo v bytes k p are named is long sum src dst same =
    let w = field bytes 32 32 in
    let half = upper-half bytes are in
    elim (by-kind (field bytes 0 8 == 8 && field bytes 8 8 == 0) (field bytes 0 8 == 0 && field bytes 8 8 == 0) k is) [
      | inl asks ↦
          let on = asks.0 in
          let type : field bytes 0 8 ≡ 8 = grind (arith, nat_tests) in
          let code : field bytes 8 8 ≡ 0 = grind (arith, nat_tests) in (
            request (w / 65536) (w % 65536) (payload_of bytes),
            (named, record { least = long; checksum = λ _. sum; message = rw (type, code) refl; body = refl }),
            record { src_port = src ∙ sym half; dst_port = dst ∙ sym half; kind = same ∙ asks.1 },
          )
      | inr replies ↦
          let on = replies.0 in
          let type : field bytes 0 8 ≡ 0 = grind (arith, nat_tests) in
          let code : field bytes 8 8 ≡ 0 = grind (arith, nat_tests) in (
            reply (w / 65536) (w % 65536) (payload_of bytes),
            (named, record { least = long; checksum = λ _. sum; message = rw (type, code) refl; body = refl }),
            record { src_port = src ∙ sym half; dst_port = dst ∙ sym half; kind = same ∙ replies.1 },
          )
    ]
