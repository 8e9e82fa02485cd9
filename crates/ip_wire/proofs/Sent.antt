-- An emitted frame is a reply.
use Rattle.std.proofs.Common.{ℕ, ◌≡◌, ◌↔◌, ◌∙◌, ◌+◌, ◌≤◌, ◌++◌, List, Option, Some, None, true, drop, length, refl, sym, ap, subst, arith, length-append, length-drop}
use Rattle.std.specs.Option.{option_map_or}
use Rattle.std.specs.Prelude.{IfSome}
use Rattle.std.proofs.Math.Seq.{drop-append_seam}
use Rattle.ip_wire.proofs.Options.{option_map-Some}
use Rattle.ip_wire.proofs.Parsed.{IsParsed, ToBytes, ToFrame, to_bytes, to_frame, unread}
use Rattle.ip_wire.specs.Frame as frame
use Rattle.wire_ethernet.specs.Ethernet as ethernet
use Rattle.ip_wire.specs.Frame.{IsReadWhole, all_checked, describe_transport}
use Rattle.ip_wire.specs.FrameValue.{ReadsNormalOf, carried_bytes, carried_len, carried_of, frame_bytes, frame_len, kept_of, normal_carried_of, normal_transport_of, transport_len, transport_of}
use Rattle.wire_ip.specs.Ip.{bytes_of, dst_addr_of, header_len_of, normal, payload_len_of, src_addr_of, with_payload_len}
use Rattle.wire_ip.specs.declared.ip.repr.IpRepr.{IpRepr}
use Rattle.wire_ip.specs.declared.ip.repr.IpRepr.TheVariants.{Ipv4, Ipv6}
use Rattle.ip_wire.specs.declared.frame.carried.Carried.{Carried}
use Rattle.ip_wire.specs.declared.frame.carried.Carried.TheVariants as carried
use Rattle.wire_ethernet.specs.declared.EthernetRepr.{EthernetRepr}
use Rattle.ip_wire.specs.declared.frame.Frame.{Frame}
use Rattle.ip_wire.specs.Reply.{Gives, IsReplySent, IsSendable, IsSent, Sends, header_bytes, reply_bytes, reply_len, unmarked}

-- the bytes after the emitted frame
pub rest_stays : (bytes old new : List ℕ) (n : ℕ) → new ≡ bytes ++ drop n old → length new ≡ length old → n ≤ length old → drop n new ≡ drop n old
rest_stays bytes old new n is same fits =
    let long : length bytes ≡ n = omega (arith, ap length is, length-append bytes (drop n old), length-drop n old, same, fits) in
    ap (drop n) is ∙ ap (λ k. drop k (bytes ++ drop n old)) (sym long) ∙ drop-append_seam bytes (drop n old)

-- a frame that is emitted, and parses as its normal form, is sent
pub is_sent : (f : Frame) (padding old new : List ℕ) (n : ℕ) → IsSendable f → (n ≡ frame_len f) × (n ≤ length old) × (new ≡ frame_bytes all_checked f ++ drop n old)
    → length new ≡ length old → padding ≡ drop n new → ReadsNormalOf all_checked (frame_bytes all_checked f ++ padding) f → IsSent f old new (Some n)
is_sent f padding old new n sendable (len, fits, is) same following (read, normal, reads) =
    let bytes = frame_bytes all_checked f in
    let rest = rest_stays bytes old new n is same fits in
    let whole : bytes ++ padding ≡ new = ap (λ l. bytes ++ l) (following ∙ rest) ∙ sym is in (
      len,
      fits,
      rest,
      (
        read,
        sym sendable.carried ∙ normal,
        subst (λ h. IsReadWhole new h read) sendable.header (subst (λ b. IsReadWhole b (ethernet.normal f.header) read) whole reads),
      ),
      is,
    )

-- the length of a frame depends only on its values
same_len : (c : Carried) (values : frame.Carried) → carried_of c ≡ Some values → 14 + carried_len c ≡ reply_len values
same_len (carried.Arp v) values e = let is : frame.message v ≡ values = cc in ap reply_len is
same_len (carried.Packet v inner) values e =
    let (t, is, same) = option_map-Some (frame.packet v) (transport_of inner) values e in
    ap (λ o. 14 + (header_len_of v + option_map_or (λ read. (describe_transport read).len) o (length (kept_of inner)))) is ∙ ap reply_len same
same_len _ values e = absurd (cc)

-- a header is emitted with DSCP 0
pub header-unmarked : (v : IpRepr) → header_bytes v 0 ≡ bytes_of v true
header-unmarked (Ipv4 v) = refl
header-unmarked (Ipv6 v) = refl

-- a header in normal form has the length of what follows it
with-len : (w : IpRepr) (n : ℕ) → normal (with_payload_len w n) ≡ w → with_payload_len w n ≡ w
with-len (Ipv4 w) n e = let len : n ≡ w.payload_len = ap payload_len_of e in ap (λ m. Ipv4 (record w { payload_len = m })) len
with-len (Ipv6 w) n e = let len : n ≡ w.payload_len = ap payload_len_of e in ap (λ m. Ipv6 (record w { payload_len = m })) len

-- the bytes of a frame depend only on its values
same_bytes : (header : EthernetRepr) (c : Carried) (values : frame.Carried) → normal_carried_of c ≡ carried_of c → carried_of c ≡ Some values
    → ethernet.bytes_of header ++ carried_bytes all_checked c ≡ reply_bytes header values 0
same_bytes header (carried.Arp v) values as_is e = let is : frame.message v ≡ values = cc in ap (λ x. reply_bytes header x 0) is
same_bytes header (carried.Packet v inner) values normal_is e =
    let (t, is, same) = option_map-Some (frame.packet v) (transport_of inner) values e in
    let (u, _, also) = option_map-Some (frame.packet (normal (with_payload_len v (transport_len inner)))) (normal_transport_of inner) values (normal_is ∙ e) in
    let both : frame.packet (normal (with_payload_len v (transport_len inner))) u ≡ frame.packet v t = also ∙ sym same in
    let as_is : normal (with_payload_len v (transport_len inner)) ≡ v = cc in
    let len = with-len v (transport_len inner) as_is in
    let inside = (describe_transport t).bytes all_checked (src_addr_of v) (dst_addr_of v) in
    ap (λ o. ethernet.bytes_of header ++ (bytes_of (with_payload_len v (transport_len inner)) true
    ++ option_map_or (λ read. (describe_transport read).bytes all_checked (src_addr_of v) (dst_addr_of v)) o (kept_of inner))) is
    ∙ ap (λ w. ethernet.bytes_of header ++ (bytes_of w true ++ inside)) len
    ∙ ap (λ l. ethernet.bytes_of header ++ (l ++ inside)) (sym (header-unmarked v))
    ∙ ap (λ x. reply_bytes header x 0) same
same_bytes header _ values as_is e = absurd (cc)

-- an emitted frame has the values of the only reply
pub sends : (P Q : EthernetRepr → frame.Carried → Type 0) (f : Frame) (old new : List ℕ) (result : Option ℕ)
    → Gives P (Some f) → IsSent f old new result
    → ((h : EthernetRepr) (c : frame.Carried) → P h c → Q h c) → ((h : EthernetRepr) (c : frame.Carried) → Q h c → P h c)
    → ((h k : EthernetRepr) (c d : frame.Carried) → P h c → P k d → c ≡ d)
    → Sends unmarked Q old new result
sends P Q f old new None (sendable, (h, c, values, p)) (short, stays) to from unique = (
  stays,
  λ k d q. let same = unique h k c d p (from k d q) in let len = same_len f.carried c values.1 in omega (arith, short, len, ap reply_len same),
)
sends P Q f old new (Some n) (sendable, (h, c, values, p)) (len, fits, rest, (d, is, reads), written) to from unique =
    let same : d ≡ c = cc in
    let bytes = same_bytes f.header f.carried c sendable.carried values.1 in
    record {
      header = h;
      carried = c;
      replies = to h c p;
      reads = subst (λ x. IsReadWhole new h x) same (subst (λ x. IsReadWhole new x d) values.0 reads);
      size = len ∙ same_len f.carried c values.1;
      fits = fits;
      rest = rest;
      bytes = written ∙ ap (λ l. l ++ drop n old) (bytes ∙ ap (λ x. reply_bytes x c 0) values.0);
    }

-- if there is no reply, nothing is sent
pub silent : (P Q : EthernetRepr → frame.Carried → Type 0) (old : List ℕ) → Gives P None → ((h : EthernetRepr) (c : frame.Carried) → Q h c → P h c) → Sends unmarked Q old old None
silent P Q old none from = (refl, λ h c q. absurd (none h c (from h c q)))

-- ---- the answer to bytes: parse, reply, send

-- each reply can be sent
pub sendable : (P : EthernetRepr → frame.Carried → Type 0) (reply : Option Frame) → Gives P reply → IfSome reply IsSendable
sendable P None none = tt
sendable P (Some f) gives = gives.0

-- the reply to the parsed frame is sent
pub answered : (R : EthernetRepr → frame.Carried → EthernetRepr → frame.Carried → Type 0) (request : Frame) (bytes : List ℕ) (reply : Option Frame)
    (old new : List ℕ) (result : Option ℕ) → IsParsed request bytes → Gives (ToFrame R request) reply → IsReplySent reply old new result
    → ((h k : EthernetRepr) (c d : frame.Carried) → ToFrame R request h c → ToFrame R request k d → c ≡ d) → Sends unmarked (ToBytes R bytes) old new result
answered R request bytes None old new result parsed none (is, stays) unique =
    subst (λ r. Sends unmarked (ToBytes R bytes) old new r) (sym is)
    (subst (λ l. Sends unmarked (ToBytes R bytes) old l None) (sym stays) (silent (ToFrame R request) (ToBytes R bytes) old none (to_frame R request bytes parsed)))
answered R request bytes (Some f) old new result parsed gives sent unique =
    sends (ToFrame R request) (ToBytes R bytes) f old new result gives sent (to_bytes R request bytes parsed) (to_frame R request bytes parsed) unique

-- bytes that do not parse get no answer
pub unanswered : (R : EthernetRepr → frame.Carried → EthernetRepr → frame.Carried → Type 0) (bytes old : List ℕ)
    → ((v : EthernetRepr) (c : frame.Carried) → ⊥ ↔ IsReadWhole bytes v c) → Sends unmarked (ToBytes R bytes) old old None
unanswered R bytes old none = (refl, λ h c q. absurd (unread R bytes none h c q))
