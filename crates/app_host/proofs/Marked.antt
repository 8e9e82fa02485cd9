-- The DSCP is written into a packet in which it is 0.
use Rattle.std.proofs.Common.{ℕ, ◌≡◌, ◌∙◌, ◌<◌, ◌≤◌, ◌+◌, ◌-◌, ◌*◌, ◌%◌, ◌∷◌, ◌++◌, inl, inr, true, List, [], Some, append_assoc, drop, length, length-append, slice_range, sum, take, refl, sym, ap, subst, arith}
use Rattle.std.specs.Prelude.{◌==◌, ◌||◌, not}
use Rattle.std.proofs.lemmas.List.{drop-drop, length-take-le, take-append-drop}
use Rattle.app_host.specs.Message.{HasClass, IsFrameRemarked, IsRemarked, IsSent, frame_bytes, message_bytes, message_len, values_of}
use Rattle.app_host.specs.declared.message.MessageFrame.{MessageFrame}
use Rattle.app_host.proofs.Messages.{IsEmitted}
use Rattle.ip_wire.proofs.Cells.{cells-all, word_high, word_low}
use Rattle.ip_wire.proofs.EthernetLayer.{drop-bytes_of}
use Rattle.ip_wire.proofs.Sent.{header-unmarked}
use Rattle.ip_wire.proofs.Updated.{stays_computed}
use Rattle.ip_wire.proofs.WordLists.{sum-words-cons}
use Rattle.ip_wire.proofs.Spelled.{AreBytes}
use Rattle.ip_wire.specs.Ethernet as ethernet
use Rattle.ip_wire.specs.Field.{field, with_field, with_part, word_at}
use Rattle.ip_wire.specs.Filled.{Fills}
use Rattle.ip_wire.specs.Frame.{IsReadWhole, ReadsCarried, ReadsPacket, ReadsTransport, all_checked, other, packet}
use Rattle.ip_wire.specs.Ip as ip
use Rattle.ip_wire.specs.Ip.{header_len_of, version_of}
use Rattle.ip_wire.specs.Ipv4 as ipv4
use Rattle.ip_wire.specs.Reply.{header_bytes, ipv4_with, reply_bytes}
use Rattle.ip_wire.specs.WordSum.{residue, sum_of_bytes, updated, words}
use Rattle.ip_wire.specs.Ipv6 as ipv6
use Rattle.ip_wire.specs.Types.{EthernetRepr, IpRepr, Ipv4, Ipv4Repr, Ipv6, Ipv6Repr}
use Rattle.ip_wire.specs.declared.IpVersion.TheVariants as version
use Rattle.ip_wire.proofs.Following.{drop-with_field}
use Rattle.ip_wire.proofs.Written.{AreBytes-with_field, field_with_field_other, field_with_field_same, length_with_field}
use Rattle.ip_wire.proofs.Ipv6Changed.{reads-unread}

-- what is after the first k bytes follows from what is after fewer
pub drop-later : (old new : List ℕ) (n k : ℕ) → n ≤ k → drop n new ≡ drop n old → drop k new ≡ drop k old
drop-later old new n k after same =
    let at : n + (k - n) ≡ k = omega (arith, after) in
    let split : (xs : List ℕ) → drop (k - n) (drop n xs) ≡ drop k xs = λ xs. drop-drop (k - n) n xs ∙ ap (λ m. drop m xs) at in
    sym (split new) ∙ ap (drop (k - n)) same ∙ split old

-- ---- IPv4

-- what a new DSCP and a new checksum leave of a header
record IsIpv4Kept (old new : List ℕ) : Type 0 where
  header : field new 4 4 ≡ field old 4 4
  total : field new 16 16 ≡ field old 16 16
  more : field new 50 1 ≡ field old 50 1
  offset : field new 51 13 ≡ field old 51 13
  ecn : field new 14 2 ≡ field old 14 2
  rest : drop 20 new ≡ drop 20 old

abbrev pub ipv4_marked : List ℕ → ℕ → ℕ → List ℕ
ipv4_marked bytes n sum = with_field (with_field bytes 8 6 n) 80 16 sum

ipv4-kept : (bytes : List ℕ) (n sum : ℕ) → AreBytes bytes → 20 ≤ length bytes → IsIpv4Kept bytes (ipv4_marked bytes n sum)
ipv4-kept bytes n sum are room =
    let inner = with_field bytes 8 6 n in
    let fits : 8 + 6 ≤ 8 * length bytes = omega (arith, room) in
    let long = length_with_field bytes 8 6 n (omega arith) fits in
    let inner-are = AreBytes-with_field bytes 8 6 n are (omega arith) fits in
    let outer : 80 + 16 ≤ 8 * length inner = omega (arith, long, room) in
    let first : (at size : ℕ) → 0 < size → at + size ≤ 80 → field (with_field inner 80 16 sum) at size ≡ field inner at size = λ at size some before.
    field_with_field_other inner 80 16 sum at size inner-are (omega arith) some outer (inl before) in
    record {
      header = first 4 4 (omega arith) (omega arith) ∙ field_with_field_other bytes 8 6 n 4 4 are (omega arith) (omega arith) fits (inl (omega arith));
      total = first 16 16 (omega arith) (omega arith) ∙ field_with_field_other bytes 8 6 n 16 16 are (omega arith) (omega arith) fits (inr (omega arith));
      more = first 50 1 (omega arith) (omega arith) ∙ field_with_field_other bytes 8 6 n 50 1 are (omega arith) (omega arith) fits (inr (omega arith));
      offset = first 51 13 (omega arith) (omega arith) ∙ field_with_field_other bytes 8 6 n 51 13 are (omega arith) (omega arith) fits (inr (omega arith));
      ecn = first 14 2 (omega arith) (omega arith) ∙ field_with_field_other bytes 8 6 n 14 2 are (omega arith) (omega arith) fits (inr (omega arith));
      rest = drop-with_field inner 80 16 sum 20 (omega arith) (omega arith) (omega (arith, long, room)) ∙ drop-with_field bytes 8 6 n 20 (omega arith) (omega arith) room;
    }

ipv4-dscp : (bytes : List ℕ) (n sum : ℕ) → AreBytes bytes → 20 ≤ length bytes → n < 64 → field (ipv4_marked bytes n sum) 8 6 ≡ n
ipv4-dscp bytes n sum are room small =
    let fits : 8 + 6 ≤ 8 * length bytes = omega (arith, room) in
    let long = length_with_field bytes 8 6 n (omega arith) fits in
    let inner-are = AreBytes-with_field bytes 8 6 n are (omega arith) fits in
    let written = field_with_field_same bytes 8 6 n are (omega arith) fits in
    field_with_field_other (with_field bytes 8 6 n) 80 16 sum 8 6 inner-are (omega arith) (omega arith) (omega (arith, long, room)) (inl (omega arith)) ∙ omega (arith, written, small)

-- the checksum after the DSCP of the bytes became n
abbrev pub sum_after : List ℕ → ℕ → ℕ
sum_after bytes n = updated (field (with_field bytes 8 6 n) 80 16) (4 * field bytes 8 6) (4 * (n % 64))

-- the checksum in an emitted header
sum-emitted : (v : Ipv4Repr) (payload : List ℕ) (n sum : ℕ) → sum ≤ 65535 → field (with_field (ipv4.header_with v sum ++ payload) 8 6 n) 80 16 ≡ sum
sum-emitted v payload n sum small = omega (arith, small)

-- the words of a header add up to so much more with a DSCP
sum-with : (v : Ipv4Repr) (n : ℕ) → sum (words (ipv4_with v n 0)) ≡ sum (words (ipv4.header_with v 0)) + 4 * (n % 64)
sum-with v n =
    let rest = drop 2 (ipv4.header_with v 0) in
    omega (arith, sum-words-cons 0x45 0 rest, sum-words-cons 0x45 (with_part 0 2 6 n % 256) rest)

-- the updated checksum of an emitted header is the computed one
sum-updated : (v : Ipv4Repr) (payload : List ℕ) (n : ℕ) → sum_after (ipv4.bytes_of v true ++ payload) n ≡ 65535 - sum_of_bytes (ipv4_with v n 0)
sum-updated v payload n =
    let total = sum (words (ipv4.header_with v 0)) in
    let s = 65535 - residue total in
    let some = sum-words-cons 0x45 0 (drop 2 (ipv4.header_with v 0)) in
    ap (λ x. updated x 0 (4 * (n % 64))) (sum-emitted v payload n s (omega arith))
    ∙ stays_computed total s 0 (4 * (n % 64)) (omega arith) (omega (arith, some)) (ap (λ t. 65535 - residue t) (omega arith))
    ∙ ap (λ t. 65535 - residue t) (sym (sum-with v n))

-- the checksum field is written into an emitted header
sum-written : (v : Ipv4Repr) (payload : List ℕ) (n s x : ℕ) → ipv4_marked (ipv4.header_with v s ++ payload) n x ≡ ipv4_with v n x ++ payload
sum-written v payload n s x =
    let old = word_at (with_field (ipv4.header_with v s ++ payload) 8 6 n) 80 16 in
    λ i. take 10 (ipv4_with v n 0) ++ (word_high old x i ∷ word_low old x i ∷ []) ++ (v.src_addr ++ v.dst_addr) ++ payload

-- an emitted header with another DSCP
marked-emitted : (v : Ipv4Repr) (payload : List ℕ) (n : ℕ)
    → ipv4_marked (ipv4.bytes_of v true ++ payload) n (sum_after (ipv4.bytes_of v true ++ payload) n) ≡ header_bytes (Ipv4 v) n ++ payload
marked-emitted v payload n =
    sum-written v payload n (65535 - sum_of_bytes (ipv4.header_with v 0)) (sum_after (ipv4.bytes_of v true ++ payload) n)
    ∙ ap (λ x. ipv4_with v n x ++ payload) (sum-updated v payload n)

pub remarked-ipv4 : (v : Ipv4Repr) (bytes new : List ℕ) (n : ℕ) → AreBytes bytes → n < 64 → ReadsPacket all_checked bytes (Ipv4 v) → HasClass version.Ipv4 bytes 0
    → new ≡ ipv4_marked bytes n (sum_after bytes n) → ipv4.Reads new true v → IsRemarked (Ipv4 v) bytes new n
remarked-ipv4 v bytes new n are small (r, whole) none is reads =
    let sum = sum_after bytes n in
    let room = r.lengths.least in
    let k = subst (IsIpv4Kept bytes) (sym is) (ipv4-kept bytes n sum are room) in
    let header = k.header in
    let total = k.total in
    let more = k.more in
    let offset = k.offset in
    record {
      marked = record { marked = ap (λ b. field b 8 6) is ∙ ipv4-dscp bytes n sum are room small; unmarked_ecn = k.ecn ∙ none.unmarked_ecn };
      reads = (reads, (λ i. (more i == 1) || not (8 * offset i == 0)) ∙ whole);
      payload = (λ i. slice_range new (4 * header i) (total i))
          ∙ ap (take (ipv4.total_len bytes - ipv4.header_len bytes)) (drop-later bytes new 20 (ipv4.header_len bytes) r.lengths.header k.rest);
      rest = k.rest;
      bytes = λ payload at. is ∙ subst (λ b. ipv4_marked b n (sum_after b n) ≡ header_bytes (Ipv4 v) n ++ payload) (sym at) (marked-emitted v payload n);
    }

-- ---- IPv6

pub remarked-ipv6 : (v : Ipv6Repr) (bytes new : List ℕ) (n : ℕ) → AreBytes bytes → n < 64 → ipv6.Reads bytes v → new ≡ with_field bytes 4 8 (4 * n) → IsRemarked (Ipv6 v) bytes new n
remarked-ipv6 v bytes new n are small r is =
    let room : 40 ≤ length bytes = omega (arith, r.lengths) in
    let fits : 4 + 8 ≤ 8 * length bytes = omega (arith, room) in
    let written : field new 4 8 ≡ 4 * n = ap (λ b. field b 4 8) is ∙ field_with_field_same bytes 4 8 (4 * n) are (omega arith) fits ∙ omega (arith, small) in
    let len : field new 32 16 ≡ field bytes 32 16 =
    ap (λ b. field b 32 16) is ∙ field_with_field_other bytes 4 8 (4 * n) 32 16 are (omega arith) (omega arith) fits (inr (omega arith)) in
    let rest : drop 40 new ≡ drop 40 bytes = ap (drop 40) is ∙ drop-with_field bytes 4 8 (4 * n) 40 (omega arith) (omega arith) room in
    record {
      marked = record { marked = omega (arith, written); unmarked_ecn = omega (arith, written) };
      reads = subst (λ b. ipv6.Reads b v) (sym is) (reads-unread bytes 4 8 (4 * n) v are (omega arith) (omega arith) (omega arith) r);
      payload = (λ i. slice_range new 40 (40 + len i)) ∙ ap (take (40 + field bytes 32 16 - 40)) rest;
      rest = rest;
      bytes = λ payload at. is ∙ ap (λ b. with_field b 4 8 (4 * n)) at;
    }

-- the same of a header and of bytes that are equal
pub remarked : (v w : IpRepr) (bytes new after : List ℕ) (n : ℕ) → w ≡ v → after ≡ new → IsRemarked v bytes new n → IsRemarked w bytes after n
remarked v w bytes new after n is same m = subst (λ x. IsRemarked x bytes after n) (sym is) (subst (λ b. IsRemarked v bytes b n) (sym same) m)

-- ---- frames

-- the same Ethernet header, followed by another packet
record IsLinkKept (old new : List ℕ) : Type 0 where
  dst_addr : slice_range new 0 6 ≡ slice_range old 0 6
  src_addr : slice_range new 6 12 ≡ slice_range old 6 12
  ethertype : field new 96 16 ≡ field old 96 16

link-kept : (front a b : List ℕ) → length front ≡ 14 → IsLinkKept (front ++ a) (front ++ b)
link-kept front a b e =
    subst (λ l. IsLinkKept (l ++ a) (l ++ b)) (sym (cells-all 14 front e)) (record { dst_addr = refl; src_addr = refl; ethertype = refl })

packet-of : (front b : List ℕ) → length front ≡ 14 → drop 14 (front ++ b) ≡ b
packet-of front b e = subst (λ l. drop 14 (l ++ b) ≡ b) (sym (cells-all 14 front e)) refl

-- the parts of an emitted frame with more bytes
joined : (f : MessageFrame) (written rest : List ℕ) → (ethernet.bytes_of f.header ++ (written ++ message_bytes f.ip f.message)) ++ rest
    ≡ ethernet.bytes_of f.header ++ (written ++ (message_bytes f.ip f.message ++ rest))
joined f written rest =
    append_assoc (ethernet.bytes_of f.header) (written ++ message_bytes f.ip f.message) rest
    ∙ ap (λ l. ethernet.bytes_of f.header ++ l) (append_assoc written (message_bytes f.ip f.message) rest)

take-bytes_of : (v : EthernetRepr) (q : List ℕ) → length v.dst_addr.0 ≡ 6 → length v.src_addr.0 ≡ 6 → take 14 (ethernet.bytes_of v ++ q) ≡ ethernet.bytes_of v
take-bytes_of v q d s = rw (cells-all 6 v.dst_addr.0 d, cells-all 6 v.src_addr.0 s) refl

-- an emitted frame whose packet got another DSCP
marked-frame : (f : MessageFrame) (old new part rest : List ℕ) → length f.header.dst_addr.0 ≡ 6 → length f.header.src_addr.0 ≡ 6
    → new ≡ take 14 old ++ part → IsRemarked f.ip (drop 14 old) part f.dscp → old ≡ frame_bytes f ++ rest
    → new ≡ reply_bytes f.header (values_of f) f.dscp ++ rest
marked-frame f old new part rest dst src is m at =
    let message = message_bytes f.ip f.message in
    let whole = at ∙ joined f (ip.bytes_of f.ip true) rest in
    let front : take 14 old ≡ ethernet.bytes_of f.header = ap (take 14) whole ∙ take-bytes_of f.header _ dst src in
    let following : drop 14 old ≡ ip.bytes_of f.ip true ++ (message ++ rest) = ap (drop 14) whole ∙ drop-bytes_of f.header _ dst src in
    is ∙ ap (λ l. l ++ part) front ∙ ap (λ l. ethernet.bytes_of f.header ++ l) (m.bytes (message ++ rest) following) ∙ sym (joined f (header_bytes f.ip f.dscp) rest)

-- a frame whose packet got another DSCP
pub remarked-frame : (f : MessageFrame) (old new part : List ℕ) → length f.header.dst_addr.0 ≡ 6 → length f.header.src_addr.0 ≡ 6 → IsReadWhole old f.header (values_of f)
    → new ≡ take 14 old ++ part → IsRemarked f.ip (drop 14 old) part f.dscp → IsFrameRemarked f old new
remarked-frame f old new part dst src r is m =
    let v = f.ip in
    let header = f.header in
    let inner = other (message_bytes v f.message) in
    let link = r.reads_header in
    let (type, reads, transport) = r.reads_carried in
    let front : length (take 14 old) ≡ 14 = length-take-le 14 old link.whole in
    let s = subst (λ l. IsLinkKept l (take 14 old ++ part)) (take-append-drop 14 old) (link-kept (take 14 old) (drop 14 old) part front) in
    let kept = subst (IsLinkKept old) (sym is) s in
    let at : drop 14 new ≡ part = ap (drop 14) is ∙ packet-of (take 14 old) part front in
    let later : (xs : List ℕ) → drop (header_len_of v) (drop 14 xs) ≡ drop (14 + header_len_of v) xs = λ xs. drop-drop (header_len_of v) 14 xs in
    record {
      marked = subst (λ b. HasClass (version_of v) b f.dscp) (sym at) m.marked;
      reads = record {
        reads_header = record {
          whole = omega (arith, ap length is, length-append (take 14 old) part, front);
          dst_addr = link.dst_addr ∙ sym kept.dst_addr;
          src_addr = link.src_addr ∙ sym kept.src_addr;
          ethertype = link.ethertype ∙ ap ethernet.protocol_of (sym kept.ethertype);
        };
        reads_carried = subst (λ b. ReadsCarried all_checked header.ethertype b (packet v inner)) (sym at)
            (type, m.reads, subst (λ b. ReadsTransport all_checked v b inner) (sym m.payload) transport);
      };
      rest = sym (later new) ∙ ap (drop (header_len_of v)) at ∙ m.rest ∙ later old;
      bytes = λ rest emitted. marked-frame f old new part rest dst src is m emitted;
    }

-- a frame with DSCP 0 stays as it is
pub unchanged : (f : MessageFrame) (old : List ℕ) → f.dscp ≡ 0 → IsReadWhole old f.header (values_of f) → HasClass (version_of f.ip) (drop 14 old) 0 → IsFrameRemarked f old old
unchanged f old zero reads none = record {
  marked = subst (HasClass (version_of f.ip) (drop 14 old)) (sym zero) none;
  reads = reads;
  rest = refl;
  bytes = λ rest at. at ∙ ap (λ l. (ethernet.bytes_of f.header ++ (l ++ message_bytes f.ip f.message)) ++ rest) (sym (header-unmarked f.ip))
      ∙ ap (λ n. reply_bytes f.header (values_of f) n ++ rest) (sym zero);
}

-- ---- the emitted frame

unmarked-header : (v : IpRepr) (rest : List ℕ) → HasClass (version_of v) (ip.bytes_of v true ++ rest) 0
unmarked-header (Ipv4 v) rest = record { marked = refl; unmarked_ecn = refl }
unmarked-header (Ipv6 v) rest = record { marked = refl; unmarked_ecn = refl }

-- the emitted bytes of a frame have DSCP and ECN 0
pub unmarked : (f : MessageFrame) (rest : List ℕ) → length f.header.dst_addr.0 ≡ 6 → length f.header.src_addr.0 ≡ 6 → HasClass (version_of f.ip) (drop 14 (frame_bytes f ++ rest)) 0
unmarked f rest dst src =
    subst (λ b. HasClass (version_of f.ip) b 0) (sym (ap (drop 14) (joined f (ip.bytes_of f.ip true) rest) ∙ drop-bytes_of f.header (ip.bytes_of f.ip true ++ (message_bytes f.ip f.message ++ rest)) dst src))
    (unmarked-header f.ip (message_bytes f.ip f.message ++ rest))

pub emitted-unmarked : (f : MessageFrame) (old new : List ℕ) (n : ℕ) → length f.header.dst_addr.0 ≡ 6 → length f.header.src_addr.0 ≡ 6
    → Fills (frame_bytes f) (14 + (header_len_of f.ip + message_len f.message)) old new (Some n) → HasClass (version_of f.ip) (drop 14 new) 0
emitted-unmarked f old new n dst src (len, fits, is) = subst (λ b. HasClass (version_of f.ip) (drop 14 b) 0) (sym is) (unmarked f (drop n old) dst src)

-- a frame that was sent is sent with its DSCP too
pub sent-marked : (f : MessageFrame) (old sent new : List ℕ) (n : ℕ) → IsEmitted f old sent (Some n) → IsFrameRemarked f sent new → IsSent f old new (Some n)
sent-marked f old sent new n (len, fits, rest, reads, written) m =
    (len, fits, drop-later sent new (14 + header_len_of f.ip) n (omega (arith, len)) m.rest ∙ rest, m.reads, m.bytes (drop n old) written)
