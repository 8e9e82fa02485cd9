-- A quoted packet with another address and port.
use Rattle.std.proofs.Common.{ℕ, ◌≡◌, ◌↔◌, ◌≤◌, ◌<◌, ◌+◌, ◌-◌, ◌*◌, ◌/◌, ◌%◌, ◌==◌, if◌then◌else◌, Bool, true, false, Some, None, List, ◌∷◌, ◌++◌, length, drop, take, slice_index, sum, refl, sym, ap, subst, ◌∙◌, append_assoc, arith, length-append, length-drop}
use Rattle.std.proofs.Math.Seq.{take-append-add}
use Rattle.std.proofs.lemmas.List.{drop-drop, drop_at, length-take-le, take-append-drop, take_at}
use Rattle.ip_wire.proofs.Cells.{cells, cells-all, cells-drop, word_high, word_low}
use Rattle.ip_wire.proofs.Spelled.{AreBytes}
use Rattle.ip_wire.specs.Field.{field, with_field, with_range, word_at}
use Rattle.ip_wire.specs.Ipv4 as ipv4
use Rattle.ip_wire.specs.Ipv4.{fragment_offset, header_len, total_len}
use Rattle.ip_wire.specs.Protocol.{protocol_of}
use Rattle.ip_wire.specs.Types.{IpProtocol, Ipv4, Ipv4Repr}
use Rattle.ip_wire.specs.Ethernet as ethernet
use Rattle.ip_wire.specs.Frame.{ReadsPacket, all_checked, ipv4_payload}
use Rattle.ip_wire.proofs.Residues.{residue-complement}
use Rattle.wire_icmp.proofs.WordLists.{sum-words-cons}
use Rattle.app_edit.proofs.OtherPayloads.{front-len, inner-payload, link-stays, payload-len, reads-inner, same-inner}
use Rattle.app_nat.proofs.Echoes.{same-protocol}
use Rattle.ip_wire.specs.Udp as udp
use Rattle.ip_wire.specs.Tcp as tcp
use Rattle.ip_wire.specs.WordSum.{residue, sum_of_bytes, updated, words}
use Rattle.ip_wire.specs.declared.IpProtocol.TheVariants as protocol
use Rattle.app_nat.specs.declared.state.Protocol.{Protocol}
use Rattle.app_nat.specs.declared.state.Protocol.TheVariants as flow
use Rattle.app_nat.proofs.Ends.{ended, has-both, port-fits, with_both}
use Rattle.app_nat.proofs.Headers.{addressed, keeps}
use Rattle.app_edit.proofs.Payloads.{range-len}
use Rattle.app_nat.proofs.TcpEnds.{tcp-ported, tcp-whole}
use Rattle.app_nat.proofs.UdpEnds.{udp-ported, udp_next, whole}
use Rattle.app_nat.proofs.Words.{spelled, spelled-fits, spelled-word, word}
use Rattle.app_nat.specs.Errors.{CarriesError, IsErrorTranslated, Quotes, Reports, error_packet, is_error, with_message_checksum, after_header, echo_type, end_bit, flow_by, quoted_of, quoting}
use Rattle.app_edit.specs.Sides.{opposite}
use Rattle.app_nat.specs.Nat.{addr_at, port_bit, with_addr, with_address, with_tcp_end, with_udp_end}
use Rattle.app_nat.specs.declared.errors.Quoted.{Quoted}
use Rattle.app_edit.specs.declared.side.Side.{Side}
use Rattle.app_edit.specs.declared.side.Side.TheVariants.{Source, Destination}

-- ---- after the header

-- the port of a translated UDP packet
pub udp-port : (side : Side) (l old new : List ℕ) (x : ℕ) → AreBytes l → 8 ≤ length l → x < 65536
    → field (with_udp_end side old new x l) (port_bit side) 16 ≡ x
udp-port side l old new x are room xs =
    let p = field l (port_bit side) 16 in
    let s = field l 48 16 in
    let ss = spelled-fits (slice_index l 6) (slice_index l 7) in
    let is = has-both 2 side l are (whole l room) in
    let ported = udp-ported side l in
    ap (λ (m : List ℕ). field (with_udp_end side old new x m) (port_bit side) 16) is
    ∙ ap (λ (m : List ℕ). field m (port_bit side) 16) (ended udp.with_updated_checksum udp_next side (with_both 2 side l) p s x old new ported (port-fits side l) ss)
    ∙ ported.get x _ xs

-- the port of a translated TCP segment
pub tcp-port : (side : Side) (l old new : List ℕ) (x : ℕ) → AreBytes l → 18 ≤ length l → x < 65536
    → field (with_tcp_end side old new x l) (port_bit side) 16 ≡ x
tcp-port side l old new x are room xs =
    let p = field l (port_bit side) 16 in
    let s = field l 128 16 in
    let ss = spelled-fits (slice_index l 16) (slice_index l 17) in
    let is = has-both 12 side l are (tcp-whole l room) in
    let ported = tcp-ported side l in
    ap (λ (m : List ℕ). field (with_tcp_end side old new x m) (port_bit side) 16) is
    ∙ ap (λ (m : List ℕ). field m (port_bit side) 16) (ended tcp.with_updated_checksum updated side (with_both 12 side l) p s x old new ported (port-fits side l) ss)
    ∙ ported.get x _ xs

-- the port that was written to the first bytes of a segment
written_cells : (side : Side) (l rest : List ℕ) (x : ℕ) → x < 65536 → field (with_field (cells 4 l ++ rest) (port_bit side) 16 x) (port_bit side) 16 ≡ x
written_cells Source l rest x fits =
    let n = word_at (cells 4 l ++ rest) 0 16 in
    (λ i. spelled (word_high n x i) (word_low n x i)) ∙ spelled-word x fits
written_cells Destination l rest x fits =
    let n = word_at (cells 4 l ++ rest) 16 16 in
    (λ i. spelled (word_high n x i) (word_low n x i)) ∙ spelled-word x fits

pub written-port : (side : Side) (l : List ℕ) (x : ℕ) → 8 ≤ length l → x < 65536 → field (with_field l (port_bit side) 16 x) (port_bit side) 16 ≡ x
written-port side l x room fits =
    subst (λ (m : List ℕ). field (with_field m (port_bit side) 16 x) (port_bit side) 16 ≡ x) (sym (cells-drop 4 l (omega (arith, room)))) (written_cells side l (drop 4 l) x fits)

-- an identifier and a checksum are written to an echo message
pub record IsIdentified (old new : List ℕ) (number : ℕ) : Type 0 where
  pub long : length new ≡ length old
  pub type : field new 0 8 ≡ field old 0 8
  pub ident : field new 32 16 ≡ number

-- ---- the protocol of a quoted packet

-- only an echo message depends on the byte after the header
pub flow-kept : (side : Side) (p : IpProtocol) (old new : ℕ) (q : Protocol) → (q ≡ flow.Icmp → new ≡ old) → flow_by side p old ≡ Some q → flow_by side p new ≡ Some q
flow-kept side protocol.Udp old new q same is = is
flow-kept side protocol.Tcp old new q same is = is
flow-kept side protocol.Icmp old new q same is = subst (λ (t : ℕ). flow_by side protocol.Icmp t ≡ Some q) (sym (same (icmp (old == echo_type side) is))) is
  where
    icmp : (b : Bool) → (if b then Some flow.Icmp else None) ≡ Some q → q ≡ flow.Icmp
    icmp true is = cc
    icmp false is = absurd (cc)
flow-kept side _ old new q same is = is

-- ---- the header

-- the fields of a header that do not depend on what follows it
record SameQuote (old new : List ℕ) : Type 0 where
  version : field new 0 4 ≡ field old 0 4
  header : header_len new ≡ header_len old
  offset : fragment_offset new ≡ fragment_offset old
  protocol : field new 72 8 ≡ field old 72 8

same_front : (front rest rest' : List ℕ) → length front ≡ 20 → SameQuote (front ++ rest) (front ++ rest')
same_front front rest rest' e =
    subst (λ (l : List ℕ). SameQuote (l ++ rest) (l ++ rest')) (sym (cells-all 20 front e)) (record { version = refl; header = refl; offset = refl; protocol = refl })

-- other bytes after the header leave it as it is
same-header : (bytes part : List ℕ) (h : ℕ) → 20 ≤ h → h ≤ length bytes → SameQuote bytes (take h bytes ++ part)
same-header bytes part h least room =
    let F = take 20 bytes in
    let R = drop 20 bytes in
    let twenty : length F ≡ 20 = front-len bytes (omega (arith, least, room)) in
    let is : h ≡ length F + (h - 20) = omega (arith, twenty, least) in
    let whole : F ++ R ≡ bytes = take-append-drop 20 bytes in
    let split : take h bytes ≡ F ++ take (h - 20) R = ap (take h) (sym whole) ∙ ap (λ (k : ℕ). take k (F ++ R)) is ∙ take-append-add F R (h - 20) in
    let new : take h bytes ++ part ≡ F ++ (take (h - 20) R ++ part) = ap (λ (l : List ℕ). l ++ part) split ∙ append_assoc F (take (h - 20) R) part in
    subst (λ (l : List ℕ). SameQuote bytes l) (sym new)
    (subst (λ (l : List ℕ). SameQuote l (F ++ (take (h - 20) R ++ part))) whole (same_front F R (take (h - 20) R ++ part) twenty))

offset_cells : (side : Side) (front rest addr : List ℕ) → fragment_offset (with_address side (cells 4 addr) (cells 20 front ++ rest)) ≡ fragment_offset (cells 20 front ++ rest)
offset_cells Source front rest addr = refl
offset_cells Destination front rest addr = refl

-- another address leaves the fragment offset
same-offset : (side : Side) (bytes addr : List ℕ) → 20 ≤ length bytes → length addr ≡ 4 → fragment_offset (with_address side addr bytes) ≡ fragment_offset bytes
same-offset side bytes addr room four =
    let P : List ℕ → List ℕ → Type 0 = λ l a. fragment_offset (with_address side a l) ≡ fragment_offset l in
    subst (λ (l : List ℕ). P l addr) (take-append-drop 20 bytes)
    (subst (λ (l : List ℕ). P (l ++ drop 20 bytes) addr) (sym (cells-all 20 (take 20 bytes) (front-len bytes room)))
    (subst (λ (a : List ℕ). P (cells 20 (take 20 bytes) ++ drop 20 bytes) a) (sym (cells-all 4 addr four)) (offset_cells side (take 20 bytes) (drop 20 bytes) addr)))

-- and all bytes after the first twenty
same-following : (side : Side) (bytes addr : List ℕ) (h : ℕ) → 20 ≤ length bytes → 20 ≤ h → length addr ≡ 4 → drop h (with_address side addr bytes) ≡ drop h bytes
same-following side bytes addr h room least four =
    let e : h ≡ 20 + (h - 20) = omega (arith, least) in
    let at = addressed side (take 20 bytes) (drop 20 bytes) addr (front-len bytes room) four in
    let new = with_address side addr bytes in
    let twenty : drop 20 new ≡ drop 20 bytes = subst (λ (l : List ℕ). drop 20 (with_address side addr l) ≡ drop 20 bytes) (take-append-drop 20 bytes) at.after_header in
    ap (λ (k : ℕ). drop k new) e ∙ sym (drop-drop (h - 20) 20 new) ∙ ap (drop (h - 20)) twenty ∙ drop-drop (h - 20) 20 bytes ∙ ap (λ (k : ℕ). drop k bytes) (sym e)

-- the quoted packet before its address is written
abbrev pub inner_of : List ℕ → List ℕ → List ℕ
inner_of bytes part = take (header_len bytes) bytes ++ part

pub inner-len : (bytes part : List ℕ) → header_len bytes ≤ length bytes → length part ≡ length (after_header bytes) → length (inner_of bytes part) ≡ length bytes
inner-len bytes part room e =
    let h = header_len bytes in
    length-append (take h bytes) part ∙ omega (arith, length-take-le h bytes room, e, length-drop h bytes, room)

-- it has the same header
pub record SameInner (bytes inner : List ℕ) : Type 0 where
  pub least : 20 ≤ header_len inner
  pub whole : header_len inner ≤ length inner
  pub summed : sum_of_bytes (take (header_len inner) inner) ≡ sum_of_bytes (take (header_len bytes) bytes)

pub inner-header : (bytes part : List ℕ) → length part ≡ length (after_header bytes) → 20 ≤ header_len bytes → header_len bytes ≤ length bytes → SameInner bytes (inner_of bytes part)
inner-header bytes part e least room =
    let h = header_len bytes in
    let same = same-header bytes part h least room in
    record {
      least = omega (arith, same.header, least);
      whole = omega (arith, same.header, inner-len bytes part room e, room);
      summed = ap (λ (k : ℕ). sum_of_bytes (take k (inner_of bytes part))) same.header
          ∙ ap sum_of_bytes (take_at (take h bytes) part h (length-take-le h bytes room));
    }

-- the quoted packet, once its address and the bytes after its header are written
pub requoted : (side : Side) (bytes part new addr : List ℕ) (port : ℕ) (p : Protocol) (q : Quoted) → length addr ≡ 4 → q.protocol ≡ p
    → new ≡ with_address side addr (inner_of bytes part) → length part ≡ length (after_header bytes) → field part (end_bit p side) 16 ≡ port
    → (p ≡ flow.Icmp → field part 0 8 ≡ field (after_header bytes) 0 8) → Quotes side bytes q → Quotes side new (quoting q addr port)
requoted side bytes part new addr port p q four named at e written type r =
    let h = header_len bytes in
    let room : h ≤ length bytes = omega (arith, r.room) in
    let inner = inner_of bytes part in
    let same = same-header bytes part h r.header room in
    let long = inner-len bytes part room e in
    let twenty : 20 ≤ length inner = omega (arith, long, r.header, room) in
    let k = keeps side inner addr twenty (omega (arith, same.header, r.header)) four in
    let header : header_len new ≡ h = ap header_len at ∙ k.shape.header ∙ same.header in
    let offset : fragment_offset new ≡ fragment_offset bytes = ap fragment_offset at ∙ same-offset side inner addr twenty four ∙ same.offset in
    let proto : field new 72 8 ≡ field bytes 72 8 = ap (λ (l : List ℕ). field l 72 8) at ∙ k.shape.protocol ∙ same.protocol in
    let back : after_header new ≡ part =
    (λ i. drop (header i) (at i)) ∙ same-following side inner addr h twenty r.header four ∙ drop_at (take h bytes) part h (length-take-le h bytes room) in
    let kept = flow-kept side (protocol_of (field bytes 72 8)) (field (after_header bytes) 0 8) (field part 0 8) q.protocol (λ is. type (sym named ∙ is)) r.flow in
    record {
      version = ap (λ (l : List ℕ). field l 0 4) at ∙ k.shape.version ∙ same.version ∙ r.version;
      header = omega (arith, header, r.header);
      room = omega (arith, header, ap length at, k.long, long, r.room);
      first = offset ∙ r.first;
      flow = (λ i. flow_by side (protocol_of (proto i)) (field (back i) 0 8)) ∙ kept;
      addr = sym k.written ∙ ap (addr_at side) (sym at);
      port = sym ((λ i. field (back i) (end_bit (named i) side) 16) ∙ written);
    }

-- ---- the message

-- the type of a message and what follows its header, once another part follows it and the checksum is computed
pub record IsMessage (old new part : List ℕ) : Type 0 where
  pub type : field new 0 8 ≡ field old 0 8
  pub after_header : drop 8 new ≡ part

message_cells : (front rest part : List ℕ) → IsMessage (cells 8 front ++ rest) (with_message_checksum (cells 8 front ++ part)) part
message_cells front rest part = record { type = refl; after_header = refl }

pub message : (bytes part : List ℕ) → 8 ≤ length bytes → IsMessage bytes (with_message_checksum (take 8 bytes ++ part)) part
message bytes part room =
    subst (λ (l : List ℕ). IsMessage l (with_message_checksum (take 8 bytes ++ part)) part) (take-append-drop 8 bytes)
    (subst (λ (f : List ℕ). IsMessage (f ++ drop 8 bytes) (with_message_checksum (f ++ part)) part) (sym (cells-all 8 (take 8 bytes) (length-take-le 8 bytes room)))
    (message_cells (take 8 bytes) (drop 8 bytes) part))

-- the bytes with a word in the place of the checksum
put-checksum : (a b c d x : ℕ) (rest : List ℕ) → with_field (a ∷ b ∷ c ∷ d ∷ rest) 16 16 x ≡ a ∷ b ∷ word x rest
put-checksum a b c d x rest =
    let n = word_at (a ∷ b ∷ c ∷ d ∷ rest) 16 16 in
    λ i. a ∷ b ∷ word_high n x i ∷ word_low n x i ∷ rest

-- the sum of these words
sum-words : (a b x : ℕ) (rest : List ℕ) → x < 65536 → sum (words (a ∷ b ∷ word x rest)) ≡ 256 * a + b + sum (words rest) + x
sum-words a b x rest fits = omega (arith, sum-words-cons a b (word x rest), sum-words-cons (x / 256 % 256) (x % 256) rest, fits)

filled-message : (a b c d : ℕ) (rest : List ℕ) → sum_of_bytes (with_message_checksum (a ∷ b ∷ c ∷ d ∷ rest)) ≡ 65535
filled-message a b c d rest =
    let m = 256 * a + b + sum (words rest) in
    let x = 65535 - residue m in
    let total : sum (words (a ∷ b ∷ word 0 rest)) ≡ m = sum-words a b 0 rest (omega arith) ∙ omega arith in
    ap (λ (l : List ℕ). sum_of_bytes (with_field l 16 16 (65535 - sum_of_bytes l))) (put-checksum a b c d 0 rest)
    ∙ ap (λ (n : ℕ). sum_of_bytes (with_field (a ∷ b ∷ word 0 rest) 16 16 (65535 - residue n))) total
    ∙ ap sum_of_bytes (put-checksum a b (0 / 256 % 256) (0 % 256) x rest)
    ∙ ap residue (sum-words a b x rest (omega arith)) ∙ residue-complement m

-- a checksum that is computed anew is valid
filled : (bytes : List ℕ) → 4 ≤ length bytes → sum_of_bytes (with_message_checksum bytes) ≡ 65535
filled bytes room =
    subst (λ (l : List ℕ). sum_of_bytes (with_message_checksum l) ≡ 65535) (sym (cells-drop 4 bytes room)) (filled-message _ _ _ _ (drop 4 bytes))

-- an error that quotes another packet
pub reported : (side : Side) (bytes part new : List ℕ) (q other : Quoted) → 8 ≤ length bytes → new ≡ with_message_checksum (take 8 bytes ++ part)
    → Quotes side part other → Reports side bytes q → Reports side new other
reported side bytes part new q other room at quotes r =
    let m = message bytes part room in
    record {
      error = ap (λ (l : List ℕ). is_error (field l 0 8)) at ∙ ap is_error m.type ∙ r.error;
      checksum = ap sum_of_bytes at ∙ filled (take 8 bytes ++ part) (omega (arith, length-append (take 8 bytes) part, length-take-le 8 bytes room));
      quotes = subst (λ (l : List ℕ). Quotes side l other) (sym (ap (drop 8) at ∙ m.after_header)) quotes;
    }

-- ---- the packet and the frame

-- a packet with another payload of the same length, then with another address
pub packet-with : (bytes part new : List ℕ) (v : Ipv4Repr) (side : Side) (addr : List ℕ) → length addr ≡ 4 → ReadsPacket all_checked bytes (Ipv4 v)
    → length part ≡ length (ipv4_payload bytes) → new ≡ with_address side addr (with_range bytes (header_len bytes) (total_len bytes) part)
    → ((w : Ipv4Repr) → ipv4.Reads (with_range bytes (header_len bytes) (total_len bytes) part) true w → ipv4.Reads new true (with_addr side addr w))
    → ReadsPacket all_checked new (Ipv4 (with_addr side addr v)) × (ipv4_payload new ≡ part)
packet-with bytes part new v side addr four reads e at step =
    let h = header_len bytes in
    let n = total_len bytes in
    let r = reads.0 in
    let inner = with_range bytes h n part in
    let len = e ∙ payload-len bytes v r in
    let same = (same-inner bytes part h n r.lengths.least r.lengths.header (omega (arith, r.lengths.header, r.lengths.within))).shape in
    let long = range-len bytes part h n r.lengths.within r.lengths.whole len in
    let k = keeps side inner addr (omega (arith, long, r.lengths.least)) (omega (arith, same.header, r.lengths.header)) four in
    let fragment : ipv4.is_fragment new ≡ false = ap ipv4.is_fragment at ∙ k.shape.fragment ∙ same.fragment ∙ reads.1 in
    ((step v (reads-inner bytes part v r len), fragment), ap ipv4_payload at ∙ k.payload ∙ inner-payload bytes part v r e)

-- the frame of such a packet
pub error-translated : (frame new body : List ℕ) (side : Side) (v : Ipv4Repr) (q : Quoted) (addr : List ℕ) (port : ℕ) → CarriesError side frame v q
    → new ≡ take 14 frame ++ body → body ≡ error_packet q.protocol side addr port (drop 14 frame)
    → ReadsPacket all_checked body (Ipv4 (with_addr (opposite side) addr v)) × Reports side (ipv4_payload body) (quoting q addr port)
    × (ipv4.HasChecksum (quoted_of (drop 14 frame)) ↔ ipv4.HasChecksum (quoted_of body))
    → IsErrorTranslated frame new side v q addr port
error-translated frame new body side v q addr port was at is after =
    let front : length (take 14 frame) ≡ 14 = length-take-le 14 frame was.is.reads.whole in
    let back : drop 14 new ≡ body = ap (drop 14) at ∙ drop_at (take 14 frame) body 14 front in
    record {
      before = was;
      after = record {
        link = was.link;
        is = record { reads = subst (λ (l : List ℕ). ethernet.Reads l was.link) (sym at) (link-stays frame body was.link was.is.reads); names = was.is.names };
        reads = subst (λ (l : List ℕ). ReadsPacket all_checked l (Ipv4 (with_addr (opposite side) addr v))) (sym back) after.0;
        names = same-protocol (opposite side) addr v ∙ was.names;
        reports = subst (λ (l : List ℕ). Reports side (ipv4_payload l) (quoting q addr port)) (sym back) after.1;
      };
      summed = subst (λ (l : List ℕ). ipv4.HasChecksum (quoted_of (drop 14 frame)) ↔ ipv4.HasChecksum (quoted_of l)) (sym back) after.2;
      bytes = at ∙ ap (λ (l : List ℕ). take 14 frame ++ l) is;
    }
