-- A TCP segment with two bytes of no operation before its timestamp, as it is emitted.
use Rattle.std.proofs.Common.{ℕ, ◌≡◌, ◌∙◌, ◌≤◌, ◌<◌, ◌+◌, ◌*◌, ◌-◌, ◌%◌, ◌++◌, true, List, [], ◌∷◌, Option, None, Some, ap, append_assoc, append-nil, arith, drop, length, length-append, refl, slice_index, slice_range, sum, sym, take}
use Rattle.std.proofs.lemmas.List.{length-take-le}
use Rattle.byteorder.specs.Endian.{big_bytes}
use Rattle.ip_wire.proofs.TcpLayer.{rebuilt-tcp, rebuilt-tcp-copied}
use Rattle.ip_wire.proofs.UdpLayer.{AreWords}
use Rattle.ip_wire.specs.Frame.{rebuilt_transport_by}
use Rattle.wire_checksum.proofs.PseudoSums.{sum-with_pseudo_header}
use Rattle.wire_checksum.proofs.Updated.{stays_computed}
use Rattle.wire_checksum.proofs.WordLists.{sum-words-append, sum-words-cons}
use Rattle.wire_checksum.specs.PseudoHeader.{with_pseudo_header}
use Rattle.wire_checksum.specs.WordSum.{residue, updated, words}
use Rattle.wire_addr.specs.declared.ip_address.IpAddress.{IpAddress}
use Rattle.wire_addr.specs.declared.ip_protocol.IpProtocol.TheVariants as protocol
use Rattle.net_base.proofs.Cells.{cells-drop}
use Rattle.net_base.proofs.Spelled.{AreBytes}
use Rattle.net_base.specs.Field.{field, with_range}
use Rattle.wire_tcp.proofs.Sums.{field-word}
use Rattle.wire_tcp.proofs.TcpComputed.{reads-with, tcp_of-Reads}
use Rattle.wire_tcp.specs.Tcp.{Verifies, options_of, payload_of, segment_sum}
use Rattle.wire_tcp.specs.TcpRepr.{TcpHeader, header_with, option_bytes, segment_with, tcp_of}
use Rattle.wire_tcp_options.proofs.Items.{IsItem_bare}
use Rattle.wire_tcp_options.specs.TcpItems.{IsOptionList, Item, item}
use Rattle.wire_tcp_options.specs.declared.tcp.control.TcpControl.{TcpControl}
use Rattle.c_structs.proofs.TcpKept.{eight}
use Rattle.c_structs.proofs.TcpStamped.{padded, padded-list, padded-options}
use Rattle.c_structs.specs.TcpKept.{HasPaddedStamp}
use Rattle.c_write.proofs.TcpKept.{HasAck, acked, control-of, header_bytes-read, only_checksum, stamp-bytes}
use Rattle.c_write.specs.TcpKept.{IsPlain, IsSound, with_stamp_first}

-- ---- whether it parses

-- a segment that is not sound is copied
pub rebuilt-unsound : (src dst : IpAddress) (bytes : List ℕ) → (IsSound src dst bytes → ⊥) → rebuilt_transport_by protocol.Tcp src dst bytes ≡ bytes
rebuilt-unsound src dst bytes unsound = by (tcp_of src dst true bytes) refl
  where
    by : (o : Option TcpHeader) → tcp_of src dst true bytes ≡ o → rebuilt_transport_by protocol.Tcp src dst bytes ≡ bytes
    by None unread = rebuilt-tcp-copied src dst bytes unread
    by (Some v) read =
        let r = (tcp_of-Reads src dst true bytes v).0 read in
        absurd (unsound (record { least = r.lengths.least; sender = r.sender; receiver = r.receiver; checksum = r.checksum refl }))

-- ---- the segment

-- a segment with these first 16 bytes, this checksum and timestamp, and this payload, as it is emitted
abbrev stamped : List ℕ → ℕ → List ℕ → List ℕ → List ℕ
stamped front x t p = front ++ (big_bytes 2 x ++ 0 ∷ 0 ∷ 8 ∷ 10 ∷ (t ++ 0 ∷ 0 ∷ p))

segment-stamped : (bytes : List ℕ) (asked : TcpControl) (x : ℕ) → AreBytes bytes → IsPlain bytes → HasPaddedStamp bytes → HasAck bytes asked
    → segment_with (acked bytes asked (padded bytes)) (payload_of bytes) x ≡ stamped (take 16 bytes) x (eight bytes 24) (drop 32 bytes)
segment-stamped bytes asked x h plain s has =
    let size = s.size in
    let v = acked bytes asked (padded bytes) in
    let options : option_bytes v ≡ 8 ∷ 10 ∷ (eight bytes 24 ++ 0 ∷ 0 ∷ []) = ap (λ (t : List ℕ). 8 ∷ 10 ∷ (t ++ 0 ∷ 0 ∷ [])) (stamp-bytes bytes 24 h) in
    let whole = s.whole in
    ap (λ (l : List ℕ). l ++ payload_of bytes) (header_bytes-read bytes asked (padded bytes) x h plain.least (omega (arith, size, has.flags))
    ∙ ap (λ (l : List ℕ). take 16 bytes ++ (big_bytes 2 x ++ 0 ∷ 0 ∷ l)) options)
    ∙ ap (λ (n : ℕ). (take 16 bytes ++ (big_bytes 2 x ++ 0 ∷ 0 ∷ 8 ∷ 10 ∷ (eight bytes 24 ++ 0 ∷ 0 ∷ []))) ++ drop n bytes) size
    ∙ rw (cells-drop 32 bytes whole) refl

-- the segment that was read
segment-padded : (bytes : List ℕ) → AreBytes bytes → IsPlain bytes → HasPaddedStamp bytes
    → bytes ≡ take 16 bytes ++ slice_index bytes 16 ∷ slice_index bytes 17 ∷ 0 ∷ 0 ∷ 1 ∷ 1 ∷ 8 ∷ 10 ∷ (eight bytes 24 ++ drop 32 bytes)
segment-padded bytes h plain s =
    let whole = s.whole in
    let at = slice_index bytes in
    let front : List ℕ → List ℕ → List ℕ = λ u k. take 16 bytes ++ at 16 ∷ at 17 ∷ (u ++ (k ++ (eight bytes 24 ++ drop 32 bytes))) in
    let cells : bytes ≡ front (at 18 ∷ at 19 ∷ []) (slice_range bytes 20 24) = rw (cells-drop 32 bytes whole) refl in
    let high : at 18 ≡ 0 = omega (arith, plain.urgent_at) in
    let low : at 19 ≡ 0 = omega (arith, plain.urgent_at) in
    cells ∙ ap (front (at 18 ∷ at 19 ∷ [])) (padded-options bytes h s)
    ∙ ap (λ (m : ℕ). front (m ∷ at 19 ∷ []) (1 ∷ 1 ∷ 8 ∷ 10 ∷ [])) high ∙ ap (λ (m : ℕ). front (0 ∷ m ∷ []) (1 ∷ 1 ∷ 8 ∷ 10 ∷ [])) low

-- ---- its checksum

-- the words of what follows the first 16 bytes
after-words : (a b c d : ℕ) (rest : List ℕ) → sum (words (a ∷ b ∷ 0 ∷ 0 ∷ c ∷ d ∷ rest)) ≡ 256 * a + b + (256 * c + d + sum (words rest))
after-words a b c d rest =
    omega (arith, sum-words-cons a b (0 ∷ 0 ∷ c ∷ d ∷ rest), sum-words-cons 0 0 (c ∷ d ∷ rest), sum-words-cons c d rest)

-- the words of both differ by the checksum and by the bytes of no operation
sum-words-stamped : (front t p : List ℕ) (a b : ℕ) → length front ≡ 16 → length t ≡ 8
    → sum (words (front ++ a ∷ b ∷ 0 ∷ 0 ∷ 1 ∷ 1 ∷ 8 ∷ 10 ∷ (t ++ p))) ≡ sum (words (stamped front 0 t p)) + 257 + (256 * a + b)
sum-words-stamped front t p a b f l =
    let even : length front % 2 ≡ 0 = omega (arith, f) in
    let whole : length t % 2 ≡ 0 = omega (arith, l) in
    let last = t ++ 0 ∷ 0 ∷ p in
    let read = a ∷ b ∷ 0 ∷ 0 ∷ 1 ∷ 1 ∷ 8 ∷ 10 ∷ (t ++ p) in
    let emitted = 0 ∷ 0 ∷ 0 ∷ 0 ∷ 8 ∷ 10 ∷ last in
    let old : sum (words (front ++ read)) ≡ sum (words front) + sum (words read) = sum-words-append front read even in
    let new : sum (words (stamped front 0 t p)) ≡ sum (words front) + sum (words emitted) = sum-words-append front emitted even in
    let after_old : sum (words read) ≡ 256 * a + b + (256 * 1 + 1 + sum (words (8 ∷ 10 ∷ (t ++ p)))) = after-words a b 1 1 (8 ∷ 10 ∷ (t ++ p)) in
    let kind : sum (words (8 ∷ 10 ∷ (t ++ p))) ≡ 2058 + sum (words (t ++ p)) = sum-words-cons 8 10 (t ++ p) in
    let after_new : sum (words emitted) ≡ 256 * 0 + 0 + (256 * 8 + 10 + sum (words last)) = after-words 0 0 8 10 last in
    let stamp : sum (words (t ++ p)) ≡ sum (words t) + sum (words p) = sum-words-append t p whole in
    let ended : sum (words last) ≡ sum (words t) + sum (words (0 ∷ 0 ∷ p)) = sum-words-append t (0 ∷ 0 ∷ p) whole in
    let zeros : sum (words (0 ∷ 0 ∷ p)) ≡ sum (words p) = omega (arith, sum-words-cons 0 0 p) in
    let differ : sum (words read) ≡ sum (words emitted) + 257 + (256 * a + b) = omega (arith, after_old, kind, stamp, after_new, ended, zeros) in
    let joined : sum (words front) + (sum (words emitted) + 257 + (256 * a + b)) ≡ sum (words front) + sum (words emitted) + 257 + (256 * a + b) = omega arith in
    old ∙ ap (λ (n : ℕ). sum (words front) + n) differ ∙ joined ∙ ap (λ (n : ℕ). n + 257 + (256 * a + b)) (sym new)

length-stamped : (front t p : List ℕ) (a b : ℕ) → length front ≡ 16 → length t ≡ 8
    → length (front ++ a ∷ b ∷ 0 ∷ 0 ∷ 1 ∷ 1 ∷ 8 ∷ 10 ∷ (t ++ p)) ≡ length (stamped front 0 t p)
length-stamped front t p a b f l = simp length-append (omega arith)

-- the updated checksum is the computed one
checksum-stamped : (src dst : IpAddress) (bytes : List ℕ) → AreWords src dst → AreBytes bytes → IsPlain bytes → HasPaddedStamp bytes → Verifies src dst bytes
    → 65535 - segment_sum src dst (stamped (take 16 bytes) 0 (eight bytes 24) (drop 32 bytes)) ≡ updated (field bytes 128 16) 257 0
checksum-stamped src dst bytes whole h plain s valid =
    let front = take 16 bytes in
    let t = eight bytes 24 in
    let p = drop 32 bytes in
    let at = slice_index bytes in
    let c = field bytes 128 16 in
    let new = stamped front 0 t p in
    let long : length front ≡ 16 = length-take-le 16 bytes (omega (arith, s.whole)) in
    let is = segment-padded bytes h plain s in
    let sums : sum (words bytes) ≡ sum (words new) + 257 + (256 * at 16 + at 17) = ap (λ (l : List ℕ). sum (words l)) is ∙ sum-words-stamped front t p (at 16) (at 17) long refl in
    let lengths : length bytes ≡ length new = ap length is ∙ length-stamped front t p (at 16) (at 17) long refl in
    let old_total = sum-with_pseudo_header src dst protocol.Tcp bytes whole.src_bytes whole.dst_bytes in
    let new_total = sum-with_pseudo_header src dst protocol.Tcp new whole.src_bytes whole.dst_bytes in
    let total = sum (words (with_pseudo_header src dst protocol.Tcp new)) in
    let word : c ≡ 256 * at 16 + at 17 = omega (arith, h 16, h 17) in
    let both : sum (words (with_pseudo_header src dst protocol.Tcp bytes)) ≡ total + 257 + c = omega (arith, sums, lengths, old_total, new_total, word) in
    let fits : c < 65535 = omega (arith, plain.checksum) in
    let computed : 65535 - residue (total + 257) ≡ c = only_checksum (total + 257) c fits (ap residue (sym both) ∙ valid) in
    let some : 0 < total + 0 = omega (arith, new_total) in
    let zero : total + 0 ≡ total = omega arith in
    sym (stays_computed total c 257 0 (omega arith) some (sym computed) ∙ ap (λ (n : ℕ). 65535 - residue n) zero)

-- ---- the segment that is written

pub with_stamp_first-is : (bytes : List ℕ) → AreBytes bytes → IsPlain bytes → HasPaddedStamp bytes
    → with_stamp_first bytes bytes ≡ stamped (take 16 bytes) (updated (field bytes 128 16) 257 0) (eight bytes 24) (drop 32 bytes)
with_stamp_first-is bytes h plain s =
    let whole = s.whole in
    let kinds = s.kinds in
    let at = slice_index bytes in
    let u = updated (field bytes 128 16) 257 0 in
    let moved = with_range (with_range bytes 20 30 (slice_range bytes 22 32)) 30 32 (0 ∷ 0 ∷ []) in
    let before : take 16 moved ≡ take 16 bytes = rw (cells-drop 32 bytes whole) refl in
    let after : drop 18 moved ≡ at 18 ∷ at 19 ∷ at 22 ∷ at 23 ∷ (eight bytes 24 ++ 0 ∷ 0 ∷ drop 32 bytes) = rw (cells-drop 32 bytes whole) refl in
    let high : at 18 ≡ 0 = omega (arith, plain.urgent_at) in
    let low : at 19 ≡ 0 = omega (arith, plain.urgent_at) in
    let kind : at 22 ≡ 8 = omega (arith, kinds, h 20, h 21, h 22, h 23) in
    let size : at 23 ≡ 10 = omega (arith, kinds, h 20, h 21, h 22, h 23) in
    field-word moved u ∙ append_assoc (take 16 moved) (big_bytes 2 u) (drop 18 moved)
    ∙ ap (λ (l : List ℕ). l ++ (big_bytes 2 u ++ drop 18 moved)) before
    ∙ ap (λ (l : List ℕ). take 16 bytes ++ (big_bytes 2 u ++ l)) (after ∙ rw (high, low, kind, size) refl)

-- a sound segment with two bytes of no operation before its timestamp is emitted with the timestamp first
pub rebuilt-stamped : (src dst : IpAddress) (bytes : List ℕ) → AreBytes bytes → AreWords src dst → IsSound src dst bytes → IsPlain bytes → HasPaddedStamp bytes
    → rebuilt_transport_by protocol.Tcp src dst bytes ≡ with_stamp_first bytes bytes
rebuilt-stamped src dst bytes h whole sound plain s =
    let (asked, has) = control-of bytes h plain.flags in
    let v = acked bytes asked (padded bytes) in
    let p = payload_of bytes in
    let size = s.size in
    let named : header_with bytes asked (padded bytes) ≡ v = rw has.ack refl in
    let reads = reads-with bytes src dst true asked (padded bytes) []
    (record {
      lengths = record { least = sound.least; header = omega (arith, size); whole = omega (arith, size, s.whole) };
      sender = sound.sender;
      receiver = sound.receiver;
      checksum = λ on. sound.checksum;
    }) has.control (padded-list bytes h s) in
    let read : tcp_of src dst true bytes ≡ Some v = (tcp_of-Reads src dst true bytes (header_with bytes asked (padded bytes))).1 reads ∙ ap Some named in
    let u = updated (field bytes 128 16) 257 0 in
    let sum : 65535 - segment_sum src dst (segment_with v p 0 ++ []) ≡ u =
    ap (λ (l : List ℕ). 65535 - segment_sum src dst l) (append-nil (segment_with v p 0) ∙ segment-stamped bytes asked 0 h plain s has)
    ∙ checksum-stamped src dst bytes whole h plain s sound.checksum in
    rebuilt-tcp src dst bytes v read ∙ ap (segment_with v p) sum ∙ segment-stamped bytes asked u h plain s has ∙ sym (with_stamp_first-is bytes h plain s)

-- ---- what is written to the front of a slice

pub length-with_stamp_first : (bytes : List ℕ) → 32 ≤ length bytes → length (with_stamp_first bytes bytes) ≡ length bytes
length-with_stamp_first bytes whole = rw (cells-drop 32 bytes whole) refl

pub with_stamp_first-append : (bytes rest : List ℕ) → 32 ≤ length bytes → with_stamp_first bytes (bytes ++ rest) ≡ with_stamp_first bytes bytes ++ rest
with_stamp_first-append bytes rest whole = rw (cells-drop 32 bytes whole) refl
