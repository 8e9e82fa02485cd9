-- A TCP segment that is emitted as it was read.
use Rattle.std.proofs.Common.{ℕ, ◌≡◌, ◌∙◌, ◌≤◌, ◌<◌, ◌+◌, ◌*◌, ◌-◌, ◌%◌, ◌++◌, ◌⊎◌, inl, inr, true, List, [], ◌∷◌, Option, None, Some, ap, append_assoc, append-nil, arith, drop, length, length-append, refl, slice_index, slice_range, sum, sym, take, w32}
use Rattle.std.proofs.lemmas.Bool.{cases_lt}
use Rattle.std.proofs.lemmas.Int.{of_z-to_z}
use Rattle.std.proofs.lemmas.Bool.Decides.{nat_tests}
use Rattle.std.proofs.lemmas.Grind.{common_steps}
use Rattle.std.proofs.lemmas.List.{drop-drop, take-append-drop}
use Rattle.byteorder.specs.Endian.{big_bytes, big_number}
use Rattle.ip_wire.proofs.TcpLayer.{rebuilt-tcp, rebuilt-tcp-copied}
use Rattle.ip_wire.proofs.UdpLayer.{AreWords}
use Rattle.ip_wire.specs.Frame.{rebuilt_transport_by}
use Rattle.wire_checksum.proofs.PseudoSums.{sum-with_pseudo_header}
use Rattle.wire_checksum.proofs.Residues.{residue-bound, residue-quotient, residue-small, residue-zero}
use Rattle.wire_checksum.proofs.WordLists.{sum-words-append}
use Rattle.wire_checksum.specs.PseudoHeader.{with_pseudo_header}
use Rattle.wire_checksum.specs.WordSum.{residue, words}
use Rattle.wire_addr.specs.declared.ip_address.IpAddress.{IpAddress}
use Rattle.wire_addr.specs.declared.ip_protocol.IpProtocol.TheVariants as protocol
use Rattle.net_base.proofs.Cells.{cells-drop}
use Rattle.net_base.proofs.Spelled.{AreBytes}
use Rattle.net_base.specs.Field.{field}
use Rattle.wire_tcp.proofs.TcpComputed.{reads-with, reads_once, tcp_of-Reads}
use Rattle.wire_tcp.proofs.TcpEmitted.{length-header_bytes}
use Rattle.wire_tcp.specs.Tcp.{header_len, options_of, payload_of, segment_sum}
use Rattle.wire_tcp.specs.TcpRepr.{HasControl, Reads, TcpHeader, ack_bits, bytes_of, flag_of, header_bytes, header_with, offset_and_flags, option_bytes, segment_with, seq_of, tcp_of}
use Rattle.wire_tcp_options.specs.TcpItems.{IsItem, IsOptionList, Item, item}
use Rattle.wire_tcp_options.specs.TcpSeq.{number}
use Rattle.wire_tcp_options.specs.declared.tcp.control.TcpControl.{TcpControl}
use Rattle.wire_tcp_options.specs.declared.tcp.control.TcpControl.TheVariants as control
use Rattle.c_structs.proofs.TcpKept.{bare-list, eight, stamp-list, stamp-options}
use Rattle.c_structs.specs.TcpKept.{HasStamp}
use Rattle.c_write.proofs.Spelled.{pair, quad}
use Rattle.c_write.specs.TcpKept.{IsAck, IsPlain}

-- ---- the values that are read

-- the flags are those of ACK and of a control
pub record HasAck (bytes : List ℕ) (asked : TcpControl) : Type 0 where
  pub control : HasControl bytes asked
  pub flags : field bytes 100 12 ≡ 16 + flag_of asked
  pub ack : field bytes 107 1 ≡ 1

pub control-of : (bytes : List ℕ) → AreBytes bytes → IsAck (field bytes 100 12) → (asked : TcpControl) × HasAck bytes asked
control-of bytes h is = elim is [
  | inl none ↦ (control.None, record { control = (record { rst = omega (arith, none); syn = omega (arith, none); fin = omega (arith, none) }, omega (arith, none)); flags = none; ack = omega (arith, none) })
  | inr (inl fin) ↦ (control.Fin, record { control = record { rst = omega (arith, fin); syn = omega (arith, fin); fin = omega (arith, fin) }; flags = fin; ack = omega (arith, fin) })
  | inr (inr (inl syn)) ↦ (control.Syn, record { control = record { rst = omega (arith, syn); syn = omega (arith, syn); fin = omega (arith, syn) }; flags = syn; ack = omega (arith, syn) })
  | inr (inr (inr (inl rst))) ↦ (control.Rst, record { control = record { rst = omega (arith, rst); syn = omega (arith, rst); fin = omega (arith, rst) }; flags = rst; ack = omega (arith, rst) })
  | inr (inr (inr (inr psh))) ↦ (control.Psh, record { control = (record { rst = omega (arith, psh); syn = omega (arith, psh); fin = omega (arith, psh) }, omega (arith, psh)); flags = psh; ack = omega (arith, psh) })
]

-- the values of a header with ACK, this control and these items
abbrev pub acked : List ℕ → TcpControl → List Item → TcpHeader
acked bytes asked items = record (header_with bytes asked items) { ack_number = Some (seq_of (field bytes 64 32)) }

values-read : (src dst : IpAddress) (bytes tail : List ℕ) (v : TcpHeader) (asked : TcpControl) (items : List Item) → Reads bytes src dst true v (payload_of bytes)
    → HasAck bytes asked → IsOptionList (options_of bytes) items tail → v ≡ acked bytes asked items
values-read src dst bytes tail v asked items r has list =
    let (same, body) = reads_once src dst true bytes (payload_of bytes) (payload_of bytes) v (header_with bytes asked items) r
    (reads-with bytes src dst true asked items tail (record { lengths = r.lengths; sender = r.sender; receiver = r.receiver; checksum = r.checksum }) has.control list) in
    same ∙ rw has.ack refl

-- ---- the header that is emitted for them

-- the number of a sequence number
number-seq : (bits : ℕ) → bits < 4294967296 → number (seq_of bits) ≡ bits
number-seq bits fits = of_z-to_z w32 bits fits

joined : (s d q k o w s' d' q' k' o' w' rest : List ℕ) → s ≡ s' → d ≡ d' → q ≡ q' → k ≡ k' → o ≡ o' → w ≡ w'
    → s ++ d ++ q ++ k ++ o ++ w ++ rest ≡ s' ++ d' ++ q' ++ k' ++ o' ++ w' ++ rest
joined s d q k o w s' d' q' k' o' w' rest es ed eq ek eo ew = rw (es, ed, eq, ek, eo, ew) refl

pub header_bytes-read : (bytes : List ℕ) (asked : TcpControl) (items : List Item) (x : ℕ) → AreBytes bytes → 20 ≤ length bytes
    → offset_and_flags (acked bytes asked items) ≡ field bytes 96 16
    → header_bytes (acked bytes asked items) x ≡ take 16 bytes ++ (big_bytes 2 x ++ 0 ∷ 0 ∷ option_bytes (acked bytes asked items))
header_bytes-read bytes asked items x h least offset =
    let v = acked bytes asked items in
    let at = slice_index bytes in
    let rest = big_bytes 2 x ++ 0 ∷ 0 ∷ option_bytes v in
    let seq : number v.seq_number ≡ field bytes 32 32 = number-seq (field bytes 32 32) (omega arith) in
    let ack : ack_bits v ≡ field bytes 64 32 = number-seq (field bytes 64 32) (omega arith) in
    joined (big_bytes 2 v.src_port) (big_bytes 2 v.dst_port) (big_bytes 4 (number v.seq_number)) (big_bytes 4 (ack_bits v)) (big_bytes 2 (offset_and_flags v)) (big_bytes 2 v.window_len)
    (at 0 ∷ at 1 ∷ []) (at 2 ∷ at 3 ∷ []) (at 4 ∷ at 5 ∷ at 6 ∷ at 7 ∷ []) (at 8 ∷ at 9 ∷ at 10 ∷ at 11 ∷ []) (at 12 ∷ at 13 ∷ []) (at 14 ∷ at 15 ∷ []) rest
    (pair (at 0) (at 1) _ (h 0) (h 1) (omega arith)) (pair (at 2) (at 3) _ (h 2) (h 3) (omega arith))
    (ap (big_bytes 4) seq ∙ quad (at 4) (at 5) (at 6) (at 7) _ (h 4) (h 5) (h 6) (h 7) (omega arith))
    (ap (big_bytes 4) ack ∙ quad (at 8) (at 9) (at 10) (at 11) _ (h 8) (h 9) (h 10) (h 11) (omega arith))
    (ap (big_bytes 2) offset ∙ pair (at 12) (at 13) _ (h 12) (h 13) (omega arith)) (pair (at 14) (at 15) _ (h 14) (h 15) (omega arith))
    ∙ rw (cells-drop 20 bytes least) refl

-- ---- its checksum

-- the first 20 bytes of a header with these numbers
abbrev fixed_bytes_with : ℕ → ℕ → ℕ → ℕ → ℕ → ℕ → ℕ → List ℕ
fixed_bytes_with s d q k o w x = big_bytes 2 s ++ big_bytes 2 d ++ big_bytes 4 q ++ big_bytes 4 k ++ big_bytes 2 o ++ big_bytes 2 w ++ big_bytes 2 x ++ big_bytes 2 0

-- the checksum counts in the sum of the header, and of the segment
sum-words-fixed : (s d q k o w x : ℕ) → x < 65536 → sum (words (fixed_bytes_with s d q k o w x)) ≡ sum (words (fixed_bytes_with s d q k o w 0)) + x
unfolding words
sum-words-fixed s d q k o w x fits = omega arith

sum-words-header : (v : TcpHeader) (checksum : ℕ) → checksum < 65536 → sum (words (header_bytes v checksum)) ≡ sum (words (header_bytes v 0)) + checksum
sum-words-header v checksum fits =
    let fixed : ℕ → List ℕ = fixed_bytes_with v.src_port v.dst_port (number v.seq_number) (ack_bits v) (offset_and_flags v) v.window_len in
    sum-words-append (fixed checksum) (option_bytes v) refl
    ∙ omega (
      arith,
      sum-words-append (fixed 0) (option_bytes v) refl,
      sum-words-fixed v.src_port v.dst_port (number v.seq_number) (ack_bits v) (offset_and_flags v) v.window_len checksum fits,
    )

length-segment : (v : TcpHeader) (p : List ℕ) (x : ℕ) → length (segment_with v p x) ≡ length (segment_with v p 0)
length-segment v p x = length-append (header_bytes v x) p ∙ ap (λ (n : ℕ). n + length p) (length-header_bytes v x ∙ sym (length-header_bytes v 0)) ∙ sym (length-append (header_bytes v 0) p)

pub sum-words-checksum : (v : TcpHeader) (src dst : IpAddress) (p : List ℕ) (checksum : ℕ) → AreWords src dst → checksum < 65536
    → sum (words (with_pseudo_header src dst protocol.Tcp (segment_with v p checksum))) ≡ sum (words (with_pseudo_header src dst protocol.Tcp (segment_with v p 0))) + checksum
sum-words-checksum v src dst p checksum whole fits =
    let even : (x : ℕ) → length (header_bytes v x) % 2 ≡ 0 = λ x. ap (λ (m : ℕ). m % 2) (length-header_bytes v x) ∙ omega arith in
    omega (
      arith,
      sum-with_pseudo_header src dst protocol.Tcp (segment_with v p checksum) whole.src_bytes whole.dst_bytes,
      sum-with_pseudo_header src dst protocol.Tcp (segment_with v p 0) whole.src_bytes whole.dst_bytes,
      sum-words-append (header_bytes v checksum) p (even checksum),
      sum-words-append (header_bytes v 0) p (even 0),
      sum-words-header v checksum fits,
      length-segment v p checksum,
    )

-- at most one number but 0xffff completes a total to 0xffff
pub only_checksum : (total c : ℕ) → c < 65535 → residue (total + c) ≡ 65535 → 65535 - residue total ≡ c
only_checksum total c fits full =
    let (k, before) = residue-quotient total in
    let (j, after) = residue-quotient (total + c) in
    elim (cases_lt 0 (residue total)) [
      | inl some ↦ omega (arith, residue-bound total, before, after, full, fits, some)
      | inr none ↦
          let zero : total ≡ 0 = residue-zero total (omega (arith, none)) in
          let small : residue (total + c) ≡ c = ap residue (omega (arith, zero)) ∙ residue-small c (omega (arith, fits)) in
          omega (arith, small, full, fits)
    ]

-- a segment with a valid checksum, and with the bytes that are emitted but for that, is what is emitted
bytes_of-read : (v : TcpHeader) (src dst : IpAddress) (p bytes : List ℕ) (c : ℕ) → AreWords src dst → c < 65535 → segment_with v p c ≡ bytes → segment_sum src dst bytes ≡ 65535
    → bytes_of v p src dst true [] ≡ bytes
bytes_of-read v src dst p bytes c whole fits same valid =
    let total = sum (words (with_pseudo_header src dst protocol.Tcp (segment_with v p 0))) in
    let full : residue (total + c) ≡ 65535 =
    ap residue (sym (sum-words-checksum v src dst p c whole (omega (arith, fits)))) ∙ ap (segment_sum src dst) same ∙ valid in
    let is : 65535 - segment_sum src dst (segment_with v p 0 ++ []) ≡ c =
    ap (λ (l : List ℕ). 65535 - segment_sum src dst l) (append-nil (segment_with v p 0)) ∙ only_checksum total c fits full in
    ap (segment_with v p) is ∙ same

-- ---- a segment whose options are those that are emitted

-- two parts that meet
from-20 : (bytes : List ℕ) (n : ℕ) → 20 ≤ n → slice_range bytes 20 n ++ drop n bytes ≡ drop 20 bytes
from-20 bytes n some =
    ap (λ (l : List ℕ). take (n - 20) (drop 20 bytes) ++ l) (ap (λ (k : ℕ). drop k bytes) (omega (arith, some)) ∙ sym (drop-drop (n - 20) 20 bytes))
    ∙ take-append-drop (n - 20) (drop 20 bytes)

segment-read : (bytes : List ℕ) (asked : TcpControl) (items : List Item) → AreBytes bytes → IsPlain bytes → 20 ≤ header_len bytes
    → offset_and_flags (acked bytes asked items) ≡ field bytes 96 16 → option_bytes (acked bytes asked items) ≡ options_of bytes
    → segment_with (acked bytes asked items) (payload_of bytes) (field bytes 128 16) ≡ bytes
segment-read bytes asked items h plain size offset options =
    let least = plain.least in
    let at = slice_index bytes in
    let sum : big_bytes 2 (field bytes 128 16) ≡ at 16 ∷ at 17 ∷ [] = pair (at 16) (at 17) _ (h 16) (h 17) (omega arith) in
    let high : at 18 ≡ 0 = omega (arith, plain.urgent_at) in
    let low : at 19 ≡ 0 = omega (arith, plain.urgent_at) in
    let header : header_bytes (acked bytes asked items) (field bytes 128 16) ≡ take 16 bytes ++ at 16 ∷ at 17 ∷ at 18 ∷ at 19 ∷ options_of bytes =
    header_bytes-read bytes asked items (field bytes 128 16) h least offset
    ∙ ap (λ (w : List ℕ). take 16 bytes ++ (w ++ 0 ∷ 0 ∷ option_bytes (acked bytes asked items))) sum
    ∙ ap (λ (m : ℕ). take 16 bytes ++ at 16 ∷ at 17 ∷ m ∷ 0 ∷ option_bytes (acked bytes asked items)) (sym high)
    ∙ ap (λ (m : ℕ). take 16 bytes ++ at 16 ∷ at 17 ∷ at 18 ∷ m ∷ option_bytes (acked bytes asked items)) (sym low)
    ∙ ap (λ (l : List ℕ). take 16 bytes ++ at 16 ∷ at 17 ∷ at 18 ∷ at 19 ∷ l) options in
    let whole : take 16 bytes ++ at 16 ∷ at 17 ∷ at 18 ∷ at 19 ∷ drop 20 bytes ≡ bytes = rw (cells-drop 20 bytes least) refl in
    ap (λ (l : List ℕ). l ++ payload_of bytes) header
    ∙ append_assoc (take 16 bytes) (at 16 ∷ at 17 ∷ at 18 ∷ at 19 ∷ options_of bytes) (payload_of bytes)
    ∙ ap (λ (l : List ℕ). take 16 bytes ++ at 16 ∷ at 17 ∷ at 18 ∷ at 19 ∷ l) (from-20 bytes (header_len bytes) size)
    ∙ whole

-- such a segment is rebuilt unchanged, whether it parses or not
rebuilt-read : (src dst : IpAddress) (bytes : List ℕ) (asked : TcpControl) (items : List Item) (tail : List ℕ) → AreBytes bytes → AreWords src dst → IsPlain bytes → HasAck bytes asked
    → 20 ≤ header_len bytes → IsOptionList (options_of bytes) items tail → offset_and_flags (acked bytes asked items) ≡ field bytes 96 16 → option_bytes (acked bytes asked items) ≡ options_of bytes
    → rebuilt_transport_by protocol.Tcp src dst bytes ≡ bytes
rebuilt-read src dst bytes asked items tail h whole plain has size list offset options = by (tcp_of src dst true bytes) refl
  where
    by : (o : Option TcpHeader) → tcp_of src dst true bytes ≡ o → rebuilt_transport_by protocol.Tcp src dst bytes ≡ bytes
    by None unread = rebuilt-tcp-copied src dst bytes unread
    by (Some v) read =
        let r = (tcp_of-Reads src dst true bytes v).0 read in
        let is = values-read src dst bytes tail v asked items r has list in
        let fits : field bytes 128 16 < 65535 = omega (arith, plain.checksum) in
        rebuilt-tcp src dst bytes v read ∙ ap (λ (w : TcpHeader). bytes_of w (payload_of bytes) src dst true []) is
        ∙ bytes_of-read (acked bytes asked items) src dst (payload_of bytes) bytes (field bytes 128 16) whole fits (segment-read bytes asked items h plain size offset options) (r.checksum refl)

-- ---- no options, or a timestamp

rebuilt-bare : (src dst : IpAddress) (bytes : List ℕ) → AreBytes bytes → AreWords src dst → IsPlain bytes → header_len bytes ≡ 20
    → rebuilt_transport_by protocol.Tcp src dst bytes ≡ bytes
rebuilt-bare src dst bytes h whole plain size =
    let (asked, has) = control-of bytes h plain.flags in
    rebuilt-read src dst bytes asked [] [] h whole plain has (omega (arith, size)) (bare-list bytes size)
    (omega (arith, size, has.flags)) (ap (λ (n : ℕ). slice_range bytes 20 n) (sym size))

-- the option that is emitted for a timestamp with these bytes
pub stamp-bytes : (bytes : List ℕ) (n : ℕ) → AreBytes bytes
    → big_bytes 4 (big_number 4 (eight bytes n)) ++ big_bytes 4 (big_number 4 (drop 4 (eight bytes n))) ≡ eight bytes n
stamp-bytes bytes n h =
    let at = slice_index bytes in
    let value = quad (at n) (at (n + 1)) (at (n + 2)) (at (n + 3)) (big_number 4 (eight bytes n)) (h n) (h (n + 1)) (h (n + 2)) (h (n + 3)) (omega arith) in
    let echo = quad (at (n + 4)) (at (n + 5)) (at (n + 6)) (at (n + 7)) (big_number 4 (drop 4 (eight bytes n))) (h (n + 4)) (h (n + 5)) (h (n + 6)) (h (n + 7)) (omega arith) in
    ap (λ (l : List ℕ). l ++ big_bytes 4 (big_number 4 (drop 4 (eight bytes n)))) value
    ∙ ap (λ (l : List ℕ). (at n ∷ at (n + 1) ∷ at (n + 2) ∷ at (n + 3) ∷ []) ++ l) echo

rebuilt-stamp : (src dst : IpAddress) (bytes : List ℕ) → AreBytes bytes → AreWords src dst → IsPlain bytes → HasStamp bytes
    → rebuilt_transport_by protocol.Tcp src dst bytes ≡ bytes
rebuilt-stamp src dst bytes h whole plain s =
    let (asked, has) = control-of bytes h plain.flags in
    let stamp = item 8 (eight bytes 22) in
    let size = s.size in
    let options : option_bytes (acked bytes asked (stamp ∷ [])) ≡ 8 ∷ 10 ∷ (eight bytes 22 ++ 0 ∷ 0 ∷ []) =
    ap (λ (t : List ℕ). 8 ∷ 10 ∷ (t ++ 0 ∷ 0 ∷ [])) (stamp-bytes bytes 22 h) in
    rebuilt-read src dst bytes asked (stamp ∷ []) (0 ∷ 0 ∷ []) h whole plain has (omega (arith, size)) (stamp-list bytes h s) (omega (arith, size, has.flags))
    (options ∙ sym (stamp-options bytes h s))

pub rebuilt-kept : (src dst : IpAddress) (bytes : List ℕ) → AreBytes bytes → AreWords src dst → IsPlain bytes → (header_len bytes ≡ 20) ⊎ HasStamp bytes
    → rebuilt_transport_by protocol.Tcp src dst bytes ≡ bytes
rebuilt-kept src dst bytes h whole plain (inl size) = rebuilt-bare src dst bytes h whole plain size
rebuilt-kept src dst bytes h whole plain (inr s) = rebuilt-stamp src dst bytes h whole plain s
