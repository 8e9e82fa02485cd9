-- The values of TCP segments (RFC 9293, section 3.1; options by RFC 2018 and RFC 7323).
-- Pinned by: `calls/tcp`, `calls/worked_transport`, `cases/tcp_shapes`, `cases/tcp_options`, `wire/tcp_repr`
use Rattle.std.specs.Prelude.{ℕ, zero, suc, ◌≡◌, ◌≢◌, ◌⊎◌, ◌==◌, ◌&&◌, ◌||◌, not, if◌then◌else◌, Bool, IsTrue, is_none, is_some, IfSome, ◌+◌, ◌-◌, ◌*◌, ◌/◌, ◌^◌, ◌<◌, FitsSigned, min, Option, Some, None, List, [], ◌∷◌, ◌++◌, count_by, length, map, replicate}
use Rattle.std.specs.Int.{cast_signed, w32}
use Rattle.std.specs.List.{AllByRecursion, filter_map}
use Rattle.std.specs.Option.{option_and_then, option_map, option_map_or}
use Rattle.byteorder.specs.Endian.{big_bytes}
use Rattle.wire_addr.specs.declared.ip_address.IpAddress.{IpAddress}
use Rattle.wire_tcp.specs.Tcp.{HasLengths, Verifies, ack_bits_of, ack_of, dst_port_of, fin_of, has_lengths, options_of, payload_of, psh_of, rst_of, segment_sum, seq_bits_of, src_port_of, syn_of, window_len_of}
use Rattle.wire_tcp_options.specs.TcpItems.{IsOptionList, Item, first_item, item, sack_permitted_of, sack_ranges_of, segment_size_of, texts, timestamp_of, window_scale_of}
use Rattle.wire_tcp_options.specs.TcpOption.{range_bytes}
use Rattle.wire_tcp_options.specs.TcpSeq.{number}
use Rattle.wire_tcp_options.specs.declared.tcp.TheConstants.{SACK_BLOCKS}
use Rattle.wire_tcp_options.specs.declared.tcp.control.TcpControl.{TcpControl}
use Rattle.wire_tcp_options.specs.declared.tcp.control.TcpControl.TheVariants as control
use Rattle.wire_tcp_options.specs.declared.tcp.seq_number.TcpSeqNumber.{TcpSeqNumber}
use Rattle.wire_tcp_options.specs.declared.tcp.timestamp.TcpTimestampRepr.{TcpTimestampRepr}
use Rattle.wire_tcp.specs.declared.tcp.repr.TcpRepr.{TcpRepr}

-- The values of a segment without its payload. Two values of a segment are equal if these and the bytes of their
-- payloads are.
pub record TcpHeader : Type 0 where
  pub src_port : ℕ
  pub dst_port : ℕ
  pub control : TcpControl
  pub seq_number : TcpSeqNumber
  pub ack_number : Option TcpSeqNumber
  pub window_len : ℕ
  pub window_scale : Option ℕ
  pub max_seg_size : Option ℕ
  pub sack_permitted : Bool
  pub sack_ranges : List (Option (ℕ × ℕ))
  pub timestamp : Option TcpTimestampRepr

-- the values of a segment without its payload
abbrev pub header_of : TcpRepr → TcpHeader
header_of v = record {
  src_port = v.src_port;
  dst_port = v.dst_port;
  control = v.control;
  seq_number = v.seq_number;
  ack_number = v.ack_number;
  window_len = v.window_len;
  window_scale = v.window_scale;
  max_seg_size = v.max_seg_size;
  sack_permitted = v.sack_permitted;
  sack_ranges = v.sack_ranges;
  timestamp = v.timestamp;
}

-- ---- the values of the fields

-- the sequence number with these 32 bits
abbrev pub seq_of : ℕ → TcpSeqNumber
seq_of bits = record { 0 = cast_signed w32 bits }

-- the flags RST, SYN and FIN of a segment, each 1 if it is set
pub record HasFlags (bytes : List ℕ) (r s f : ℕ) : Type 0 where
  pub rst : rst_of bytes ≡ r
  pub syn : syn_of bytes ≡ s
  pub fin : fin_of bytes ≡ f

-- the control of a segment: the one of RST, SYN and FIN that is set, or PSH if none of them is
abbrev pub HasControl : List ℕ → TcpControl → Type 0
HasControl bytes control.Rst = HasFlags bytes 1 0 0
HasControl bytes control.Syn = HasFlags bytes 0 1 0
HasControl bytes control.Fin = HasFlags bytes 0 0 1
HasControl bytes control.Psh = HasFlags bytes 0 0 0 × (psh_of bytes ≡ 1)
HasControl bytes control.None = HasFlags bytes 0 0 0 × (psh_of bytes ≡ 0)

-- the acknowledgement number of a segment, if ACK is set
abbrev pub ack_number_of : List ℕ → Option TcpSeqNumber
ack_number_of bytes = if ack_of bytes == 1 then Some (seq_of (ack_bits_of bytes)) else None

-- a timestamp and the echoed timestamp as a value
abbrev pub stamp_of : ℕ × ℕ → TcpTimestampRepr
stamp_of t = record { tsval = t.0; tsecr = t.1 }

-- the window scale in an option list, at most 14 (RFC 7323, section 2.3)
abbrev pub scale_of : List Item → Option ℕ
scale_of items = option_map (min 14) (window_scale_of items)

-- the timestamp and the echoed timestamp in an option list
abbrev pub stamps_of : List Item → Option TcpTimestampRepr
stamps_of items = option_map stamp_of (timestamp_of items)

-- the bytes have an option list, and these are the values of the last item of each kind
pub record ReadsOptions (bytes : List ℕ) (v : TcpHeader) : Type 0 where
  pub items : List Item
  pub tail : List ℕ
  pub list : IsOptionList bytes items tail
  pub max_seg_size : v.max_seg_size ≡ segment_size_of items
  pub window_scale : v.window_scale ≡ scale_of items
  pub sack_permitted : v.sack_permitted ≡ sack_permitted_of items
  pub sack_ranges : v.sack_ranges ≡ sack_ranges_of items
  pub timestamp : v.timestamp ≡ stamps_of items

-- the bytes are a segment between two addresses that parses as these values and this payload
pub record Reads (bytes : List ℕ) (src dst : IpAddress) (verified : Bool) (v : TcpHeader) (payload : List ℕ) : Type 0 where
  pub lengths : HasLengths bytes
  pub sender : src_port_of bytes ≢ 0
  pub receiver : dst_port_of bytes ≢ 0
  pub control : HasControl bytes v.control
  pub checksum : IsTrue verified → Verifies src dst bytes
  pub options : ReadsOptions (options_of bytes) v
  pub src_port : v.src_port ≡ src_port_of bytes
  pub dst_port : v.dst_port ≡ dst_port_of bytes
  pub seq_number : v.seq_number ≡ seq_of (seq_bits_of bytes)
  pub ack_number : v.ack_number ≡ ack_number_of bytes
  pub window_len : v.window_len ≡ window_len_of bytes
  pub body : payload ≡ payload_of bytes

-- no control fits: more than one of RST, SYN and FIN is set
abbrev pub HasNoControl : List ℕ → Type 0
HasNoControl bytes = (asked : TcpControl) → HasControl bytes asked → ⊥

-- the bytes do not parse as a segment between these addresses
abbrev pub HasNoReading : List ℕ → IpAddress → IpAddress → Bool → Type 0
HasNoReading bytes src dst verified = (v : TcpHeader) (payload : List ℕ) → Reads bytes src dst verified v payload → ⊥

-- ---- parsing, computed

-- the control of RST, SYN, FIN and PSH, each 1 if it is set
abbrev pub control_by : ℕ → ℕ → ℕ → ℕ → Option TcpControl
control_by rst syn fin psh =
    if rst + syn + fin == 0 then Some (if psh == 1 then control.Psh else control.None)
    else if rst + syn + fin == 1 then Some (if rst == 1 then control.Rst else if syn == 1 then control.Syn else control.Fin)
    else None

-- the control of the segment, if at most one of RST, SYN and FIN is set
abbrev pub control_of : List ℕ → Option TcpControl
control_of bytes = control_by (rst_of bytes) (syn_of bytes) (fin_of bytes) (psh_of bytes)

-- the items in at most n bytes up to the end of the list, if none of them is malformed
unfoldable pub items_within : ℕ → List ℕ → Option (List Item)
items_within n [] = Some []
items_within zero (kind ∷ rest) = None
items_within (suc n) (kind ∷ rest) =
    if kind == 0 then Some []
    else option_and_then (λ d. option_map (λ items. d.0 ∷ items) (items_within n d.1)) (first_item (kind ∷ rest))

-- the items up to the end of the list, if none of them is malformed
abbrev pub items_in : List ℕ → Option (List Item)
items_in bytes = items_within (length bytes) bytes

-- the values of a segment with this control and these items
abbrev pub header_with : List ℕ → TcpControl → List Item → TcpHeader
header_with bytes asked items = record {
  src_port = src_port_of bytes;
  dst_port = dst_port_of bytes;
  control = asked;
  seq_number = seq_of (seq_bits_of bytes);
  ack_number = ack_number_of bytes;
  window_len = window_len_of bytes;
  window_scale = scale_of items;
  max_seg_size = segment_size_of items;
  sack_permitted = sack_permitted_of items;
  sack_ranges = sack_ranges_of items;
  timestamp = stamps_of items;
}

-- whether lengths, ports and checksum are valid
abbrev pub is_sound : IpAddress → IpAddress → Bool → List ℕ → Bool
is_sound src dst verified bytes =
    has_lengths bytes && not (src_port_of bytes == 0) && not (dst_port_of bytes == 0)
    && (not verified || (segment_sum src dst bytes == 65535))

-- the value that the bytes parse as, if there is one, without its payload
unfoldable pub tcp_of : IpAddress → IpAddress → Bool → List ℕ → Option TcpHeader
tcp_of src dst verified bytes =
    if is_sound src dst verified bytes then
    option_and_then (λ asked. option_map (header_with bytes asked) (items_in (options_of bytes))) (control_of bytes)
    else None

-- a control other than SYN, FIN and RST
abbrev pub IsQuiet : TcpControl → Type 0
IsQuiet asked = (asked ≡ control.None) ⊎ (asked ≡ control.Psh)

-- ---- the emitted bytes of a value

-- this many bytes if the test is true, else 0
abbrev pub len_if : Bool → ℕ → ℕ
len_if b n = if b then n else 0

-- the length of a SACK option with n ranges, 0 if there are none
abbrev pub sack_len : ℕ → ℕ
sack_len n = if n == 0 then 0 else 2 + 8 * n

-- the length of the options of a value; ranges that are not emitted are counted too
abbrev pub options_len : TcpHeader → ℕ
options_len v =
    len_if (is_some v.max_seg_size) 4 + len_if (is_some v.window_scale) 3 + len_if v.sack_permitted 2
    + sack_len (count_by is_some v.sack_ranges) + len_if (is_some v.timestamp) 10

-- the length of the emitted header in bytes, in whole words of 4
abbrev pub header_len_of : TcpHeader → ℕ
header_len_of v = (20 + options_len v + 3) / 4 * 4

-- the emitted option for a maximum segment size, if there is one
abbrev pub segment_size_items : Option ℕ → List Item
segment_size_items None = []
segment_size_items (Some size) = item 2 (big_bytes 2 size) ∷ []

-- the emitted option for a window scale, if there is one
abbrev pub window_scale_items : Option ℕ → List Item
window_scale_items None = []
window_scale_items (Some scale) = item 3 (scale ∷ []) ∷ []

-- the emitted option for a timestamp, if there is one
abbrev pub timestamp_items : Option TcpTimestampRepr → List Item
timestamp_items None = []
timestamp_items (Some t) = item 8 (big_bytes 4 t.tsval ++ big_bytes 4 t.tsecr) ∷ []

-- the emitted SACK option: "SACK permitted", or else the ranges if there is an acknowledgement and a range
abbrev pub sack_items : TcpHeader → List Item
sack_items v =
    if v.sack_permitted then item 4 [] ∷ []
    else (if is_none v.ack_number || (count_by is_some v.sack_ranges == 0) then [] else item 5 (range_bytes v.sack_ranges) ∷ [])

-- the options of an emitted value, in their order
abbrev pub items_of : TcpHeader → List Item
items_of v = segment_size_items v.max_seg_size ++ window_scale_items v.window_scale ++ sack_items v ++ timestamp_items v.timestamp

-- the bytes of the emitted options, and zeros up to the end of the header
abbrev pub option_bytes : TcpHeader → List ℕ
option_bytes v = texts (items_of v) ++ replicate (header_len_of v - 20 - length (texts (items_of v))) 0

-- the flag that a control sets
abbrev pub flag_of : TcpControl → ℕ
flag_of control.None = 0
flag_of control.Fin = 1
flag_of control.Syn = 2
flag_of control.Rst = 4
flag_of control.Psh = 8

-- the emitted word with data offset and flags: no reserved bit is set, and of the flags only ACK and that of the
-- control
abbrev pub offset_and_flags : TcpHeader → ℕ
offset_and_flags v = header_len_of v / 4 * 4096 + (if is_some v.ack_number then 16 else 0) + flag_of v.control

-- the emitted acknowledgement number: 0 if there is none
abbrev pub ack_bits : TcpHeader → ℕ
ack_bits v = option_map_or number v.ack_number 0

-- the TCP header with these values, with this checksum and no urgent pointer
abbrev pub header_bytes : TcpHeader → ℕ → List ℕ
header_bytes v checksum =
    big_bytes 2 v.src_port ++ big_bytes 2 v.dst_port ++ big_bytes 4 (number v.seq_number) ++ big_bytes 4 (ack_bits v)
    ++ big_bytes 2 (offset_and_flags v) ++ big_bytes 2 v.window_len ++ big_bytes 2 checksum ++ big_bytes 2 0 ++ option_bytes v

-- the segment with this checksum: header and payload
abbrev pub segment_with : TcpHeader → List ℕ → ℕ → List ℕ
segment_with v payload checksum = header_bytes v checksum ++ payload

-- The segment with these values and this payload. A computed checksum covers it and the rest of the buffer after it;
-- else it is 0.
abbrev pub bytes_of : TcpHeader → List ℕ → IpAddress → IpAddress → Bool → List ℕ → List ℕ
bytes_of v payload src dst computed rest =
    segment_with v payload (if computed then 65535 - segment_sum src dst (segment_with v payload 0 ++ rest) else 0)

-- ---- normal forms

-- the SACK ranges without gaps: those that are `Some` come first
abbrev pub closed : List (Option (ℕ × ℕ)) → List (Option (ℕ × ℕ))
closed ranges =
    let there = filter_map (λ r. r) ranges in
    map Some there ++ replicate (length ranges - length there) None

-- no SACK range
abbrev pub no_ranges : List (Option (ℕ × ℕ))
no_ranges = replicate SACK_BLOCKS None

-- The normal form: the values that the emitted segment parses as. A window scale above 14 becomes 14, and ranges lose
-- their gaps. With SACK permitted, or without an acknowledgement, no ranges are left.
abbrev pub normal : TcpHeader → TcpHeader
normal v = record v {
  window_scale = option_map (min 14) v.window_scale;
  sack_ranges = if v.sack_permitted || is_none v.ack_number then no_ranges else closed v.sack_ranges;
}

-- the value has ranges that are not emitted: without an acknowledgement, or with SACK permitted
abbrev pub HasIdleRanges : TcpHeader → Type 0
HasIdleRanges v = (count_by is_some v.sack_ranges ≢ 0) × (IsTrue v.sack_permitted ⊎ (v.ack_number ≡ None))

-- the sequence number has 32 bits
abbrev pub IsSeq : TcpSeqNumber → Type 0
IsSeq s = FitsSigned w32 s.0

-- each number is in the range of its type, and the array of ranges has the right length
pub record IsInRange (v : TcpHeader) : Type 0 where
  pub src_port : v.src_port < 2 ^ 16
  pub dst_port : v.dst_port < 2 ^ 16
  pub seq_number : IsSeq v.seq_number
  pub ack_number : IfSome v.ack_number IsSeq
  pub window_len : v.window_len < 2 ^ 16
  pub window_scale : IfSome v.window_scale (λ n. n < 2 ^ 8)
  pub max_seg_size : IfSome v.max_seg_size (λ n. n < 2 ^ 16)
  pub places : length v.sack_ranges ≡ SACK_BLOCKS
  pub sack_ranges : AllByRecursion (λ r. IfSome r (λ r. (r.0 < 2 ^ 32) × (r.1 < 2 ^ 32))) v.sack_ranges
  pub timestamp : IfSome v.timestamp (λ t. (t.tsval < 2 ^ 32) × (t.tsecr < 2 ^ 32))
