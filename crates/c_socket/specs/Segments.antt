-- TCP segments as the struct of C.
use Rattle.std.specs.Prelude.{ℕ, ◌≡◌, ◌+◌, ◌/◌, ◌%◌, ◌==◌, Bool, true, not, if◌then◌else◌, [], None, Some, is_some, length}
use Rattle.std.specs.Option.{unwrap_or}
use Rattle.app_connection.specs.declared.segment.Segment.{Segment}
use Rattle.app_socket.specs.declared.socket.Header.{Header}
use Rattle.wire_tcp_options.specs.TcpSummary.{summary_of}
use Rattle.c_socket.specs.Options.{options_of}
use Rattle.c_socket.specs.declared.segment.SegmentFields.{SegmentFields}

-- a flag of the header, or 0
abbrev pub bit : Bool → ℕ → ℕ
bit is_set value = if is_set then value else 0

-- the flags of a segment (RFC 9293, section 3.1); PSH with text
abbrev pub flags_of : Segment → ℕ
flags_of s =
    bit s.fin 1 + bit s.syn 2 + bit s.rst 4 + bit (not (length s.payload.now == 0)) 8 + bit (is_some s.ack) 16

-- the struct of a segment with this header
abbrev pub fields_of : Segment → Header → SegmentFields
fields_of s header = record {
  tcp = record {
    seq_number = s.number;
    ack_number = unwrap_or s.ack 0;
    window_len = header.window;
    urgent_at = 0;
    flags = flags_of s;
    header_len = 0;
  };
  options = options_of header.options;
  payload = s.payload;
}

-- the struct is of an RST (section 3.5.2), with window 0 and without options
abbrev pub IsReset : SegmentFields → Type 0
IsReset f =
    (segment : Segment) × (segment.rst ≡ true)
    × (f ≡ fields_of segment (record { window = 0; options = summary_of [] }))

-- whether the struct has a flag
abbrev pub has : SegmentFields → ℕ → Bool
has f value = f.tcp.flags / value % 2 == 1

-- the segment in the struct; its window is that in the header
abbrev pub segment_of : SegmentFields → Segment
segment_of f = record {
  number = f.tcp.seq_number;
  ack = if has f 16 then Some f.tcp.ack_number else None;
  window = f.tcp.window_len;
  syn = has f 2;
  rst = has f 4;
  fin = has f 1;
  payload = f.payload;
}
