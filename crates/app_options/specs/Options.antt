-- What both SYNs of a connection agree on, and the options of each segment.
-- Pinned by: `options/options`
use Rattle.std.specs.Prelude.{ℕ, ◌+◌, ◌-◌, ◌*◌, ◌/◌, Bool, true, false, ◌&&◌, if◌then◌else◌, Option, Some, None, is_some, option_map, unwrap_or, List, replicate, min, max}
use Rattle.wire_tcp_options.specs.declared.tcp.summary.TcpOptionSummary.{TcpOptionSummary}
use Rattle.app_options.specs.declared.agreed.Agreed.{Agreed}
use Rattle.app_options.specs.Timestamps.{echoes, heard, stamp}
use Rattle.app_options.specs.Windows.{field_of, scale_of, window_of}

-- The largest segment that a peer takes: its MSS option, or 536 (RFC 9293, section 3.7.1). Less than 48 counts as 48.
abbrev pub peer_mss : TcpOptionSummary → ℕ
peer_mss options = max 48 (unwrap_or options.max_segment_size 536)

-- nothing is agreed on; the timestamp clock begins at the offset
abbrev pub nothing : ℕ → Agreed
nothing offset = record { offset = offset; peer_scale = None; has_sack = false; recent = None }

-- the SYN of the peer came
abbrev pub agreed_on : Agreed → TcpOptionSummary → ℕ → Agreed
agreed_on a syn now = record a {
  peer_scale = syn.window_scale;
  has_sack = syn.sack_permitted;
  recent = heard syn.timestamp now;
}

-- The options of a SYN without ACK: it offers all. TSecr is 0 (RFC 7323, section 3.2).
abbrev pub offer : Agreed → ℕ → ℕ → ℕ → TcpOptionSummary
offer a mss size now = record {
  max_segment_size = Some mss;
  window_scale = Some (scale_of size);
  sack_permitted = true;
  sack_ranges = replicate 4 None;
  timestamp = Some (stamp a.offset now, 0);
}

-- The options of a SYN with ACK: what the SYN that it answers had (RFC 7323, sections 2.2 and 3.2; RFC 2018, section 2).
abbrev pub answer : Agreed → ℕ → ℕ → ℕ → TcpOptionSummary
answer a mss size now = record {
  max_segment_size = Some mss;
  window_scale = option_map (λ _. scale_of size) a.peer_scale;
  sack_permitted = a.has_sack;
  sack_ranges = replicate 4 None;
  timestamp = echoes a.recent a.offset now;
}

-- the options of a SYN, which answers one or not
abbrev pub of_syn : Agreed → ℕ → ℕ → ℕ → Bool → TcpOptionSummary
of_syn a mss size now is_answer = if is_answer then answer a mss size now else offer a mss size now

-- The options of a segment without SYN: SACK blocks for what is kept after gaps (RFC 2018, section 4), and a timestamp.
abbrev pub of_segment : Agreed → List (Option (ℕ × ℕ)) → ℕ → TcpOptionSummary
of_segment a kept now = record {
  max_segment_size = None;
  window_scale = None;
  sack_permitted = false;
  sack_ranges = if a.has_sack then kept else replicate 4 None;
  timestamp = echoes a.recent a.offset now;
}

-- The bytes of an option if it is there. A timestamp has 10 (RFC 7323, section 3.2), as has one SACK block (RFC 2018, section 3).
abbrev pub ten_if : Bool → ℕ
ten_if is_there = if is_there then 10 else 0

-- the bytes of options in a header, which is padded to 4 (RFC 9293, section 3.1)
abbrev pub padded : ℕ → ℕ
padded bytes = (bytes + 3) / 4 * 4

-- The text in a segment without SYN: its options count (RFC 6691, section 2). It is at least 8, if `mss` is as large.
abbrev pub text_limit : Agreed → ℕ → Bool → ℕ
text_limit a mss has_gap = min mss (max 8 (mss - padded (ten_if (is_some a.recent) + ten_if (a.has_sack && has_gap))))

-- the peer's window, by the field of a segment without SYN; a shift count above 14 counts as 14 (RFC 7323, section 2.3)
abbrev pub window_in : Agreed → ℕ → ℕ
window_in a field = window_of (min 14 (unwrap_or a.peer_scale 0)) field

-- the own shift count: windows are scaled if both SYNs have the option (RFC 7323, section 2.2)
abbrev pub own_scale : Agreed → ℕ → ℕ
own_scale a size = if is_some a.peer_scale then scale_of size else 0

-- the field of a segment without SYN for the own window
abbrev pub window_out : Agreed → ℕ → ℕ → ℕ
window_out a window size = field_of (own_scale a size) window
