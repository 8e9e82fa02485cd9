-- Windows of sequence numbers (RFC 9293, sections 3.4 and 3.10.7.4).
-- Pinned by: `connection/figures`
use Rattle.std.specs.Prelude.{ℕ, ◌+◌, ◌-◌, ◌%◌, ◌==◌, ◌&&◌, ◌||◌, Bool, false, not, nat_lt, if◌then◌else◌}
use Rattle.tcp_stream.specs.Endpoint.{distance, is_earlier}

-- the next sequence number
abbrev pub after : ℕ → ℕ
after number = (number + 1) % 4294967296

-- whether RCV.NXT =< number < RCV.NXT+RCV.WND
abbrev pub is_inside : ℕ → ℕ → ℕ → Bool
is_inside next window number = nat_lt (distance number next) window

-- whether a segment of `len` numbers (SEG.LEN) is acceptable: the table of section 3.10.7.4
abbrev pub is_acceptable_at : ℕ → ℕ → ℕ → ℕ → Bool
is_acceptable_at next window number len =
    if len == 0
    then (if window == 0 then number == next else is_inside next window number)
    else (if window == 0 then false
    else is_inside next window number || is_inside next window ((number + (len - 1)) % 4294967296))

-- Whether the acknowledgement and the window of a segment of `len` numbers are taken in a synchronized state. Those of a segment of
-- no number are also taken at the right edge and one past it: a peer that probed a closed window has sent that number.
abbrev pub is_taken_at : ℕ → ℕ → ℕ → ℕ → Bool
is_taken_at next window number len =
    if len == 0 then nat_lt (distance number next) (window + 2) else is_acceptable_at next window number len

-- whether SND.UNA =< ack =< SND.NXT
abbrev pub is_of_sent : ℕ → ℕ → ℕ → Bool
is_of_sent una next ack = not (nat_lt (distance next una) (distance ack una))

-- whether a segment is as new as the one that the window is from: SND.WL1 < SEG.SEQ, or SND.WL1 = SEG.SEQ and SND.WL2 =< SEG.ACK
abbrev pub is_newer : ℕ → ℕ → ℕ → ℕ → Bool
is_newer wl1 wl2 number ack = is_earlier wl1 number || (wl1 == number && not (is_earlier ack wl2))
