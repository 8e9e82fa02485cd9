-- Sequence numbers, modulo 2 ^ 32 (RFC 9293, section 3.4).
-- Pinned by: `wire/tcp`, `tests/frames/field_lines.py`
use Rattle.std.specs.Prelude.{ℕ, ◌+◌, ◌-◌, ◌%◌, ◌^◌, ◌<◌, ◌≤◌}
use Rattle.std.specs.Int.{cast_unsigned, w32}
use Rattle.wire_tcp_options.specs.declared.tcp.control.TcpControl.{TcpControl}
use Rattle.wire_tcp_options.specs.declared.tcp.control.TcpControl.TheVariants as control
use Rattle.wire_tcp_options.specs.declared.tcp.seq_number.TcpSeqNumber.{TcpSeqNumber}

-- the sequence number as a number in 0 .. 2 ^ 32 - 1
abbrev pub number : TcpSeqNumber → ℕ
number s = cast_unsigned w32 s.0

-- the distance forward from b to a: a - b, modulo 2 ^ 32
abbrev pub distance : TcpSeqNumber → TcpSeqNumber → ℕ
distance a b = (number a + (2 ^ 32 - number b)) % 2 ^ 32

-- a is before b: the way back from b to a is the shorter one; half the circle apart each is before the other
abbrev pub IsBefore : TcpSeqNumber → TcpSeqNumber → Type 0
IsBefore a b = 2 ^ 31 ≤ distance a b

-- a is after b: the way forward from b to a is the shorter one
abbrev pub IsAfter : TcpSeqNumber → TcpSeqNumber → Type 0
IsAfter a b = (0 < distance a b) × (distance a b < 2 ^ 31)

-- the number of sequence numbers that a control uses: 1 for SYN and FIN, else 0
abbrev pub control_len : TcpControl → ℕ
control_len control.Syn = 1
control_len control.Fin = 1
control_len _ = 0
