-- The printed text of a value of a segment.
-- Pinned by: `wire/tcp_repr`
use Rattle.std.specs.Prelude.{ℕ, ◌++◌, List, [], Option, codes, decimal}
use Rattle.std.specs.Option.{option_map_or}
use Rattle.wire_tcp_options.specs.TcpSeq.{number}
use Rattle.wire_tcp_options.specs.declared.tcp.control.TcpControl.{TcpControl}
use Rattle.wire_tcp_options.specs.declared.tcp.control.TcpControl.TheVariants as control
use Rattle.wire_tcp_options.specs.declared.tcp.seq_number.TcpSeqNumber.{TcpSeqNumber}
use Rattle.wire_tcp.specs.TcpRepr.{TcpHeader}

-- the printed word for a control
abbrev pub control_text : TcpControl → List ℕ
control_text control.None = []
control_text control.Psh = codes " psh"
control_text control.Syn = codes " syn"
control_text control.Fin = codes " fin"
control_text control.Rst = codes " rst"

-- the printed text of the acknowledgement number, if there is one
abbrev pub ack_text : Option TcpSeqNumber → List ℕ
ack_text ack = option_map_or (λ n. codes " ack=" ++ decimal (number n)) ack []

-- the printed text of the maximum segment size, if there is one
abbrev pub size_text : Option ℕ → List ℕ
size_text size = option_map_or (λ n. codes " mss=" ++ decimal n) size []

-- the printed text of the ports, the control and the sequence number
unfoldable pub start_text : ℕ → ℕ → TcpControl → TcpSeqNumber → List ℕ
start_text src_port dst_port asked seq =
    codes "TCP src=" ++ decimal src_port ++ codes " dst=" ++ decimal dst_port ++ control_text asked ++ codes " seq=" ++ decimal (number seq)

-- the printed text of the window and the length of the payload
unfoldable pub flow_text : ℕ → ℕ → List ℕ
flow_text window_len payload_len = codes " win=" ++ decimal window_len ++ codes " len=" ++ decimal payload_len

-- the printed text of a value with a payload of this length
abbrev pub value_text : TcpHeader → ℕ → List ℕ
value_text v payload_len =
    start_text v.src_port v.dst_port v.control v.seq_number ++ ack_text v.ack_number ++ flow_text v.window_len payload_len ++ size_text v.max_seg_size
