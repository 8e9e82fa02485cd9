use Rattle.std.proofs.Common.{ap}
use Rattle.std.specs.Cmp.{booleans_Decides, unsigned_Decides}
use Rattle.std.specs.Cmp.Lexicographic.{pointwise_decides}
use Rattle.std.proofs.lemmas.Bool.Decides.{Decides-like}
use Rattle.ip_wire.specs.TcpRepr.{TcpHeader}
use Rattle.promises.proofs.Equal.{also, options, pairs}
use Rattle.promises.proofs.equality.comparisons.segments.Goals as goal

pub returns : goal.returns
returns c a b =
    let is = c.eq_is_equality.ensures in
    let number = unsigned_Decides in
    let numbers = options number in
    let ranges = options (pairs number number) in
    let sack = pointwise_decides ranges a.sack_ranges b.sack_ranges in
    let last = also (options is.tcp_timestamp a.timestamp b.timestamp) (pointwise_decides number a.payload.now b.payload.now) in
    let later = also (numbers a.window_scale b.window_scale) (also (numbers a.max_seg_size b.max_seg_size) (also (booleans_Decides a.sack_permitted b.sack_permitted) (also sack last))) in
    let middle = also (options is.tcp_seq_number a.ack_number b.ack_number) (also (number a.window_len b.window_len) later) in
    let all = also (number a.src_port b.src_port) (also (number a.dst_port b.dst_port) (also (is.tcp_control a.control b.control) (also (is.tcp_seq_number a.seq_number b.seq_number) middle))) in
    Decides-like
    _
    (λ e. let (src_port, (dst_port, (control, (seq_number, (ack_number, (window_len, (window_scale, (max_seg_size, (sack_permitted, (sack_ranges, (timestamp, payload))))))))))) = e in (
      λ i. record { src_port = src_port i; dst_port = dst_port i; control = control i; seq_number = seq_number i; ack_number = ack_number i; window_len = window_len i; window_scale = window_scale i; max_seg_size = max_seg_size i; sack_permitted = sack_permitted i; sack_ranges = sack_ranges i; timestamp = timestamp i },
      payload,
    ))
    (λ h. let of = h.0 in (ap (λ (v : TcpHeader). v.src_port) of, (ap (λ (v : TcpHeader). v.dst_port) of, (ap (λ (v : TcpHeader). v.control) of, (ap (λ (v : TcpHeader). v.seq_number) of, (ap (λ (v : TcpHeader). v.ack_number) of, (ap (λ (v : TcpHeader). v.window_len) of, (ap (λ (v : TcpHeader). v.window_scale) of, (ap (λ (v : TcpHeader). v.max_seg_size) of, (ap (λ (v : TcpHeader). v.sack_permitted) of, (ap (λ (v : TcpHeader). v.sack_ranges) of, (ap (λ (v : TcpHeader). v.timestamp) of, h.1))))))))))))
    all
