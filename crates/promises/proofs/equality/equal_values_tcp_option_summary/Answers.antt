use Rattle.std.proofs.Common.{ap}
use Rattle.std.specs.Cmp.{booleans_Decides, unsigned_Decides}
use Rattle.std.specs.Cmp.Lexicographic.{pointwise_decides}
use Rattle.std.proofs.lemmas.Bool.Decides.{Decides-at, Decides-like}
use Rattle.ip_wire.specs.declared.TcpOptionSummary.{TcpOptionSummary}
use Rattle.promises.proofs.Equal.{also, options, pairs}
use Rattle.promises.proofs.equality.equal_values_tcp_option_summary.Goals as goal

pub returns : goal.returns
returns c =
    let a = c.args.a.now in
    let b = c.args.b.now in
    let numbers = options unsigned_Decides in
    let ranges = options (pairs unsigned_Decides unsigned_Decides) in
    let last = also (pointwise_decides ranges a.sack_ranges b.sack_ranges) (ranges a.timestamp b.timestamp) in
    let all = also (numbers a.max_segment_size b.max_segment_size) (also (numbers a.window_scale b.window_scale) (also (booleans_Decides a.sack_permitted b.sack_permitted) last)) in
    let same = Decides-like
    _
    (λ e. let (size, (scale, (permitted, (sack, stamp)))) = e in λ i. record { max_segment_size = size i; window_scale = scale i; sack_permitted = permitted i; sack_ranges = sack i; timestamp = stamp i })
    (λ is. (ap (λ (v : TcpOptionSummary). v.max_segment_size) is, (ap (λ (v : TcpOptionSummary). v.window_scale) is, (ap (λ (v : TcpOptionSummary). v.sack_permitted) is, (ap (λ (v : TcpOptionSummary). v.sack_ranges) is, ap (λ (v : TcpOptionSummary). v.timestamp) is)))))
    all
    in
    Decides-at _ _ c.eq.ensures same
