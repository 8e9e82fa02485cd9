use Rattle.std.proofs.Common.{◌≡◌, List, ℕ, Some, subst, rules}
use Rattle.ip_wire.specs.Tcp.{packet_bytes_mut}
use Rattle.ip_wire.specs.TcpRepr.{Reads}
use Rattle.app_short.proofs.mss_clamp.clamp.Goals as goal

pub returns-then-not-is_above-clause-lowered : goal.returns-then-not-is_above-clause-lowered
returns-then-not-is_above-clause-lowered c src dst verified v payload s d r above =
    let yes = (c.is_above.ensures.value src dst verified v payload r).1 above in
    absurd (cc)

pub returns-clause-lowered : goal.returns-clause-lowered
returns-clause-lowered c src dst verified v payload s d r above =
    let view : packet_bytes_mut c.new_unchecked-packet.result ≡ c.args.segment.now = search rules in
    let lowered = rw above.sized at ((rw view at c.update_max_seg_size.ensures.reads) src dst verified v payload s d r).1 in
    subst (λ (l : List ℕ). Reads l src dst verified (record v { max_seg_size = Some c.args.limit }) payload) (search rules) lowered
