use Rattle.std.proofs.Common.{◌≡◌, ℕ, ◌+◌, ◌≤◌, List, [], ◌++◌, append-nil, arith, drop, length, rules, take}
use Rattle.std.proofs.lemmas.Grind.{common_steps}
use Rattle.net_base.specs.Checksum.{computes}
use Rattle.wire_tcp.specs.Tcp.{packet_bytes_mut}
use Rattle.wire_tcp.specs.TcpRepr.{bytes_of, header_len_of, header_of}
use Rattle.wire_tcp.proofs.tcp.repr.TcpRepr.try_emit.Goals as goal
use Rattle.std.proofs.lemmas.Bool.Decides.{nat_tests}

-- what is written into a part that it fills is at the front of the slice, whatever follows it
filled : (bytes : List ℕ → List ℕ) (old front written rest : List ℕ) (len : ℕ) → len ≤ length old → front ≡ written
    → written ≡ bytes (drop len (take len old)) ++ drop len (take len old) → rest ≡ drop len old → front ++ rest ≡ bytes [] ++ drop len old
filled bytes old front written rest len room is single following = grind (arith, common_steps, nat_tests, append-nil)

pub returns : goal.returns
returns c =
    let v = header_of c.args.self.now in
    let payload = c.args.self.now.payload.now in
    let src = c.args.src_addr.now in
    let dst = c.args.dst_addr.now in
    let old = c.args.out.now in
    let len = c.buffer_len-len.result in
    let room : len ≤ length old = search rules in
    let size : len ≡ header_len_of v + length payload = search rules in
    let slice : packet_bytes_mut c.new_unchecked-packet.result ≡ take len old = search rules in
    let written = rw (slice, ← size) at c.emit.ensures.holds in (
      size,
      room,
      filled (λ rest. bytes_of v payload src dst (computes c.args.caps.now.tcp) rest) old _ c.emit.new.packet.buffer.now
          c.in_ok-out.field-0-1.now len room (search rules) written (search rules),
    )
