use Rattle.std.proofs.Common.{◌≡◌, ◌+◌, ◌-◌, ◌++◌, drop, length, take, rules, sym, ap, subst, ◌∙◌, arith}
use Rattle.std.proofs.lemmas.List.{length-take-le}
use Rattle.app_fragment.specs.Datagram.{IsFirstWritten, OnePacket}
use Rattle.app_fragment.proofs.Collected.{first_missing, first_written}
use Rattle.app_fragment.proofs.Versions.{low}
use Rattle.app_fragment.proofs.datagram.Datagram.write_first.Goals as goal
use Rattle.app_fragment.proofs.datagram.Datagram.write_first.Goals.{then-start-lt-IPV4_HEADER_LEN-via-then-start-lt-IPV4_HEADER_LEN, then-start-lt-IPV4_HEADER_LEN-via-else-start-lt-IPV4_HEADER_LEN+then-len-start, then-start-lt-IPV4_HEADER_LEN-via-else-start-lt-IPV4_HEADER_LEN+else-len-start+then-len-start-2, then-start-lt-IPV4_HEADER_LEN-via-else-start-lt-IPV4_HEADER_LEN+else-len-start+else-len-start-2+then-out-len}

pub returns-then-start-lt-IPV4_HEADER_LEN-clause-missing : goal.returns-then-start-lt-IPV4_HEADER_LEN-clause-missing
returns-then-start-lt-IPV4_HEADER_LEN-clause-missing c = λ e received ps h.
    let long : length c.args.self.now.header ≡ 60 = search rules in
    first_missing c.args.self.now c.args.buffer.now received ps c.part_header_len-start.result c.packet_len-len.result (length c.args.out.now) long
    c.part_header_len-start.ensures c.packet_len-len.ensures
    (λ a b k. elim c.then-start-lt-IPV4_HEADER_LEN.branch [
      | then-start-lt-IPV4_HEADER_LEN-via-then-start-lt-IPV4_HEADER_LEN w ↦ absurd (omega (arith, a))
      | then-start-lt-IPV4_HEADER_LEN-via-else-start-lt-IPV4_HEADER_LEN+then-len-start w ↦ absurd (omega (arith, b))
      | then-start-lt-IPV4_HEADER_LEN-via-else-start-lt-IPV4_HEADER_LEN+else-len-start+then-len-start-2 w ↦ absurd (omega (arith, k))
      | then-start-lt-IPV4_HEADER_LEN-via-else-start-lt-IPV4_HEADER_LEN+else-len-start+else-len-start-2+then-out-len w ↦ omega arith
    ]) h

pub returns-clause-first : goal.returns-clause-first
returns-clause-first c = λ received ps h.
    let d = c.args.self.now in
    let long : length c.args.self.now.header ≡ 60 = search rules in
    let start = c.part_header_len-start.result in
    let len = c.packet_len-len.result in
    let one : length (take c.part_header_len-start.result c.args.self.now.header) ≡ c.part_header_len-start.result =
    length-take-le c.part_header_len-start.result c.args.self.now.header (omega (arith, c.part_header_len-start.ensures, low c.args.self.now.header, long)) in
    let two : length (take (c.packet_len-len.result - c.part_header_len-start.result) c.args.buffer.now) ≡ c.packet_len-len.result - c.part_header_len-start.result =
    length-take-le (c.packet_len-len.result - c.part_header_len-start.result) c.args.buffer.now c.if-len-start-2.false in
    let all : length (take c.part_header_len-start.result c.args.self.now.header) + length (take (c.packet_len-len.result - c.part_header_len-start.result) c.args.buffer.now) ≡ c.packet_len-len.result =
    omega (arith, one, two, c.if-len-start.false) in
    let written = c.write_joined.ensures ∙ ap (λ n. (take start d.header ++ take (len - start) c.args.buffer.now) ++ drop n c.args.out.now) all in
    subst (λ o. OnePacket (IsFirstWritten len o c.args.out.now) ps) (sym written)
    (first_written d c.args.buffer.now received c.args.out.now ps start len long c.part_header_len-start.ensures c.packet_len-len.ensures c.if-start-lt-IPV4_HEADER_LEN.false h)
