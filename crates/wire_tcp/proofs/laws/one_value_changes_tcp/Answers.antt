use Rattle.std.proofs.Common.{false, rules}
use Rattle.wire_tcp.proofs.TcpChanged.{reads-ack, reads-ack_number, reads_checksum, reads-dst_port, reads-fin, reads-psh, reads-rst, reads-seq_number, reads-src_port, reads-syn, reads-unread, reads-window_len}
use Rattle.wire_tcp.specs.TcpRepr.{header_of}
use Rattle.wire_tcp.proofs.laws.one_value_changes_tcp.Goals as goal

pub returns : goal.returns
returns c =
    let bytes = c.args.bytes.now in
    let src = c.args.src_addr in
    let dst = c.args.dst_addr in
    let v = header_of c.args.value in
    let payload = c.args.value.payload.now in
    record {
      src_port = λ some. reads-src_port bytes c.args.word src dst false false v payload (search rules) some c.requires (λ no. cc);
      dst_port = λ some. reads-dst_port bytes c.args.word src dst false false v payload (search rules) some c.requires (λ no. cc);
      seq_number = reads-seq_number bytes c.args.number src dst v payload (search rules) c.requires;
      ack_number = reads-ack_number bytes c.args.number src dst v payload (search rules) c.requires;
      ack = reads-ack bytes c.args.on src dst v payload c.requires;
      psh = λ quiet. reads-psh bytes c.args.on src dst v payload quiet c.requires;
      rst = λ before. reads-rst bytes c.args.on src dst v payload before c.requires;
      syn = λ before. reads-syn bytes c.args.on src dst v payload before c.requires;
      fin = λ before. reads-fin bytes c.args.on src dst v payload before c.requires;
      window_len = reads-window_len bytes c.args.word src dst false false v payload (search rules) c.requires (λ no. cc);
      checksum = reads_checksum bytes c.args.word src dst src dst false false v payload c.requires (λ no. cc);
      unread = λ first width x some place. reads-unread bytes first width x src dst v payload (λ i. (c.type_inv.bytes i).fits) some place c.requires;
    }
