use Rattle.std.proofs.Common.{rules}
use mir.Syntax.{named}
use Rattle.wire_tcp.specs.TcpRepr.{header_of}
use Rattle.wire_tcp.proofs.TcpReadsBack.{reads_bytes_of}
use Rattle.wire_tcp.proofs.ValueInRange.{value_is_writable}
use Rattle.wire_tcp.proofs.laws.emit_reads_back_tcp.Goals as goal

pub returns : goal.returns
returns c =
    let writable = value_is_writable (record { mir = named 0; lft = c.lifetimes.0 }) c.args.value _ c.well_formed.0 c.requires.sender c.requires.receiver c.requires.header_len in
    reads_bytes_of (header_of c.args.value) c.args.src_addr c.args.dst_addr c.args.value.payload.now c.args.computed c.args.verified writable (search rules) (search rules) c.requires.checksum
