use Rattle.std.proofs.Common.{rules}
use mir.Syntax.{named}
use Rattle.wire_tcp.specs.TcpRepr.{header_of}
use Rattle.wire_tcp.proofs.OptionLens.{header_len-read}
use Rattle.wire_tcp.proofs.TcpReadsBack.{header_len-bytes_of, reads-normal}
use Rattle.wire_tcp.proofs.ValueInRange.{value_is_writable}
use Rattle.wire_tcp.proofs.laws.shortest_header.Goals as goal

pub returns-clause-read : goal.returns-clause-read
returns-clause-read c =
    let writable = value_is_writable (record { mir = named 0; lft = c.lifetimes.0 }) c.args.value _ c.well_formed.0 c.requires.sender c.requires.receiver c.requires.header_len in (
      reads-normal (header_of c.args.value) c.args.src_addr c.args.dst_addr c.args.value.payload.now c.args.computed c.args.verified c.requires.normal writable (search rules) (search rules) c.requires.checksum,
      header_len-bytes_of (header_of c.args.value) c.args.src_addr c.args.dst_addr c.args.value.payload.now c.args.computed c.requires.header_len,
    )

pub returns-clause-least : goal.returns-clause-least
returns-clause-least c = λ bytes payload src dst checked r. header_len-read src dst checked bytes payload (header_of c.args.value) r
