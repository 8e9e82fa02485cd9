use Rattle.wire_tcp.specs.TcpRepr.{header_of}
use Rattle.wire_tcp.proofs.OptionsBack.{twice}
use Rattle.wire_tcp.proofs.TcpForms.{idle-shorter, normal_or_idle}
use Rattle.wire_tcp.proofs.laws.normal_twice_tcp.Goals as goal

pub returns-clause-twice : goal.returns-clause-twice
returns-clause-twice c = twice (header_of c.args.value)

pub returns-clause-read : goal.returns-clause-read
returns-clause-read c = normal_or_idle c.args.src_addr c.args.dst_addr c.args.verified c.args.bytes.now c.args.value.payload.now (header_of c.args.value)

pub returns-clause-idle : goal.returns-clause-idle
returns-clause-idle c = idle-shorter (header_of c.args.value)
