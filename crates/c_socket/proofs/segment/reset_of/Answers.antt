use Rattle.std.proofs.Common.{◌∙◌, ap}
use Rattle.wire_tcp_options.specs.declared.tcp.summary.TcpOptionSummary.{TcpOptionSummary}
use Rattle.c_socket.specs.Segments.{fields_of}
use Rattle.c_socket.proofs.segment.reset_of.Goals as goal

pub returns : goal.returns
returns c = λ rst.
    let segment = c.reset_segment-segment in (
      segment.result,
      segment.ensures ∙ rst,
      c.fields_of.ensures ∙ ap (λ (o : TcpOptionSummary). fields_of segment.result (record { window = 0; options = o })) c.default.ensures,
    )
