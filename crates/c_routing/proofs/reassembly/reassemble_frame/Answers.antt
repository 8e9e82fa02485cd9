use Rattle.std.proofs.Common.{◌∙◌, arith, length, rules, sym}
use Rattle.std.proofs.lemmas.List.{length-take-le}
use Rattle.c_routing.proofs.Reassembling.{arrives, carries-long, usable-small}
use Rattle.c_routing.proofs.Tables.{parts, stays-beyond}
use Rattle.c_routing.proofs.reassembly.reassemble_frame.Goals as goal

pub reassemble_packet-requires-clause-header : goal.reassemble_packet-requires-clause-header
reassemble_packet-requires-clause-header c = carries-long c.within-frame.result.now (sym c.carries_ip.ensures ∙ c.if-not-carries_ip.false)

pub reassemble_packet-requires-clause-room : goal.reassemble_packet-requires-clause-room
reassemble_packet-requires-clause-room c =
    omega (arith, length-take-le c.usable-cap.result c.args.out.now c.usable-cap.ensures.no_longer, c.usable-cap.ensures.value, usable-small (length c.args.out.now))

pub returns-clause-reassembles : goal.returns-clause-reassembles
returns-clause-reassembles c =
    arrives c.args.partials.now c.reassemble_packet.new.partials c.args.memory.now c.reassemble_packet.new.memory c.args.out.now c.reassemble_packet.new.out
    c.usable-count.result c.usable-len.result c.usable-cap.result c.args.now c.within-frame.result.now _ c.carries_ip.result c.reassemble_packet.result _
    c.usable-count.ensures.value (search rules) c.usable-len.ensures.value (search rules) c.usable-cap.ensures.value (search rules)
    c.within-frame.ensures.value c.if-not-carries_ip.false c.carries_ip.ensures (search rules) c.reassemble_packet.ensures

pub returns-clause-partials_beyond : goal.returns-clause-partials_beyond
returns-clause-partials_beyond c = stays-beyond c.args.partials.now c.reassemble_packet.new.partials _ c.usable-count.result
    (parts c.args.partials.now c.reassemble_packet.new.partials c.usable-count.result c.usable-count.ensures.value (search rules))

pub returns-clause-memory_beyond : goal.returns-clause-memory_beyond
returns-clause-memory_beyond c = stays-beyond c.args.memory.now c.reassemble_packet.new.memory _ c.usable-len.result
    (parts c.args.memory.now c.reassemble_packet.new.memory c.usable-len.result c.usable-len.ensures.value (search rules))

pub returns-clause-out_beyond : goal.returns-clause-out_beyond
returns-clause-out_beyond c = stays-beyond c.args.out.now c.reassemble_packet.new.out _ c.usable-cap.result
    (parts c.args.out.now c.reassemble_packet.new.out c.usable-cap.result c.usable-cap.ensures.value (search rules))
