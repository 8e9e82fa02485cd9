use Rattle.std.proofs.Common.{◌≡◌, ◌-◌, ◌∙◌, ap, length, sym}
use borrow.Rule.Slice.PartMut.{mid_of, put_mid}
use Rattle.c_routing.proofs.Clampings.{header-read, packet-bytes, packet-clamped, payload-range, range-order}
use Rattle.app_edit.proofs.Layouts.{placed}
use Rattle.app_edit.specs.Layout.{layout_of, with_payload}
use Rattle.app_edit.specs.declared.layout.Layout.{Layout}
use Rattle.ip_wire.specs.Frame.{packet_payload}
use Rattle.ip_wire.specs.Ip.{version_of}
use Rattle.ip_wire.specs.declared.Checksum.TheVariants as checksum
use Rattle.c_routing.proofs.clamping.clamp_packet.Goals as goal

laid : (c : goal.After-slice_known-2-1) → c.of-layout.result ≡ layout_of (version_of c.args.header.now) c.args.packet.now
laid c = c.of-layout.ensures ∙ ap (λ v. layout_of v c.args.packet.now) c.version.ensures

-- the slice that is clamped is the payload of the packet
segment : (c : goal.After-slice_known-2-1) → mid_of c.of-layout.result.start (c.of-layout.result.end - c.of-layout.result.start) c.args.packet.now ≡ packet_payload c.args.header.now c.args.packet.now
segment c = ap (λ (l : Layout). mid_of l.start (l.end - l.start) c.args.packet.now) (laid c) ∙ sym (payload-range c.args.packet.now c.args.header.now)

-- the packet has it in the place of its payload
joined : (c : goal.After-slice_known-2-1)
    → put_mid c.of-layout.result.start (c.of-layout.result.end - c.of-layout.result.start) c.args.packet.now c.clamp_segment.new.segment
    ≡ with_payload (version_of c.args.header.now) c.args.packet.now c.clamp_segment.new.segment
joined c =
    let bytes = c.args.packet.now in
    let header = c.args.header.now in
    placed c.of-layout.result (version_of header) bytes c.clamp_segment.new.segment (laid c) (range-order bytes header (header-read checksum.None bytes header c.requires.2.0))

pub returns-clause-when : goal.returns-clause-when
returns-clause-when c v payload r =
    (rw (segment c) at c.clamp_segment.ensures.when) v payload r.1.1

pub returns-clause-after : goal.returns-clause-after
returns-clause-after c choice v payload said above r =
    packet-clamped c.args.offload choice c.args.packet.now c.clamp_segment.new.segment _ c.args.header.now v payload c.args.limit (joined c)
    (c.clamp_segment.auto.segment ∙ ap length (segment c)) (λ verified told s d q. (rw (segment c) at c.clamp_segment.ensures.lowered) verified v payload told s d q above) said r

pub returns-clause-bytes : goal.returns-clause-bytes
returns-clause-bytes c =
    joined c
    ∙ packet-bytes c.args.offload c.args.header.now c.args.packet.now c.clamp_segment.new.segment c.args.limit c.clamp_segment.result
    (header-read checksum.None c.args.packet.now c.args.header.now c.requires.2.0) (rw (segment c) at c.clamp_segment.ensures.bytes)
