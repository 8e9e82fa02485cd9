use Rattle.std.proofs.Common.{◌≡◌, ◌≤◌, ◌<◌, ◌++◌, None, drop, length, refl, rules}
use Rattle.c_write.proofs.Framed.{framed-none, framed-short, framed-some}
use Rattle.c_icmp.specs.Neighbours.{ndisc_packet}
use Rattle.c_icmp.proofs.neighbours.emit_ndisc_frame.Goals as goal

pub returns-in_err-out : goal.returns-in_err-out
returns-in_err-out c =
    let f = c.args.frame.now in
    let old = c.args.out.now in
    let src : length f.ethernet.src ≡ 6 = search rules in
    let dst : length f.ethernet.dst ≡ 6 = search rules in
    let none : c.from_residual.result ≡ None = search rules in
    let short : length old < 14 = search rules in
    rw none (framed-short f (ndisc_packet f c.args.ndisc.now) old src dst short)

pub returns-in_err-len : goal.returns-in_err-len
returns-in_err-len c =
    let f = c.args.frame.now in
    let old = c.args.out.now in
    let src : length f.ethernet.src ≡ 6 = search rules in
    let dst : length f.ethernet.dst ≡ 6 = search rules in
    let none : c.from_residual-in_err-len.result ≡ None = search rules in
    let rest : c.in_ok-out.packet.now ≡ drop 14 old = search rules in
    let size : length c.in_ok-out.link.now ≡ 14 = search rules in
    let whole : c.in_ok-out.link.now ++ drop 14 old ≡ old = search rules in
    rw none (framed-none f (ndisc_packet f c.args.ndisc.now) old c.in_ok-out.link.now (drop 14 old) c.emit_ndisc_packet.new.out src dst size whole
    (rw (rest, c.in_err-len.was) at c.emit_ndisc_packet.ensures))

pub returns : goal.returns
returns c =
    let f = c.args.frame.now in
    let old = c.args.out.now in
    let rest : c.in_ok-out.packet.now ≡ drop 14 old = search rules in
    let room : 14 ≤ length old = search rules in
    let size : length c.emit_link.new.out ≡ 14 = search rules in
    rw c.emit_link.ensures.len (framed-some f (ndisc_packet f c.args.ndisc.now) old (drop 14 old) c.emit_ndisc_packet.new.out c.emit_link.new.out c.in_ok-len.len c.emit_link.ensures.header
    size room refl (rw (rest, c.in_ok-len.was) at c.emit_ndisc_packet.ensures))
