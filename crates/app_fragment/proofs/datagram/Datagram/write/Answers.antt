use Rattle.std.proofs.Common.{◌≡◌, ◌≤◌, ◌+◌, ◌++◌, not, eqb, length, drop, take, rules, refl, sym, subst, ap, arith, ◌∙◌}
use Rattle.std.proofs.lemmas.List.{length-take-le}
use Rattle.std.proofs.lemmas.Option.{IfSome_then}
use Rattle.ip_wire.proofs.ByteLists.{AreBytes-take}
use Rattle.app_fragment.specs.Datagram.{IsWhole, has_ecn, stored_header, whole_bytes}
use Rattle.app_fragment.specs.Parts.{part_header_len, whole_header_len}
use Rattle.app_fragment.proofs.Collected.{IfSome_both, is_ce, length_is, some_header, stored_len}
use Rattle.app_fragment.proofs.Made.{is_whole}
use Rattle.app_fragment.proofs.datagram.Datagram.write.Goals as goal

pub returns-then-not-is_complete-clause-missing : goal.returns-then-not-is_complete-clause-missing
returns-then-not-is_complete-clause-missing c = λ e ps h payload m. absurd (c.if-not-is_complete.ensures.missing refl ps h payload m)

pub returns-clause-bytes : goal.returns-clause-bytes
returns-clause-bytes c =
    IfSome_then c.write_whole.result c.write_whole.ensures.bytes (λ len e.
    e ∙ ap (λ n. whole_bytes (take n c.args.self.now.header) (take c.args.self.now.ends.len c.args.buffer.now) (not (eqb c.args.self.now.ce 0)) ++ drop len c.args.out.now) c.part_header_len.ensures)

pub returns-clause-missing : goal.returns-clause-missing
returns-clause-missing c = λ e ps h payload m.
    let long : length c.args.self.now.header ≡ 60 = search rules in
    let least : 20 ≤ part_header_len c.args.self.now.header = c.if-not-is_complete.ensures.header refl in
    let inside : c.args.self.now.ends.len ≤ length c.args.buffer.now = c.if-not-is_complete.ensures.within refl in
    let part : length (take c.args.self.now.ends.len c.args.buffer.now) ≡ c.args.self.now.ends.len = length-take-le c.args.self.now.ends.len c.args.buffer.now inside in
    let same = length_is c.args.self.now c.args.buffer.now c.args.received.now ps payload h m in
    let start : whole_header_len (take c.part_header_len.result c.args.self.now.header) ≡ whole_header_len c.args.self.now.header =
    ap (λ n. whole_header_len (take n c.args.self.now.header)) c.part_header_len.ensures ∙ (stored_len c.args.self.now.header long least).whole in
    omega (arith, c.write_whole.ensures.none e, start, part, same)

pub returns-clause-whole : goal.returns-clause-whole
returns-clause-whole c =
    IfSome_then c.write_whole.result (IfSome_both c.write_whole.result _ _ (returns-clause-bytes c) c.write_whole.ensures.len) (λ len w ps h.
    let d = c.args.self.now in
    let payload = take d.ends.len c.args.buffer.now in
    let long : length c.args.self.now.header ≡ 60 = search rules in
    let least : 20 ≤ part_header_len c.args.self.now.header = c.if-not-is_complete.ensures.header refl in
    let inside : c.args.self.now.ends.len ≤ length c.args.buffer.now = c.if-not-is_complete.ensures.within refl in
    let make = c.if-not-is_complete.ensures.make refl ps h in
    let part : length (take c.args.self.now.ends.len c.args.buffer.now) ≡ c.args.self.now.ends.len = length-take-le c.args.self.now.ends.len c.args.buffer.now inside in
    let stored = stored_len c.args.self.now.header long least in
    let start : whole_header_len (take c.part_header_len.result c.args.self.now.header) ≡ whole_header_len (stored_header c.args.self.now.header) =
    ap (λ n. whole_header_len (take n c.args.self.now.header)) c.part_header_len.ensures in
    subst (IsWhole d.key ps len) (sym w.0)
    (is_whole d.key (stored_header d.header) payload (drop len c.args.out.now) ps (not (eqb d.ce 0)) len (AreBytes-take (part_header_len d.header) d.header c.bytes_fit.ensures)
    (omega (arith, stored.counted, part, c.if-not-is_complete.ensures.fits refl)) (sym (w.1 ∙ ap (λ n. n + length payload) start)) (is_ce d.ce (has_ecn 3 ps) h.ce)
    h.all (some_header d c.args.buffer.now c.args.received.now ps payload h make) make))
