use Rattle.std.proofs.Common.{◌≡◌, ◌+◌, ◌==◌, ◌++◌, ◌∷◌, [], drop, length, inl, refl, sym, ap, subst, ◌∙◌, arith}
use Rattle.std.proofs.lemmas.Option.{IfSome_then}
use Rattle.ip_wire.proofs.ByteLists.{AreBytes-take}
use Rattle.app_fragment.specs.Datagram.{IsWhole, whole_bytes}
use Rattle.app_fragment.specs.Parts.{counted_len, ecn_of, fragment_of, header_of, key_of, part_header_len, whole_header_len}
use Rattle.app_fragment.proofs.Collected.{IfSome_both}
use Rattle.app_fragment.proofs.Made.{alone, is_whole, or_false}
use Rattle.app_fragment.proofs.Versions.{header-lens, laid, length-header}
use Rattle.app_fragment.proofs.datagram.write_alone.Goals as goal

pub returns-in_default-clause-none : goal.returns-in_default-clause-none
returns-in_default-clause-none c = λ e valid first last.
    absurd (c.part_of.ensures.none c.in_default.is (key_of c.args.packet.now) (record { valid = valid; same = refl }))

pub write_whole-requires-clause-header : goal.write_whole-requires-clause-header
write_whole-requires-clause-header c =
    let r = c.in-Some.ensures.reads in
    let is = laid c.args.packet.now r.valid.valid in
    subst (λ h. part_header_len h ≡ length h) (sym r.header) ((header-lens c.args.packet.now is).start ∙ sym (length-header c.args.packet.now is))

pub write_whole-requires-clause-small : goal.write_whole-requires-clause-small
write_whole-requires-clause-small c =
    let r = c.in-Some.ensures.reads in
    let is = laid c.args.packet.now r.valid.valid in
    omega (arith, ap counted_len r.header, (header-lens c.args.packet.now is).counted, ap (λ f. length f.bytes) r.fragment, is.small)

pub returns-clause-bytes : goal.returns-clause-bytes
returns-clause-bytes c =
    let r = c.in-Some.ensures.reads in
    IfSome_then c.write_whole.result c.write_whole.ensures.bytes (λ len e.
    e ∙ λ i. whole_bytes (r.header i) (r.fragment i).bytes (r.ecn i == 3) ++ drop len c.args.out.now)

pub returns-clause-none : goal.returns-clause-none
returns-clause-none c = λ e valid first last.
    let r = c.in-Some.ensures.reads in
    let is = laid c.args.packet.now r.valid.valid in
    omega (arith, c.write_whole.ensures.none e, ap whole_header_len r.header, (header-lens c.args.packet.now is).whole, ap (λ f. length f.bytes) r.fragment)

pub returns-clause-whole : goal.returns-clause-whole
returns-clause-whole c =
    let p = c.args.packet.now in
    let r = c.in-Some.ensures.reads in
    let is = laid c.args.packet.now r.valid.valid in
    let only = c.is_whole.ensures.0 c.if-not-is_whole.false in
    let first = sym (ap (λ f. f.first) r.fragment) ∙ only.0 in
    let last = sym (ap (λ f. f.more) r.fragment) ∙ only.1 in
    IfSome_then c.write_whole.result (IfSome_both c.write_whole.result _ _ (returns-clause-bytes c) c.write_whole.ensures.len) (λ len w.
    subst (IsWhole (key_of p) (p ∷ []) len) (sym w.0)
    (is_whole (key_of p) (header_of p) (fragment_of p).bytes (drop len c.args.out.now) (p ∷ []) (ecn_of p == 3) len (AreBytes-take (part_header_len p) p c.bytes_fit.ensures)
    (omega (arith, (header-lens c.args.packet.now is).counted, is.small)) (sym (w.1 ∙ λ i. whole_header_len (r.header i) + length (r.fragment i).bytes)) (or_false (ecn_of p == 3))
    (record { valid = r.valid.valid; same = refl }, tt) (inl (first, refl)) (alone (fragment_of p) first last)))
