use Rattle.std.proofs.Common.{ℕ, List, Some, refl, sym, subst, ap, ◌∙◌, rules}
use Rattle.std.specs.Option.{option_map}
use Rattle.net_base.proofs.Spelled.{AreBytes}
use Rattle.wire_tcp.specs.Tcp.{Becomes, Verifies, packet_bytes_mut}
use Rattle.wire_tcp.specs.TcpRepr.{Reads}
use Rattle.wire_tcp.proofs.TcpResized.{none_found, reads-resized, size_found, valid-resized, written_found}
use Rattle.wire_tcp.proofs.tcp.update.TcpPacketMut.update_max_seg_size.Goals as goal

pub returns-in-Some-clause-before : goal.returns-in-Some-clause-before
returns-in-Some-clause-before c =
    ap Some c.replace_size.ensures.before ∙ size_found (packet_bytes_mut c.args.self.now) c.in-Some.at c.requires.begins c.requires.ends (sym c.in-Some.ensures.value)

pub returns-in-Some-clause-value : goal.returns-in-Some-clause-value
returns-in-Some-clause-value c = subst (Becomes c.args.self.now c.replace_size.new.self) (written_found (packet_bytes_mut c.args.self.now) c.in-Some.at c.args.value (sym c.in-Some.ensures.value)) c.replace_size.ensures.value

pub returns-in-Some-clause-valid : goal.returns-in-Some-clause-valid
returns-in-Some-clause-valid c src dst s d valid =
    subst (Verifies src dst) (sym (returns-in-Some-clause-value c).holds)
    (valid-resized src dst (packet_bytes_mut c.args.self.now) c.args.value (subst AreBytes c.as_bytes.ensures c.bytes_fit.ensures) s d c.requires.begins c.requires.ends valid)

pub returns-in-Some-clause-reads : goal.returns-in-Some-clause-reads
returns-in-Some-clause-reads c src dst verified v payload s d r =
    let (size, after) = reads-resized src dst (packet_bytes_mut c.args.self.now) c.args.value verified v payload (subst AreBytes c.as_bytes.ensures c.bytes_fit.ensures) (search rules) s d r in (
      returns-in-Some-clause-before c ∙ size,
      subst (λ (l : List ℕ). Reads l src dst verified (record v { max_seg_size = option_map (λ size. c.args.value) v.max_seg_size }) payload) (sym (returns-in-Some-clause-value c).holds) after,
    )

pub returns-in-None-clause-before : goal.returns-in-None-clause-before
returns-in-None-clause-before c = (none_found (packet_bytes_mut c.args.self.now) c.args.value (sym c.in-None.ensures.value)).0

pub returns-in-None-clause-value : goal.returns-in-None-clause-value
returns-in-None-clause-value c = record { same_borrow = refl; same_length = refl; holds = (none_found (packet_bytes_mut c.args.self.now) c.args.value (sym c.in-None.ensures.value)).1 }

pub returns-in-None-clause-reads : goal.returns-in-None-clause-reads
returns-in-None-clause-reads c src dst verified v payload s d r =
    let (size, after) = reads-resized src dst (packet_bytes_mut c.args.self.now) c.args.value verified v payload (subst AreBytes c.as_bytes.ensures c.bytes_fit.ensures) (search rules) s d r in (
      returns-in-None-clause-before c ∙ size,
      subst (λ (l : List ℕ). Reads l src dst verified (record v { max_seg_size = option_map (λ size. c.args.value) v.max_seg_size }) payload) (sym (returns-in-None-clause-value c).holds) after,
    )
