use Rattle.std.proofs.Common.{List, ℕ, ◌≡◌, ◌++◌, ap, drop, refl, rules, take}
use Rattle.app_nat.proofs.Quotes.{error-translated}
use Rattle.app_nat.proofs.errors.IcmpError.rewrite.Goals as goal

pub returns : goal.returns
returns c =
    let frame = c.args.frame.now in
    let q = c.args.self.now.quoted in
    let v = c.args.self.now.header in
    let front : c.split_at_mut-packet.result.0.now ≡ take 14 frame = search rules in
    let back : c.split_at_mut-packet.result.1.now ≡ drop 14 frame = search rules in
    error-translated frame _ c.rewrite_packet.new.bytes c.args.side v q c.args.addr c.args.port c.requires (ap (λ (l : List ℕ). l ++ c.rewrite_packet.new.bytes) front)
    (rw back at c.rewrite_packet.ensures.bytes) ((rw back at c.rewrite_packet.ensures.carries) v q refl c.requires.reads c.requires.reports)
