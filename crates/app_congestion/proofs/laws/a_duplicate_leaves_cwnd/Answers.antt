use Rattle.std.proofs.Common.{arith, ◌≡◌, ◌∙◌, ap, sym, false}
use Rattle.app_congestion.specs.Congestion.{Sender, sender_of, duplicated, acknowledged, is_third}
use Rattle.app_congestion.proofs.Limited.{kept, same-unchanged, same-acknowledged}
use Rattle.app_congestion.proofs.laws.a_duplicate_leaves_cwnd.Goals as goal

pub returns : goal.returns
returns c none =
    let s : Sender = sender_of c.args.c.now in
    let d = c.args.duplicate in
    let a = c.args.ack in
    let outside = c.requires.outside in
    let first : is_third s d.1 ≡ false = grind (arith, c.on_duplicate-again.ensures.again, outside, none) in
    let told : c.on_ack.new.self.cwnd ≡ (acknowledged (sender_of c.on_duplicate-again.new.self) a.0 a.1 a.2).cwnd =
    ap (λ (t : Sender). t.cwnd) c.on_ack.ensures.sender
    in
    let after : (acknowledged (sender_of c.on_duplicate-again.new.self) a.0 a.1 a.2).cwnd ≡ (acknowledged (duplicated s d.0 d.1 d.2) a.0 a.1 a.2).cwnd =
    ap (λ (t : Sender). (acknowledged t a.0 a.1 a.2).cwnd) c.on_duplicate-again.ensures.sender
    in
    let same : (acknowledged (duplicated s d.0 d.1 d.2) a.0 a.1 a.2).cwnd ≡ (acknowledged s a.0 a.1 a.2).cwnd =
    same-acknowledged s (duplicated s d.0 d.1 d.2) a.0 a.1 a.2
    (kept s d.0 d.1 d.2 outside first) outside
    (same-unchanged s d.0 d.1 d.2 outside first c.requires.room)
    c.requires.acknowledges
    in
    let other : (acknowledged s a.0 a.1 a.2).cwnd ≡ c.cwnd.result =
    sym (ap (λ (t : Sender). t.cwnd) c.on_ack-2.ensures.sender) ∙ sym c.cwnd.ensures.value
    in
    told ∙ (after ∙ (same ∙ other))
