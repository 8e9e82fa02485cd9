use Rattle.std.proofs.Common.{◌≡◌}
use Rattle.c_structs.specs.declared.types.FrameFields.{FrameFields}
use Rattle.c_read.proofs.Messages.{Tells, captured-packet-tells, captured-tells, frame-tells, packet-tells}
use Rattle.c_read.specs.Messages.{LacksIcmp}
use Rattle.c_read.proofs.laws.messages.other_frames_have_no_icmp.Goals as goal

lacks : (Q : Type 0) (f : FrameFields) → Tells Q f → (Q → ⊥) → LacksIcmp f
lacks Q f t never = let not = λ (e : f.transport ≡ 3). never (t.named e) in (not, t.none not)

pub returns : goal.returns
returns c =
    let bytes = c.args.bytes.now in
    record {
      frame = λ never. lacks _ _ (frame-tells bytes) (λ q. let (ip, carries) = q in never ip _ carries);
      packet = λ never. lacks _ _ (packet-tells bytes) (λ q. let (ip, is) = q in never ip _ is);
      captured = λ rest never. lacks _ _ (captured-tells bytes rest) (λ q. let (ip, carries) = q in never ip _ carries);
      captured_packet = λ rest never. lacks _ _ (captured-packet-tells bytes rest) (λ q. let (ip, is) = q in never ip _ is);
    }
