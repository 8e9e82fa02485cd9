use Rattle.std.proofs.Common.{IfErr, ◌≡◌, inl, inr}
use Rattle.std.proofs.lemmas.Result.{IfErr-weaker}
use Rattle.app_nat.proofs.Mapped.{other-outside}
use Rattle.app_nat.specs.Errors.{IsErrorKeptOutside}
use Rattle.app_nat.proofs.flows.translate_in.Goals as goal

pub returns-in-OtherProtocol-clause-rejected : goal.returns-in-OtherProtocol-clause-rejected
returns-in-OtherProtocol-clause-rejected c =
    let nat = c.args.nat.now in
    let old = c.args.mappings.now in
    let new = c.packet_in.new.mappings in
    let frame = c.args.frame.now in
    let (no_packet, stays) = other-outside nat old new c.args.now frame c.in-Err.reason c.in-OtherProtocol.is c.in-Err.ensures.rejected in
    let same : c.packet_in.new.frame ≡ frame = c.in-Err.ensures.unchanged in
    let why : IfErr c.error_in.result (IsErrorKeptOutside nat old c.args.now frame) = rw (same, stays) at c.error_in.ensures.rejected in
    IfErr-weaker c.error_in.result _ _ (λ reason e. inr (no_packet, e, stays)) why

pub returns-in_default-reason : goal.returns-in_default-reason
returns-in_default-reason c = record {
  came = tt;
  rejected = inl (c.in_default-reason.not-OtherProtocol, c.in-Err.ensures.rejected);
  unchanged = c.in-Err.ensures.unchanged;
  keeps = c.in-Err.ensures.keeps;
}
