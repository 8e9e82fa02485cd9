use Rattle.std.proofs.Common.{IfErr, ◌≡◌, inl, inr}
use Rattle.std.proofs.lemmas.Result.{IfErr-weaker}
use Rattle.app_nat.proofs.Mapped.{other-inside}
use Rattle.app_nat.specs.Errors.{IsErrorKeptInside}
use Rattle.app_nat.proofs.flows.translate_out.Goals as goal

pub returns-in-OtherProtocol-clause-rejected : goal.returns-in-OtherProtocol-clause-rejected
returns-in-OtherProtocol-clause-rejected c =
    let nat = c.args.nat.now in
    let old = c.args.mappings.now in
    let frame = c.args.frame.now in
    let no_packet = other-inside nat old c.args.now frame c.in-Err.reason c.in-OtherProtocol.is c.in-Err.ensures.rejected in
    let same : c.packet_out.new.frame ≡ frame = c.in-Err.ensures.unchanged in
    let table : c.packet_out.new.mappings ≡ old = c.in-Err.ensures.table in
    let why : IfErr c.error_out.result (IsErrorKeptInside nat old c.args.now frame) = rw (same, table) at c.error_out.ensures.rejected in
    IfErr-weaker c.error_out.result _ _ (λ reason e. inr (no_packet, e)) why

pub returns-in_default-reason : goal.returns-in_default-reason
returns-in_default-reason c = record {
  out = tt;
  rejected = inl (c.in_default-reason.not-OtherProtocol, c.in-Err.ensures.rejected);
  unchanged = c.in-Err.ensures.unchanged;
  table = c.in-Err.ensures.table;
  keeps = c.in-Err.ensures.keeps;
}
